-- The tree of an expression: a form for each rule of the grammar. It keeps its brackets, so that it tells its spelling.
use Rattle.std.specs.Prelude.{ℕ, ℤ, Bool, List}
use Rattle.expr.specs.declared.term.Source.{Source}
use Rattle.expr.specs.declared.term.Sign.{Sign}
use Rattle.expr.specs.declared.term.Operator.{Operator}
use Rattle.expr.specs.declared.term.Function.{Function}
use Rattle.expr.specs.declared.term.Method.{Method}

mutual
  pub data Tree : Type 0 where
    null : Tree
    boolean : Bool → Tree
    -- in units of 10^-18
    number : ℤ → Tree
    text : List ℕ → Tree
    source : Source → Tree
    -- `( a )`, and `[ a , .. ]`
    group : Tree → Tree
    list : Trees → Tree
    -- `a . f`, `a [ b ]`, `has ( a . f )`, `size ( a )`, `a . startsWith ( b )`
    member : Tree → List ℕ → Tree
    index : Tree → Tree → Tree
    has : Tree → List ℕ → Tree
    call : Function → Tree → Tree
    method : Method → Tree → Tree → Tree
    signed : Sign → Tree → Tree
    binary : Operator → Tree → Tree → Tree
    choice : Tree → Tree → Tree → Tree

  -- none, or more with one behind them
  pub data Trees : Type 0 where
    none : Trees
    more : Trees → Tree → Trees

-- The first conjunct of a chain that compares.
use Rattle.std.proofs.Common.{◌≡◌, List, [], ◌∷◌, ◌++◌, Option, Some, None, refl, sym, ap, ◌∙◌}
use Rattle.expr.specs.Tree.{Tree}
use Rattle.expr.specs.Tree as tree
use Rattle.expr.specs.declared.term.Operator.TheVariants as operator
use Rattle.event_keys.specs.Buckets.{Compared, compared, conjuncts, first_compared, or_else}

or_either : (a b c : Option Compared) → or_else a (or_else b c) ≡ or_else (or_else a b) c
or_either None b c = refl
or_either (Some x) b c = refl

or_none : (a : Option Compared) → or_else a None ≡ a
or_none None = refl
or_none (Some x) = refl

last_compared : (ts : List Tree) (t : Tree) → first_compared (ts ++ t ∷ []) ≡ or_else (first_compared ts) (compared t)
last_compared [] t = or_none (compared t)
last_compared (s ∷ ts) t = ap (or_else (compared s)) (last_compared ts t) ∙ or_either (compared s) (first_compared ts) (compared t)

pub compares_before : (a b : Tree) (c : Compared) → Some c ≡ first_compared (conjuncts a) → Some c ≡ first_compared (conjuncts (tree.binary operator.And a b))
compares_before a b c h = ap (λ (o : Option Compared). or_else o (compared b)) h ∙ sym (last_compared (conjuncts a) b)

pub compares_last : (a b : Tree) (r : Option Compared) → None ≡ first_compared (conjuncts a) → r ≡ compared b → r ≡ first_compared (conjuncts (tree.binary operator.And a b))
compares_last a b r h e = e ∙ ap (λ (o : Option Compared). or_else o (compared b)) h ∙ sym (last_compared (conjuncts a) b)

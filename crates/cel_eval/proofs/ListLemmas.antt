-- The items of a list that an expression writes out, evaluated in order.
use Rattle.std.proofs.Common.{◌≡◌, ℕ, suc, ◌+◌, ◌<◌, List, [], ◌∷◌, ◌++◌, length, get_or, drop, map, Ok, Err, refl, sym, ap, ◌∙◌, arith, add-one}
use Rattle.std.specs.Prelude.{Result}
use Rattle.std.proofs.Math.Seq.{drop-cons}
use Rattle.expr.specs.Tree.{Tree, Trees}
use Rattle.expr.specs.Tree as tree
use Rattle.expr.specs.Trees.{tree_of, more_all}
use Rattle.expr.specs.declared.term.Term.{Term}
use Rattle.cel_eval.specs.Data.{Data, none, more, Events, Outcome}
use Rattle.cel_eval.specs.Operands.{datum_of, data_of}
use Rattle.cel_eval.specs.Table.{worth, all_worth, all_more, append, behind}
use Rattle.cel_eval.specs.declared.fault.EvalFault.{EvalFault}
use Rattle.cel_eval.specs.declared.operand.Operand.{Operand}

pub all_begun : (ts : Trees) (xs : List Tree) (events : Events) → all_worth (more_all ts xs) events ≡ all_more (all_worth ts events) xs events
all_begun ts [] events = refl
all_begun ts (x ∷ xs) events = all_begun (tree.more ts x) xs events

failed : (e : EvalFault) (xs : List Tree) (events : Events) → all_more (Err e) xs events ≡ Err e
failed e [] events = refl
failed e (x ∷ xs) events = failed e xs events

data_behind : (vs : List Operand) (v : Operand) → data_of (vs ++ v ∷ []) ≡ behind (data_of vs) (datum_of v)
data_behind [] v = refl
data_behind (w ∷ vs) v = ap (λ (ds : Data). more (datum_of w) ds) (data_behind vs v)

term_step : (xs : List Term) (i : ℕ) (d : Term) → i < length xs → map tree_of (drop i xs) ≡ tree_of (get_or xs i d) ∷ map tree_of (drop (i + 1) xs)
term_step xs i d h = rw add-one (ap (λ (ys : List Term). map tree_of ys) (drop-cons xs i d h))

pub item_worth : (xs : List Term) (i : ℕ) (d : Term) (vs : List Operand) (v : Operand) (events : Events) → i < length xs → worth (tree_of (get_or xs i d)) events ≡ Ok (datum_of v) → all_more (Ok (data_of vs)) (map tree_of (drop i xs)) events ≡ all_more (Ok (data_of (vs ++ v ∷ []))) (map tree_of (drop (i + 1) xs)) events
item_worth xs i d vs v events h e =
    ap (λ (ys : List Tree). all_more (Ok (data_of vs)) ys events) (term_step xs i d h)
    ∙ ap (λ (o : Outcome). all_more (append (Ok (data_of vs)) o) (map tree_of (drop (i + 1) xs)) events) e
    ∙ ap (λ (ds : Data). all_more (Ok ds) (map tree_of (drop (i + 1) xs)) events) (sym (data_behind vs v))

pub item_fails : (xs : List Term) (i : ℕ) (d : Term) (vs : List Operand) (f : EvalFault) (events : Events) → i < length xs → worth (tree_of (get_or xs i d)) events ≡ Err f → all_more (Ok (data_of vs)) (map tree_of (drop i xs)) events ≡ Err f
item_fails xs i d vs f events h e =
    ap (λ (ys : List Tree). all_more (Ok (data_of vs)) ys events) (term_step xs i d h)
    ∙ ap (λ (o : Outcome). all_more (append (Ok (data_of vs)) o) (map tree_of (drop (i + 1) xs)) events) e
    ∙ failed f (map tree_of (drop (i + 1) xs)) events

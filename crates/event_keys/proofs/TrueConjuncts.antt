-- Each conjunct of a chain that is true is true.
use Rattle.std.proofs.Common.{◌≡◌, Bool, true, false, List, [], ◌∷◌, ◌++◌, Ok, Err, refl}
use Rattle.std.specs.Prelude.{Result}
use Rattle.expr.specs.Tree as tree
use Rattle.expr.specs.Tree.{Tree}
use Rattle.expr.specs.declared.term.Operator.TheVariants as operator
use Rattle.cel_eval.specs.Data as datum
use Rattle.cel_eval.specs.Data.{Outcome, Events}
use Rattle.cel_eval.specs.Operations.{truth, join}
use Rattle.cel_eval.specs.Table.{worth}
use Rattle.cel_eval.specs.declared.fault.EvalFault.{EvalFault}
use Rattle.event_keys.specs.Buckets.{conjuncts}

abbrev pub IsTrue : Tree → Events → Type 0
IsTrue t events = worth t events ≡ Ok (datum.boolean true)

abbrev pub AreTrue : List Tree → Events → Type 0
AreTrue [] events = Unit {0}
AreTrue (t ∷ ts) events = IsTrue t events × AreTrue ts events

true_and : (ts : List Tree) (t : Tree) (events : Events) → AreTrue ts events → IsTrue t events → AreTrue (ts ++ t ∷ []) events
true_and [] t events h e = (e, tt)
true_and (s ∷ ts) t events h e = (h.0, true_and ts t events h.1 e)

truth_true : (o : Outcome) → truth o ≡ Ok true → o ≡ Ok (datum.boolean true)
truth_true (Ok (datum.boolean b)) h = cc
truth_true (Ok datum.null) h = cc
truth_true (Ok (datum.number n)) h = cc
truth_true (Ok (datum.text t)) h = cc
truth_true (Ok (datum.list j)) h = cc
truth_true (Ok (datum.object j)) h = cc
truth_true (Ok (datum.written ds)) h = cc
truth_true (Err e) h = cc

both_true : (l r : Result Bool EvalFault) → join false l r ≡ Ok (datum.boolean true) → (l ≡ Ok true) × (r ≡ Ok true)
both_true (Ok true) (Ok true) h = (refl, refl)
both_true (Ok true) (Ok false) h = cc
both_true (Ok true) (Err e) h = cc
both_true (Ok false) r h = cc
both_true (Err e) (Ok true) h = cc
both_true (Err e) (Ok false) h = cc
both_true (Err e) (Err f) h = cc

pub all_true : (t : Tree) (events : Events) → IsTrue t events → AreTrue (conjuncts t) events
all_true tree.null events h = (h, tt)
all_true (tree.boolean b) events h = (h, tt)
all_true (tree.number n) events h = (h, tt)
all_true (tree.text t) events h = (h, tt)
all_true (tree.source s) events h = (h, tt)
all_true (tree.group a) events h = (h, tt)
all_true (tree.list items) events h = (h, tt)
all_true (tree.member a name) events h = (h, tt)
all_true (tree.index a b) events h = (h, tt)
all_true (tree.has a name) events h = (h, tt)
all_true (tree.call f a) events h = (h, tt)
all_true (tree.method m a b) events h = (h, tt)
all_true (tree.signed s a) events h = (h, tt)
all_true (tree.choice c a b) events h = (h, tt)
all_true (tree.binary operator.And a b) events h =
    let p = both_true (truth (worth a events)) (truth (worth b events)) h in
    true_and (conjuncts a) b events (all_true a events (truth_true (worth a events) p.0)) (truth_true (worth b events) p.1)
all_true (tree.binary operator.Or a b) events h = (h, tt)
all_true (tree.binary operator.Less a b) events h = (h, tt)
all_true (tree.binary operator.LessOrEqual a b) events h = (h, tt)
all_true (tree.binary operator.Greater a b) events h = (h, tt)
all_true (tree.binary operator.GreaterOrEqual a b) events h = (h, tt)
all_true (tree.binary operator.Equal a b) events h = (h, tt)
all_true (tree.binary operator.NotEqual a b) events h = (h, tt)
all_true (tree.binary operator.In a b) events h = (h, tt)
all_true (tree.binary operator.Plus a b) events h = (h, tt)
all_true (tree.binary operator.Minus a b) events h = (h, tt)
all_true (tree.binary operator.Times a b) events h = (h, tt)
all_true (tree.binary operator.Divide a b) events h = (h, tt)
all_true (tree.binary operator.Remainder a b) events h = (h, tt)

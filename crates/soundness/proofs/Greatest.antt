-- No count is over the greatest, and so no number that a count bounds.
use Rattle.std.proofs.Common.{ℕ, ◌≤◌, List, max, arith}
use Rattle.std.specs.List.{AllByRecursion}
use Rattle.kinds.specs.Windows as windows
use Rattle.kinds.specs.declared.input.Input.{Input}
use Rattle.kinds.specs.declared.limits.Limits.{Limits}
use Rattle.lists.proofs.Elements.{all-weaker}
use Rattle.run_model.specs.Machine.{fold}
use Rattle.run_model.specs.Sound.{IsNumbered, RiseTo}
use Rattle.run_model.specs.State.{State, Issue, EndedRun, greatest}
use Rattle.run_model.proofs.OrderedLists.{numbered-fold}
use Rattle.soundness.specs.Starts.{AreUpTo, counted_to, counts_of}

pub up-to : (s : State) → AreUpTo (greatest s) (counts_of s)
up-to s = all s.inputs s.events s.runs s.calls s.entries s.versions
  where
    all : (a b c d e f : ℕ)
        → (a ≤ max (max (max a b) (max c d)) (max e f)) × ((b ≤ max (max (max a b) (max c d)) (max e f))
        × ((c ≤ max (max (max a b) (max c d)) (max e f)) × ((d ≤ max (max (max a b) (max c d)) (max e f))
        × ((e ≤ max (max (max a b) (max c d)) (max e f)) × ((f ≤ max (max (max a b) (max c d)) (max e f))
        × Unit {0})))))
    all a b c d e f =
        (grind arith, (grind arith, (grind arith, (grind arith, (grind arith, (grind arith, tt))))))

up : {X : Type 0} (part : X → ℕ) (count most : ℕ) (xs : List X) → count ≤ most
    → AllByRecursion (λ x. part x ≤ count) xs → AllByRecursion (λ x. part x ≤ most) xs
up part count most xs low h =
    all-weaker (λ x. part x ≤ count) (λ x. part x ≤ most) xs
    (λ x (k : part x ≤ count). omega (arith, k, low)) h

rise-up : (count most : ℕ) (ns : List ℕ) → count ≤ most → RiseTo count ns → RiseTo most ns
rise-up count most ns low h = (h.0, up (λ n. n) count most ns low h.1)

pub numbered-to : (most : ℕ) (s : State) → AreUpTo most (counts_of s) → IsNumbered s
    → IsNumbered (counted_to most s)
numbered-to most s low h =
    let events : s.events ≤ most = low.1.0 in
    let runs : s.runs ≤ most = low.1.1.0 in
    let calls : s.calls ≤ most = low.1.1.1.0 in
    let entries : s.entries ≤ most = low.1.1.1.1.0 in
    let versions : s.versions ≤ most = low.1.1.1.1.1.0 in
    record {
      functions = rise-up s.versions most _ versions h.functions;
      retired = rise-up s.versions most _ versions h.retired;
      seen = rise-up s.events most _ events h.seen;
      texts = rise-up s.events most _ events h.texts;
      live = rise-up s.runs most _ runs h.live;
      closing = rise-up s.runs most _ runs h.closing;
      ended = up (λ (e : EndedRun). e.run) s.runs most s.ended runs h.ended;
      issues = rise-up s.calls most _ calls h.issues;
      items = rise-up s.entries most _ entries h.items;
      sleeps = rise-up s.entries most _ entries h.sleeps;
      waits = rise-up s.entries most _ entries h.waits;
      invocations = rise-up s.entries most _ entries h.invocations;
      rules = rise-up s.entries most _ entries h.rules;
      windows = up windows.number_of s.entries most s.windows entries h.windows;
      placed = h.placed;
      limits = up (λ (i : Issue). i.limit) s.entries most s.issues entries h.limits;
      open_items = up (λ (i : Issue). i.item.number) s.entries most s.issues entries h.open_items;
    }

pub greatest-fold : (limits : Limits) (inputs : List Input)
    → IsNumbered (counted_to (greatest (fold limits inputs)) (fold limits inputs))
greatest-fold limits inputs =
    let s : State = fold limits inputs in numbered-to (greatest s) s (up-to s) (numbered-fold limits inputs)

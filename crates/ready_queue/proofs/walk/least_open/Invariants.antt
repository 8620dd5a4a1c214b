use Rattle.std.proofs.Common.{◌≡◌, ◌+◌, ◌≤◌, length}
use Rattle.ready_queue.specs.Opens.{opens}
use Rattle.ready_queue.proofs.WalkLemmas.{IsWalking}
use Rattle.ready_queue.proofs.walk.least_open.Given as goal

abbrev pub invariant-loop-entry : goal.invariant-loop-entry
invariant-loop-entry g l =
    (goal.iterator-loop-entry g).can_next l.entry-iterator ×
    (goal.iterator-loop-entry g).is_finite l.entry-iterator ×
    IsWalking (opens (g.G.Gate.is_open l.gate l.t) l.items.entries) l.keys.keys l.best l.entry-iterator ×
    (l.steps + length l.entry-iterator ≤ l.initial.steps + length l.places.keys)

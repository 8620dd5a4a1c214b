use Rattle.std.proofs.Common.{◌≡◌, length}
use Rattle.kinds.specs.Queue.{without_run}
use Rattle.admission.proofs.waiting.Waiting.remove_run.Given as goal

abbrev pub invariant-loop-number : goal.invariant-loop-number
invariant-loop-number l =
    (without_run l.run l.self.items ≡ without_run l.run l.initial.self.items) × (l.self.full ≡ l.initial.self.full) × (l.self.later ≡ l.initial.self.later)

abbrev pub decreases-loop-number : goal.decreases-loop-number
decreases-loop-number l = length l.self.items

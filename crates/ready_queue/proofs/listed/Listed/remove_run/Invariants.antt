use Rattle.std.proofs.Common.{◌≡◌, length}
use Rattle.kinds.specs.Queue.{without_run}
use Rattle.ready_queue.specs.Held.{AreFewer}
use Rattle.ready_queue.proofs.listed.Listed.remove_run.Given as goal

abbrev pub invariant-loop-item : goal.invariant-loop-item
invariant-loop-item l = (without_run l.run l.self.items ≡ without_run l.run l.initial.self.items) × AreFewer l.initial.self.ready l.self.ready

abbrev pub decreases-loop-item : goal.decreases-loop-item
decreases-loop-item l = length l.self.items

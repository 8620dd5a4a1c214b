use Rattle.std.proofs.Common.{◌≡◌, length}
use Rattle.ready_queue.specs.Held.{AreFewer}
use Rattle.ready_queue.proofs.pool.Pool.ripen.Given as goal

abbrev pub invariant-loop : goal.invariant-loop
invariant-loop l = (l.self.items ≡ l.fn.self.items) × (l.self.horizon ≡ l.t) × AreFewer l.fn.self.ready l.self.ready

abbrev pub decreases-loop : goal.decreases-loop
decreases-loop l = length l.self.waiting

use Rattle.std.proofs.Common.{◌≡◌, length}
use Rattle.ready_queue.specs.Parking.{ParksFewer}
use Rattle.ready_queue.proofs.parking.ParkingQueue.pass.Given as goal

abbrev pub invariant-loop : goal.invariant-loop
invariant-loop l = (l.self.items ≡ l.fn.self.items) × (l.self.full ≡ l.fn.self.full) × ParksFewer l.fn.self l.self

abbrev pub decreases-loop : goal.decreases-loop
decreases-loop l = length l.self.later

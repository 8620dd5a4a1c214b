use Rattle.std.proofs.Common.{◌≡◌, drop}
use Rattle.ready_queue.specs.Parking.{ParksFewer, AreLookedAtBut}
use Rattle.ready_queue.proofs.parking.ParkingQueue.wake_all.Given as goal

abbrev pub invariant-loop-limit : goal.invariant-loop-limit
invariant-loop-limit l = (l.self.items ≡ l.fn.self.items) × ParksFewer l.fn.self l.self × AreLookedAtBut l.limits (drop l.limit-index l.limits) l.self

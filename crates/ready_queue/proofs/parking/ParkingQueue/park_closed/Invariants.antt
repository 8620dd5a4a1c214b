use Rattle.std.proofs.Common.{◌≡◌}
use Rattle.ready_queue.specs.Parking.{IsShut}
use Rattle.ready_queue.proofs.parking.ParkingQueue.park_closed.Given as goal

abbrev pub invariant-loop : goal.invariant-loop
invariant-loop l = (l.self.items ≡ l.fn.self.items) × IsShut l.self l.cells l.throttle l.t

use Rattle.ready_queue.proofs.ParkLemmas.{places_fewer}
use Rattle.ready_queue.proofs.parking.ParkingQueue.take.Goals as goal

pub invariant_of-self : goal.invariant_of-self
invariant_of-self c = places_fewer _ _ _ _ c.self.invariant c.take.ensures.parked

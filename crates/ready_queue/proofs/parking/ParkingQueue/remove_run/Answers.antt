use Rattle.ready_queue.proofs.ParkLemmas.{places_fewer}
use Rattle.ready_queue.proofs.parking.ParkingQueue.remove_run.Goals as goal

pub invariant_of-self : goal.invariant_of-self
invariant_of-self c = places_fewer _ _ _ _ c.self.invariant c.remove_run.ensures.parked

use Rattle.ready_queue.proofs.ParkLemmas.{places_fewer}
use Rattle.ready_queue.proofs.parking.ParkingQueue.ripen.Goals as goal

pub invariant_of-self : goal.invariant_of-self
invariant_of-self c = places_fewer _ _ _ _ c.self.invariant c.pass.ensures.parked

pub invariant_of-self-2 : goal.invariant_of-self-2
invariant_of-self-2 c = places_fewer _ _ _ _ c.self.invariant c.pass.ensures.parked

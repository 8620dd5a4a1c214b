use Rattle.ready_queue.proofs.parking.ParkingQueue.empty.Goals as goal

pub invariant_of-result : goal.invariant_of-result
invariant_of-result c = λ k p. absurd (c.empty.ensures.parked k p)

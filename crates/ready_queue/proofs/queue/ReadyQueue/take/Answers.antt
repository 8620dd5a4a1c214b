use Rattle.ready_queue.proofs.queue.ReadyQueue.take.Goals as goal

pub invariant_of-self : goal.invariant_of-self
invariant_of-self c = λ k p. c.self.invariant k (c.take.ensures.parked k p)

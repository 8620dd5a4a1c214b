use Rattle.ready_queue.proofs.queue.ReadyQueue.pass.Goals as goal

pub invariant_of-self : goal.invariant_of-self
invariant_of-self c = λ k p. c.self.invariant k (c.pass.ensures.parked k p)

pub invariant_of-self-2 : goal.invariant_of-self-2
invariant_of-self-2 c = λ k p. c.self.invariant k (c.pass.ensures.parked k p)

use Rattle.ready_queue.proofs.queue.ReadyQueue.least_admissible.Goals as goal

pub least_admissible-requires-clause-closed : goal.least_admissible-requires-clause-closed
least_admissible-requires-clause-closed g c = λ k p. absurd (c.self.invariant k p)

use Rattle.awaited.proofs.timed.TimedList.take_of.Goals as goal
use Rattle.awaited.proofs.BehindLemmas.{due_gone}

pub invariant_of-self-2 : goal.invariant_of-self-2
invariant_of-self-2 g c = due_gone g.E.Timed.due_of g.E.Ranked.number_of g.E.OfRun.run_of _ _ _ _ _ _ c.self.invariant c.drop_number.ensures c.number.ensures c.in_ok-entry.ensures.one.left

use Rattle.awaited.proofs.timed.TimedList.drop_run.Goals as goal
use Rattle.awaited.proofs.BehindLemmas.{due_run_gone}

pub invariant_of-self : goal.invariant_of-self
invariant_of-self g c = due_run_gone g.E.Timed.due_of g.E.Ranked.number_of g.E.OfRun.run_of c.args.run _ _ _ _ c.self.invariant c.drop_run.ensures c.drop_run-2.ensures

use Rattle.std.proofs.Common.{refl}
use Rattle.awaited.proofs.timed.TimedList.remove.Goals as goal
use Rattle.awaited.proofs.BehindLemmas.{due_gone}

pub invariant_of-self : goal.invariant_of-self
invariant_of-self g c = due_gone g.E.Timed.due_of g.E.Ranked.number_of g.E.OfRun.run_of c.args.number c.args.number _ _ _ _ c.self.invariant c.drop_number.ensures refl c.remove.ensures.left

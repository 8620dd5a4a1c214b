use Rattle.std.proofs.Common.{subst}
use Rattle.lists.specs.Entries.{AreApart}
use Rattle.awaited.proofs.timed.TimedList.first.Goals as goal
use Rattle.awaited.proofs.BehindLemmas.{due_first}

pub returns-clause-least : goal.returns-clause-least
returns-clause-least g c = due_first g.E.Timed.due_of g.E.Ranked.number_of g.E.OfRun.run_of _ _ _ _ c.self.invariant c.order.ensures.apart c.self.view_is c.first_of.ensures

pub returns-clause-apart : goal.returns-clause-apart
returns-clause-apart g c = subst (AreApart g.E.Ranked.number_of) c.self.view_is c.order.ensures.apart

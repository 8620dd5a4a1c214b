use Rattle.std.proofs.Common.{subst}
use Rattle.kinds.specs.Windows.{number_of}
use Rattle.lists.specs.Entries.{AreApart}
use Rattle.awaited.specs.Named.{window_due, no_run}
use Rattle.awaited.proofs.BehindLemmas.{due_first}
use Rattle.awaited.proofs.windows.WindowSet.first.Goals as goal

pub returns-clause-least : goal.returns-clause-least
returns-clause-least c = due_first window_due number_of no_run _ _ _ _ c.self.invariant.dues c.self.invariant.numbers c.self.view_is c.first.ensures

pub returns-clause-apart : goal.returns-clause-apart
returns-clause-apart c = subst (AreApart number_of) c.self.view_is c.self.invariant.numbers

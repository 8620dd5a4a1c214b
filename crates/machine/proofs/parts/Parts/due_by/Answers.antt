use Rattle.std.proofs.Common.{◌∙◌, ap}
use Rattle.machine.specs.Advance.{due_within}
use Rattle.machine.specs.View.{state_of}
use Rattle.run_model.specs.Advance.{least, timed}
use Rattle.machine.proofs.Next.{within-is}
use Rattle.machine.proofs.parts.Parts.due_by.Goals as goal

pub returns-clause-due : goal.returns-clause-due
returns-clause-due c =
    c.within.ensures ∙ ap (due_within c.args.moment) c.next.ensures.least
    ∙ within-is c.args.moment (least (timed (state_of c.args.self.now)))

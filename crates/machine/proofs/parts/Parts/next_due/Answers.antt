use Rattle.std.proofs.Common.{◌∙◌, ap, option_map}
use Rattle.machine.specs.Advance.{due_at}
use Rattle.machine.specs.View.{state_of}
use Rattle.run_model.specs.Advance.{least, timed}
use Rattle.machine.proofs.Next.{due-is}
use Rattle.machine.proofs.parts.Parts.next_due.Goals as goal

pub returns : goal.returns
returns c =
    c.due_of.ensures ∙ ap (option_map due_at) c.next.ensures.least
    ∙ due-is (least (timed (state_of c.args.self.now)))

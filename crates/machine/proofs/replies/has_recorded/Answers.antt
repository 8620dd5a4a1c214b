use Rattle.std.proofs.Common.{◌∙◌, ap}
use Rattle.std.specs.List.{list_any}
use Rattle.kinds.specs.RunSteps.{has_name}
use Rattle.machine.proofs.Replied.{some-found}
use Rattle.machine.proofs.replies.has_recorded.Goals as goal

pub returns-in-None : goal.returns-in-None
returns-in-None c =
    c.has_step.ensures ∙ ap (list_any (has_name c.args.target.now)) c.steps.ensures
    ∙ some-found (has_name c.args.target.now) c.args.run.now.steps.recorded

use Rattle.std.proofs.Common.{◌∙◌, ap}
use Rattle.std.specs.List.{find}
use Rattle.intake.specs.Number.{has_number}
use Rattle.intake.proofs.timeline.Timeline.get.Goals as goal
use Rattle.intake.proofs.Numbers.{keyed_found}

pub returns : goal.returns
returns c = c.get.ensures.value ∙ keyed_found _ c.args.number c.self.invariant.keyed ∙ ap (find (has_number c.args.number)) c.self.view_is

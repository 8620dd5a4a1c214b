use Rattle.std.proofs.Common.{◌∙◌, ap}
use Rattle.std.specs.List.{find}
use Rattle.std.specs.Option.{option_copied}
use Rattle.intake.specs.Number.{has_number}
use Rattle.intake.proofs.Placing.{one_with_id}
use Rattle.intake.proofs.placed.Placed.with_id.Goals as goal

pub returns : goal.returns
returns c =
    one_with_id c.args.id.now c.in_ok-number.number c.args.self.now (option_copied c.get.result)
    (c.get.ensures ∙ ap (find (has_number c.in_ok-number.number)) c.self.view_is) c.in_ok-number.ensures

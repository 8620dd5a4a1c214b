use Rattle.std.proofs.Common.{sym, ◌∙◌, subst}
use Rattle.lists.proofs.Keyed.{filter_none}
use Rattle.intake.specs.Number.{has_number}
use Rattle.intake.specs.Order.{AreListed}
use Rattle.intake.specs.Places.{digest_of}
use Rattle.intake.proofs.Numbers.{Changes}
use Rattle.intake.proofs.Placing.{placed_removed}
use Rattle.intake.proofs.placed.Placed.discard.Goals as goal

pub invariant_of-self : goal.invariant_of-self
invariant_of-self c =
    subst (AreListed digest_of c.self.inside.places.keys) (sym (c.remove.ensures.left ∙ filter_none (has_number c.args.number) _ (sym c.in_default.ensures.value))) c.self.invariant

pub invariant_of-self-2 : goal.invariant_of-self-2
unfolding Changes
invariant_of-self-2 c =
    placed_removed c.digest_of.result c.args.number c.in-Some.entry _ _ _ _ c.self.invariant (sym c.in-Some.ensures.value) c.digest_of.ensures c.remove.ensures.left c.remove-2.ensures.updates.0

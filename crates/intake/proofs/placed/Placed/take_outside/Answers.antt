use Rattle.intake.proofs.Numbers.{Changes}
use Rattle.intake.proofs.Placing.{placed_removed}
use Rattle.intake.proofs.placed.Placed.take_outside.Goals as goal

pub invariant_of-self-2 : goal.invariant_of-self-2
unfolding Changes
invariant_of-self-2 c =
    placed_removed c.digest_of.result c.in_ok-entry.entry.number c.in_ok-entry.entry _ _ _ _ c.self.invariant c.in_ok-entry.ensures.taken.0 c.digest_of.ensures c.in_ok-entry.ensures.left c.remove.ensures.updates.0

use Rattle.std.proofs.Common.{◌≡◌, None, ◌∙◌, ap}
use Rattle.std.specs.List.{find}
use Rattle.intake.specs.Number.{has_number}
use Rattle.intake.proofs.Numbers.{Changes}
use Rattle.intake.proofs.Placing.{placed_added, placed_undone}
use Rattle.intake.proofs.placed.Placed.add.Goals as goal

pub invariant_of-self-in-Ok : goal.invariant_of-self-in-Ok
unfolding Changes
invariant_of-self-in-Ok c =
    let none : find (has_number c.args.entry.number) c.self.inside.timeline ≡ None = ap (find (has_number c.args.entry.number)) c.self.view_is ∙ c.requires in
    placed_added c.digest_of.result c.args.entry _ _ _ _ c.self.invariant c.digest_of.ensures none c.in-Ok.ensures.ok c.in_ok-insert.ensures.updates.0

pub invariant_of-self-in-Err : goal.invariant_of-self-in-Err
unfolding Changes
invariant_of-self-in-Err c =
    let none : find (has_number c.args.entry.number) c.self.inside.timeline ≡ None = ap (find (has_number c.args.entry.number)) c.self.view_is ∙ c.requires in
    placed_undone c.digest_of.result c.args.entry _ _ _ _ _ c.self.invariant c.digest_of.ensures none c.in-Err.ensures.err c.in_ok-insert.ensures.updates.0 c.remove.ensures.updates.0

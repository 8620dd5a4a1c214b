use Rattle.std.proofs.Common.{sym, ◌∙◌, ap}
use Rattle.std.specs.List.{find}
use Rattle.intake.specs.Number.{has_number, without_number}
use Rattle.intake.proofs.timeline.Timeline.remove.Goals as goal
use Rattle.intake.proofs.Numbers.{keyed_found, keyed_removed, keyed_values, timeline_removed, Changes}

pub returns-in_err-entry-clause-value : goal.returns-in_err-entry-clause-value
returns-in_err-entry-clause-value c = c.from_residual.ensures ∙ c.in_err-entry.ensures.value ∙ keyed_found _ c.args.number c.self.invariant.keyed ∙ ap (find (has_number c.args.number)) c.self.view_is

pub returns-in_err-entry-clause-left : goal.returns-in_err-entry-clause-left
returns-in_err-entry-clause-left c = keyed_values _ _ (keyed_removed _ _ c.args.number c.self.invariant.keyed c.self.invariant.ordered c.remove.ensures.entries) ∙ ap (without_number c.args.number) c.self.view_is

pub returns-clause-value : goal.returns-clause-value
returns-clause-value c = c.in_ok-entry.ensures.value ∙ keyed_found _ c.args.number c.self.invariant.keyed ∙ ap (find (has_number c.args.number)) c.self.view_is

pub returns-clause-left : goal.returns-clause-left
returns-clause-left c = keyed_values _ _ (keyed_removed _ _ c.args.number c.self.invariant.keyed c.self.invariant.ordered c.remove.ensures.entries) ∙ ap (without_number c.args.number) c.self.view_is

pub invariant_of-self-2 : goal.invariant_of-self-2
unfolding Changes
invariant_of-self-2 c =
    let found = sym (keyed_found _ c.args.number c.self.invariant.keyed) ∙ sym c.in_ok-entry.ensures.value in
    timeline_removed _ _ _ _ c.args.number c.in_ok-entry.entry c.self.invariant found c.remove.ensures.entries c.remove.ensures.ordered c.remove-2.ensures.updates.0

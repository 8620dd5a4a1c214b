use Rattle.std.proofs.Common.{◌≡◌, None, ◌∙◌, ap}
use Rattle.std.specs.List.{find}
use Rattle.std.specs.Map.{values_of}
use Rattle.kinds.specs.Seen.{insert_seen}
use Rattle.intake.specs.Number.{has_number}
use Rattle.intake.proofs.timeline.Timeline.add.Goals as goal
use Rattle.intake.proofs.Numbers.{keyed_added, keyed_values, timeline_added, timeline_undone, Changes}

pub invariant_of-self-in-Ok : goal.invariant_of-self-in-Ok
unfolding Changes
invariant_of-self-in-Ok c =
    let none : find (has_number c.args.entry.number) (values_of c.self.inside.entries.entries) ≡ None = ap (find (has_number c.args.entry.number)) c.self.view_is ∙ c.requires in
    timeline_added _ _ _ _ c.args.entry c.self.invariant none c.in-Ok.ensures.entries c.in-Ok.ensures.ordered c.in_ok-insert.ensures.updates.0

pub returns-in-Ok-clause-ok : goal.returns-in-Ok-clause-ok
returns-in-Ok-clause-ok c =
    let none : find (has_number c.args.entry.number) (values_of c.self.inside.entries.entries) ≡ None = ap (find (has_number c.args.entry.number)) c.self.view_is ∙ c.requires in
    keyed_values _ _ (keyed_added _ _ c.args.entry c.self.invariant.keyed none c.in-Ok.ensures.entries) ∙ ap (insert_seen c.args.entry) c.self.view_is

pub invariant_of-self-in-Err : goal.invariant_of-self-in-Err
unfolding Changes
invariant_of-self-in-Err c =
    let none : find (has_number c.args.entry.number) (values_of c.self.inside.entries.entries) ≡ None = ap (find (has_number c.args.entry.number)) c.self.view_is ∙ c.requires in
    timeline_undone _ _ _ _ _ c.args.entry c.self.invariant none c.in-Err.ensures.err c.in_ok-insert.ensures.updates.0 c.remove.ensures.updates.0

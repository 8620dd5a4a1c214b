use Rattle.std.proofs.Common.{ap, ◌∙◌}
use Rattle.lists.specs.Entries.{without}
use Rattle.runs.specs.Ended.{ended_number}
use Rattle.runs.proofs.Rows.{row_removed}
use Rattle.runs.proofs.row.Row.remove.Goals as goal

pub invariant_of-self : goal.invariant_of-self
invariant_of-self c = (row_removed c.args.run c.self.inside.entries c.remove.new.self c.self.inside.next c.remove.ensures.left c.self.invariant).1

pub returns : goal.returns
returns c = (row_removed c.args.run c.self.inside.entries c.remove.new.self c.self.inside.next c.remove.ensures.left c.self.invariant).0 ∙ ap (without ended_number c.args.run) c.self.view_is

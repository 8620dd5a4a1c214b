use Rattle.std.proofs.Common.{option_map, find, sym, ap, ◌∙◌}
use Rattle.std.specs.Option.{option_copied}
use Rattle.lists.specs.Entries.{has}
use Rattle.runs.specs.Ended.{ended_number}
use Rattle.runs.proofs.Rows.{ended_of, find_ended}
use Rattle.runs.proofs.row.Row.get.Goals as goal

pub returns-in_err-placed : goal.returns-in_err-placed
returns-in_err-placed c =
    ap option_copied c.from_residual.ensures ∙ ap (option_map ended_of) c.in_err-placed.ensures ∙ sym (find_ended c.args.run c.self.inside.entries) ∙ ap (find (has ended_number c.args.run)) c.self.view_is

pub returns : goal.returns
returns c = ap (option_map ended_of) c.in_ok-placed.ensures ∙ sym (find_ended c.args.run c.self.inside.entries) ∙ ap (find (has ended_number c.args.run)) c.self.view_is

use Rattle.std.proofs.Common.{◌∷◌, [], ◌++◌, find, ap, ◌∙◌}
use Rattle.lists.specs.Entries.{has}
use Rattle.runs.specs.Ended.{ended_number}
use Rattle.runs.proofs.Listed.{sum_by}
use Rattle.runs.proofs.Rows.{none_ended, row_pushed}
use Rattle.runs.proofs.row.Row.push.Goals as goal

pub put-requires : goal.put-requires
put-requires c = none_ended c.args.ended.run c.self.inside.entries (ap (find (has ended_number c.args.ended.run)) c.self.view_is ∙ c.requires)

pub invariant_of-self-2 : goal.invariant_of-self-2
invariant_of-self-2 c =
    (row_pushed (record { place = c.self.inside.next; ended = c.args.ended }) c.self.inside.entries c.put.new.self c.in_ok-next.next c.in_ok-put.ensures.ok c.self.invariant
    (sum_by c.checked_add.result c.in_ok-next.next _ _ c.checked_add.ensures c.in_ok-next.ensures.ok_part)).1

pub returns : goal.returns
returns c =
    (row_pushed (record { place = c.self.inside.next; ended = c.args.ended }) c.self.inside.entries c.put.new.self c.in_ok-next.next c.in_ok-put.ensures.ok c.self.invariant
    (sum_by c.checked_add.result c.in_ok-next.next _ _ c.checked_add.ensures c.in_ok-next.ensures.ok_part)).0
    ∙ ap (λ xs. xs ++ c.args.ended ∷ []) c.self.view_is

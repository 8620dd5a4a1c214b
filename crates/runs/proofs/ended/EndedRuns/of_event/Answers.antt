use Rattle.std.proofs.Common.{◌≡◌, ◌∙◌, ap, subst, map, filter}
use Rattle.std.specs.Prelude.{IfOk}
use Rattle.lists.specs.Entries.{in_order}
use Rattle.runs.specs.Ended.{ended_names, ended_number, last_ended}
use Rattle.runs.proofs.Splits.{split_of_event}
use Rattle.runs.proofs.ended.EndedRuns.of_event.Goals as goal

pub returns : goal.returns
returns c =
    subst (λ a. IfOk c.numbers.result (λ ns. ns ≡ a))
    (split_of_event c.self.inside.early c.self.inside.last c.self.inside.events c.self.invariant c.args.event c.numbers.ensures.ordered ∙ ap (λ xs. in_order (map ended_number (filter (ended_names c.args.event) (last_ended xs)))) c.self.view_is)
    c.numbers.ensures.all

use Rattle.std.proofs.Common.{◌≡◌, ◌∙◌, ap, subst, map, filter}
use Rattle.std.specs.Prelude.{IfOk}
use Rattle.runs.specs.Runs.{names_event, run_number}
use Rattle.runs.proofs.Listed.{indexed_of_event}
use Rattle.runs.proofs.list.RunList.of_event.Goals as goal

pub returns : goal.returns
returns c =
    subst (λ a. IfOk c.numbers.result (λ ns. ns ≡ a))
    (indexed_of_event c.self.inside.runs.entries c.self.inside.bytes c.self.inside.events c.self.inside.versions c.self.invariant c.args.event c.numbers.ensures.ordered ∙ ap (λ xs. map run_number (filter (names_event c.args.event) xs)) c.self.view_is)
    c.numbers.ensures.all

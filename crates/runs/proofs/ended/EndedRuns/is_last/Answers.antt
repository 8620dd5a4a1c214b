use Rattle.std.proofs.Common.{is_some, ap, ◌∙◌}
use Rattle.std.specs.List.{list_any}
use Rattle.runs.specs.Ended.{is_ended, last_ended}
use Rattle.runs.proofs.Splits.{copied_some, split_is_last}
use Rattle.runs.proofs.ended.EndedRuns.is_last.Goals as goal

pub returns : goal.returns
returns c =
    c.is_some.ensures ∙ copied_some c.get.result ∙ ap is_some c.get.ensures ∙ split_is_last c.self.inside.early c.self.inside.last c.self.inside.events c.self.invariant c.args.run
    ∙ ap (λ xs. list_any (is_ended c.args.run) (last_ended xs)) c.self.view_is

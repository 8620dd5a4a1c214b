use Rattle.std.proofs.Common.{◌∙◌, ap}
use Rattle.std.specs.List.{list_any}
use Rattle.runs.specs.Runs.{names_event}
use Rattle.runs.proofs.Listed.{indexed_names}
use Rattle.runs.proofs.list.RunList.names_event.Goals as goal

pub returns : goal.returns
returns c = indexed_names c.self.inside.runs.entries c.self.inside.bytes c.self.inside.events c.self.inside.versions c.self.invariant c.args.event c.any.result c.any.ensures.some c.any.ensures.none ∙ ap (list_any (names_event c.args.event)) c.self.view_is

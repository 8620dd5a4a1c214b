use Rattle.std.proofs.Common.{◌∙◌, ap}
use Rattle.std.specs.List.{list_any}
use Rattle.runs.specs.Runs.{has_version}
use Rattle.runs.proofs.Listed.{indexed_version}
use Rattle.runs.proofs.list.RunList.names_version.Goals as goal

pub returns : goal.returns
returns c =
    c.any.ensures
    ∙ indexed_version c.self.inside.runs.entries c.self.inside.bytes c.self.inside.events c.self.inside.versions c.self.invariant c.args.version
    ∙ ap (list_any (has_version c.args.version)) c.self.view_is

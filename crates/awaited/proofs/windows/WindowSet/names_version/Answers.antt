use Rattle.awaited.specs.Named.{names_version}
use Rattle.awaited.proofs.WindowLemmas.{any_named}
use Rattle.awaited.proofs.windows.WindowSet.names_version.Goals as goal

pub returns : goal.returns
returns c = any_named names_version _ _ _ c.self.invariant.numbers c.self.invariant.by_version c.args.version _ c.has_version.ensures c.self.view_is

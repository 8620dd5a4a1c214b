use Rattle.awaited.specs.Named.{names_event}
use Rattle.awaited.proofs.WindowLemmas.{any_named}
use Rattle.awaited.proofs.windows.WindowSet.names.Goals as goal

pub returns : goal.returns
returns c = any_named names_event _ _ _ c.self.invariant.numbers c.self.invariant.by_event c.args.event _ c.has_event.ensures c.self.view_is

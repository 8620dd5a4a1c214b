use Rattle.std.proofs.Common.{◌∙◌, ap, map}
use Rattle.awaited.specs.Entries.{wait_of}
use Rattle.awaited.proofs.waits.Waits.waits.Goals as goal

pub returns : goal.returns
returns c = c.entries.ensures ∙ c.self.invariant.waits ∙ ap (map wait_of) c.self.view_is

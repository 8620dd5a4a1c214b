use Rattle.std.proofs.Common.{◌∙◌, ap, map}
use Rattle.awaited.specs.Entries.{wait_step}
use Rattle.awaited.proofs.waits.Waits.steps.Goals as goal

pub returns : goal.returns
returns c = c.entries.ensures ∙ c.self.invariant.steps ∙ ap (map wait_step) c.self.view_is

use Rattle.std.proofs.Common.{refl}
use Rattle.ordered.proofs.Listed.{listed_removed}
use Rattle.awaited.specs.Entries.{invocation_number}
use Rattle.awaited.specs.Beside.{step_of}
use Rattle.awaited.proofs.StepLemmas.{step_total}
use Rattle.awaited.proofs.invocations.Invocations.drop_one.Goals as goal

pub invariant_of-self : goal.invariant_of-self
invariant_of-self c = listed_removed step_total step_of invocation_number _ _ c.in-Some.invocation _ _ _ _ c.self.invariant c.in-Some.ensures.one.held refl c.in-Some.ensures.one.left c.remove.ensures.updates.0

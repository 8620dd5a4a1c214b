use Rattle.std.proofs.Common.{refl, sym, ◌∙◌}
use Rattle.lists.specs.Entries.{has}
use Rattle.lists.proofs.Keyed.{filter_none}
use Rattle.ordered.proofs.Listed.{listed_removed}
use Rattle.awaited.specs.Entries.{invocation_number}
use Rattle.awaited.specs.Beside.{step_of}
use Rattle.awaited.proofs.StepLemmas.{step_total}
use Rattle.awaited.proofs.invocations.Invocations.remove.Goals as goal

pub invariant_of-self : goal.invariant_of-self
invariant_of-self c = rw (c.remove.ensures.left ∙ filter_none (has invocation_number c.args.number) _ (sym c.in_err-invocation.ensures.value)) c.self.invariant

pub invariant_of-self-2 : goal.invariant_of-self-2
invariant_of-self-2 c = listed_removed step_total step_of invocation_number _ c.args.number c.in_ok-invocation.invocation _ _ _ _ c.self.invariant (sym c.in_ok-invocation.ensures.value) refl c.remove.ensures.left c.remove-2.ensures.updates.0

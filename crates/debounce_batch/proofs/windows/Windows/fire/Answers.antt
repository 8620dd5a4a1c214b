use Rattle.std.proofs.Common.{ap}
use Rattle.debounce_batch.proofs.Kept.{over_by, none_over}
use Rattle.debounce_batch.proofs.windows.Windows.fire.Goals as goal

pub invariant_of-self : goal.invariant_of-self
invariant_of-self c = none_over c.self.inside.windows.entries c.take.new.windows.entries c.self.inside.places.entries c.self.invariant c.args.number c.in_err-held.ensures.value c.in_err-held.ensures.left c.in_err-held.ensures.sorted

pub invariant_of-self-2 : goal.invariant_of-self-2
invariant_of-self-2 c =
    over_by c.self.inside.windows.entries c.take.new.windows.entries c.self.inside.places.entries c.remove.new.self.entries c.self.invariant c.args.number c.in_ok-held.held c.into_parts-key.result.0
    c.in_ok-held.ensures.value c.in_ok-held.ensures.left c.in_ok-held.ensures.sorted (ap (λ p. p.0) c.into_parts-key.ensures) c.remove.ensures.updates.0

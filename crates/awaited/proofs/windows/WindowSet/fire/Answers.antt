use Rattle.std.proofs.Common.{◌&&◌, not, subst}
use Rattle.awaited.specs.Named.{Renames, has_pair, is_in}
use Rattle.awaited.proofs.WindowLemmas.{kept_fired, kept_unfired}
use Rattle.awaited.proofs.windows.WindowSet.fire.Goals as goal

pub invariant_of-self : goal.invariant_of-self
invariant_of-self c = kept_unfired _ _ _ _ c.self.invariant c.args.number c.in_err-fired.ensures.value _ c.fire.ensures.left

pub invariant_of-self-2 : goal.invariant_of-self-2
invariant_of-self-2 c =
    let events = c.self.inside.names.events.keys in
    kept_fired _ _ _ _ c.self.invariant c.args.number c.in_ok-fired.fired c.in_ok-fired.ensures.value _ _ _ _ c.fire.ensures.left c.close.ensures.dues
    (subst (λ l. Renames c.args.number (λ name. not (is_in name l) && has_pair events name c.args.number) events c.close.new.self.events.keys) c.as_slice.ensures c.close.ensures.events)
    c.close.ensures.versions

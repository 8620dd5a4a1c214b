use Rattle.std.proofs.Common.{subst, sym}
use Rattle.machine.specs.Held.{Becomes}
use Rattle.machine.specs.View.{state_of}
use Rattle.machine.proofs.HeldMaking.{on-ok}
use Rattle.machine.proofs.Replied.{call-failed}
use Rattle.machine.proofs.parts.Parts.on_call_failed.Goals as goal

pub returns : goal.returns
returns g c =
    let m = c.args.self.now in
    on-ok c.fail_call.result _ _
    (λ became. subst (λ s. Becomes s m c.fail_call.new.self) (sym (call-failed c.args.call (state_of m))) became)
    c.fail_call.ensures

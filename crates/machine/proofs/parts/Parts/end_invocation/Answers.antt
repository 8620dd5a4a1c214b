use Rattle.std.proofs.Common.{◌∙◌, ap}
use Rattle.run_model.specs.Recording.{error_result}
use Rattle.machine.proofs.HeldMaking.{on-ok}
use Rattle.machine.proofs.Over.{invocation-none, invocation-some}
use Rattle.machine.proofs.parts.Parts.end_invocation.Goals as goal

pub returns-in_default : goal.returns-in_default
returns-in_default c =
    invocation-none c.args.self.now c.take_invocation.new.self c.args.number c.take_invocation.ensures.now
    c.in_default.ensures.value

pub returns : goal.returns
returns c =
    on-ok c.discover.result _ _
    (invocation-some c.args.self.now c.take_invocation.new.self c.args.number c.take_invocation.ensures.now
    c.in-Some.invocation c.in_ok-error.error c.in_ok-result.result c.wake.new.self c.discover.new.self
    c.in-Some.ensures.value c.in_ok-error.ensures (c.in_ok-result.ensures ∙ ap error_result c.as_slice.ensures)
    c.in_ok-wake.ensures) c.discover.ensures.now

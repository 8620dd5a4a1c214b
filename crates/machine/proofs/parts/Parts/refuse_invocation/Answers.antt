use Rattle.std.proofs.Common.{◌∙◌, ap}
use Rattle.run_model.specs.Recording.{error_result}
use Rattle.run_model.specs.Replies.{unknown_function}
use Rattle.machine.specs.View.{state_of}
use Rattle.machine.proofs.HeldMaking.{on-ok}
use Rattle.machine.proofs.Invoked.{becomes-refused}
use Rattle.machine.proofs.parts.Parts.refuse_invocation.Goals as goal

pub returns : goal.returns
returns c =
    let m = c.args.self.now in
    on-ok c.wake.result _ _
    (λ woken. becomes-refused c.args.run c.args.hash.now c.in_ok-text.text unknown_function (state_of m) m c.wake.new.self
    c.requires.pending
    (c.in_ok-text.ensures ∙ ap error_result (c.as_slice.ensures ∙ c.in_ok-error.ensures)) woken) c.wake.ensures

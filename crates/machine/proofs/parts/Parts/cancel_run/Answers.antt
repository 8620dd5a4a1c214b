use Rattle.std.proofs.Common.{◌∙◌, ap}
use Rattle.run_model.specs.Recording.{error_result}
use Rattle.run_model.specs.State.{live_run}
use Rattle.machine.specs.View.{state_of}
use Rattle.machine.specs.Words.{when_of}
use Rattle.machine.proofs.HeldMaking.{on-ok}
use Rattle.machine.proofs.Told.{held-cancelled}
use Rattle.machine.proofs.parts.Parts.cancel_run.Goals as goal

pub returns : goal.returns
returns c =
    let m = c.args.self.now in
    on-ok c.tell_parent.result _ _
    (λ told. held-cancelled (when_of c.args.discovery) m c.end_run.new.self c.tell_parent.new.self
    (live_run c.args.run (state_of m)) _ _ c.in_ok-parent.ensures.parent
    (c.in_ok-result.ensures ∙ ap error_result (c.as_slice.ensures ∙ c.in_ok-error.ensures))
    c.in_ok-parent.ensures.now told) c.tell_parent.ensures

use Rattle.run_model.specs.State.{live_run}
use Rattle.machine.specs.View.{state_of}
use Rattle.machine.proofs.HeldMaking.{on-ok}
use Rattle.machine.proofs.Told.{held-failed}
use Rattle.machine.proofs.parts.Parts.fail_run.Goals as goal

pub returns : goal.returns
returns g c =
    let m = c.args.self.now in
    on-ok c.raise_failed.result _ _
    (λ raised. held-failed m c.end_run.new.self c.tell_parent.new.self c.raise_failed.new.self
    (live_run c.args.run (state_of m)) c.args.error.now _ _ _ c.in_ok-content.ensures
    c.in_ok-parent.ensures.parent c.in_ok-result.ensures c.in_ok-parent.ensures.now c.in_ok-tell_parent.ensures
    raised) c.raise_failed.ensures

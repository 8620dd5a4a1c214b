use Rattle.std.proofs.Common.{subst}
use Rattle.machine.specs.Held.{Becomes}
use Rattle.machine.specs.View.{state_of}
use Rattle.run_model.specs.State.{live_run}
use Rattle.machine.proofs.Stepped.{cancel-found, on-any}
use Rattle.machine.proofs.parts.Parts.on_cancel.Goals as goal

pub returns-clause-state : goal.returns-clause-state
returns-clause-state c =
    let m = c.args.self.now in
    on-any c.push.result _
    (subst (λ s. Becomes s m c.cancel_run.new.self)
    (cancel-found (live_run c.args.run (state_of m)) (state_of m)) c.in_ok-cancel_run.ensures)

use Rattle.std.proofs.Common.{subst}
use Rattle.machine.specs.Held.{Becomes}
use Rattle.machine.specs.View.{state_of}
use Rattle.machine.specs.Words.{queue_at}
use Rattle.run_model.specs.State.{live_run}
use Rattle.machine.proofs.HeldOperations.{plan-then}
use Rattle.machine.proofs.parts.Parts.plan.Goals as goal

pub returns-in_ok-queue_new-in-New-clause-now : goal.returns-in_ok-queue_new-in-New-clause-now
returns-in_ok-queue_new-in-New-clause-now c =
    let l = c.note_plan.new.self in
    plan-then c.args.self.now l c.queue_new.new.self c.args.run c.args.hash.now c.in_ok-naming.naming
    c.in_ok-naming.ensures.named c.in-New.is c.in_ok-naming.ensures.now
    (subst (λ name. Becomes (queue_at (live_run c.args.run (state_of l)) name (state_of l)) l c.queue_new.new.self)
    c.as_slice.ensures c.in_ok-queue_new-in-New.ensures.now)

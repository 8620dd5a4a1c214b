use Rattle.std.proofs.Common.{◌∙◌, OnOk, ap, subst, sym}
use Rattle.machine.specs.Held.{Becomes}
use Rattle.machine.specs.View.{state_of}
use Rattle.run_model.specs.Replies.{retry}
use Rattle.run_model.specs.State.{live_run}
use Rattle.machine.specs.Words.{complete_at, fail_at}
use Rattle.machine.specs.Replies.{outcome_at}
use Rattle.machine.proofs.HeldMaking.{on-ok}
use Rattle.machine.proofs.Replied.{outcome-ended, outcome-failed, outcome-ops, outcome-retry, outcome-unreadable}
use Rattle.machine.proofs.parts.Parts.take_outcome.Goals as goal

pub returns-in-Ended : goal.returns-in-Ended
returns-in-Ended g c =
    let m = c.args.self.now in
    on-ok c.complete_run.result _ _
    (λ became. subst (λ s. Becomes s m c.complete_run.new.self)
    (sym (ap (λ o. outcome_at (live_run c.args.item.run (state_of m)) c.args.item o (state_of m)) c.in-Ended.is
    ∙ outcome-ended (live_run c.args.item.run (state_of m)) c.args.item c.in-Ended.output (state_of m))) became)
    (subst (λ output. OnOk c.complete_run.result (Becomes (complete_at (live_run c.args.item.run (state_of m)) output
    (state_of m)) m c.complete_run.new.self)) c.as_slice.ensures c.complete_run.ensures)

pub returns-in-Ops : goal.returns-in-Ops
returns-in-Ops g c =
    let m = c.args.self.now in
    on-ok c.take_ops.result _ _
    (λ became. subst (λ s. Becomes s m c.take_ops.new.self)
    (sym (ap (λ o. outcome_at (live_run c.args.item.run (state_of m)) c.args.item o (state_of m)) c.in-Ops.is
    ∙ outcome-ops (live_run c.args.item.run (state_of m)) c.args.item c.in-Ops.ops c.in-Ops.no_retry c.in-Ops.after
    (state_of m))) became) c.take_ops.ensures

pub returns-in-Retry : goal.returns-in-Retry
returns-in-Retry g c =
    let m = c.args.self.now in
    on-ok c.retry.result _ _
    (λ became. subst (λ s. Becomes s m c.retry.new.self)
    (sym (ap (λ o. outcome_at (live_run c.args.item.run (state_of m)) c.args.item o (state_of m)) c.in-Retry.is
    ∙ outcome-retry (live_run c.args.item.run (state_of m)) c.args.item c.in-Retry.after c.in-Retry.error (state_of m)))
    became)
    (subst (λ error. OnOk c.retry.result (Becomes (retry c.args.item c.in-Retry.after error (state_of m)) m
    c.retry.new.self)) c.as_slice-in-Retry.ensures c.retry.ensures)

pub returns-in-NoRetry : goal.returns-in-NoRetry
returns-in-NoRetry g c =
    let m = c.args.self.now in
    on-ok c.fail_run.result _ _
    (λ became. subst (λ s. Becomes s m c.fail_run.new.self)
    (sym (ap (λ o. outcome_at (live_run c.args.item.run (state_of m)) c.args.item o (state_of m)) c.in-NoRetry.is
    ∙ outcome-failed (live_run c.args.item.run (state_of m)) c.args.item c.in-NoRetry.error (state_of m))) became)
    (subst (λ error. OnOk c.fail_run.result (Becomes (fail_at (live_run c.args.item.run (state_of m)) error (state_of m))
    m c.fail_run.new.self)) c.as_slice-in-NoRetry.ensures c.fail_run.ensures)

pub returns-in-Unreadable : goal.returns-in-Unreadable
returns-in-Unreadable g c =
    let m = c.args.self.now in
    on-ok c.retry_with.result _ _
    (λ became. subst (λ s. Becomes s m c.retry_with.new.self)
    (sym (ap (λ o. outcome_at (live_run c.args.item.run (state_of m)) c.args.item o (state_of m)) c.in-Unreadable.is
    ∙ outcome-unreadable (live_run c.args.item.run (state_of m)) c.args.item c.in-Unreadable.at (state_of m))) became)
    c.retry_with.ensures

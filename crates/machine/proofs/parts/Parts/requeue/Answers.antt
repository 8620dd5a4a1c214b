use Rattle.std.proofs.Common.{◌∙◌, ap, sym}
use Rattle.kinds.specs.RunSteps.{is_recorded}
use Rattle.machine.proofs.HeldMaking.{on-ok}
use Rattle.machine.proofs.Reopened.{requeue-none, requeue-waits, requeue-wants}
use Rattle.machine.proofs.parts.Parts.requeue.Goals as goal

pub returns-in_default : goal.returns-in_default
returns-in_default c = requeue-none c.args.self.now c.args.item c.in_default.ensures c.requires.held

pub returns-then-has_recorded : goal.returns-then-has_recorded
returns-then-has_recorded c =
    on-ok c.want.result _ _
    (requeue-wants c.args.self.now c.args.item c.in-Some.live.now c.want.new.self c.in-Some.ensures
    (ap (λ t. is_recorded t c.in-Some.live.now.steps) (sym c.as_slice.ensures) ∙ sym c.has_recorded.ensures
    ∙ c.if-has_recorded.true)) c.want.ensures

pub returns : goal.returns
returns c =
    on-ok c.queue_now.result _ _
    (requeue-waits c.args.self.now c.args.item c.in-Some.live.now c.queue_now.new.self c.in-Some.ensures
    (ap (λ t. is_recorded t c.in-Some.live.now.steps) (sym c.as_slice.ensures) ∙ sym c.has_recorded.ensures
    ∙ c.if-has_recorded.false)) c.queue_now.ensures

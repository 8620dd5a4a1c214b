use Rattle.std.proofs.Common.{◌+◌, ◌≤◌, arith, length, subst}
use Rattle.kinds.specs.declared.store.StepEntry.{StepEntry}
use Rattle.sdk_call.specs.Body.{step_member}
use Rattle.sdk_call.proofs.Rooms.{parted-room}
use Rattle.sdk_call.proofs.room.steps_room.Goals as goal

pub loop-step-preserved : goal.loop-step-preserved
loop-step-preserved c =
    let more = c.in_ok-step_room.field-0 in
    let here = subst (λ (s : StepEntry). length (step_member s) + 1 ≤ more) c.step-item.is c.in_ok-step_room.ensures in
    let r = parted-room step_member c.args.steps.now c.loop-step.step-index c.loop-step.room more c.step-item.result c.loop-step-test.true c.loop-step.invariant here in
    omega (arith, r, c.in_ok-room.ensures)

use Rattle.std.proofs.Common.{◌≤◌, length, map, take}
use Rattle.sdk_call.specs.Body.{parted, step_member}
use Rattle.sdk_call.proofs.room.steps_room.Given as goal

abbrev pub invariant-loop-step : goal.invariant-loop-step
invariant-loop-step l = length (parted (map step_member (take l.step-index l.steps))) ≤ l.room

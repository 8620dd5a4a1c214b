use Rattle.std.proofs.Common.{◌≡◌, ◌++◌, map, take}
use Rattle.sdk_call.specs.Body.{parted, step_member}
use Rattle.sdk_call.proofs.body.push_steps.Given as goal

abbrev pub invariant-loop-index : goal.invariant-loop-index
invariant-loop-index l = l.body ≡ l.initial.body ++ parted (map step_member (take l.index l.steps))

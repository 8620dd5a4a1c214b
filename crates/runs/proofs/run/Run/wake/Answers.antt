use Rattle.std.proofs.Common.{ap, ◌∙◌, arith}
use Rattle.kinds.specs.RunSteps.{RunSteps}
use Rattle.runs.specs.Runs.{bytes_of_steps}
use Rattle.runs.proofs.Listed.{bytes_recorded, sum_by}
use Rattle.runs.proofs.run.Run.wake.Goals as goal

pub invariant_of-self-2 : goal.invariant_of-self-2
invariant_of-self-2 c =
    let sum = sum_by c.checked_add.result c.in_ok-bytes.bytes _ _ c.checked_add.ensures c.in_ok-bytes.ensures.ok_part in
    let size = c.len.ensures in
    let was = c.self.invariant.1 in
    let now = ap (λ (s : RunSteps). bytes_of_steps s.recorded) c.in_ok-wake.ensures.ok ∙ bytes_recorded c.args.hash.now c.args.text c.self.inside.steps in
    (c.self.invariant.0, omega (arith, sum, size, was, now))

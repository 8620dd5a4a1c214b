use Rattle.std.proofs.Common.{ap, ◌∙◌, arith}
use Rattle.kinds.specs.RunSteps.{RunSteps, record_step}
use Rattle.runs.specs.Changes.{if_new}
use Rattle.runs.specs.Runs.{bytes_of_steps}
use Rattle.runs.proofs.Listed.{bytes_recorded, sum_by}
use Rattle.runs.proofs.run.Run.keep.Goals as goal

pub invariant_of-self-in-New : goal.invariant_of-self-in-New
invariant_of-self-in-New c =
    let sum = sum_by c.checked_add.result c.in_ok-bytes.bytes _ _ c.checked_add.ensures c.in_ok-bytes.ensures.ok_part in
    let size = c.len.ensures in
    let was = c.self.invariant.1 in
    let steps = c.in_ok-naming.ensures.ok.now ∙ ap (λ n. if_new n (record_step c.args.hash.now c.args.text c.self.inside.steps) c.self.inside.steps) c.in-New.is in
    let now = ap (λ (s : RunSteps). bytes_of_steps s.recorded) steps ∙ bytes_recorded c.args.hash.now c.args.text c.self.inside.steps in
    (c.self.invariant.0, omega (arith, sum, size, was, now))

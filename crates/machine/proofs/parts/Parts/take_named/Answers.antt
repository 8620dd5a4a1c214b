use Rattle.std.proofs.Common.{◌∙◌, ap}
use Rattle.run_model.specs.Recording.{data_result, error_result}
use Rattle.machine.specs.Operations.{effect_of, note_of}
use Rattle.machine.proofs.HeldOperations.{kept-now}
use Rattle.machine.proofs.parts.Parts.take_named.Goals as goal

pub returns-in_ok-result-in-StepRun-clause-now : goal.returns-in_ok-result-in-StepRun-clause-now
returns-in_ok-result-in-StepRun-clause-now c =
    kept-now c.args.self.now c.keep.new.self c.args.run c.args.op c.in-StepRun.hash c.in_ok-result-in-StepRun.result
    (data_result c.in-StepRun.value) c.keep.result
    (c.in_ok-result-in-StepRun.ensures ∙ ap data_result c.as_slice.ensures)
    (λ q. ap (λ o. note_of o q) c.in-StepRun.is) (λ q s. ap (λ o. effect_of o q s) c.in-StepRun.is)
    c.keep.ensures.named c.keep.ensures.now

pub returns-in_ok-result-in-StepError-clause-now : goal.returns-in_ok-result-in-StepError-clause-now
returns-in_ok-result-in-StepError-clause-now c =
    kept-now c.args.self.now c.keep-in-StepError.new.self c.args.run c.args.op c.in-StepError.hash
    c.in_ok-result-in-StepError.result (error_result c.in-StepError.error) c.keep-in-StepError.result
    (c.in_ok-result-in-StepError.ensures ∙ ap error_result c.as_slice-in-StepError.ensures)
    (λ q. ap (λ o. note_of o q) c.in-StepError.is) (λ q s. ap (λ o. effect_of o q s) c.in-StepError.is)
    c.keep-in-StepError.ensures.named c.keep-in-StepError.ensures.now

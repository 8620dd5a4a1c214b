use Rattle.std.proofs.Common.{◌≡◌, ◌∙◌, ap, rules}
use Rattle.step_ids.specs.Step.{is_step_name, step_name}
use Rattle.step_ids.proofs.StepLemmas.{is_name}
use Rattle.step_ids.proofs.step.step_hash.Goals as goal

pub returns-clause-form : goal.returns-clause-form
returns-clause-form c =
    let named : c.encode_to_slice.new.output ≡ step_name c.args.id.now c.args.use_number = search rules in
    ap is_step_name named ∙ is_name c.args.id.now c.args.use_number

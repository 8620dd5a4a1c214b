use Rattle.std.proofs.Common.{◌≡◌, sym, ap₂, ◌∙◌, true, false}
use Rattle.std.specs.Int.{w128, from_be_bytes}
use Rattle.step_ids.specs.Run.{run_of_halves, run_of_value}
use Rattle.step_ids.proofs.RunLemmas.{some_value, no_value, value_run, no_run, own_value, of_value}
use Rattle.step_ids.proofs.run.run_number.Goals as goal

pub returns-in-Ok-clause-value : goal.returns-in-Ok-clause-value
unfolding run_of_value
returns-in-Ok-clause-value c =
    let value = some_value c.args.text.now c.in-Ok.id c.in-Ok.ensures.bytes in
    c.run_of.ensures.value ∙ ap₂ run_of_halves c.as_u64_pair-high.ensures.high c.as_u64_pair-high.ensures.low ∙ sym (value_run _ _ value)

pub returns-in-Ok-clause-own : goal.returns-in-Ok-clause-own
returns-in-Ok-clause-own c =
    let value = some_value c.args.text.now c.in-Ok.id c.in-Ok.ensures.bytes in
    own_value c.args.text.now (from_be_bytes w128 c.in-Ok.id) c.run_of.result value c.run_of.ensures.moment (returns-in-Ok-clause-value c ∙ value_run _ _ value)

pub returns-in-Ok-clause-found : goal.returns-in-Ok-clause-found
returns-in-Ok-clause-found c = λ moment number is_run e. returns-in-Ok-clause-value c ∙ value_run _ _ e ∙ of_value moment number is_run

pub returns-in-Err-clause-value : goal.returns-in-Err-clause-value
returns-in-Err-clause-value c = sym (no_run _ (no_value c.args.text.now (λ u e. let no : false ≡ true = c.in-Err.ensures.ok.1 (u, e) in cc)))

pub returns-in-Err-clause-found : goal.returns-in-Err-clause-found
returns-in-Err-clause-found c = λ moment number is_run e. returns-in-Err-clause-value c ∙ value_run _ _ e ∙ of_value moment number is_run

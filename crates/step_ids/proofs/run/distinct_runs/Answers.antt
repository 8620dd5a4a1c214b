use Rattle.std.proofs.Common.{sym, ap, ◌∙◌}
use Rattle.step_ids.specs.Run.{run_of_text}
use Rattle.step_ids.proofs.RunLemmas.{same_run, own_run}
use Rattle.step_ids.proofs.run.distinct_runs.Goals as goal

pub returns : goal.returns
returns c = λ moment number other_moment other_number a b e.
    same_run moment number other_moment other_number (sym (own_run moment number a) ∙ ap run_of_text e ∙ own_run other_moment other_number b)

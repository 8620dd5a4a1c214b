use Rattle.run_model.proofs.TimelySteps.{dated-fold}
use Rattle.run_model.proofs.waiting.runs_are_dated.Goals as goal

pub returns : goal.returns
returns c = dated-fold

use Rattle.run_model.proofs.RunsFixed.{fixed-fold}
use Rattle.run_model.proofs.fit.runs_are_fixed.Goals as goal

pub returns : goal.returns
returns c = fixed-fold

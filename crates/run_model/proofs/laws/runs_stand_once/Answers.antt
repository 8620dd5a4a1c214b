use Rattle.run_model.proofs.RunsOnce.{once-fold}
use Rattle.run_model.proofs.laws.runs_stand_once.Goals as goal

pub returns : goal.returns
returns c = once-fold

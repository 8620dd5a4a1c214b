use Rattle.run_model.proofs.Whole.{stand-fold}
use Rattle.run_model.proofs.laws.each_stands_once.Goals as goal

pub returns : goal.returns
returns c = stand-fold

use Rattle.run_model.proofs.Recorded.{counted-fold}
use Rattle.run_model.proofs.laws.numbers_are_counted.Goals as goal

pub returns : goal.returns
returns c = counted-fold

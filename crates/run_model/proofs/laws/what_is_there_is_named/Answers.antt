use Rattle.run_model.proofs.Whole.{kept-fold}
use Rattle.run_model.proofs.laws.what_is_there_is_named.Goals as goal

pub returns : goal.returns
returns c = kept-fold

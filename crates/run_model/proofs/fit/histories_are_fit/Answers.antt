use Rattle.run_model.proofs.FitWords.{fit-fold}
use Rattle.run_model.proofs.fit.histories_are_fit.Goals as goal

pub returns : goal.returns
returns c = fit-fold

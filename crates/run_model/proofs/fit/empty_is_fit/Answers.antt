use Rattle.run_model.proofs.FitSteps.{fit-empty}
use Rattle.run_model.proofs.fit.empty_is_fit.Goals as goal

pub returns : goal.returns
returns c = fit-empty

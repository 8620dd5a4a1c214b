use Rattle.run_model.proofs.FitSteps.{fit-step}
use Rattle.run_model.proofs.fit.steps_stay_fit.Goals as goal

pub returns : goal.returns
returns c = fit-step

use Rattle.run_model.proofs.Recorded.{steps-stay}
use Rattle.run_model.proofs.laws.recorded_steps_stay.Goals as goal

pub returns : goal.returns
returns c = steps-stay

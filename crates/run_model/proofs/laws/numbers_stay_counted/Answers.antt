use Rattle.run_model.proofs.Recorded.{counted-step}
use Rattle.run_model.proofs.laws.numbers_stay_counted.Goals as goal

pub returns : goal.returns
returns c = counted-step

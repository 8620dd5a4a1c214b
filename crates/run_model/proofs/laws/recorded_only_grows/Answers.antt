use Rattle.run_model.proofs.Recorded.{recorded-step}
use Rattle.run_model.proofs.laws.recorded_only_grows.Goals as goal

pub returns : goal.returns
returns c = recorded-step

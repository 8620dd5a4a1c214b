use Rattle.run_model.proofs.OfLive.{of-fold}
use Rattle.run_model.proofs.laws.what_waits_is_of_live_runs.Goals as goal

pub returns : goal.returns
returns c = of-fold

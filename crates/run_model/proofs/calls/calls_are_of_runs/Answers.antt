use Rattle.run_model.proofs.CallsOfRuns.{there-fold}
use Rattle.run_model.proofs.calls.calls_are_of_runs.Goals as goal

pub returns : goal.returns
returns c = there-fold

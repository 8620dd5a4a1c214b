use Rattle.run_model.proofs.Limits.{limited-fold}
use Rattle.run_model.proofs.calls.limits_are_kept.Goals as goal

pub returns : goal.returns
returns c = limited-fold

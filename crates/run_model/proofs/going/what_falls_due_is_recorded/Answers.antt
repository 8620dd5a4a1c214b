use Rattle.run_model.proofs.AwaitingOnce.{all-wake}
use Rattle.run_model.proofs.going.what_falls_due_is_recorded.Goals as goal

pub returns : goal.returns
returns c = all-wake

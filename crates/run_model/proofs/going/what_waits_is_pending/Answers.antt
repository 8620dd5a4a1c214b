use Rattle.run_model.proofs.AwaitingOnce.{once-awaited}
use Rattle.run_model.proofs.going.what_waits_is_pending.Goals as goal

pub returns : goal.returns
returns c = once-awaited

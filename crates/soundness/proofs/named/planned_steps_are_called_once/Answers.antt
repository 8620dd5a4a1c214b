use Rattle.soundness.proofs.PlannedOnce.{planned-fold}
use Rattle.soundness.proofs.named.planned_steps_are_called_once.Goals as goal

pub returns : goal.returns
returns c = planned-fold

use Rattle.soundness.proofs.QueuedNew.{unrecorded-fold}
use Rattle.soundness.proofs.calls.items_are_unrecorded.Goals as goal

pub returns : goal.returns
returns c = unrecorded-fold

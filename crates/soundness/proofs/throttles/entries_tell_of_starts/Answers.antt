use Rattle.soundness.proofs.StartsLet.{tells-fold}
use Rattle.soundness.proofs.throttles.entries_tell_of_starts.Goals as goal

pub returns : goal.returns
returns c = tells-fold

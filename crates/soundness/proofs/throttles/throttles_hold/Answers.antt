use Rattle.soundness.proofs.StartsLet.{pace-fold}
use Rattle.soundness.proofs.throttles.throttles_hold.Goals as goal

pub returns : goal.returns
returns c = pace-fold

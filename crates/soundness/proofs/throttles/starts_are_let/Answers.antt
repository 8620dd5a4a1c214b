use Rattle.soundness.proofs.StartsLet.{let-fold}
use Rattle.soundness.proofs.throttles.starts_are_let.Goals as goal

pub returns : goal.returns
returns c = let-fold

use Rattle.soundness.proofs.Sound.{sound-fold}
use Rattle.soundness.proofs.whole.histories_are_sound.Goals as goal

pub returns : goal.returns
returns c = sound-fold

use Rattle.soundness.proofs.NamedThere.{named-fold}
use Rattle.soundness.proofs.named.what_is_named_is_there.Goals as goal

pub returns : goal.returns
returns c = named-fold

use Rattle.generator.proofs.Generating.{one-by-one, stays-closed}
use Rattle.generator.proofs.laws.replies_follow.Goals as goal

pub returns : goal.returns
returns c = record { more = one-by-one; none = stays-closed }

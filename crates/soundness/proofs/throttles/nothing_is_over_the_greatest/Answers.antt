use Rattle.soundness.proofs.Greatest.{greatest-fold}
use Rattle.soundness.proofs.throttles.nothing_is_over_the_greatest.Goals as goal

pub returns-clause-numbers : goal.returns-clause-numbers
returns-clause-numbers c = greatest-fold

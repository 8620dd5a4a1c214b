use Rattle.run_model.proofs.Tidied.{waits-fold}
use Rattle.run_model.proofs.waiting.nothing_happens_before_the_next_moment.Goals as goal

pub returns : goal.returns
returns c = waits-fold

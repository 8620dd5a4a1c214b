use Rattle.run_model.proofs.Invoking.{invoked-fold}
use Rattle.run_model.proofs.going.invocations_have_children.Goals as goal

pub returns : goal.returns
returns c = invoked-fold

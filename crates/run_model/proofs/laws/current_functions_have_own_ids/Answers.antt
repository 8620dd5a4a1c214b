use Rattle.run_model.proofs.Registered.{own-fold}
use Rattle.run_model.proofs.laws.current_functions_have_own_ids.Goals as goal

pub returns : goal.returns
returns c = own-fold

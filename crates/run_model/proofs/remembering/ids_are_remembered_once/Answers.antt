use Rattle.run_model.proofs.SeenOnce.{seen-fold}
use Rattle.run_model.proofs.remembering.ids_are_remembered_once.Goals as goal

pub returns : goal.returns
returns c = seen-fold

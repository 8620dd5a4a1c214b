use Rattle.run_model.proofs.Unrecorded.{new-step}
use Rattle.run_model.proofs.calls.items_stay_new.Goals as goal

pub returns : goal.returns
returns c = new-step

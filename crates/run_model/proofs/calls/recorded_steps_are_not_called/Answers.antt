use Rattle.run_model.proofs.Unrecorded.{called-new_in}
use Rattle.run_model.proofs.calls.recorded_steps_are_not_called.Goals as goal

pub returns : goal.returns
returns c = called-new_in

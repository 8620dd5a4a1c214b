use Rattle.run_model.proofs.StepsOnce.{once-recorded}
use Rattle.run_model.proofs.calls.steps_are_recorded_once.Goals as goal

pub returns : goal.returns
returns c = once-recorded

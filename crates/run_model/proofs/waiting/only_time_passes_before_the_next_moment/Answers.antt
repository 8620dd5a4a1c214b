use Rattle.run_model.proofs.WaitingSteps.{waits-step}
use Rattle.run_model.proofs.waiting.only_time_passes_before_the_next_moment.Goals as goal

pub returns : goal.returns
returns c = waits-step

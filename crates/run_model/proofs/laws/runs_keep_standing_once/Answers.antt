use Rattle.run_model.proofs.RunsOnce.{once-step}
use Rattle.run_model.proofs.laws.runs_keep_standing_once.Goals as goal

pub returns : goal.returns
returns c = once-step

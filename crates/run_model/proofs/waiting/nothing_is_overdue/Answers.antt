use Rattle.run_model.proofs.TimelySteps.{timely-fold}
use Rattle.run_model.proofs.waiting.nothing_is_overdue.Goals as goal

pub returns : goal.returns
returns c = timely-fold

use Rattle.run_model.proofs.Tidied.{tidied-step}
use Rattle.run_model.proofs.waiting.steps_are_tidied.Goals as goal

pub returns : goal.returns
returns c = tidied-step

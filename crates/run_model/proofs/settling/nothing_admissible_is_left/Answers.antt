use Rattle.run_model.proofs.SettlingRests.{rests-step}
use Rattle.run_model.proofs.settling.nothing_admissible_is_left.Goals as goal

pub returns : goal.returns
returns c = rests-step

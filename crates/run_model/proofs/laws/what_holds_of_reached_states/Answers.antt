use Rattle.run_model.proofs.Reached.{reached}
use Rattle.run_model.proofs.laws.what_holds_of_reached_states.Goals as goal

pub returns : goal.returns
returns c = reached

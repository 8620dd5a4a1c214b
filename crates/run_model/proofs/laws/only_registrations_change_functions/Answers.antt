use Rattle.run_model.proofs.KeptFunctions.{functions-step}
use Rattle.run_model.proofs.laws.only_registrations_change_functions.Goals as goal

pub returns : goal.returns
returns c = functions-step

use Rattle.run_model.proofs.Discovered.{wanted-found}
use Rattle.run_model.proofs.going.wanted_runs_find_out.Goals as goal

pub returns : goal.returns
returns c = wanted-found

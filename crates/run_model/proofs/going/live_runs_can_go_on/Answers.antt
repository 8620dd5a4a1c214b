use Rattle.run_model.proofs.Discovered.{live-go_on}
use Rattle.run_model.proofs.going.live_runs_can_go_on.Goals as goal

pub returns : goal.returns
returns c = live-go_on

use Rattle.run_model.proofs.Dated.{all-named}
use Rattle.run_model.proofs.remembering.runs_have_events.Goals as goal

pub returns : goal.returns
returns c = all-named

use Rattle.run_model.proofs.Dated.{all-dated}
use Rattle.run_model.proofs.remembering.what_happened_is_dated.Goals as goal

pub returns : goal.returns
returns c = all-dated

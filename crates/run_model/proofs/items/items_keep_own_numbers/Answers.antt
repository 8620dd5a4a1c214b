use Rattle.run_model.proofs.Apart.{apart-step}
use Rattle.run_model.proofs.items.items_keep_own_numbers.Goals as goal

pub returns : goal.returns
returns c = apart-step

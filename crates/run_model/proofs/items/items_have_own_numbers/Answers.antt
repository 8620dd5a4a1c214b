use Rattle.run_model.proofs.Apart.{apart-fold}
use Rattle.run_model.proofs.items.items_have_own_numbers.Goals as goal

pub returns : goal.returns
returns c = apart-fold

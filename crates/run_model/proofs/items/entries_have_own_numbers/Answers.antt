use Rattle.run_model.proofs.EntryNumbers.{apart-fold}
use Rattle.run_model.proofs.items.entries_have_own_numbers.Goals as goal

pub returns : goal.returns
returns c = apart-fold

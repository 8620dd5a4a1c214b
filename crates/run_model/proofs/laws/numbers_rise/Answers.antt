use Rattle.run_model.proofs.OrderedLists.{numbered-fold}
use Rattle.run_model.proofs.laws.numbers_rise.Goals as goal

pub returns : goal.returns
returns c = numbered-fold

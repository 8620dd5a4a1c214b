use Rattle.kinds.proofs.CellLemmas.{cell_same}
use Rattle.ready_queue.proofs.lot.copy_of_cell.Goals as goal

pub returns : goal.returns
returns c = cell_same _ _ c.in_ok-clone.ensures.cases

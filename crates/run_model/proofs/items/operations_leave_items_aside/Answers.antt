use Rattle.run_model.proofs.Apart.{aside-operations}
use Rattle.run_model.proofs.items.operations_leave_items_aside.Goals as goal

pub returns : goal.returns
returns c = aside-operations

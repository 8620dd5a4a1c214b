use Rattle.run_model.proofs.Apart.{aside-closed}
use Rattle.run_model.proofs.items.ended_calls_leave_items_aside.Goals as goal

pub returns : goal.returns
returns c = aside-closed

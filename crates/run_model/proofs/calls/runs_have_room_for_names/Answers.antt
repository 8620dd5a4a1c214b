use Rattle.run_model.proofs.StepsOnce.{room-fold}
use Rattle.run_model.proofs.calls.runs_have_room_for_names.Goals as goal

pub returns : goal.returns
returns c = room-fold

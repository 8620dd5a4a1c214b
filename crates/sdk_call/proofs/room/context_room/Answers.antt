use Rattle.std.proofs.Common.{arith}
use Rattle.sdk_call.proofs.Rooms.{context-room}
use Rattle.sdk_call.proofs.room.context_room.Goals as goal

pub returns : goal.returns
returns c = λ planned. let r = context-room c.args.run_id.now c.args.attempt planned (omega arith) in omega (arith, r)

use Rattle.std.proofs.Common.{arith}
use Rattle.sdk_call.proofs.Rooms.{path-room}
use Rattle.sdk_call.proofs.room.path_room.Goals as goal

pub returns : goal.returns
returns c = let r = path-room c.args.path.now c.args.query.now c.args.id.now c.args.target.now in omega (arith, r)

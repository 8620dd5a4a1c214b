use Rattle.std.proofs.Common.{arith}
use Rattle.std.specs.Option.{option_map}
use Rattle.sdk_call.proofs.Rooms.{head-room}
use Rattle.sdk_call.proofs.room.head_room.Goals as goal

pub returns : goal.returns
returns c = λ port size p s. let r = head-room c.args.host.now port c.args.path.now size (option_map (λ s. s.now) c.args.signature) c.in_ok-signed.signed p s c.in_ok-signed.ensures in omega (arith, r)

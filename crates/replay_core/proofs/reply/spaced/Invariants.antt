use Rattle.std.proofs.Common.{◌≡◌, take}
use Rattle.replay_core.specs.Line.{spaced}
use Rattle.replay_core.proofs.reply.spaced.Given as goal

abbrev pub invariant-loop-byte : goal.invariant-loop-byte
invariant-loop-byte l = l.spaced ≡ spaced (take l.byte-index l.text)

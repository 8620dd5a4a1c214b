use Rattle.std.proofs.Common.{take}
use Rattle.runs.specs.Mentions.{IsJoined}
use Rattle.runs.proofs.mentions.Mentions.add_all.Given as goal

abbrev pub invariant-loop-part : goal.invariant-loop-part
invariant-loop-part l = IsJoined (take l.part-index l.parts) l.number l.initial.self l.self

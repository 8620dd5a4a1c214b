use Rattle.std.proofs.Common.{take}
use Rattle.runs.specs.Mentions.{IsParted}
use Rattle.runs.proofs.mentions.Mentions.remove_all.Given as goal

abbrev pub invariant-loop-part : goal.invariant-loop-part
invariant-loop-part l = IsParted (take l.part-index l.parts) l.number l.initial.self l.self

use Rattle.std.proofs.Common.{take}
use Rattle.machine.specs.Numbers.{AreJoined}
use Rattle.machine.proofs.numbers.NumberSet.insert_all.Given as goal

abbrev pub invariant-loop-number : goal.invariant-loop-number
invariant-loop-number l = AreJoined (take l.number-index l.numbers) l.initial.self l.self

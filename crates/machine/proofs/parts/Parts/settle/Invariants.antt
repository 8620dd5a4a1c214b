use Rattle.std.proofs.Common.{length}
use Rattle.machine.proofs.HeldSettle.{IsSettling}
use Rattle.machine.proofs.parts.Parts.settle.Given as goal

abbrev pub invariant-loop-number : goal.invariant-loop-number
invariant-loop-number g l = IsSettling l.initial.self l.self l.initial.outs l.outs

abbrev pub decreases-loop-number : goal.decreases-loop-number
decreases-loop-number g l = length l.self.admission.items

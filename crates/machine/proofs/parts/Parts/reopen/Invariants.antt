use Rattle.std.proofs.Common.{length}
use Rattle.machine.proofs.Reopened.{IsReopening}
use Rattle.machine.proofs.parts.Parts.reopen.Given as goal

abbrev pub invariant-loop-item : goal.invariant-loop-item
invariant-loop-item l = IsReopening l.initial.self l.self

abbrev pub decreases-loop-item : goal.decreases-loop-item
decreases-loop-item l = length l.self.admission.issues

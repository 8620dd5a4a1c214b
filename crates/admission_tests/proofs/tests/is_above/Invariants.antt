use Rattle.admission_tests.proofs.Below.{AreBelow}
use Rattle.admission_tests.proofs.tests.is_above.Given as goal

abbrev pub invariant-loop-open : goal.invariant-loop-open
invariant-loop-open l =
    goal.iterator-loop-open.can_next l.open-iterator ×
    goal.iterator-loop-open.is_finite l.open-iterator ×
    (AreBelow l.call l.open-iterator → AreBelow l.call l.admission.issues)

use Rattle.kinds.specs.Stores.{wait_number, wait_condition}
use Rattle.matching.proofs.Filled.{IsFilled}
use Rattle.matching_tests.specs.Rows.{OnOwn}
use Rattle.matching_tests.proofs.waiting.waits.Given as goal

abbrev pub invariant-loop-number : goal.invariant-loop-number
invariant-loop-number l = IsFilled wait_number (λ w. OnOwn (wait_condition w)) l.number l.waits

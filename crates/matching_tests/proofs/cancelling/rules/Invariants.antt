use Rattle.kinds.specs.Stores.{rule_number, rule_condition}
use Rattle.matching.proofs.Filled.{IsFilled}
use Rattle.matching_tests.specs.Rows.{OnOwn}
use Rattle.matching_tests.proofs.cancelling.rules.Given as goal

abbrev pub invariant-loop-number : goal.invariant-loop-number
invariant-loop-number l = IsFilled rule_number (λ r. OnOwn (rule_condition r)) l.number l.rules

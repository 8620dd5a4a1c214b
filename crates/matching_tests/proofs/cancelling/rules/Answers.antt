use Rattle.kinds.specs.Stores.{rule_number, rule_condition}
use Rattle.matching.proofs.Filled.{filled_free, filled_more}
use Rattle.matching_tests.specs.Rows.{OnOwn}
use Rattle.matching_tests.proofs.cancelling.rules.Goals as goal

pub add-requires : goal.add-requires
add-requires c = record { new = filled_free rule_number (λ r. OnOwn (rule_condition r)) _ _ _ c.loop-number.invariant c.in_ok-rule.ensures.number }

pub loop-number-preserved : goal.loop-number-preserved
loop-number-preserved c =
    filled_more rule_number (λ r. OnOwn (rule_condition r)) _ _ _ _ c.loop-number.invariant c.in_ok-rule.ensures.number c.in_ok-rule.ensures.own c.in_ok-add.ensures.ok

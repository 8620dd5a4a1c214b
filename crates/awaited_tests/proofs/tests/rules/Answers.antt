use Rattle.kinds.specs.Stores.{rule_number}
use Rattle.awaited_tests.proofs.FilledLemmas.{filled_below, filled_more}
use Rattle.awaited_tests.proofs.tests.rules.Goals as goal

pub add-requires : goal.add-requires
add-requires c = record { below = filled_below rule_number _ _ _ c.loop-number.invariant c.in_ok-rule.ensures }

pub loop-number-preserved : goal.loop-number-preserved
loop-number-preserved c = filled_more rule_number _ _ _ _ c.loop-number.invariant c.in_ok-rule.ensures c.in_ok-add.ensures.ok

use Rattle.kinds.specs.Stores.{wait_number, wait_condition}
use Rattle.matching.proofs.Filled.{filled_free, filled_more}
use Rattle.matching_tests.specs.Rows.{OnOwn}
use Rattle.matching_tests.proofs.waiting.waits.Goals as goal

pub add-requires : goal.add-requires
add-requires c = record { new = filled_free wait_number (λ w. OnOwn (wait_condition w)) _ _ _ c.loop-number.invariant c.in_ok-wait.ensures.number }

pub loop-number-preserved : goal.loop-number-preserved
loop-number-preserved c =
    filled_more wait_number (λ w. OnOwn (wait_condition w)) _ _ _ _ c.loop-number.invariant c.in_ok-wait.ensures.number c.in_ok-wait.ensures.own c.in_ok-add.ensures.ok

use Rattle.awaited.specs.Entries.{sleep_number}
use Rattle.awaited_tests.proofs.FilledLemmas.{filled_below, filled_more}
use Rattle.awaited_tests.proofs.tests.sleeps.Goals as goal

pub add-requires : goal.add-requires
add-requires c = record { below = filled_below sleep_number _ _ _ c.loop-number.invariant c.sleep.ensures }

pub loop-number-preserved : goal.loop-number-preserved
loop-number-preserved c = filled_more sleep_number _ _ _ _ c.loop-number.invariant c.sleep.ensures c.in_ok-add.ensures.ok

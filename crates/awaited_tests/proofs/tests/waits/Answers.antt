use Rattle.awaited.specs.Entries.{waiting_number}
use Rattle.awaited_tests.proofs.FilledLemmas.{filled_below, filled_more}
use Rattle.awaited_tests.proofs.tests.waits.Goals as goal

pub add-requires : goal.add-requires
add-requires c = record { below = filled_below waiting_number _ _ _ c.loop-number.invariant c.in_ok-wait.ensures }

pub loop-number-preserved : goal.loop-number-preserved
loop-number-preserved c = filled_more waiting_number _ _ _ _ c.loop-number.invariant c.in_ok-wait.ensures c.in_ok-add.ensures.ok

use Rattle.awaited.specs.Entries.{invocation_number}
use Rattle.awaited_tests.proofs.FilledLemmas.{filled_below, filled_more}
use Rattle.awaited_tests.proofs.tests.invocations.Goals as goal

pub add-requires : goal.add-requires
add-requires c = record { below = filled_below invocation_number _ _ _ c.loop-number.invariant c.invocation.ensures }

pub loop-number-preserved : goal.loop-number-preserved
loop-number-preserved c = filled_more invocation_number _ _ _ _ c.loop-number.invariant c.invocation.ensures c.in_ok-add.ensures.ok

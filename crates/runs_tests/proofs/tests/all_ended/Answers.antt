use Rattle.runs.specs.Ended.{ended_number}
use Rattle.runs_tests.proofs.Fill.{below_more, free_at}
use Rattle.runs_tests.proofs.tests.all_ended.Goals as goal

pub add-requires : goal.add-requires
add-requires c = free_at ended_number c.loop-number.number c.in_ok-added.added.run c.loop-number.runs c.loop-number.invariant c.in_ok-added.ensures

pub loop-number-preserved : goal.loop-number-preserved
loop-number-preserved c = below_more ended_number c.loop-number.number c.in_ok-added.added c.loop-number.runs c.add.new.self c.loop-number.invariant c.in_ok-added.ensures c.in_ok-out.ensures.now

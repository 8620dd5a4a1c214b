use Rattle.std.proofs.Common.{◌∙◌}
use Rattle.ready_queue.proofs.ParkLemmas.{fewer_then, fewer_at, looked_next}
use Rattle.ready_queue.proofs.parking.ParkingQueue.wake_all.Goals as goal

pub loop-limit-preserved : goal.loop-limit-preserved
loop-limit-preserved c = (
  c.wake_at.ensures.items ∙ c.loop-limit.invariant.0,
  fewer_then c.args.self.now c.loop-limit.self c.wake_at.new.self c.loop-limit.invariant.1 (fewer_at c.limit-item.result.cell c.loop-limit.self c.wake_at.new.self c.in_ok-wake_at.ensures.ok c.wake_at.ensures.later),
  looked_next c.args.limits.now c.loop-limit.limit-index c.limit-item.result c.loop-limit.self c.wake_at.new.self c.loop-limit-test.true c.limit-item.is c.in_ok-wake_at.ensures.ok c.loop-limit.invariant.2,
)

use Rattle.ready_queue.proofs.PoolLemmas.{pool_empty}
use Rattle.ready_queue.proofs.pool.Pool.empty.Goals as goal

pub invariant_of-result : goal.invariant_of-result
invariant_of-result c = pool_empty _ _ _ c.empty.ensures c.empty-2.ensures.none c.new.ensures.empty

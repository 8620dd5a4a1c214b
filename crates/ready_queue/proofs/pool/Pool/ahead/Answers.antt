use Rattle.std.proofs.Common.{◌≤◌, subst}
use Rattle.ready_queue.specs.Front.{AllParked}
use Rattle.ready_queue.specs.Pool.{Pool}
use Rattle.ready_queue.proofs.AheadLemmas.{parked_all, parked_where}
use Rattle.ready_queue.proofs.pool.Pool.ahead.Goals as goal

pub returns-clause-parked : goal.returns-clause-parked
returns-clause-parked c =
    parked_where c.args.self.now.ready c.ripe.result
    (subst (λ (q : Pool). AllParked q.ready) c.self.view_is (parked_all _ (subst (λ n. n ≤ 0) c.open_groups.ensures c.if-open_groups-gt0.false)))

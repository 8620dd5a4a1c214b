use Rattle.std.proofs.Common.{sym, ◌∙◌, subst}
use Rattle.kinds.specs.Queue.{group_of}
use Rattle.ready_queue.specs.Held.{holds, Goes}
use Rattle.ready_queue.specs.Store.{lifted}
use Rattle.ready_queue.proofs.LeastLemmas.{found_number}
use Rattle.ready_queue.proofs.PoolLemmas.{pool_none, pool_taken, Gone}
use Rattle.ready_queue.proofs.pool.Pool.take.Goals as goal

pub invariant_of-self : goal.invariant_of-self
invariant_of-self c = pool_none c.args.number _ _ _ _ _ _ c.self.invariant (sym c.in_err-item.ensures.value) c.take.ensures.left

pub invariant_of-self-2 : goal.invariant_of-self-2
unfolding Gone
invariant_of-self-2 c =
    let number = found_number c.args.number c.self.inside.store c.in_ok-item.item (sym c.in_ok-item.ensures.value) in
    pool_taken c.args.number _ _ c.in_ok-item.item _ _ _ _ _ _ c.self.invariant c.in_ok-item.ensures.value c.take.ensures.left
    (subst (λ n. Goes (group_of c.in_ok-item.item) (lifted c.in_ok-item.item.score) n (holds c.self.inside.ready.held) (holds c.leave.new.ready.held)) (sym number) c.leave.ensures.goes)
    c.remove.ensures.updates.0

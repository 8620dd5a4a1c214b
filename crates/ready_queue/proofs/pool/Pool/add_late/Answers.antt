use Rattle.std.proofs.Common.{◌≡◌, ◌<◌, None, sym, ◌∙◌, ap, subst}
use Rattle.std.specs.List.{find}
use Rattle.kinds.specs.Queue.{has_number}
use Rattle.ready_queue.specs.Pool.{Pool}
use Rattle.ready_queue.proofs.PoolLemmas.{pool_waits, pool_unwaits, Came, Gone}
use Rattle.ready_queue.proofs.pool.Pool.add_late.Goals as goal

pub invariant_of-self-in-Ok : goal.invariant_of-self-in-Ok
unfolding Came
invariant_of-self-in-Ok c =
    let none = ap (λ (q : Pool). find (has_number c.args.item.number) q.items) c.self.view_is ∙ c.requires.fresh in
    let far = subst (λ (q : Pool). q.horizon < c.args.item.due) (sym c.self.view_is) c.requires.due in
    pool_waits _ _ c.args.item _ _ _ _ _ c.self.invariant none c.in-Ok.ensures.ok c.in_ok-insert.ensures.updates.0 far

pub invariant_of-self-in-Err : goal.invariant_of-self-in-Err
unfolding Came Gone
invariant_of-self-in-Err c =
    let none = ap (λ (q : Pool). find (has_number c.args.item.number) q.items) c.self.view_is ∙ c.requires.fresh in
    pool_unwaits _ _ c.args.item _ _ _ _ _ _ c.self.invariant none c.in-Err.ensures.err c.in_ok-insert.ensures.updates.0 c.remove.ensures.updates.0

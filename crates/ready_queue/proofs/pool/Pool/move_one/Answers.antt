use Rattle.std.proofs.Common.{sym, ◌∙◌, subst}
use Rattle.kinds.specs.Queue.{group_of}
use Rattle.ready_queue.specs.Held.{Group, holds, Comes}
use Rattle.ready_queue.specs.Pool.{Pool, NoneDue}
use Rattle.ready_queue.specs.Store.{lifted}
use Rattle.ready_queue.proofs.PoolLemmas.{none_waits, late_first, pool_moved, Gone}
use Rattle.ready_queue.proofs.pool.Pool.move_one.Goals as goal

pub returns-in_default-clause-done : goal.returns-in_default-clause-done
returns-in_default-clause-done c = subst (λ (q : Pool). NoneDue q.waiting q.horizon) c.self.view_is (none_waits _ c.self.inside.horizon c.in_default.ensures.variant.1)

pub returns-then-self-due-clause-done : goal.returns-then-self-due-clause-done
returns-then-self-due-clause-done c = subst (λ (q : Pool). NoneDue q.waiting q.horizon) c.self.view_is (late_first _ c.self.inside.horizon _ _ c.in-Some.ensures.least c.if-self-due.true)

pub invariant_of-self-2 : goal.invariant_of-self-2
unfolding Gone
invariant_of-self-2 c =
    let score = subst (λ s. Comes c.in_ok-group.group s c.in-Some.first.now.1 (holds c.self.inside.ready.held) (holds c.add.new.self.held)) c.lifted.ensures.value c.in_ok-add.ensures.ok in
    let comes = subst (λ (k : Group). Comes k (lifted c.in-Some-get.item.now.score) c.in-Some.first.now.1 (holds c.self.inside.ready.held) (holds c.add.new.self.held)) c.in_ok-group.ensures score in
    pool_moved _ _ _ _ c.in-Some-get.item.now _ _ _ _ _ c.self.invariant c.in-Some-get.ensures c.in-Some.ensures.member c.if-self-due.false comes c.remove.ensures.updates.0

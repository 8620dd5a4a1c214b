use Rattle.std.proofs.Common.{◌∙◌, sym, subst}
use Rattle.ready_queue.specs.Front.{IsFront, AllParked, IsFrontHeld}
use Rattle.ready_queue.specs.Held.{holds}
use Rattle.ready_queue.specs.Pool.{Pool}
use Rattle.ready_queue.proofs.AheadLemmas.{front_item, none_some}
use Rattle.ready_queue.proofs.pool.Pool.front.Goals as goal

pub returns-in_default-clause-none : goal.returns-in_default-clause-none
returns-in_default-clause-none c = subst (λ (q : Pool). AllParked q.ready) c.self.view_is c.in_default.ensures.none

pub returns-in_err-item-clause-none : goal.returns-in_err-item-clause-none
returns-in_err-item-clause-none c =
    absurd (none_some _ (c.in_err-item.ensures.found ∙ (c.self.invariant.ready c.in-Some.ensures.some.group c.in-Some.ensures.some.score c.in-Some.number c.in-Some.ensures.some.here).found))

pub returns-clause-some : goal.returns-clause-some
returns-clause-some c =
    subst (λ (q : Pool). IsFront q.items q.ready c.in_ok-item.item.now) c.self.view_is
    (front_item _ _ _ _ _ c.in-Some.number c.in_ok-item.item.now c.self.invariant c.in-Some.ensures.some (sym c.in_ok-item.ensures.found))

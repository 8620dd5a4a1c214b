use Rattle.std.proofs.Common.{◌∙◌, sym, subst}
use Rattle.ready_queue.specs.Ahead.{IsItemOf}
use Rattle.ready_queue.specs.Held.{HoldsNothing}
use Rattle.ready_queue.specs.Pool.{Pool}
use Rattle.ready_queue.proofs.AheadLemmas.{none_some}
use Rattle.ready_queue.proofs.pool.Pool.first_of.Goals as goal

pub returns-in_default-clause-none : goal.returns-in_default-clause-none
returns-in_default-clause-none c = subst (λ (q : Pool). HoldsNothing q.ready c.args.group.now) c.self.view_is c.in_default.ensures.none

pub returns-in_err-item-clause-none : goal.returns-in_err-item-clause-none
returns-in_err-item-clause-none c = absurd (none_some _ (c.in_err-item.ensures.found ∙ (c.self.invariant.ready c.args.group.now c.in-Some.ensures.some.0 c.in-Some.number c.in-Some.ensures.some.1).found))

pub returns-clause-some : goal.returns-clause-some
returns-clause-some c =
    subst (λ (q : Pool). IsItemOf q.items q.ready c.args.group.now c.in_ok-item.item.now) c.self.view_is
    (record { score = c.in-Some.ensures.some.0; number = c.in-Some.number; here = c.in-Some.ensures.some.1; found = sym c.in_ok-item.ensures.found; start = c.in_ok-item.ensures.start })

use Rattle.std.proofs.Common.{sym, subst}
use Rattle.ready_queue.specs.Ahead.{IsFirstDue, IsRipe}
use Rattle.ready_queue.specs.Pool.{Pool}
use Rattle.ready_queue.proofs.AheadLemmas.{ripe}
use Rattle.ready_queue.proofs.pool.Pool.ripe.Goals as goal

pub returns : goal.returns
returns c =
    subst (λ (q : Pool). IsRipe q.items q.ready c.args.t c.first_due.result) c.self.view_is
    (ripe _ _ _ c.self.inside.waiting.keys _ _ c.args.t c.first_due.result c.map-items.ensures.stored c.map-items.ensures.values c.self.invariant c.if-self-t.false c.if-self-t-2.false
    (subst (λ (q : Pool). IsFirstDue q.waiting c.first_due.result) (sym c.self.view_is) c.first_due.ensures))

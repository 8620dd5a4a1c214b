use Rattle.std.proofs.Common.{Some, None, subst}
use Rattle.ready_queue.specs.Ahead.{IsFirstDue}
use Rattle.ready_queue.specs.Pool.{Pool}
use Rattle.ready_queue.proofs.AheadLemmas.{first_none, first_some}
use Rattle.ready_queue.proofs.pool.Pool.first_due.Goals as goal

pub returns-in_default : goal.returns-in_default
returns-in_default c = subst (λ (q : Pool). IsFirstDue q.waiting None) c.self.view_is (first_none _ c.in_default.ensures.variant.1)

pub returns : goal.returns
returns c = subst (λ (q : Pool). IsFirstDue q.waiting (Some c.in-Some.first.now.0)) c.self.view_is (first_some _ _ c.in-Some.first.now.1 c.in-Some.ensures.member c.in-Some.ensures.least)

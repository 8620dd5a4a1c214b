use Rattle.std.proofs.Common.{subst}
use Rattle.std.specs.Option.{IfSome, IfNone}
use Rattle.ready_queue.specs.Front.{IsFrontHeld, AllParked}
use Rattle.ready_queue.specs.Held.{Groups}
use Rattle.ready_queue.proofs.AheadLemmas.{front_held, front_none}
use Rattle.ready_queue.proofs.ready.Ready.front.Goals as goal

pub returns-clause-some : goal.returns-clause-some
returns-clause-some c = subst (λ (gs : Groups). IfSome c.front.result (IsFrontHeld gs)) c.self.view_is (front_held _ c.self.inside.index _ c.front.result c.self.invariant c.front.ensures.some)

pub returns-clause-none : goal.returns-clause-none
returns-clause-none c = subst (λ (gs : Groups). IfNone c.front.result (AllParked gs)) c.self.view_is (front_none _ c.self.inside.index c.front.result c.front.ensures.none)

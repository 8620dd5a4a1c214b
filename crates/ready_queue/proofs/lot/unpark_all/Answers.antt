use Rattle.std.proofs.Common.{◌∙◌, refl}
use Rattle.ready_queue.proofs.ParkLemmas.{among_all, among_next, among_none}
use Rattle.ready_queue.proofs.lot.unpark_all.Goals as goal

pub loop-group-init : goal.loop-group-init
loop-group-init c = (refl, λ k p. p, among_all _ _ _ (c.into_iter-group-iterator.ensures.into_iter_gives ∙ c.iter-group-items.ensures.rest))

pub loop-group-preserved : goal.loop-group-preserved
loop-group-preserved c = (
  c.unpark.ensures.items ∙ c.loop-group.invariant.0,
  λ k p. c.loop-group.invariant.1 k (c.unpark.ensures.parked k p),
  among_next _ _ c.args.groups.now.keys c.loop-group.group-iterator _ c.in-Some.group.now c.in-Some.ensures.steps c.unpark.ensures.parked c.in_ok-unpark.ensures.ok c.loop-group.invariant.2,
)

pub returns-clause-ok : goal.returns-clause-ok
returns-clause-ok c = among_none _ c.args.groups.now.keys c.loop-group.group-iterator c.in-None.ensures.steps.0 c.loop-group.invariant.2

use Rattle.std.proofs.Common.{◌∙◌, sym}
use Rattle.ready_queue.proofs.AheadLemmas.{looking_start, looking_stop, looking_on, looking_done, parked_holds}
use Rattle.ready_queue.proofs.ahead.look_all.Goals as goal

pub loop-group-init : goal.loop-group-init
loop-group-init c = (tt, tt, looking_start _ _ _ _ _ _ _ _ (c.into_iter-group-iterator.ensures.into_iter_gives ∙ c.iter-group-items.ensures.rest))

pub returns-then-reached-clause-further : goal.returns-then-reached-clause-further
returns-then-reached-clause-further c = c.loop-group.invariant.2.further

pub returns-then-reached-clause-covers : goal.returns-then-reached-clause-covers
returns-then-reached-clause-covers c =
    looking_stop _ _ _ _ _ _ _ c.args.moment _ c.loop-group.found c.requires.held c.loop-group.invariant.2 (sym c.reached.ensures ∙ c.if-reached.true)

pub loop-group-preserved : goal.loop-group-preserved
loop-group-preserved c = (
  tt,
  tt,
  looking_on _ _ _ _ _ _ c.args.groups.now.keys c.loop-group.group-iterator _ c.in-Some.group.now c.loop-group.found _ c.in-Some.ensures.steps c.loop-group.invariant.2 c.look-found.ensures.further
      (λ p. let h = parked_holds c.args.listed.now.ready c.in-Some.group.now p in c.look-found.ensures.covers h.0 h.1 h.2),
)

pub returns-clause-further : goal.returns-clause-further
returns-clause-further c = c.loop-group.invariant.2.further

pub returns-clause-covers : goal.returns-clause-covers
returns-clause-covers c = looking_done _ _ _ _ _ _ c.args.groups.now.keys c.loop-group.group-iterator c.loop-group.found c.in-None.ensures.steps.0 c.loop-group.invariant.2

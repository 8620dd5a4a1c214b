use Rattle.std.proofs.Common.{◌∙◌}
use Rattle.ready_queue.proofs.AheadLemmas.{naming_start, naming_on, naming_done}
use Rattle.ready_queue.proofs.ahead.least_of_all.Goals as goal

pub loop-group-init : goal.loop-group-init
loop-group-init c = (
  tt,
  tt,
  naming_start c.args.cells.now c.args.throttle.now c.args.t c.args.listed.now.items c.args.listed.now.ready c.args.first c.into_iter-group-iterator.result
      (c.into_iter-group-iterator.ensures.into_iter_gives ∙ c.iter-group-items.ensures.rest ∙ c.names.ensures),
)

pub loop-group-preserved : goal.loop-group-preserved
loop-group-preserved c = (
  tt,
  tt,
  naming_on c.args.cells.now c.args.throttle.now c.args.t c.args.listed.now.items c.args.listed.now.ready c.args.first c.loop-group.group-iterator _ (c.in-Some.group.now, _) c.loop-group.best _
      c.in-Some.ensures.steps c.loop-group.invariant.2 c.look-best.ensures.further c.look-best.ensures.covers,
)

pub returns-clause-further : goal.returns-clause-further
returns-clause-further c = c.loop-group.invariant.2.further

pub returns-clause-covers : goal.returns-clause-covers
returns-clause-covers c =
    naming_done c.args.cells.now c.args.throttle.now c.args.t c.args.listed.now.items c.args.listed.now.ready c.args.first c.loop-group.group-iterator c.loop-group.best c.in-None.ensures.steps.0
    c.loop-group.invariant.2

use Rattle.std.proofs.Common.{◌≡◌, true, List, ◌∙◌, sym, subst}
use Rattle.std.specs.List.{AllByRecursion}
use Rattle.ready_queue.specs.Ahead.{CoversAll}
use Rattle.ready_queue.specs.Held.{Group}
use Rattle.ready_queue.specs.Parking.{is_in, IsHeldTill}
use Rattle.ready_queue.proofs.AheadLemmas.{onward_start, onward_held, onward_stop, onward_on, onward_done}
use Rattle.ready_queue.proofs.ahead.least_parked.Goals as goal

pub loop-moment-init : goal.loop-moment-init
loop-moment-init c = (
  tt,
  tt,
  onward_start c.args.cells.now c.args.throttle.now c.args.t c.args.listed.now.items c.args.listed.now.ready c.args.first c.args.later.now.entries c.into_iter-moment-iterator.result
      (c.into_iter-moment-iterator.ensures.into_iter_gives ∙ c.iter-moment-items.ensures.rest) c.iter-moment-items.ensures.ordered c.requires.held,
)

pub returns-then-reached-clause-further : goal.returns-then-reached-clause-further
returns-then-reached-clause-further c = c.loop-moment.invariant.2.further

pub returns-then-reached-clause-covers : goal.returns-then-reached-clause-covers
returns-then-reached-clause-covers c =
    onward_stop c.args.cells.now c.args.throttle.now c.args.t c.args.listed.now.items c.args.listed.now.ready c.args.first c.args.later.now.entries c.loop-moment.moment-iterator
    (c.in-Some.moment.now, c.in-Some.groups.now) _ c.loop-moment.best c.loop-moment.invariant.2 c.in-Some.ensures.steps (sym c.reached.ensures ∙ c.if-reached.true)

pub look_all-best-requires-clause-held : goal.look_all-best-requires-clause-held
look_all-best-requires-clause-held c =
    subst (AllByRecursion (IsHeldTill c.args.throttle.now c.in-Some.moment.now)) (sym c.set.ensures)
    (onward_held c.args.cells.now c.args.throttle.now c.args.t c.args.listed.now.items c.args.listed.now.ready c.args.first c.args.later.now.entries c.loop-moment.moment-iterator
    (c.in-Some.moment.now, c.in-Some.groups.now) _ c.loop-moment.best c.loop-moment.invariant.2 c.in-Some.ensures.steps)

pub loop-moment-preserved : goal.loop-moment-preserved
loop-moment-preserved c = (
  tt,
  tt,
  onward_on c.args.cells.now c.args.throttle.now c.args.t c.args.listed.now.items c.args.listed.now.ready c.args.first c.args.later.now.entries c.loop-moment.moment-iterator
      (c.in-Some.moment.now, c.in-Some.groups.now) _ c.loop-moment.best _ c.loop-moment.invariant.2 c.in-Some.ensures.steps c.look_all-best.ensures.further
      (subst (λ (gs : List Group). CoversAll c.args.cells.now c.args.throttle.now c.args.listed.now.ready (λ k. is_in k gs ≡ true) c.look_all-best.result) c.set.ensures c.look_all-best.ensures.covers),
)

pub returns-clause-further : goal.returns-clause-further
returns-clause-further c = c.loop-moment.invariant.2.further

pub returns-clause-covers : goal.returns-clause-covers
returns-clause-covers c =
    onward_done c.args.cells.now c.args.throttle.now c.args.t c.args.listed.now.items c.args.listed.now.ready c.args.first c.args.later.now.entries c.loop-moment.moment-iterator c.loop-moment.best
    c.loop-moment.invariant.2 c.in-None.ensures.steps.0

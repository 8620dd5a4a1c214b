use Rattle.std.proofs.Common.{None, List, ◌∙◌, ap, subst}
use Rattle.kinds.specs.Queue.{moment_of, sooner}
use Rattle.kinds.specs.declared.store.Item.{Item}
use Rattle.std.specs.Map.{values_of}
use Rattle.ready_queue.proofs.ScanLemmas.{IsNext, next_start, next_on, next_end}
use Rattle.ready_queue.proofs.store.Store.next.Goals as goal

pub loop-item-init : goal.loop-item-init
loop-item-init c = (
  tt,
  tt,
  subst (λ (all : List Item). IsNext c.args.cells.now c.args.throttle.now c.args.t all c.into_iter-item-iterator.result None) c.self.view_is
      (next_start c.args.cells.now c.args.throttle.now c.args.t (values_of c.self.inside.items.entries) _ (c.into_iter-item-iterator.ensures.into_iter_gives ∙ c.values-item-items.ensures.rest) c.self.invariant.starts),
)

pub loop-item-preserved : goal.loop-item-preserved
loop-item-preserved c = (
  tt,
  tt,
  next_on c.args.cells.now c.args.throttle.now c.args.t c.args.self.now _ c.in-Some.item.now _ c.loop-item.next c.sooner-next.result c.loop-item.invariant.2 c.in-Some.ensures.steps
      (c.sooner-next.ensures ∙ ap (sooner c.loop-item.next) (c.moment_of.ensures ∙ ap (moment_of c.args.cells.now c.args.throttle.now c.args.t) c.item.ensures)),
)

pub returns : goal.returns
returns c = next_end c.args.cells.now c.args.throttle.now c.args.t c.args.self.now _ c.loop-item.next c.loop-item.invariant.2 c.in-None.ensures.steps.0

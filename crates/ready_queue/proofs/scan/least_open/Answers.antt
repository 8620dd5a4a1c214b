use Rattle.std.proofs.Common.{◌∙◌, subst}
use Rattle.std.specs.BTreeMap.{values}
use Rattle.kinds.specs.Queue.{is_admissible}
use Rattle.ready_queue.specs.Heads.{IsStep, leads}
use Rattle.ready_queue.proofs.ScanLemmas.{walking_start, walking_on, walking_end}
use Rattle.ready_queue.proofs.scan.least_open.Goals as goal

pub loop-item-init : goal.loop-item-init
loop-item-init g c = (
  tt,
  tt,
  walking_start (leads c.args.t (values c.args.items.now)) (is_admissible (g.G.Gate.is_open c.args.gate.now c.args.t) c.args.t) (values c.args.items.now) _ c.args.steps.now
      (c.into_iter-item-iterator.ensures.into_iter_gives ∙ c.values-item-items.ensures.rest) c.requires.starts,
)

pub loop-item-preserved : goal.loop-item-preserved
loop-item-preserved g c = (
  tt,
  tt,
  walking_on (leads c.args.t (values c.args.items.now)) (is_admissible (g.G.Gate.is_open c.args.gate.now c.args.t) c.args.t) (values c.args.items.now) _ c.in-Some.item.now _ c.loop-item.best c.step-best.result c.args.steps.now
      c.loop-item.steps c.step-best.new.steps c.loop-item.invariant.2 c.in-Some.ensures.steps
      (subst (λ i. IsStep (leads c.args.t (values c.args.items.now)) (is_admissible (g.G.Gate.is_open c.args.gate.now c.args.t) c.args.t) i c.loop-item.best c.step-best.result c.loop-item.steps c.step-best.new.steps) c.item.ensures c.step-best.ensures),
)

pub returns-clause-least : goal.returns-clause-least
returns-clause-least g c =
    (walking_end (leads c.args.t (values c.args.items.now)) (is_admissible (g.G.Gate.is_open c.args.gate.now c.args.t) c.args.t) (values c.args.items.now) _ c.loop-item.best c.args.steps.now c.loop-item.steps
    c.loop-item.invariant.2 c.in-None.ensures.steps.0).0

pub returns-clause-asked : goal.returns-clause-asked
returns-clause-asked g c =
    (walking_end (leads c.args.t (values c.args.items.now)) (is_admissible (g.G.Gate.is_open c.args.gate.now c.args.t) c.args.t) (values c.args.items.now) _ c.loop-item.best c.args.steps.now c.loop-item.steps
    c.loop-item.invariant.2 c.in-None.ensures.steps.0).1

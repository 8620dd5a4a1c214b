use Rattle.std.proofs.Common.{Some, sym, ◌∙◌, ap}
use Rattle.std.specs.BTreeMap.{values}
use Rattle.kinds.specs.Queue.{is_admissible}
use Rattle.ready_queue.specs.Heads.{leads}
use Rattle.ready_queue.proofs.ScanLemmas.{step_idle, step_open, step_closed, behind_lesser}
use Rattle.ready_queue.proofs.scan.step.Goals as goal

pub returns-then-has_lesser : goal.returns-then-has_lesser
returns-then-has_lesser g c =
    step_idle (leads c.args.t (values c.args.items.now)) (is_admissible (g.G.Gate.is_open c.args.gate.now c.args.t) c.args.t) c.args.item.now c.args.best c.args.steps.now
    (behind_lesser c.args.t (values c.args.items.now) c.args.item.now (sym c.has_lesser.ensures ∙ c.if-has_lesser.true))

pub returns-then-open : goal.returns-then-open
returns-then-open g c =
    let step = step_open c.args.t (values c.args.items.now) (g.G.Gate.is_open c.args.gate.now c.args.t) c.args.item.now c.args.best c.args.steps.now c.open.new.steps
    c.if-item-t.false (sym c.has_lesser.ensures ∙ c.if-has_lesser.false) c.if-stops.ensures.goes_on
    (ap (g.G.Gate.is_open c.args.gate.now c.args.t c.args.item.now.cells) (sym c.start_of.ensures) ∙ sym c.open.ensures.told ∙ c.if-open.true) c.open.ensures.asked in
    (ap Some c.rank_of.ensures ∙ step.0, step.1)

pub returns-else-open : goal.returns-else-open
returns-else-open g c =
    step_closed c.args.t (values c.args.items.now) (g.G.Gate.is_open c.args.gate.now c.args.t) c.args.item.now c.args.best c.args.steps.now c.open.new.steps
    c.if-item-t.false (sym c.has_lesser.ensures ∙ c.if-has_lesser.false)
    (ap (g.G.Gate.is_open c.args.gate.now c.args.t c.args.item.now.cells) (sym c.start_of.ensures) ∙ sym c.open.ensures.told ∙ c.if-open.false) c.open.ensures.asked

use Rattle.std.proofs.Common.{ℕ, sym, ◌∙◌}
use Rattle.ready_queue.specs.Opens.{opens}
use Rattle.ready_queue.proofs.WalkLemmas.{walking_on, walking_done, walking_stop, fewer}
use Rattle.ready_queue.proofs.walk.least_open.Goals as goal

pub returns-then-stops-clause-least : goal.returns-then-stops-clause-least
returns-then-stops-clause-least g c =
    walking_stop (opens (g.G.Gate.is_open c.args.gate.now c.args.t) c.args.items.now.entries) c.args.keys.now.keys _ _ _ _ c.loop-entry.invariant.2 c.in-Some.ensures.steps (sym c.stops.ensures ∙ c.if-stops.true)

pub loop-entry-preserved : goal.loop-entry-preserved
loop-entry-preserved g c = (
  tt,
  tt,
  walking_on (opens (g.G.Gate.is_open c.args.gate.now c.args.t) c.args.items.now.entries) c.args.keys.now.keys c.loop-entry.best _ _ _ _ c.loop-entry.invariant.2 c.in-Some.ensures.steps c.look-best.ensures.looked,
  fewer c.loop-entry.steps _ _ _ _ _ _ c.loop-entry.invariant.3 c.in-Some.ensures.steps c.look-best.ensures.asked,
)

pub returns-clause-least : goal.returns-clause-least
returns-clause-least g c =
    walking_done (opens (g.G.Gate.is_open c.args.gate.now c.args.t) c.args.items.now.entries) c.args.keys.now.keys c.loop-entry.best _ c.loop-entry.invariant.2 c.in-None.ensures.steps.0

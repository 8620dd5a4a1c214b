use Rattle.std.proofs.Common.{◌∙◌, ap}
use Rattle.ready_queue.specs.Opens.{opens, opens_for}
use Rattle.ready_queue.proofs.walk.is_open.Goals as goal

pub returns-in-Some-clause-told : goal.returns-in-Some-clause-told
unfolding opens
returns-in-Some-clause-told g c =
    c.open.ensures.told
    ∙ ap (g.G.Gate.is_open c.args.gate.now c.args.t c.in-Some.item.now.cells) c.start_of.ensures
    ∙ ap (opens_for (g.G.Gate.is_open c.args.gate.now c.args.t)) c.in-Some.ensures.value

pub returns-in-None-clause-told : goal.returns-in-None-clause-told
unfolding opens
returns-in-None-clause-told g c = ap (opens_for (g.G.Gate.is_open c.args.gate.now c.args.t)) c.in-None.ensures.value

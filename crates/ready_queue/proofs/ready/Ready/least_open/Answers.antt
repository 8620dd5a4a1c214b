use Rattle.std.proofs.Common.{sym, subst}
use Rattle.ready_queue.specs.Held.{Groups, holds, AreOf, HasEach, IsLeastHeld, AreClosed}
use Rattle.ready_queue.proofs.ReadyLemmas.{are_alike, are_shut, least_held, asked_few}
use Rattle.ready_queue.proofs.ready.Ready.least_open.Goals as goal

pub least_open-requires-clause-alike : goal.least_open-requires-clause-alike
least_open-requires-clause-alike g c =
    are_alike (g.G.Gate.is_open c.args.gate.now c.args.t) _ _ _ _ c.self.invariant (subst (λ (r : Groups). AreOf c.args.items.now.entries (holds r.held)) (sym c.self.view_is) c.requires.of)

pub least_open-requires-clause-shut : goal.least_open-requires-clause-shut
least_open-requires-clause-shut g c =
    are_shut (g.G.Gate.is_open c.args.gate.now c.args.t) _ _ _ _ c.self.invariant (subst (λ (r : Groups). AreOf c.args.items.now.entries (holds r.held)) (sym c.self.view_is) c.requires.of) _
    (subst (λ (r : Groups). AreClosed (g.G.Gate.is_open c.args.gate.now c.args.t) r) (sym c.self.view_is) c.requires.closed)

pub returns-clause-least : goal.returns-clause-least
returns-clause-least g c =
    subst (λ (r : Groups). IsLeastHeld (g.G.Gate.is_open c.args.gate.now c.args.t) (holds r.held) c.least_open.result) c.self.view_is
    (least_held (g.G.Gate.is_open c.args.gate.now c.args.t) _ _ _ _ c.self.invariant (subst (λ (r : Groups). AreOf c.args.items.now.entries (holds r.held)) (sym c.self.view_is) c.requires.of) _ c.least_open.ensures.least)

pub returns-clause-asked : goal.returns-clause-asked
returns-clause-asked g c = λ firsts each.
    asked_few _ _ _ firsts _ _ c.self.invariant (subst (λ (r : Groups). HasEach firsts (holds r.held)) (sym c.self.view_is) each) c.least_open.ensures.asked

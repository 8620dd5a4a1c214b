use Rattle.std.proofs.Common.{◌≡◌, ℕ, sym, ◌∙◌, subst, arith}
use Rattle.ready_queue.specs.Different.{HasGroups}
use Rattle.ready_queue.specs.Opens.{opens}
use Rattle.ready_queue.specs.Places.{Indexed, AreShut}
use Rattle.ready_queue.proofs.IndexLemmas.{lead}
use Rattle.ready_queue.proofs.Pigeons.{few_fronts}
use Rattle.ready_queue.proofs.index.Index.least_open.Goals as goal

pub least_open-requires-clause-lead : goal.least_open-requires-clause-lead
least_open-requires-clause-lead g c =
    lead (opens (g.G.Gate.is_open c.args.gate.now c.args.t) c.args.items.now.entries) _ _ _ c.self.invariant c.order.ensures
    (subst (λ (i : Indexed). AreShut (opens (g.G.Gate.is_open c.args.gate.now c.args.t) c.args.items.now.entries) i) (sym c.self.view_is) c.requires.shut)

pub returns-clause-asked : goal.returns-clause-asked
returns-clause-asked g c = λ gs h.
    let groups = subst (λ (i : Indexed). HasGroups gs i.keys) (sym c.self.view_is) h in
    let few = few_fronts _ _ gs c.least_open.ensures.ordered c.order.ensures (λ x place e. let key = c.self.invariant.used x place e in groups x key.0 key.1 key.2) in
    omega (arith, c.least_open.ensures.asked, few)

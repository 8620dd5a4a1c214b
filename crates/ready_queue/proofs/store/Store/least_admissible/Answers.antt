use Rattle.std.proofs.Common.{◌≤◌, ◌+◌, List, ◌∙◌, ap, subst, arith}
use Rattle.std.specs.Map.{values_of}
use Rattle.kinds.specs.Queue.{is_admissible, least_admissible, groups_of}
use Rattle.kinds.specs.declared.store.Item.{Item}
use Rattle.ready_queue.specs.Heads.{second}
use Rattle.ready_queue.proofs.HeadLemmas.{heads_least, heads_few, least_second}
use Rattle.ready_queue.proofs.store.Store.least_admissible.Goals as goal

pub returns-clause-least : goal.returns-clause-least
returns-clause-least g c =
    c.second.ensures
    ∙ ap second (c.least_open.ensures.least ∙ heads_least (g.G.Gate.is_open c.args.gate.now c.args.t) c.args.t (values_of c.self.inside.items.entries))
    ∙ least_second (is_admissible (g.G.Gate.is_open c.args.gate.now c.args.t) c.args.t) (values_of c.self.inside.items.entries)
    ∙ ap (least_admissible (g.G.Gate.is_open c.args.gate.now c.args.t) c.args.t) c.self.view_is

pub returns-clause-asked : goal.returns-clause-asked
returns-clause-asked g c =
    subst (λ (is : List Item). c.least_open.new.steps ≤ c.args.steps.now + groups_of is) c.self.view_is
    (let few = heads_few c.args.t (values_of c.self.inside.items.entries) c.self.invariant.stored.ordered in omega (arith, few, c.least_open.ensures.asked))

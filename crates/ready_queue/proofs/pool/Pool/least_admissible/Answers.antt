use Rattle.std.proofs.Common.{◌≡◌, ◌≤◌, ◌+◌, ℕ, List, true, sym, ◌∙◌, ap, subst}
use Rattle.kinds.specs.Queue.{least_admissible, groups_of, group_firsts}
use Rattle.kinds.specs.declared.store.Item.{Item}
use Rattle.ready_queue.specs.Held.{Group, holds}
use Rattle.ready_queue.specs.Pool.{Pool, IsReady}
use Rattle.ready_queue.proofs.LeastLemmas.{pool_least, each_first, are_of, have_starts}
use Rattle.ready_queue.proofs.ReadyLemmas.{at_itself}
use Rattle.ready_queue.proofs.pool.Pool.least_admissible.Goals as goal

pub least_open-requires-clause-of : goal.least_open-requires-clause-of
least_open-requires-clause-of g c =
    are_of c.map.result.now.entries c.map.ensures.stored (holds c.self.inside.ready.held) c.self.inside.horizon
    (subst (λ (is : List Item). (k : Group) (s n : ℕ) → holds c.self.inside.ready.held k s n ≡ true → IsReady is c.self.inside.horizon k s n) (sym c.map.ensures.values) c.self.invariant.ready)

pub least_open-requires-clause-starts : goal.least_open-requires-clause-starts
least_open-requires-clause-starts g c = have_starts c.map.result.now.entries c.map.ensures.stored

pub returns-then-t-self-clause-least : goal.returns-then-t-self-clause-least
returns-then-t-self-clause-least g c =
    c.second.ensures
    ∙ pool_least (g.G.Gate.is_open c.args.gate.now c.args.t) c.args.t c.map.result.now.entries c.self.inside.store (holds c.self.inside.ready.held) c.self.inside.waiting.keys c.self.inside.horizon c.self.inside.clear c.least_open.result
    c.map.ensures.stored c.map.ensures.values c.self.invariant c.if-self-t.true c.if-t-self.true c.least_open.ensures.least
    ∙ ap (λ (q : Pool). least_admissible (g.G.Gate.is_open c.args.gate.now c.args.t) c.args.t q.items) c.self.view_is

pub returns-then-t-self-clause-asked : goal.returns-then-t-self-clause-asked
returns-then-t-self-clause-asked g c =
    subst (λ (q : Pool). c.least_open.new.steps ≤ c.args.steps.now + groups_of q.items) c.self.view_is
    (c.least_open.ensures.asked (group_firsts c.self.inside.store) (each_first c.self.inside.store (holds c.self.inside.ready.held) c.self.inside.horizon at_itself c.self.invariant.ready))

use Rattle.std.proofs.Common.{◌≡◌, ℕ, None, false, sym, subst}
use Rattle.std.specs.Option.{IfSome, IfNone}
use Rattle.ready_queue.specs.Front.{IsFrontAt}
use Rattle.ready_queue.specs.Keys.{has}
use Rattle.ready_queue.specs.Places.{Indexed, place_at}
use Rattle.ready_queue.proofs.AheadLemmas.{no_fronts, is_placed, front_at, front_there}
use Rattle.ready_queue.proofs.index.Index.front.Goals as goal

pub returns-in_default-clause-none : goal.returns-in_default-clause-none
returns-in_default-clause-none c =
    subst (λ (i : Indexed). (g : ℕ) → place_at g i.places ≡ None) c.self.view_is (no_fronts _ _ c.in_default.ensures.variant.1 c.order.ensures)

pub returns-clause-some : goal.returns-clause-some
unfolding has
returns-clause-some c =
    front_at c.args.self.now c.in-Some.first.now.2 c.head.result
    (subst (λ (i : Indexed). place_at c.in-Some.first.now.2 i.places ≡ None → ⊥) c.self.view_is (is_placed _ _ _ _ _ c.order.ensures c.in-Some.ensures.member)) c.head.ensures.some

pub returns-clause-none : goal.returns-clause-none
unfolding has
returns-clause-none c =
    subst (λ (i : Indexed). IfNone c.head.result ((g : ℕ) → place_at g i.places ≡ None)) c.self.view_is
    (front_there (record { keys = c.self.inside.keys.keys; places = c.self.inside.fronts }) c.in-Some.first.now.2 c.head.result c.self.invariant (is_placed _ _ _ _ _ c.order.ensures c.in-Some.ensures.member)
    (subst (λ (i : Indexed). IfNone c.head.result ((s n : ℕ) → has i.keys c.in-Some.first.now.2 s n ≡ false)) (sym c.self.view_is) c.head.ensures.none))

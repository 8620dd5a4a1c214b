use Rattle.std.proofs.Common.{◌≡◌, ℕ, List, Some, subst}
use Rattle.ready_queue.specs.Held.{Group}
use Rattle.ready_queue.specs.Parking.{Parking, at_moment, IsFirst}
use Rattle.ready_queue.proofs.ParkLemmas.{first_least, bound_least, none_there}
use Rattle.ready_queue.proofs.parking.ParkingQueue.first_moment.Goals as goal

pub returns-in_default-clause-none : goal.returns-in_default-clause-none
returns-in_default-clause-none c =
    subst (λ (q : Parking). (m : ℕ) (gs : List Group) → at_moment m q.later ≡ Some gs → ⊥) c.self.view_is (none_there _ c.in_default.ensures.variant.1)

pub returns-clause-least : goal.returns-clause-least
returns-clause-least c =
    subst (λ (q : Parking). IsFirst c.in-Some.moment.now q.later) c.self.view_is
    (first_least _ _ _ c.in-Some.ensures.value (bound_least _ _ c.in-Some.ensures.least))

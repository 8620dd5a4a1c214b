use Rattle.std.proofs.Common.{◌≡◌, ◌∙◌, ℕ, List, refl, sym, ap, subst}
use Rattle.std.specs.Ordering.{nat_cmp}
use Rattle.ready_queue.specs.Held.{Group}
use Rattle.ready_queue.specs.Parking.{Parking, IsShut, IsHeldTill, HavePlaces, Gains}
use Rattle.ready_queue.proofs.ParkLemmas.{places_till, shut_till, shut_same}
use Rattle.ready_queue.proofs.parking.ParkingQueue.park_till.Goals as goal

pub invariant_of-self : goal.invariant_of-self
invariant_of-self c = subst (λ (l : List (ℕ × List Group)). HavePlaces c.self.inside.listed.ready c.self.inside.full.entries l) (sym c.in_err-put_till.ensures.err) c.self.invariant

pub returns-in_err-put_till-clause-shut : goal.returns-in_err-put_till-clause-shut
returns-in_err-put_till-clause-shut c = shut_same _ _ _ _ _ (subst (λ (q : Parking). IsShut q c.args.cells.now c.args.throttle.now c.args.t) (sym c.self.view_is) c.requires) refl c.in_err-put_till.ensures.err

pub invariant_of-self-2 : goal.invariant_of-self-2
invariant_of-self-2 c =
    places_till c.in-Some-held_till.moment c.in_ok-group.group _ _ _ _ _ c.self.invariant c.park.ensures.parked
    (subst (λ (k : Group). Gains nat_cmp c.in-Some-held_till.moment k c.self.inside.later.entries c.put_till.new.later.entries) c.in_ok-copy.ensures c.in_ok-put_till.ensures.ok)

pub returns-clause-shut : goal.returns-clause-shut
returns-clause-shut c =
    shut_till _ _ _ c.in-Some-held_till.moment c.in_ok-group.group _ _ (subst (λ (q : Parking). IsShut q c.args.cells.now c.args.throttle.now c.args.t) (sym c.self.view_is) c.requires) refl
    (subst (λ (k : Group). Gains nat_cmp c.in-Some-held_till.moment k c.self.inside.later.entries c.put_till.new.later.entries) c.in_ok-copy.ensures c.in_ok-put_till.ensures.ok)
    (subst (IsHeldTill c.args.throttle.now c.in-Some-held_till.moment) (sym c.in_ok-group.ensures) (c.in-Some-held_till.ensures.held c.in-Some.item.now.cells))
    c.in-Some-held_till.ensures.coming

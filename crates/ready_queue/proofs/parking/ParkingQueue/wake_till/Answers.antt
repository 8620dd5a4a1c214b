use Rattle.std.proofs.Common.{◌≡◌, ◌<◌, length, ◌∙◌, [], List, None, refl, sym, ap, subst}
use Rattle.std.specs.Ordering.{nat_cmp}
use Rattle.ready_queue.specs.Held.{Group}
use Rattle.ready_queue.specs.Parking.{Parking, at_moment, AreAmong, ParksFewer, Loses}
use Rattle.ready_queue.proofs.ParkLemmas.{places_fewer, places_woken_till, fewer_self, fewer_same, fewer_till, shorter}
use Rattle.ready_queue.proofs.parking.ParkingQueue.wake_till.Goals as goal

pub returns-in_default-clause-ok : goal.returns-in_default-clause-ok
returns-in_default-clause-ok c = absurd (c.requires (ap (λ (q : Parking). at_moment c.args.moment q.later) (sym c.self.view_is) ∙ sym c.in_default.ensures.value))

pub returns-in_default-clause-fewer : goal.returns-in_default-clause-fewer
returns-in_default-clause-fewer c = fewer_self _

pub invariant_of-self : goal.invariant_of-self
invariant_of-self c = places_fewer _ _ _ _ c.self.invariant c.unpark_all.ensures.fewer

pub invariant_of-self-2 : goal.invariant_of-self-2
unfolding Loses
invariant_of-self-2 c =
    places_woken_till c.args.moment c.in-Some.groups.now _ _ _ _ _ c.self.invariant c.unpark_all.ensures.fewer (sym c.in-Some.ensures.value)
    (subst (λ (gs : List Group). AreAmong c.unpark_all.new.listed.ready gs []) c.set.ensures c.in_ok-unpark_all.ensures.ok) c.remove.ensures.updates.0

pub returns-clause-ok : goal.returns-clause-ok
returns-clause-ok c =
    subst (λ (q : Parking). length c.remove.new.self.entries < length q.later) c.self.view_is
    (shorter _ _ _ c.in-Some.groups.now (c.remove.ensures.value ∙ sym c.in-Some.ensures.value) c.remove.ensures.len)

pub returns-clause-fewer : goal.returns-clause-fewer
unfolding Loses
returns-clause-fewer c =
    subst (λ (q : Parking). ParksFewer q (record { items = c.unpark_all.new.listed.items; full = c.self.inside.full.entries; later = c.remove.new.self.entries })) c.self.view_is
    (fewer_till c.args.moment _ _ c.remove.ensures.updates.0 refl)

use Rattle.std.proofs.Common.{◌∙◌, sym, ap, subst}
use Rattle.kinds.specs.Queue.{next_item}
use Rattle.ready_queue.specs.Parking.{Parking, IsShut}
use Rattle.ready_queue.proofs.AheadLemmas.{next_parked, held_of}
use Rattle.ready_queue.proofs.parking.ParkingQueue.next.Goals as goal

pub least_parked-requires-clause-held : goal.least_parked-requires-clause-held
least_parked-requires-clause-held c = held_of _ _ _ _ (subst (λ (q : Parking). IsShut q c.args.cells.now c.args.throttle.now c.args.t) (sym c.self.view_is) c.requires.shut)

pub least_parked-requires-clause-due : goal.least_parked-requires-clause-due
least_parked-requires-clause-due c = c.in-Some.ensures.ripe.due

pub returns-in-Some : goal.returns-in-Some
returns-in-Some c =
    next_parked _ _ _ _ _ (record { items = c.self.inside.listed.items; full = c.self.inside.full.entries; later = c.self.inside.later.entries }) _ _ c.in-Some.ensures.ripe c.in-Some.ensures.parked c.self.invariant
    (subst (λ (q : Parking). IsShut q c.args.cells.now c.args.throttle.now c.args.t) (sym c.self.view_is) c.requires.shut) c.least_parked.ensures.further c.least_parked.ensures.covers
    ∙ ap (λ (q : Parking). next_item c.args.cells.now c.args.throttle.now c.args.t q.items) c.self.view_is

use Rattle.std.proofs.Common.{sym, subst}
use Rattle.ready_queue.specs.Parking.{Parking, IsShut}
use Rattle.ready_queue.proofs.ParkLemmas.{closed}
use Rattle.ready_queue.proofs.parking.ParkingQueue.least.Goals as goal

pub least_admissible-requires-clause-closed : goal.least_admissible-requires-clause-closed
least_admissible-requires-clause-closed g c =
    closed _ (record { items = c.self.inside.listed.items; full = c.self.inside.full.entries; later = c.self.inside.later.entries }) c.args.cells.now c.args.throttle.now c.args.t c.self.invariant
    (subst (λ (q : Parking). IsShut q c.args.cells.now c.args.throttle.now c.args.t) (sym c.self.view_is) c.requires.shut)

use Rattle.std.proofs.Common.{[], List, sym, subst}
use Rattle.kinds.specs.Cells.{cell_cmp}
use Rattle.ready_queue.specs.Held.{Group}
use Rattle.ready_queue.specs.Parking.{Parking, Loses, AreAmong}
use Rattle.ready_queue.proofs.ParkLemmas.{places_fewer, places_woken_at, loses_none, cells_tied}
use Rattle.ready_queue.proofs.parking.ParkingQueue.wake_at.Goals as goal

pub returns-in_default-clause-ok : goal.returns-in_default-clause-ok
returns-in_default-clause-ok c =
    subst (λ (q : Parking). Loses cell_cmp c.args.cell.now q.full q.full) c.self.view_is (loses_none cell_cmp cells_tied c.args.cell.now _ (sym c.in_default.ensures.value))

pub invariant_of-self : goal.invariant_of-self
invariant_of-self c = places_fewer _ _ _ _ c.self.invariant c.unpark_all.ensures.fewer

pub invariant_of-self-2 : goal.invariant_of-self-2
unfolding Loses
invariant_of-self-2 c =
    places_woken_at c.args.cell.now c.in-Some.groups.now _ _ _ _ _ c.self.invariant c.unpark_all.ensures.fewer (sym c.in-Some.ensures.value)
    (subst (λ (gs : List Group). AreAmong c.unpark_all.new.listed.ready gs []) c.set.ensures c.in_ok-unpark_all.ensures.ok) c.remove.ensures.updates.0

pub returns-clause-ok : goal.returns-clause-ok
unfolding Loses
returns-clause-ok c = subst (λ (q : Parking). Loses cell_cmp c.args.cell.now q.full c.remove.new.self.entries) c.self.view_is c.remove.ensures.updates.0

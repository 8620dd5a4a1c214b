use Rattle.std.proofs.Common.{◌≡◌, ◌∙◌, List, refl, sym, ap, subst}
use Rattle.std.specs.List.{find}
use Rattle.kinds.specs.Cells.{cell_cmp, is_full}
use Rattle.kinds.specs.declared.cell.Cell.{Cell}
use Rattle.ready_queue.specs.Held.{Group}
use Rattle.ready_queue.specs.Parking.{Parking, IsShut, IsFullFor, HavePlaces, Gains}
use Rattle.ready_queue.proofs.ParkLemmas.{places_at, shut_at, shut_same, full_for}
use Rattle.ready_queue.proofs.parking.ParkingQueue.park_at.Goals as goal

pub invariant_of-self : goal.invariant_of-self
invariant_of-self c = subst (λ (f : List (Cell × List Group)). HavePlaces c.self.inside.listed.ready f c.self.inside.later.entries) (sym c.in_err-put_at.ensures.err) c.self.invariant

pub returns-in_err-put_at-clause-shut : goal.returns-in_err-put_at-clause-shut
returns-in_err-put_at-clause-shut c = shut_same _ _ _ _ _ (subst (λ (q : Parking). IsShut q c.args.cells.now c.args.throttle.now c.args.t) (sym c.self.view_is) c.requires) c.in_err-put_at.ensures.err refl

pub invariant_of-self-2 : goal.invariant_of-self-2
invariant_of-self-2 c =
    places_at c.in-Some-full_limit.limit.now.cell c.in_ok-group.group _ _ _ _ _ c.self.invariant c.park.ensures.parked
    (subst (λ (k : Group). Gains cell_cmp c.in-Some-full_limit.limit.now.cell k c.self.inside.full.entries c.put_at.new.full.entries) c.in_ok-copy.ensures c.in_ok-put_at.ensures.ok)

pub returns-clause-shut : goal.returns-clause-shut
returns-clause-shut c =
    shut_at _ _ _ c.in-Some-full_limit.limit.now.cell c.in_ok-group.group _ _ (subst (λ (q : Parking). IsShut q c.args.cells.now c.args.throttle.now c.args.t) (sym c.self.view_is) c.requires) refl
    (subst (λ (k : Group). Gains cell_cmp c.in-Some-full_limit.limit.now.cell k c.self.inside.full.entries c.put_at.new.full.entries) c.in_ok-copy.ensures c.in_ok-put_at.ensures.ok)
    (subst (IsFullFor c.args.cells.now c.in-Some-full_limit.limit.now.cell) (sym c.in_ok-group.ensures)
    (full_for c.args.cells.now c.in-Some.item.now.cells c.in-Some-full_limit.limit.now (ap (find (is_full c.args.cells.now)) (sym c.as_slice.ensures) ∙ sym c.in-Some-full_limit.ensures)))

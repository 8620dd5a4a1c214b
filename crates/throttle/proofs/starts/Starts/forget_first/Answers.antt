use Rattle.std.proofs.Common.{◌<◌, length, sym, ap, ◌∙◌, subst, is_some}
use Rattle.kinds.specs.Cells.{later_starts}
use Rattle.throttle.specs.Places.{entries_of}
use Rattle.throttle.proofs.PlaceLemmas.{indexed_left, place_gone, all_later, none_held, not_later, later_than}
use Rattle.throttle.proofs.starts.Starts.forget_first.Goals as goal

pub returns-in_default-clause-rest : goal.returns-in_default-clause-rest
returns-in_default-clause-rest c = λ _.
    sym c.self.view_is
    ∙ all_later c.args.moment _ _ _ c.self.invariant (λ p e h. absurd (none_held c.self.inside.entries.entries c.in_default.ensures.variant.1 p e h))
    ∙ ap (later_starts c.args.moment) c.self.view_is

pub returns-then-moment-place-clause-rest : goal.returns-then-moment-place-clause-rest
returns-then-moment-place-clause-rest c = λ _.
    sym c.self.view_is
    ∙ all_later c.args.moment _ _ _ c.self.invariant (λ p e h. later_than c.args.moment c.in-Some.place.now p c.if-moment-place.true (c.in-Some.ensures.least p (ap is_some h)))
    ∙ ap (later_starts c.args.moment) c.self.view_is

pub invariant_of-self : goal.invariant_of-self
invariant_of-self c =
    indexed_left _ _ _ _ _ c.self.invariant c.in-Some.entry.now.cell c.in-Some.place.now (c.self.invariant.linked.placed c.in-Some.place.now c.in-Some.entry.now c.in-Some.ensures.value)
    c.remove.ensures.updates.0 c.remove.ensures.ordered c.leave.ensures

pub returns-clause-later : goal.returns-clause-later
returns-clause-later c =
    ap (λ r. later_starts c.args.moment (entries_of r)) c.remove.ensures.entries
    ∙ (place_gone _ c.args.moment c.in-Some.place.now c.self.inside.places.entries (c.self.invariant.linked.placed c.in-Some.place.now c.in-Some.entry.now c.in-Some.ensures.value) (not_later c.args.moment c.in-Some.place.now.0 c.if-moment-place.false)).0
    ∙ ap (later_starts c.args.moment) c.self.view_is

pub returns-clause-fewer : goal.returns-clause-fewer
returns-clause-fewer c = λ _.
    subst (λ es. length (entries_of c.remove.new.self.entries) < length es) c.self.view_is
    (subst (λ r. length (entries_of r) < length (entries_of c.self.inside.places.entries)) (sym c.remove.ensures.entries)
    (place_gone _ c.args.moment c.in-Some.place.now c.self.inside.places.entries (c.self.invariant.linked.placed c.in-Some.place.now c.in-Some.entry.now c.in-Some.ensures.value) (not_later c.args.moment c.in-Some.place.now.0 c.if-moment-place.false)).1)

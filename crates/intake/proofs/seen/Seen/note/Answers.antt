use Rattle.std.proofs.Common.{◌≡◌, ℕ, List, None, true, length, sym, ◌∙◌, ap, arith, subst}
use Rattle.std.specs.List.{find}
use Rattle.kinds.specs.declared.seen.SeenEntry.{SeenEntry}
use Rattle.kinds.specs.Seen.{has_id, note_seen}
use Rattle.intake.specs.Number.{has_number}
use Rattle.intake.specs.Places.{is_of}
use Rattle.intake.proofs.seen.Seen.note.Goals as goal
use Rattle.intake.proofs.Ids.{grown_by, seen_added, seen_replaced}

abbrev noted : List ℕ → ℕ → ℕ → SeenEntry
noted id number moment = record { id = id; number = number; moment = moment }

pub invariant_of-self-in-Some : goal.invariant_of-self-in-Some
invariant_of-self-in-Some c =
    (seen_replaced (noted c.in_ok-from_slice.field-0 c.args.number c.args.moment) c.self.inside.placed c.add.new.self c.discard.new.self
    c.self.inside.weight c.in-Some.old c.self.invariant c.in_ok-add.ensures.ordered (ap (find (has_number c.args.number)) c.self.view_is ∙ c.requires.fresh)
    (subst (λ (i : List ℕ). is_of i (find (has_number c.in-Some.old) c.self.inside.placed) ≡ true) (sym c.in_ok-from_slice.ensures) c.in-Some.ensures)
    c.in_ok-add.ensures.ok c.discard.ensures).1

pub invariant_of-self-in-None : goal.invariant_of-self-in-None
invariant_of-self-in-None c =
    let size = ap length c.in_ok-from_slice.ensures in
    let grown = grown_by c.checked_add.result c.in_ok-grown.grown _ _ c.checked_add.ensures c.in_ok-grown.ensures.ok_part in
    (seen_added (noted c.in_ok-from_slice.field-0 c.args.number c.args.moment) c.self.inside.placed c.add.new.self
    c.self.inside.weight c.in_ok-grown.grown c.self.invariant
    (subst (λ (i : List ℕ). find (has_id i) c.self.inside.placed ≡ None) (sym c.in_ok-from_slice.ensures) c.in-None.ensures)
    c.in_ok-add.ensures.ok (omega (arith, size, grown))).1

pub returns-in-Some-clause-ok : goal.returns-in-Some-clause-ok
returns-in-Some-clause-ok c =
    (seen_replaced (noted c.in_ok-from_slice.field-0 c.args.number c.args.moment) c.self.inside.placed c.add.new.self c.discard.new.self
    c.self.inside.weight c.in-Some.old c.self.invariant c.in_ok-add.ensures.ordered (ap (find (has_number c.args.number)) c.self.view_is ∙ c.requires.fresh)
    (subst (λ (i : List ℕ). is_of i (find (has_number c.in-Some.old) c.self.inside.placed) ≡ true) (sym c.in_ok-from_slice.ensures) c.in-Some.ensures)
    c.in_ok-add.ensures.ok c.discard.ensures).0
    ∙ ap (λ i. note_seen (noted i c.args.number c.args.moment) c.self.inside.placed) c.in_ok-from_slice.ensures
    ∙ ap (note_seen (noted c.args.id.now c.args.number c.args.moment)) c.self.view_is

pub returns-in-None-clause-ok : goal.returns-in-None-clause-ok
returns-in-None-clause-ok c =
    let size = ap length c.in_ok-from_slice.ensures in
    let grown = grown_by c.checked_add.result c.in_ok-grown.grown _ _ c.checked_add.ensures c.in_ok-grown.ensures.ok_part in
    (seen_added (noted c.in_ok-from_slice.field-0 c.args.number c.args.moment) c.self.inside.placed c.add.new.self
    c.self.inside.weight c.in_ok-grown.grown c.self.invariant
    (subst (λ (i : List ℕ). find (has_id i) c.self.inside.placed ≡ None) (sym c.in_ok-from_slice.ensures) c.in-None.ensures)
    c.in_ok-add.ensures.ok (omega (arith, size, grown))).0
    ∙ ap (λ i. note_seen (noted i c.args.number c.args.moment) c.self.inside.placed) c.in_ok-from_slice.ensures
    ∙ ap (note_seen (noted c.args.id.now c.args.number c.args.moment)) c.self.view_is

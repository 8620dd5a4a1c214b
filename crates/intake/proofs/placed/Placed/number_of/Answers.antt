use Rattle.std.proofs.Common.{◌≡◌, true, sym, ◌∙◌, ap, subst, List}
use Rattle.std.specs.List.{find}
use Rattle.kinds.specs.declared.seen.SeenEntry.{SeenEntry}
use Rattle.kinds.specs.Seen.{has_id}
use Rattle.intake.specs.Number.{has_number}
use Rattle.intake.specs.Places.{digest, is_of}
use Rattle.intake.proofs.Placing.{no_passing_place, none_with_id, passing_place}
use Rattle.intake.proofs.placed.Placed.number_of.Goals as goal

pub returns-in_default : goal.returns-in_default
returns-in_default c =
    let id = c.args.id.now in
    let es : List SeenEntry = c.self.inside.timeline in
    sym (ap (find (has_id id)) c.self.view_is)
    ∙ none_with_id id es c.self.inside.places.keys c.self.invariant c.order.ensures
    (no_passing_place (λ n. is_of id (find (has_number n) es)) (digest id) c.self.inside.places.keys (sym c.in_default.ensures))

pub returns : goal.returns
returns c =
    let id = c.args.id.now in
    let es : List SeenEntry = c.self.inside.timeline in
    subst (λ (xs : List SeenEntry). is_of id (find (has_number c.in-Some.place.now.1) xs) ≡ true) c.self.view_is
    (passing_place (λ n. is_of id (find (has_number n) es)) (digest id) c.self.inside.places.keys c.in-Some.place.now (sym c.in-Some.ensures)).1

use Rattle.std.proofs.Common.{◌∙◌, sym, subst}
use Rattle.lists.specs.Entries.{has}
use Rattle.lists.proofs.Keyed.{filter_none}
use Rattle.matching.specs.Places.{place_of, place_cmp}
use Rattle.ordered.specs.Indexes.{IsListed}
use Rattle.ordered.proofs.Listed.{listed_removed}
use Rattle.matching.proofs.Fields.{place_total}
use Rattle.matching.proofs.index.Index.drop_number.Goals as goal

pub invariant_of-self : goal.invariant_of-self
invariant_of-self g c =
    listed_removed place_total (λ e. place_of (g.E.Conditional.condition_of e)) g.E.Ranked.number_of _ c.args.number c.in-Some.entry _ _ _ _ c.self.invariant (sym c.in-Some.ensures.value) c.into_place.ensures c.remove.ensures.left c.remove-in-Some.ensures.updates.0

pub invariant_of-self-in_default : goal.invariant_of-self-in_default
invariant_of-self-in_default g c =
    subst (λ es. IsListed place_cmp (λ e. place_of (g.E.Conditional.condition_of e)) g.E.Ranked.number_of es c.self.inside.places.keys) (sym (c.remove.ensures.left ∙ filter_none (has g.E.Ranked.number_of c.args.number) _ (sym c.in_default.ensures.value))) c.self.invariant

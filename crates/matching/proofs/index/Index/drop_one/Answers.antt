use Rattle.std.proofs.Common.{◌∙◌, sym, ap}
use Rattle.std.specs.List.{find}
use Rattle.lists.specs.Entries.{has, without}
use Rattle.matching.specs.Places.{place_of}
use Rattle.ordered.proofs.Listed.{listed_removed}
use Rattle.matching.proofs.Fields.{place_total}
use Rattle.matching.proofs.index.Index.drop_one.Goals as goal

pub invariant_of-self : goal.invariant_of-self
invariant_of-self g c =
    listed_removed place_total (λ e. place_of (g.E.Conditional.condition_of e)) g.E.Ranked.number_of _ _ c.in-Some.entry _ _ _ _ c.self.invariant
    (ap (λ n. find (has g.E.Ranked.number_of n) c.self.inside.entries) c.number-number.ensures ∙ c.in-Some.ensures.one.held) c.into_place.ensures
    (c.in-Some.ensures.one.left ∙ ap (λ n. without g.E.Ranked.number_of n c.self.inside.entries) (sym c.number-number.ensures)) c.remove.ensures.updates.0

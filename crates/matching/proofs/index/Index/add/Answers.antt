use Rattle.std.proofs.Common.{◌∙◌, sym, ap, subst}
use Rattle.std.specs.List.{find}
use Rattle.lists.specs.Entries.{has, insert_by}
use Rattle.matching.specs.Places.{place_of, place_cmp}
use Rattle.ordered.specs.Indexes.{IsListed}
use Rattle.ordered.proofs.Listed.{listed_put}
use Rattle.matching.proofs.Fields.{place_total}
use Rattle.matching.proofs.Held.{put_undone, insert_in-by}
use Rattle.matching.proofs.index.Index.add.Goals as goal

pub invariant_of-self-in-Ok : goal.invariant_of-self-in-Ok
invariant_of-self-in-Ok g c =
    listed_put place_total (λ e. place_of (g.E.Conditional.condition_of e)) g.E.Ranked.number_of g.E.Ranked.rank_of c.args.entry _ _ _ _ _ _ c.self.invariant c.in_ok-place.ensures c.number-number.ensures
    (ap (find (has g.E.Ranked.number_of (g.E.Ranked.number_of c.args.entry))) c.self.view_is ∙ c.requires.new) c.in_ok-put.ensures.ok c.in-Ok.ensures.updates.0

pub invariant_of-self-in-Err : goal.invariant_of-self-in-Err
invariant_of-self-in-Err g c =
    subst (λ ks. IsListed place_cmp (λ e. place_of (g.E.Conditional.condition_of e)) g.E.Ranked.number_of c.drop_number.new.self ks) (sym c.in-Err.ensures.err)
    (subst (λ es. IsListed place_cmp (λ e. place_of (g.E.Conditional.condition_of e)) g.E.Ranked.number_of es c.self.inside.places.keys)
    (sym (put_undone g.E.Ranked.rank_of g.E.Ranked.number_of c.args.entry _ _ _ _ c.number-number.ensures (ap (find (has g.E.Ranked.number_of (g.E.Ranked.number_of c.args.entry))) c.self.view_is ∙ c.requires.new) c.in_ok-put.ensures.ok c.drop_number.ensures))
    c.self.invariant)

pub returns-in-Err-clause-err : goal.returns-in-Err-clause-err
returns-in-Err-clause-err g c =
    put_undone g.E.Ranked.rank_of g.E.Ranked.number_of c.args.entry _ _ _ _ c.number-number.ensures (ap (find (has g.E.Ranked.number_of (g.E.Ranked.number_of c.args.entry))) c.self.view_is ∙ c.requires.new) c.in_ok-put.ensures.ok c.drop_number.ensures ∙ c.self.view_is

pub returns-clause-ok : goal.returns-clause-ok
returns-clause-ok g c =
    c.in_ok-put.ensures.ok ∙ insert_in-by g.E.Ranked.rank_of g.E.Ranked.number_of g.met.E.Conditional.by_number c.args.entry _
    ∙ ap (insert_by g.E.Ranked.number_of c.args.entry) c.self.view_is

use Rattle.std.proofs.lemmas.Cmp.{nat_cmp_total}
use Rattle.std.proofs.Common.{◌∙◌, ap}
use Rattle.std.specs.List.{find}
use Rattle.lists.specs.Entries.{has}
use Rattle.ordered.proofs.store.Ordered.put.Goals as goal
use Rattle.ordered.proofs.Listed.{listed_put, listed_back}

pub invariant_of-self-in-Ok : goal.invariant_of-self-in-Ok
invariant_of-self-in-Ok g c =
    listed_put nat_cmp_total _ _ g.E.Ranked.rank_of c.args.entry _ _ _ _ _ _ c.self.invariant c.run.ensures c.number.ensures (ap (find (has g.E.Ranked.number_of (g.E.Ranked.number_of c.args.entry))) c.self.view_is ∙ c.requires) c.in-Ok.ensures.ok c.in_ok-insert.ensures.updates.0

pub invariant_of-self-in-Err : goal.invariant_of-self-in-Err
invariant_of-self-in-Err g c =
    listed_back nat_cmp_total g.E.OfRun.run_of g.E.Ranked.number_of c.run.result c.number.result c.self.inside.numbered _ _ _ _ c.self.invariant
    (ap (λ n. find (has g.E.Ranked.number_of n) c.self.inside.numbered) c.number.ensures ∙ ap (find (has g.E.Ranked.number_of (g.E.Ranked.number_of c.args.entry))) c.self.view_is ∙ c.requires) c.in-Err.ensures.err c.in_ok-insert.ensures.updates.0 c.remove.ensures.updates.0

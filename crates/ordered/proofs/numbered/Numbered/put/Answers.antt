use Rattle.std.proofs.Common.{◌∙◌, ap}
use Rattle.std.specs.List.{find}
use Rattle.lists.specs.Entries.{has, insert_in}
use Rattle.ordered.proofs.numbered.Numbered.put.Goals as goal
use Rattle.ordered.proofs.Kept.{kept_put}

pub invariant_of-self-in-Ok : goal.invariant_of-self-in-Ok
invariant_of-self-in-Ok g c =
    (kept_put _ _ c.args.entry _ _ _ _ _ _ c.self.invariant c.rank-rank.ensures c.number-number.ensures (ap (find (has g.E.Ranked.number_of (g.E.Ranked.number_of c.args.entry))) c.self.view_is ∙ c.requires) c.in-Ok.ensures.entries c.insert-2.ensures.ordered c.in_ok-insert.ensures.updates.0).1

pub returns-clause-ok : goal.returns-clause-ok
returns-clause-ok g c =
    (kept_put _ _ c.args.entry _ _ _ _ _ _ c.self.invariant c.rank-rank.ensures c.number-number.ensures (ap (find (has g.E.Ranked.number_of (g.E.Ranked.number_of c.args.entry))) c.self.view_is ∙ c.requires) c.in-Ok.ensures.entries c.insert-2.ensures.ordered c.in_ok-insert.ensures.updates.0).0
    ∙ ap (insert_in g.E.Ranked.rank_of g.E.Ranked.number_of c.args.entry) c.self.view_is

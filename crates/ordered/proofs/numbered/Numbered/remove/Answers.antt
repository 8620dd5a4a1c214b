use Rattle.std.proofs.Common.{sym, ◌∙◌, ap}
use Rattle.std.specs.List.{find}
use Rattle.lists.specs.Entries.{has, without}
use Rattle.lists.proofs.Keyed.{filter_none}
use Rattle.ordered.proofs.Apart.{number_tells}
use Rattle.ordered.proofs.Placed.{no_place}
use Rattle.ordered.proofs.numbered.Numbered.remove.Goals as goal
use Rattle.ordered.proofs.Kept.{kept_found, kept_removed}

pub returns-in_err-rank-clause-left : goal.returns-in_err-rank-clause-left
returns-in_err-rank-clause-left g c =
    sym (filter_none (has g.E.Ranked.number_of c.args.number) _ (no_place number_tells g.E.Ranked.number_of g.E.Ranked.rank_of c.args.number _ _ c.self.invariant.placed c.in_err-rank.ensures.value)) ∙ ap (without g.E.Ranked.number_of c.args.number) c.self.view_is

pub invariant_of-self-2 : goal.invariant_of-self-2
invariant_of-self-2 g c = (kept_removed _ _ c.args.number c.in_ok-rank.rank _ _ _ _ c.self.invariant c.in_ok-rank.ensures.value c.remove-2.ensures.entries c.remove-2.ensures.ordered c.remove.ensures.updates.0).1

pub returns-clause-value : goal.returns-clause-value
returns-clause-value g c =
    c.remove-2.ensures.value
    ∙ kept_found _ _ c.args.number c.in_ok-rank.rank _ _ c.self.invariant c.in_ok-rank.ensures.value
    ∙ ap (find (has g.E.Ranked.number_of c.args.number)) c.self.view_is

pub returns-clause-left : goal.returns-clause-left
returns-clause-left g c =
    (kept_removed _ _ c.args.number c.in_ok-rank.rank _ _ _ _ c.self.invariant c.in_ok-rank.ensures.value c.remove-2.ensures.entries c.remove-2.ensures.ordered c.remove.ensures.updates.0).0
    ∙ ap (without g.E.Ranked.number_of c.args.number) c.self.view_is

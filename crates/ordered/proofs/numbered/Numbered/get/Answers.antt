use Rattle.std.proofs.Common.{◌∙◌, sym, ap}
use Rattle.std.specs.List.{find}
use Rattle.lists.specs.Entries.{has}
use Rattle.ordered.proofs.numbered.Numbered.get.Goals as goal
use Rattle.ordered.proofs.Kept.{kept_found}

pub returns : goal.returns
returns g c = c.get-2.ensures.value ∙ kept_found _ _ c.args.number c.in_ok-rank.rank.now _ _ c.self.invariant c.in_ok-rank.ensures.value ∙ ap (find (has g.E.Ranked.number_of c.args.number)) c.self.view_is

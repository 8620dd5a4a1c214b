use Rattle.std.proofs.Common.{◌∙◌}
use Rattle.ordered.proofs.numbered.Numbered.take_due.Goals as goal
use Rattle.ordered.proofs.Least.{nothing_due, not_yet, least_due, taken_left}

pub returns-in_err-rank-clause-least : goal.returns-in_err-rank-clause-least
returns-in_err-rank-clause-least g c = c.from_residual.ensures ∙ nothing_due g.E.Ranked.rank_of g.E.Ranked.number_of c.args.limit _ c.in_err-rank.ensures.first

pub returns-then-rank-limit-clause-least : goal.returns-then-rank-limit-clause-least
returns-then-rank-limit-clause-least g c = not_yet g.E.Ranked.rank_of g.E.Ranked.number_of c.args.limit _ _ _ c.first.ensures.ordered c.in_ok-rank.ensures.first c.if-rank-limit.true

pub returns-clause-least : goal.returns-clause-least
returns-clause-least g c = c.remove.ensures.value ∙ least_due g.E.Ranked.rank_of g.E.Ranked.number_of c.args.limit _ _ _ c.in_ok-rank.ensures.first c.if-rank-limit.false

pub returns-clause-left : goal.returns-clause-left
returns-clause-left g c = taken_left g.E.Ranked.rank_of g.E.Ranked.number_of c.in_ok-rank.number _ _ _ c.remove.ensures.value c.remove.ensures.left

use Rattle.std.proofs.Common.{◌≡◌, [], ◌∷◌, map, sym, subst, ◌∙◌}
use Rattle.std.specs.Option.{MatchOption}
use Rattle.runs.proofs.Rows.{ended_of, row_empty, row_first}
use Rattle.runs.proofs.row.Row.take_first.Goals as goal

pub returns-in_err-first : goal.returns-in_err-first
returns-in_err-first c =
    subst (λ o. MatchOption o (c.args.self.now ≡ []) (λ e. c.args.self.now ≡ e ∷ map ended_of c.take_due.new.self)) (sym c.from_residual.ensures)
    (sym c.self.view_is ∙ row_empty c.self.inside.next c.self.inside.entries c.self.invariant c.in_err-first.ensures.least)

pub invariant_of-self-2 : goal.invariant_of-self-2
invariant_of-self-2 c = (row_first c.self.inside.next _ c.self.inside.entries c.take_due.new.self c.take_due.ensures.apart c.self.invariant c.in_ok-first.ensures.least c.in_ok-first.ensures.left).1

pub returns : goal.returns
returns c = sym c.self.view_is ∙ (row_first c.self.inside.next _ c.self.inside.entries c.take_due.new.self c.take_due.ensures.apart c.self.invariant c.in_ok-first.ensures.least c.in_ok-first.ensures.left).0

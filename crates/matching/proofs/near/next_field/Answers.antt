use Rattle.std.proofs.Common.{sym, subst}
use Rattle.std.specs.Option.{option_copied}
use Rattle.matching.specs.Places.{IsNext}
use Rattle.matching.proofs.Scan.{next_none, next_some, next_other}
use Rattle.matching.proofs.near.next_field.Goals as goal

pub returns-in_err-field : goal.returns-in_err-field
returns-in_err-field c =
    subst (λ r. IsNext c.args.start.now.0.0 c.args.places.now.keys (option_copied r)) (sym c.from_residual.ensures)
    (next_none c.args.start.now c.args.places.now.keys _ c.requires.first (c.range.ensures.between tt) c.in_err-field.ensures.steps.0)

pub returns-then-eq : goal.returns-then-eq
returns-then-eq c = next_some c.args.start.now c.in_ok-field.field-0.now c.args.places.now.keys _ _ c.requires.first (c.range.ensures.between tt) c.range.ensures.ordered c.in_ok-field.ensures.steps (sym c.if-eq.ensures)

pub returns-else-eq : goal.returns-else-eq
returns-else-eq c = next_other c.args.start.now c.in_ok-field.field-0.now c.args.places.now.keys _ _ c.requires.first (c.range.ensures.between tt) c.range.ensures.ordered c.in_ok-field.ensures.steps (sym c.if-eq.ensures)

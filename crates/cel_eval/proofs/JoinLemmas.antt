-- Operators that look at both sides, whatever the left one is.
use Rattle.std.proofs.Common.{◌≡◌, refl, Ok, Err}
use Rattle.expr.specs.declared.term.Operator.{Operator}
use Rattle.expr.specs.declared.term.Operator.TheVariants as operator
use Rattle.cel_eval.specs.Data.{Outcome}
use Rattle.cel_eval.specs.Operations.{operate}
use Rattle.cel_eval.specs.Table.{binary, both}

pub over_both : (o : Operator) (left right : Outcome) → (o ≡ operator.Or → ⊥) → (o ≡ operator.And → ⊥) → both left right (operate o) ≡ binary o left right
over_both operator.Or left right a b = absurd (a refl)
over_both operator.And left right a b = absurd (b refl)
over_both operator.Less left right a b = refl
over_both operator.LessOrEqual left right a b = refl
over_both operator.Greater left right a b = refl
over_both operator.GreaterOrEqual left right a b = refl
over_both operator.Equal left right a b = refl
over_both operator.NotEqual left right a b = refl
over_both operator.In left right a b = refl
over_both operator.Plus left right a b = refl
over_both operator.Minus left right a b = refl
over_both operator.Times left right a b = refl
over_both operator.Divide left right a b = refl
over_both operator.Remainder left right a b = refl

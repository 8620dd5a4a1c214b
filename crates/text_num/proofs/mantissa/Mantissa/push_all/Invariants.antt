use Rattle.std.proofs.Common.{◌≤◌, ◌+◌, ◌*◌, ◌^◌, ℕ, take}
use Rattle.text_num.specs.Digits.{decimal_value}
use Rattle.text_num.specs.Mantissa.{IsMantissa}
use Rattle.text_num.proofs.mantissa.Mantissa.push_all.Given as goal

abbrev pub invariant-loop-digit : goal.invariant-loop-digit
invariant-loop-digit l =
    (l.mantissa.zeros ≤ l.initial.mantissa.zeros + l.digit-index)
    × ((number : ℕ) → IsMantissa number l.initial.mantissa
    → IsMantissa (number * 10 ^ l.digit-index + decimal_value (take l.digit-index l.digits)) l.mantissa)

use Rattle.std.proofs.Common.{◌≡◌, min, take}
use Rattle.text_num.specs.Digits.{decimal_value}
use Rattle.text_num.proofs.digits.number_up_to.Given as goal

abbrev pub invariant-loop-digit : goal.invariant-loop-digit
invariant-loop-digit l = l.number ≡ min (decimal_value (take l.digit-index l.digits)) l.cap

use Rattle.std.proofs.Common.{◌≡◌, ℕ, ◌+◌, ◌*◌, ◌-◌, min, get_or, arith}
use Rattle.text_num.proofs.DigitLemmas.{digit_at, value_more}
use Rattle.text_num.proofs.digits.number_up_to.Goals as goal

pub overflow_mul-number : goal.overflow_mul-number
overflow_mul-number c = omega arith

capped : (value cap number digit : ℕ) → number ≡ min value cap → min (number * 10 + digit) cap ≡ min (value * 10 + digit) cap
capped value cap number digit is = omega arith

pub loop-digit-preserved : goal.loop-digit-preserved
loop-digit-preserved c =
    let more = value_more c.args.digits.now c.loop-digit.digit-index (omega arith) in
    let same = capped _ _ c.loop-digit.number (get_or c.args.digits.now c.loop-digit.digit-index 0 - 48) c.loop-digit.invariant in
    let bounds = digit_at c.args.digits.now c.loop-digit.digit-index c.requires.digits (omega arith) in
    grind arith

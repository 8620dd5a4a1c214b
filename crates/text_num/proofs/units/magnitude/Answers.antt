use Rattle.std.proofs.Common.{◌≡◌, ◌+◌, ◌^◌, ◌++◌, ℕ, length, length-append, true, sym, refl, ap, ◌∙◌, subst, arith}
use Rattle.std.proofs.lemmas.List.Folds.{list_all-append}
use Rattle.std.specs.Char.{is_ascii_digit}
use Rattle.text_num.specs.Digits.{decimal_value, all_digits}
use Rattle.text_num.specs.Mantissa.{IsMantissa, IsTooLong}
use Rattle.text_num.specs.Seen.{number_seen}
use Rattle.text_num.specs.Units.{multiple_of}
use Rattle.text_num.proofs.DigitLemmas.{value_lt}
use Rattle.text_num.proofs.MultipleLemmas.{too_long_none, capped_up, capped_down}
use Rattle.text_num.proofs.MantissaLemmas.{too_long_append, joined}
use Rattle.text_num.proofs.UnitsLemmas.{shrunk, grown}
use Rattle.text_num.proofs.units.magnitude.Goals as goal

pub returns-in_err-whole : goal.returns-in_err-whole
returns-in_err-whole c =
    let At : ℕ → Type 0 = λ n. IsTooLong n in
    let long = c.in_err-whole.ensures.number 0 c.zero.ensures.value in
    let all = subst At (joined c.args.number.whole.now c.args.number.fraction.now) (too_long_append _ c.args.number.fraction.now c.requires.fraction long) in
    rw c.from_residual.ensures (sym (too_long_none _ _ _ all))

pub returns-in_err-mantissa : goal.returns-in_err-mantissa
returns-in_err-mantissa c =
    let At : ℕ → Type 0 = λ n. IsTooLong n in
    let long = c.in_err-mantissa.ensures.number _ (c.in_ok-whole.ensures.number 0 c.zero.ensures.value) in
    let all = subst At (joined c.args.number.whole.now c.args.number.fraction.now) long in
    rw c.from_residual-in_err-mantissa.ensures (sym (too_long_none _ _ _ all))

pub returns-then-has_minus : goal.returns-then-has_minus
returns-then-has_minus c =
    let n = c.args.number in
    let At : ℕ → Type 0 = λ d. IsMantissa d c.in_ok-mantissa.mantissa in
    let is = subst At (joined n.whole.now n.fraction.now) (c.in_ok-mantissa.ensures.number _ (c.in_ok-whole.ensures.number 0 c.zero.ensures.value)) in
    let read = c.shifted.ensures (decimal_value (n.whole.now ++ n.fraction.now)) is in
    let digits : all_digits (n.whole.now ++ n.fraction.now) ≡ true = list_all-append is_ascii_digit n.whole.now n.fraction.now ∙ rw (c.requires.whole, c.requires.fraction) refl in
    let below = value_lt (n.whole.now ++ n.fraction.now) digits in
    let long = length-append n.whole.now n.fraction.now in
    let cap = capped_down (decimal_value (n.whole.now ++ n.fraction.now)) (decimal_value n.exponent.now) (2 ^ 100) (length (n.whole.now ++ n.fraction.now)) (length n.fraction.now) below (omega arith) in
    read ∙ ap (λ e. multiple_of (decimal_value (n.whole.now ++ n.fraction.now)) 18 (length n.fraction.now + e)) c.number_up_to-exponent.ensures ∙ cap
    ∙ shrunk (number_seen n) (sym c.if-has_minus.ensures)

pub returns-else-has_minus : goal.returns-else-has_minus
returns-else-has_minus c =
    let n = c.args.number in
    let At : ℕ → Type 0 = λ d. IsMantissa d c.in_ok-mantissa.mantissa in
    let is = subst At (joined n.whole.now n.fraction.now) (c.in_ok-mantissa.ensures.number _ (c.in_ok-whole.ensures.number 0 c.zero.ensures.value)) in
    let read = c.shifted-else-has_minus.ensures (decimal_value (n.whole.now ++ n.fraction.now)) is in
    let cap = capped_up (decimal_value (n.whole.now ++ n.fraction.now)) (decimal_value n.exponent.now) (2 ^ 100) (length n.fraction.now) (omega arith) in
    read ∙ ap (λ e. multiple_of (decimal_value (n.whole.now ++ n.fraction.now)) (18 + e) (length n.fraction.now)) c.number_up_to-exponent.ensures ∙ cap
    ∙ grown (number_seen n) (sym c.if-has_minus.ensures)

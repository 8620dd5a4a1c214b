use Rattle.std.proofs.Common.{◌≡◌, true, false, sym, ap, ◌∙◌}
use Rattle.text_num.specs.Digits.{digits_front, behind_digits}
use Rattle.text_num.specs.JsonNumber.{behind_sign, is_whole}
use Rattle.text_num.proofs.DigitLemmas.{front_digits}
use Rattle.text_num.proofs.FractionLemmas.{fraction_is}
use Rattle.text_num.proofs.NumberLemmas.{no_fraction, bad_exponent, with_exponent, exponent_is}
use Rattle.text_num.proofs.number.Number.read.Goals as goal

pub returns-in_err-fraction-clause-value : goal.returns-in_err-fraction-clause-value
returns-in_err-fraction-clause-value c =
    rw c.from_residual.ensures (no_fraction c.args.text.now c.split_digits.result.1.now (c.split_digits.ensures.rest ∙ ap behind_digits c.split_sign-negative.ensures.rest) c.in_err-fraction.ensures)

pub returns-in_err-mark-clause-value : goal.returns-in_err-mark-clause-value
returns-in_err-mark-clause-value c =
    rw c.from_residual-in_err-mark.ensures (bad_exponent c.args.text.now c.split_digits.result.1.now c.in_ok-fraction.fraction.now c.in_ok-fraction.rest.now
    (c.split_digits.ensures.rest ∙ ap behind_digits c.split_sign-negative.ensures.rest) c.in_ok-fraction.ensures c.in_err-mark.ensures)

pub returns-then-not-is_whole-clause-value : goal.returns-then-not-is_whole-clause-value
returns-then-not-is_whole-clause-value c =
    let read = with_exponent c.args.text.now c.split_digits.result.1.now c.in_ok-fraction.fraction.now c.in_ok-fraction.rest.now c.in_ok-mark.mark.now c.in_ok-mark.exponent.now
    (c.split_digits.ensures.rest ∙ ap behind_digits c.split_sign-negative.ensures.rest) c.in_ok-fraction.ensures c.in_ok-mark.ensures in
    let whole = c.split_digits.ensures.digits ∙ ap digits_front c.split_sign-negative.ensures.rest in
    let no : is_whole (digits_front (behind_sign c.args.text.now)) ≡ false = ap is_whole (sym whole) ∙ sym c.if-not-is_whole.ensures in
    rw no at read

pub returns-clause-value : goal.returns-clause-value
returns-clause-value c =
    let read = with_exponent c.args.text.now c.split_digits.result.1.now c.in_ok-fraction.fraction.now c.in_ok-fraction.rest.now c.in_ok-mark.mark.now c.in_ok-mark.exponent.now
    (c.split_digits.ensures.rest ∙ ap behind_digits c.split_sign-negative.ensures.rest) c.in_ok-fraction.ensures c.in_ok-mark.ensures in
    let whole = c.split_digits.ensures.digits ∙ ap digits_front c.split_sign-negative.ensures.rest in
    let is : is_whole (digits_front (behind_sign c.args.text.now)) ≡ true = ap is_whole (sym whole) ∙ sym c.if-not-is_whole.ensures in
    rw (whole, c.split_sign-negative.ensures.minus) (rw is at read)

pub returns-clause-digits : goal.returns-clause-digits
returns-clause-digits c = (
  rw c.split_digits.ensures.digits (front_digits c.split_sign-negative.result.1.now),
  (fraction_is c.split_digits.result.1.now c.in_ok-fraction.fraction.now c.in_ok-fraction.rest.now (sym c.in_ok-fraction.ensures)).0,
  (exponent_is c.in_ok-fraction.rest.now c.in_ok-mark.mark.now c.in_ok-mark.exponent.now (sym c.in_ok-mark.ensures)).2,
)

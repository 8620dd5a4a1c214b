use Rattle.std.proofs.Common.{◌≡◌, ◌*◌, ◌+◌, ◌^◌, ℕ, length, take, drop, ap, ◌∙◌, subst, arith}
use Rattle.std.proofs.lemmas.List.{take_all}
use Rattle.text_num.specs.Digits.{decimal_value}
use Rattle.text_num.specs.Mantissa.{IsMantissa, IsTooLong}
use Rattle.text_num.proofs.MantissaLemmas.{one_digit_more, whole_value, digits_at_drop, too_long_append}
use Rattle.text_num.proofs.mantissa.Mantissa.push_all.Goals as goal

pub loop-digit-preserved : goal.loop-digit-preserved
loop-digit-preserved c = (
  omega (arith, c.in_ok-mantissa.ensures.zeros),
  λ number is.
      let more = one_digit_more number c.args.digits.now c.loop-digit.digit-index (omega arith) in
      let At : ℕ → Type 0 = λ n. IsMantissa n c.in_ok-mantissa.mantissa in
      subst At more (c.in_ok-mantissa.ensures.number _ (c.loop-digit.invariant.1 number is)),
)

pub returns-in_err-mantissa-clause-number : goal.returns-in_err-mantissa-clause-number
returns-in_err-mantissa-clause-number c = λ number is.
    let i = c.loop-digit.digit-index in
    let ds = c.args.digits.now in
    let more = one_digit_more number ds i (omega arith) in
    let At : ℕ → Type 0 = λ n. IsTooLong n in
    let long : IsTooLong (number * 10 ^ (i + 1) + decimal_value (take (i + 1) ds)) =
    subst At more (c.in_err-mantissa.ensures.number _ (c.loop-digit.invariant.1 number is)) in
    rw c.from_residual.ensures (subst At (whole_value number ds (i + 1) (omega arith))
    (too_long_append (number * 10 ^ (i + 1) + decimal_value (take (i + 1) ds)) (drop (i + 1) ds) (digits_at_drop ds (i + 1) c.requires.digits) long))

pub returns-clause-number : goal.returns-clause-number
returns-clause-number c = λ number is.
    let i = c.loop-digit.digit-index in
    let ds = c.args.digits.now in
    let end : c.loop-digit.digit-index ≡ length c.args.digits.now = omega arith in
    let At : ℕ → Type 0 = λ n. IsMantissa n c.loop-digit.mantissa in
    subst At (ap (λ l. number * 10 ^ i + decimal_value l) (take_all i ds c.loop-digit-test.false) ∙ ap (λ n. number * 10 ^ n + decimal_value ds) end)
    (c.loop-digit.invariant.1 number is)

use Rattle.std.proofs.Common.{◌≡◌, ◌*◌, ◌+◌, ◌-◌, ℕ, subst, arith}
use Rattle.text_num.specs.Mantissa.{IsMantissa}
use Rattle.text_num.proofs.MultipleLemmas.{times_powers}
use Rattle.text_num.proofs.MantissaLemmas.{power_some, power_none, zero_more, digit_more, digit_too_long}
use Rattle.text_num.proofs.mantissa.Mantissa.push.Goals as goal

pub returns-else-self-eq0-clause-number : goal.returns-else-self-eq0-clause-number
returns-else-self-eq0-clause-number c = λ number is.
    let At : ℕ → Type 0 = λ n. IsMantissa n (record { value = c.args.self.value; zeros = c.args.self.zeros + 1 }) in
    subst At (omega arith) (zero_more number c.args.self.value c.args.self.zeros c.if-self-eq0.false is)

pub returns-in_err-shifted-clause-number : goal.returns-in_err-shifted-clause-number
returns-in_err-shifted-clause-number c = λ number is.
    let large = power_none _ c.in_err-shifted.ensures in
    let more = times_powers c.args.self.value c.args.self.zeros 1 in
    let e = is.value in
    rw c.from_residual.ensures (digit_too_long number (c.args.digit - 48) (omega arith) (omega arith) (omega arith))

pub returns-clause-number : goal.returns-clause-number
returns-clause-number c = λ number is.
    let found = power_some _ c.in_ok-shifted.shifted c.in_ok-shifted.ensures in
    let more = times_powers c.args.self.value c.args.self.zeros 1 in
    let e = is.value in
    let same : c.in_ok-shifted.shifted + c.from.result ≡ number * 10 + (c.args.digit - 48) = omega arith in
    rw same (digit_more number (c.args.digit - 48) (omega arith) (omega arith) (omega arith))

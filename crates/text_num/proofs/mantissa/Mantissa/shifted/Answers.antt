use Rattle.std.proofs.Common.{ℕ, subst, arith}
use Rattle.text_num.specs.Mantissa.{IsMantissa}
use Rattle.text_num.proofs.MantissaLemmas.{zero_shifted, down_shifted, up_shifted}
use Rattle.text_num.proofs.mantissa.Mantissa.shifted.Goals as goal

pub returns-then-self-eq0 : goal.returns-then-self-eq0
returns-then-self-eq0 c = λ number is.
    let At : ℕ → Type 0 = λ v. IsMantissa number (record { value = v; zeros = c.args.self.zeros }) in
    zero_shifted number c.args.self.zeros c.args.up c.args.down (subst At c.if-self-eq0.true is)

pub returns-in_err-zeros : goal.returns-in_err-zeros
returns-in_err-zeros c = λ number is.
    let less = c.in_err-zeros.ensures in
    rw c.from_residual.ensures (down_shifted number c.args.self.value c.args.self.zeros c.args.up c.args.down is c.if-self-eq0.false (omega arith))

pub returns : goal.returns
returns c = λ number is.
    let left = c.in_ok-zeros.ensures in
    up_shifted number c.args.self.value c.args.self.zeros c.args.up c.args.down c.in_ok-zeros.zeros c.times_power.result is (omega arith) c.times_power.ensures

use Rattle.std.proofs.Common.{◌≡◌, ◌≤◌, ◌*◌, ◌^◌, ltb, false, refl, arith}
use Rattle.std.proofs.Math.Nat.{pow-le-pow_right}
use Rattle.std.proofs.lemmas.Nat.{mul-le}
use Rattle.std.proofs.lemmas.Bool.Decides.{nat_tests}
use Rattle.text_num.proofs.mantissa.times_power.Goals as goal

pub returns-then-zeros-ge38 : goal.returns-then-zeros-ge38
returns-then-zeros-ge38 c =
    let power : 10 ^ 38 ≤ 10 ^ c.args.zeros = pow-le-pow_right {n = 10} (omega arith) {i = 38} {j = c.args.zeros} (omega arith) in
    let times = mul-le 1 (10 ^ c.args.zeros) c.args.value (10 ^ c.args.zeros) (omega arith) (omega arith) in
    let large : ltb (c.args.value * 10 ^ c.args.zeros) (10 ^ 38) ≡ false = grind (arith, nat_tests) in
    rw large refl

pub pow-requires : goal.pow-requires
pow-requires c =
    let power : 10 ^ c.args.zeros ≤ 10 ^ 37 = pow-le-pow_right {n = 10} (omega arith) {i = c.args.zeros} {j = 37} (omega arith) in
    omega arith

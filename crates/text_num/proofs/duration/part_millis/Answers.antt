use Rattle.std.proofs.Common.{◌≡◌, ℕ, ◌+◌, ◌*◌, ◌/◌, ◌^◌, ◌<◌, ◌≤◌, min, length, refl, ◌∙◌, arith, inl, inr}
use Rattle.std.proofs.Math.Nat.{one-le-pow}
use Rattle.std.proofs.lemmas.Nat.{mul-le, le-div}
use Rattle.std.proofs.lemmas.Bool.{cases_lt}
use Rattle.text_num.specs.Digits.{decimal_value}
use Rattle.text_num.specs.Duration.{unit_millis}
use Rattle.text_num.proofs.DigitLemmas.{value_append, value_lt}
use Rattle.text_num.proofs.duration.part_millis.Goals as goal

-- a whole number at the bound or above it reaches the bound
reaches : (over whole scale fraction unit : ℕ) → over ≤ whole → 0 < scale → 1 ≤ unit → over ≤ (whole * scale + fraction) * unit / scale
reaches over whole scale fraction unit more some one =
    let up = mul-le over scale whole scale more (omega arith) in
    let times = mul-le (whole * scale + fraction) 1 (whole * scale + fraction) unit (omega arith) one in
    le-div over ((whole * scale + fraction) * unit) scale some (omega arith)

-- so the bound may be put on the whole number before
capped : (over whole scale fraction unit least : ℕ) → least ≡ min whole over → 0 < scale → 1 ≤ unit
    → min ((least * scale + fraction) * unit / scale) over ≡ min ((whole * scale + fraction) * unit / scale) over
capped over whole scale fraction unit least is some one =
    elim (cases_lt whole over) [
      | inl under ↦ let same : least ≡ whole = omega arith in rw same refl
      | inr past ↦
          let same : least ≡ over = omega arith in
          let low = reaches over least scale fraction unit (omega arith) some one in
          let high = reaches over whole scale fraction unit past some one in omega arith
    ]

pub nonzero_div-number : goal.nonzero_div-number
nonzero_div-number c = rw c.pow-scale.ensures (one-le-pow (length c.args.fraction.now) 10 (omega arith))

pub returns : goal.returns
returns c =
    let scale : 0 < 10 ^ length c.args.fraction.now = one-le-pow (length c.args.fraction.now) 10 (omega arith) in
    let below = value_lt c.args.fraction.now c.requires.fraction in
    let joined = value_append c.args.whole.now c.args.fraction.now in
    let unit : 1 ≤ unit_millis c.args.unit = omega arith in
    let first : c.number_up_to.result ≡ min (decimal_value c.args.whole.now) 31622400001 = omega arith in
    let second : c.number_up_to-2.result ≡ decimal_value c.args.fraction.now = omega arith in
    let over : c.from-over.result + 1 ≡ 31622400001 = omega arith in
    let bound = capped 31622400001 (decimal_value c.args.whole.now) (10 ^ length c.args.fraction.now) (decimal_value c.args.fraction.now) (unit_millis c.args.unit) c.number_up_to.result first scale unit in
    c.min.ensures ∙ rw (c.pow-scale.ensures, second, c.from.ensures, c.millis.ensures.value, over, joined) bound

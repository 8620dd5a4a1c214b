-- Powers of ten, and when digits with places are a whole multiple.
use Rattle.std.proofs.Common.{◌≡◌, ℕ, suc, ◌+◌, ◌-◌, ◌*◌, ◌/◌, ◌%◌, ◌^◌, ◌<◌, ◌≤◌, min, true, false, eqb, ltb, Some, None, sym, refl, ap, ◌∙◌, arith, eqb-true, eq-eqb, ltb-true, lt-ltb, inl, inr}
use Rattle.std.proofs.Math.Nat.{one-le-pow, pow-le-pow_right, mul-div_cancel}
use Rattle.std.proofs.lemmas.Nat.{pow-add, mul-le, mod-mul-add, div-add-mod'}
use Rattle.std.proofs.lemmas.Bool.{cases_lt}
use Rattle.std.proofs.lemmas.Bool.Decides.{nat_tests}
use Rattle.text_num.specs.Units.{multiple_of}
use Rattle.text_num.specs.Mantissa.{IsTooLong}
use Rattle.text_num.proofs.DigitLemmas.{bool_cases, ten_pow}

pub tens : (n : ℕ) → 0 < 10 ^ n
tens n = one-le-pow n 10 (omega arith)

pub cancel : (a b c : ℕ) → 0 < c → a * c ≡ b * c → a ≡ b
cancel a b c some e = sym (mul-div_cancel a some) ∙ ap (λ x. x / c) e ∙ mul-div_cancel b some

pub le_from_mul : (a b c : ℕ) → 0 < c → a * c ≤ b * c → a ≤ b
le_from_mul a b c some h =
    elim (cases_lt b a) [
      | inl less ↦ let more = mul-le (b + 1) c a c (omega arith) (omega arith) in absurd (omega arith)
      | inr is ↦ is
    ]

-- ten to a difference
pub ten_apart : (low high : ℕ) → low ≤ high → 10 ^ high ≡ 10 ^ (high - low) * 10 ^ low
ten_apart low high h = ap (λ n. 10 ^ n) (omega arith) ∙ pow-add 10 (high - low) low

pub times_ten : (v n : ℕ) → v * 10 ^ suc n ≡ v * 10 ^ n * 10
times_ten v n = ap (λ x. v * x) (ten_pow n) ∙ omega arith

-- a product with a power, in two powers
pub times_powers : (v a b : ℕ) → v * 10 ^ (a + b) ≡ v * 10 ^ a * 10 ^ b
times_powers v a b = ap (λ x. v * x) (pow-add 10 a b) ∙ omega arith

pub times_apart : (v low high : ℕ) → low ≤ high → v * 10 ^ high ≡ v * 10 ^ (high - low) * 10 ^ low
times_apart v low high h = ap (λ x. v * x) (ten_apart low high h) ∙ omega arith

pub multiple_at : (digits up down m : ℕ) → m * 10 ^ down ≡ digits * 10 ^ up → m < 10 ^ 38 → multiple_of digits up down ≡ Some m
unfolding multiple_of
multiple_at digits up down m e small =
    let some = tens down in
    let whole : digits * 10 ^ up % 10 ^ down ≡ 0 = ap (λ n. n % 10 ^ down) (sym e ∙ omega arith) ∙ mod-mul-add m (10 ^ down) 0 some in
    let is : digits * 10 ^ up / 10 ^ down ≡ m = ap (λ n. n / 10 ^ down) (sym e) ∙ mul-div_cancel m some in
    let fits : ltb m (10 ^ 38) ≡ true = lt-ltb _ _ small in
    rw (is, eq-eqb _ _ whole, fits) refl

pub no_multiple : (digits up down : ℕ) → ((m : ℕ) → m * 10 ^ down ≡ digits * 10 ^ up → 10 ^ 38 ≤ m) → multiple_of digits up down ≡ None
unfolding multiple_of
no_multiple digits up down none =
    elim (bool_cases (eqb (digits * 10 ^ up % 10 ^ down) 0)) [
      | inl whole ↦
          let rest = eqb-true _ _ whole in
          let parts = div-add-mod' (digits * 10 ^ up) (10 ^ down) in
          let large = none (digits * 10 ^ up / 10 ^ down) (omega arith) in
          let past : ltb (digits * 10 ^ up / 10 ^ down) (10 ^ 38) ≡ false = grind (arith, nat_tests) in rw (whole, past) refl
      | inr part ↦ rw part refl
    ]

-- ---- numbers of which no value below 10^38 is left without zeros

pub too_long_none : (digits up down : ℕ) → IsTooLong digits → multiple_of digits up down ≡ None
too_long_none digits up down long =
    no_multiple digits up down (λ m e. elim (cases_lt down up) [
      | inl more ↦
          let whole = long digits 0 (omega arith) in
          let some = tens (up - down) in
          let same : m ≡ digits * 10 ^ (up - down) = cancel m (digits * 10 ^ (up - down)) (10 ^ down) (tens down) (e ∙ times_apart digits down up (omega arith)) in
          let large = mul-le digits 1 digits (10 ^ (up - down)) (omega arith) (omega arith) in omega arith
      | inr less ↦
          let same : digits ≡ m * 10 ^ (down - up) = cancel digits (m * 10 ^ (down - up)) (10 ^ up) (tens up) (sym e ∙ times_apart m up down less) in
          long m (down - up) same
    ])

-- ---- great exponents

zero_multiple : (up down : ℕ) → multiple_of 0 up down ≡ Some 0
zero_multiple up down = multiple_at 0 up down 0 (omega arith) (omega arith)

large_up : (digits up down : ℕ) → 1 ≤ digits → down + 38 ≤ up → multiple_of digits up down ≡ None
large_up digits up down some large =
    no_multiple digits up down (λ m e.
    let power : 10 ^ 38 ≤ 10 ^ (up - down) = pow-le-pow_right {n = 10} (omega arith) {i = 38} {j = up - down} (omega arith) in
    let one = mul-le 1 (10 ^ (up - down)) digits (10 ^ (up - down)) some (omega arith) in
    let all = mul-le (10 ^ 38) (10 ^ down) (digits * 10 ^ (up - down)) (10 ^ down) (omega arith) (omega arith) in
    let apart = times_apart digits down up (omega arith) in
    le_from_mul (10 ^ 38) m (10 ^ down) (tens down) (omega arith))

large_down : (digits up down places : ℕ) → 1 ≤ digits → digits < 10 ^ places → places + up ≤ down → multiple_of digits up down ≡ None
large_down digits up down places some small large =
    no_multiple digits up down (λ m e.
    let power : 10 ^ (places + up) ≤ 10 ^ down = pow-le-pow_right {n = 10} (omega arith) {i = places + up} {j = down} large in
    let joined = pow-add 10 places up in
    let all = mul-le (digits + 1) (10 ^ up) (10 ^ places) (10 ^ up) (omega arith) (omega arith) in
    let ten = tens up in
    let nonzero = mul-le 1 (10 ^ up) digits (10 ^ up) some (omega arith) in
    elim (cases_lt m 1) [
      | inl none ↦ let zero : m ≡ 0 = omega arith in let nothing : digits * 10 ^ up ≡ 0 = sym e ∙ ap (λ n. n * 10 ^ down) zero ∙ omega arith in absurd (omega arith)
      | inr one ↦ let more = mul-le 1 (10 ^ down) m (10 ^ down) one (omega arith) in absurd (omega arith)
    ])

-- an exponent past a bound may be cut to the bound, where the bound is past all that the digits could make up for
pub capped_up : (digits exponent cap down : ℕ) → down + 38 ≤ 18 + cap → multiple_of digits (18 + min exponent cap) down ≡ multiple_of digits (18 + exponent) down
capped_up digits exponent cap down great =
    elim (cases_lt cap exponent) [
      | inr fits ↦ ap (λ e. multiple_of digits (18 + e) down) (omega arith)
      | inl past ↦ elim (cases_lt digits 1) [
        | inl none ↦ let zero : digits ≡ 0 = omega arith in rw zero (zero_multiple (18 + min exponent cap) down ∙ sym (zero_multiple (18 + exponent) down))
        | inr some ↦ large_up digits (18 + min exponent cap) down some (omega arith) ∙ sym (large_up digits (18 + exponent) down some (omega arith))
      ]
    ]

pub capped_down : (digits exponent cap places behind : ℕ) → digits < 10 ^ places → places + 18 ≤ cap
    → multiple_of digits 18 (behind + min exponent cap) ≡ multiple_of digits 18 (behind + exponent)
capped_down digits exponent cap places behind small great =
    elim (cases_lt cap exponent) [
      | inr fits ↦ ap (λ e. multiple_of digits 18 (behind + e)) (omega arith)
      | inl past ↦ elim (cases_lt digits 1) [
        | inl none ↦ let zero : digits ≡ 0 = omega arith in rw zero (zero_multiple 18 (behind + min exponent cap) ∙ sym (zero_multiple 18 (behind + exponent)))
        | inr some ↦ large_down digits 18 (behind + min exponent cap) places some small (omega arith) ∙ sym (large_down digits 18 (behind + exponent) places some small (omega arith))
      ]
    ]

pub multiple_small : (digits up down m : ℕ) → Some m ≡ multiple_of digits up down → m < 10 ^ 38
unfolding multiple_of
multiple_small digits up down m e =
    elim (bool_cases (eqb (digits * 10 ^ up % 10 ^ down) 0)) [
      | inl whole ↦ elim (bool_cases (ltb (digits * 10 ^ up / 10 ^ down) (10 ^ 38))) [
        | inl small ↦ let at = rw (whole, small) at e in let same : m ≡ digits * 10 ^ up / 10 ^ down = cc in rw same (ltb-true _ _ small)
        | inr large ↦ let no = rw (whole, large) at e in cc
      ]
      | inr part ↦ let no = rw part at e in cc
    ]

pub multiple_value : (digits up down m : ℕ) → multiple_of digits up down ≡ Some m → m * 10 ^ down ≡ digits * 10 ^ up
unfolding multiple_of
multiple_value digits up down m e =
    elim (bool_cases (eqb (digits * 10 ^ up % 10 ^ down) 0)) [
      | inl whole ↦ elim (bool_cases (ltb (digits * 10 ^ up / 10 ^ down) (10 ^ 38))) [
        | inl small ↦
            let at = rw (whole, small) at e in
            let same : digits * 10 ^ up / 10 ^ down ≡ m = cc in
            let product = ap (λ x. x * 10 ^ down) (sym same) in
            let parts = div-add-mod' (digits * 10 ^ up) (10 ^ down) in
            let rest = eqb-true _ _ whole in omega arith
        | inr large ↦ let no = rw (whole, large) at e in cc
      ]
      | inr part ↦ let no = rw part at e in cc
    ]

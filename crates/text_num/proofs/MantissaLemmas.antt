-- A mantissa through its digits, and with places.
use Rattle.std.proofs.Common.{◌≡◌, ◌≢◌, ℕ, zero, suc, ◌+◌, ◌-◌, ◌*◌, ◌%◌, ◌^◌, ◌<◌, ◌≤◌, true, cond, ltb, List, [], ◌∷◌, ◌++◌, length, get_or, take, drop, length-drop, Option, Some, None, sym, refl, ap, ◌∙◌, subst, arith, ltb-true, inl, inr}
use Rattle.std.proofs.lemmas.Bool.Decides.{nat_tests}
use Rattle.std.proofs.lemmas.List.{take-append-drop}
use Rattle.std.specs.Char.{is_ascii_digit}
use Rattle.text_num.specs.Digits.{decimal_value, all_digits}
use Rattle.text_num.specs.Units.{multiple_of}
use Rattle.text_num.specs.Mantissa.{IsMantissa, IsTooLong}
use Rattle.text_num.proofs.DigitLemmas.{bool_cases, both_true, digit_bounds, value_append, value_more}
use Rattle.text_num.proofs.MultipleLemmas.{tens, cancel, times_ten, times_powers, times_apart, multiple_at, no_multiple}

-- ---- a power within the limit

pub power_some : (n m : ℕ) → Some m ≡ cond (ltb n (10 ^ 38)) (Some n) None → (m ≡ n) × (n < 10 ^ 38)
power_some n m e =
    elim (bool_cases (ltb n (10 ^ 38))) [
      | inl small ↦ let at = rw small at e in (cc, ltb-true _ _ small)
      | inr large ↦ let no = rw large at e in cc
    ]

pub power_none : (n : ℕ) → None ≡ cond {A = Option ℕ} (ltb n (10 ^ 38)) (Some n) None → 10 ^ 38 ≤ n
power_none n e =
    elim (bool_cases (ltb n (10 ^ 38))) [
      | inl small ↦ let no = rw small at e in cc
      | inr large ↦ grind (arith, nat_tests)
    ]

-- ---- one digit more

pub zero_more : (number value zeros : ℕ) → value ≢ 0 → IsMantissa number (record { value = value; zeros = zeros })
    → IsMantissa (number * 10) (record { value = value; zeros = zeros + 1 })
zero_more number value zeros some is =
    let e = is.value in
    let more = times_powers value zeros 1 in
    record {
      value = omega arith;
      below = is.below;
      trimmed = elim is.trimmed [ inl none ↦ absurd (some none.0) | inr trimmed ↦ inr trimmed ];
    }

pub digit_more : (number digit : ℕ) → 0 < digit → digit < 10 → number * 10 < 10 ^ 38
    → IsMantissa (number * 10 + digit) (record { value = number * 10 + digit; zeros = 0 })
digit_more number digit some small fits =
    record { value = omega arith; below = omega arith; trimmed = inr (λ e. omega arith) }

pub digit_too_long : (number digit : ℕ) → 0 < digit → digit < 10 → 10 ^ 38 ≤ number * 10 → IsTooLong (number * 10 + digit)
digit_too_long number digit some small long value zero e = omega arith
digit_too_long number digit some small long value (suc zeros) e =
    let more = times_ten value zeros in absurd (omega arith)

too_long_more : (number digit : ℕ) → digit < 10 → IsTooLong number → IsTooLong (number * 10 + digit)
too_long_more number digit small long value zero e = let whole = long number 0 (omega arith) in omega arith
too_long_more number digit small long value (suc zeros) e =
    let more = times_ten value zeros in
    long value zeros (omega arith)

pub too_long_append : (number : ℕ) (ds : List ℕ) → all_digits ds ≡ true → IsTooLong number → IsTooLong (number * 10 ^ length ds + decimal_value ds)
too_long_append number [] are long = let At : ℕ → Type 0 = λ n. IsTooLong n in subst At (omega arith) long
too_long_append number (d ∷ ds) are long =
    let digits = both_true (is_ascii_digit d) (all_digits ds) are in
    let bounds = digit_bounds d digits.0 in
    let more = times_ten number (length ds) in
    let At : ℕ → Type 0 = λ n. IsTooLong n in
    subst At (omega arith) (too_long_append (number * 10 + (d - 48)) ds digits.1 (too_long_more number (d - 48) (omega arith) long))

-- ---- digits up to a place

pub digits_at_drop : (ds : List ℕ) (k : ℕ) → all_digits ds ≡ true → all_digits (drop k ds) ≡ true
digits_at_drop ds zero are = are
digits_at_drop [] (suc k) are = refl
digits_at_drop (d ∷ ds) (suc k) are = digits_at_drop ds k (both_true (is_ascii_digit d) (all_digits ds) are).1

pub one_digit_more : (number : ℕ) (ds : List ℕ) (i : ℕ) → i < length ds
    → (number * 10 ^ i + decimal_value (take i ds)) * 10 + (get_or ds i 0 - 48) ≡ number * 10 ^ (i + 1) + decimal_value (take (i + 1) ds)
one_digit_more number ds i h =
    let more = value_more ds i h in
    let step = times_powers number i 1 in omega arith

pub whole_value : (number : ℕ) (ds : List ℕ) (k : ℕ) → k ≤ length ds
    → (number * 10 ^ k + decimal_value (take k ds)) * 10 ^ length (drop k ds) + decimal_value (drop k ds) ≡ number * 10 ^ length ds + decimal_value ds
whole_value number ds k h =
    let joined = ap decimal_value (take-append-drop k ds) in
    let parts = value_append (take k ds) (drop k ds) in
    let places : k + length (drop k ds) ≡ length ds = omega (arith, length-drop k ds) in
    let powers = ap (λ n. number * 10 ^ n) (sym places) ∙ times_powers number k (length (drop k ds)) in
    omega arith

-- ---- places

pub zero_shifted : (number left up down : ℕ) → IsMantissa number (record { value = 0; zeros = left }) → Some 0 ≡ multiple_of number up down
zero_shifted number left up down is =
    let none : number ≡ 0 = omega (arith, is.value) in
    sym (multiple_at number up down 0 (rw none (omega arith)) (omega arith))

not_trimmed : (value part more : ℕ) → value % 10 ≢ 0 → value ≡ part * 10 ^ suc more → ⊥
not_trimmed value part more trimmed e = let step = times_ten part more in trimmed (omega arith)

-- more places down than zeros
pub down_shifted : (number value zeros up down : ℕ) → IsMantissa number (record { value = value; zeros = zeros }) → value ≢ 0 → zeros + up < down
    → None ≡ multiple_of number up down
down_shifted number value zeros up down is some less =
    let trimmed : value % 10 ≢ 0 = elim is.trimmed [ inl none ↦ absurd (some none.0) | inr trimmed ↦ trimmed ] in
    sym (no_multiple number up down (λ m same.
    let left : m * 10 ^ (down - (zeros + up)) * 10 ^ (zeros + up) ≡ value * 10 ^ (zeros + up) =
    sym (times_apart m (zeros + up) down (omega arith)) ∙ same ∙ ap (λ n. n * 10 ^ up) is.value ∙ sym (times_powers value zeros up) in
    let whole : m * 10 ^ (down - (zeros + up)) ≡ value = cancel (m * 10 ^ (down - (zeros + up))) value (10 ^ (zeros + up)) (tens (zeros + up)) left in
    absurd (not_trimmed value m (down - (zeros + up) - 1) trimmed (sym whole ∙ ap (λ n. m * 10 ^ n) (omega arith)))))

pub up_shifted : (number value zeros up down left : ℕ) (result : Option ℕ) → IsMantissa number (record { value = value; zeros = zeros })
    → left + down ≡ zeros + up → result ≡ cond (ltb (value * 10 ^ left) (10 ^ 38)) (Some (value * 10 ^ left)) None
    → result ≡ multiple_of number up down
up_shifted number value zeros up down left result is places e =
    let same : value * 10 ^ left * 10 ^ down ≡ number * 10 ^ up =
    sym (times_powers value left down) ∙ ap (λ n. value * 10 ^ n) places ∙ times_powers value zeros up ∙ ap (λ n. n * 10 ^ up) (sym is.value) in
    elim (bool_cases (ltb (value * 10 ^ left) (10 ^ 38))) [
      | inl small ↦ e ∙ rw small refl ∙ sym (multiple_at number up down (value * 10 ^ left) same (ltb-true _ _ small))
      | inr large ↦
          e ∙ rw large refl ∙ sym (no_multiple number up down (λ m other.
          let is_m : m ≡ value * 10 ^ left = cancel m (value * 10 ^ left) (10 ^ down) (tens down) (other ∙ sym same) in grind (arith, nat_tests)))
    ]

-- the digits before the point and those behind it
pub joined : (whole fraction : List ℕ) → (0 * 10 ^ length whole + decimal_value whole) * 10 ^ length fraction + decimal_value fraction ≡ decimal_value (whole ++ fraction)
joined whole fraction = let parts = value_append whole fraction in omega arith

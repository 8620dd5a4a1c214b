-- The text of units: it reads back, and no other without an exponent is as short.
use Rattle.std.proofs.Common.{◌≡◌, ℕ, zero, suc, ◌+◌, ◌-◌, ◌*◌, ◌/◌, ◌%◌, ◌^◌, ◌<◌, ◌≤◌, Bool, true, false, eqb, ltb, List, [], ◌∷◌, ◌++◌, length, slice_index, decimal, Option, Some, None, Ok, ℤ, pos, unsigned_abs, ◌⊎◌, sym, refl, ap, ap₂, ◌∙◌, arith, eqb-true, inl, inr, append-nil, length-append}
use Rattle.std.specs.Int.{is_negative}
use Rattle.std.proofs.lemmas.Nat.{mul-le, same_from_place, mod_below}
use Rattle.std.proofs.lemmas.Bool.{cases_lt}
use Rattle.std.proofs.lemmas.Bool.Decides.{nat_tests}
use Rattle.std.proofs.lemmas.List.{nil_from_length}
use Rattle.text_num.specs.Digits.{decimal_value, all_digits, fraction_text}
use Rattle.text_num.specs.JsonNumber.{JsonNumber, IsJsonNumber, sign_text, is_exponent}
use Rattle.text_num.specs.Units.{units_of, units_of_number, units_text, number_of_units, fraction_digits, magnitude_of, multiple_of, digits_of, signed, signed_multiple, shrinks}
use Rattle.text_num.proofs.SameDigits.{decimal_is, decimal_whole, fraction_all, fraction_value, fraction_last, same_whole, same_digits}
use Rattle.text_num.proofs.UnitsLemmas.{units_at, grown, signed_abs, abs_signed}
use Rattle.text_num.proofs.DigitLemmas.{value_append, value_lt}
use Rattle.text_num.proofs.MultipleLemmas.{multiple_at, multiple_value, tens, times_ten, times_apart}

-- the text is that of a number
pub text_is_number : (units : ℤ) → unsigned_abs units < 10 ^ 38 → IsJsonNumber (units_text units) (number_of_units units)
unfolding units_text number_of_units
text_is_number units small =
    let whole : unsigned_abs units / 10 ^ 18 < 10 ^ 64 = omega arith in
    let sign = sign_text (is_negative units) ++ decimal (unsigned_abs units / 10 ^ 18) ++ fraction_text (fraction_digits 18 (unsigned_abs units % 10 ^ 18)) in
    record {
      written = sym (append-nil (sign ++ []) ∙ append-nil sign);
      whole = decimal_whole (unsigned_abs units / 10 ^ 18) whole;
      digits = (decimal_is (unsigned_abs units / 10 ^ 18) whole).digits;
      fraction = fraction_all 18 (unsigned_abs units % 10 ^ 18) (omega arith);
      exponent = refl;
    }

-- what its number is worth
worth : (m : ℕ) → m < 10 ^ 38
    → m * 10 ^ length (fraction_digits 18 (m % 10 ^ 18)) ≡ decimal_value (decimal (m / 10 ^ 18) ++ fraction_digits 18 (m % 10 ^ 18)) * 10 ^ 18
worth m small =
    let digits = fraction_digits 18 (m % 10 ^ 18) in
    let whole = (decimal_is (m / 10 ^ 18) (omega arith)).value in
    let fraction = fraction_value 18 (m % 10 ^ 18) (omega arith) in
    let parts = value_append (decimal (m / 10 ^ 18)) digits in
    let split : m ≡ m / 10 ^ 18 * 10 ^ 18 + m % 10 ^ 18 = omega arith in
    let left = ap (λ n. n * 10 ^ length digits) split in
    let value : decimal_value (decimal (m / 10 ^ 18) ++ digits) ≡ m / 10 ^ 18 * 10 ^ length digits + decimal_value digits = parts ∙ ap (λ n. n * 10 ^ length digits + decimal_value digits) whole in
    let right = ap (λ n. n * 10 ^ 18) value in
    omega arith

number_units : (units : ℤ) → unsigned_abs units < 10 ^ 38 → units_of_number (number_of_units units) ≡ Ok units
unfolding number_of_units
number_units units small =
    let m = unsigned_abs units in
    let digits = fraction_digits 18 (m % 10 ^ 18) in
    let is = multiple_at (decimal_value (decimal (m / 10 ^ 18) ++ digits)) 18 (length digits) m (worth m small) small in
    let magnitude : magnitude_of (number_of_units units) ≡ Some m = sym (grown (number_of_units units) refl) ∙ is in
    ap (signed_multiple (is_negative units)) magnitude ∙ ap (λ z. Ok z) (abs_signed units)

pub reads_back : (units : ℤ) → unsigned_abs units < 10 ^ 38 → units_of (units_text units) ≡ Ok units
reads_back units small =
    units_at (units_text units) (units_of (units_text units)) refl (number_of_units units) (text_is_number units small) ∙ number_units units small

-- ---- other texts of the same units

-- what is known of a number without an exponent that is worth these units
record IsWorth (n : JsonNumber) (units : ℤ) : Type 0 where
  whole : n.whole ≡ decimal (unsigned_abs units / 10 ^ 18)
  fraction : (n.fraction ≡ fraction_digits 18 (unsigned_abs units % 10 ^ 18)) ⊎ (length (fraction_digits 18 (unsigned_abs units % 10 ^ 18)) < length n.fraction)
  sign : (n.negative ≡ is_negative units) ⊎ ((n.negative ≡ true) × (is_negative units ≡ false))
  exponent : n.exponent ≡ []

some_multiple : (negative : Bool) (o : Option ℕ) (units : ℤ) → signed_multiple negative o ≡ Ok units → (m : ℕ) × (o ≡ Some m) × (signed negative m ≡ units)
some_multiple negative None units e = cc
some_multiple negative (Some m) units e = (m, refl, cc)

not_below : (n : ℕ) → false ≡ is_negative (pos n)
not_below n = let no : ltb n 0 ≡ false = grind (arith, nat_tests) in sym no

sign_of : (negative : Bool) (m : ℕ) (units : ℤ) → signed negative m ≡ units
    → (negative ≡ is_negative units) ⊎ ((negative ≡ true) × (is_negative units ≡ false))
sign_of true zero units e = inr (refl, ap is_negative (sym e))
sign_of true (suc m) units e = inl (ap is_negative e)
sign_of false m units e = inl (not_below m ∙ ap is_negative e)

-- the digits before the point and behind it, from their worth
parts_of : (m whole fraction places : ℕ) → fraction < 10 ^ places → m * 10 ^ places ≡ (whole * 10 ^ places + fraction) * 10 ^ 18
    → (whole ≡ m / 10 ^ 18) × (fraction * 10 ^ 18 ≡ m % 10 ^ 18 * 10 ^ places)
parts_of m whole fraction places below e =
    let rest = mod_below m (10 ^ 18) (omega arith) in
    let small = mul-le (m % 10 ^ 18 + 1) (10 ^ places) (10 ^ 18) (10 ^ places) (omega arith) (omega arith) in
    let ten = tens places in
    let split : m ≡ m / 10 ^ 18 * 10 ^ 18 + m % 10 ^ 18 = omega arith in
    let both = ap (λ n. n * 10 ^ places) split in
    same_from_place whole (fraction * 10 ^ 18) (m / 10 ^ 18) (m % 10 ^ 18 * 10 ^ places) (10 ^ 18 * 10 ^ places) (omega arith) (omega arith) (omega arith)

-- digits of a fraction are the shortest ones, or more of them
fraction_of_worth : (digits : List ℕ) (rest : ℕ) → rest < 10 ^ 18 → all_digits digits ≡ true → decimal_value digits * 10 ^ 18 ≡ rest * 10 ^ length digits
    → (digits ≡ fraction_digits 18 rest) ⊎ (length (fraction_digits 18 rest) < length digits)
fraction_of_worth digits rest small are e =
    let shortest = fraction_digits 18 rest in
    let value = fraction_value 18 rest small in
    elim (cases_lt (length shortest) (length digits)) [
      | inl longer ↦ inr longer
      | inr no_longer ↦ elim (cases_lt (length digits) (length shortest)) [
        | inr same ↦
            let len : length digits ≡ length shortest = omega arith in
            let power = ap (λ n. rest * 10 ^ n) len in
            inl (same_digits digits shortest are (fraction_all 18 rest small) len (omega arith))
        | inl shorter ↦
            let more = length shortest - length digits in
            let apart = times_apart rest (length digits) (length shortest) (omega arith) in
            let step = times_ten (decimal_value digits) (more - 1) in
            let power : decimal_value digits * 10 ^ suc (more - 1) ≡ decimal_value digits * 10 ^ more = ap (λ n. decimal_value digits * 10 ^ n) (omega arith) in
            let product = ap (λ n. n * 10 ^ more) e in
            let is : decimal_value shortest ≡ decimal_value digits * 10 ^ more = omega arith in
            absurd (fraction_last 18 rest small (omega arith) (omega arith))
      ]
    ]

worth_of : (text : List ℕ) (n : JsonNumber) (units : ℤ) → IsJsonNumber text n → n.mark ≡ [] → unsigned_abs units < 10 ^ 38
    → units_of_number n ≡ Ok units → IsWorth n units
worth_of text n units is unmarked small e =
    let m = unsigned_abs units in
    let found = some_multiple n.negative (magnitude_of n) units e in
    let size : found.0 ≡ m = sym (signed_abs n.negative found.0) ∙ ap unsigned_abs found.2 in
    let none : n.exponent ≡ [] = nil_from_length n.exponent (eqb-true _ _ (ap (λ mark. is_exponent mark n.exponent) (sym unmarked) ∙ is.exponent)) in
    let positive : shrinks n ≡ false = ap (λ mark. eqb (slice_index mark 1) 45) unmarked in
    let multiple : multiple_of (digits_of n) 18 (length n.fraction) ≡ Some m =
    ap (λ digits. multiple_of (digits_of n) (18 + decimal_value digits) (length n.fraction)) (sym none) ∙ grown n positive ∙ found.1 ∙ ap (λ x. Some x) size in
    let value = multiple_value (digits_of n) 18 (length n.fraction) m multiple in
    let digits = value_append n.whole n.fraction in
    let parts = parts_of m (decimal_value n.whole) (decimal_value n.fraction) (length n.fraction) (value_lt n.fraction is.fraction) (value ∙ ap (λ d. d * 10 ^ 18) digits) in
    let whole : m / 10 ^ 18 < 10 ^ 64 = omega arith in
    record {
      whole = same_whole n.whole (decimal (m / 10 ^ 18)) is.whole is.digits (decimal_whole (m / 10 ^ 18) whole) (decimal_is (m / 10 ^ 18) whole).digits (parts.0 ∙ sym (decimal_is (m / 10 ^ 18) whole).value);
      fraction = fraction_of_worth n.fraction (m % 10 ^ 18) (omega arith) is.fraction parts.1;
      sign = sign_of n.negative found.0 units found.2;
      exponent = none;
    }

point_len : (ds : List ℕ) → length (fraction_text ds) ≤ length ds + 1
point_len [] = omega arith
point_len (d ∷ ds) = omega arith

point_more : (a b : List ℕ) → length a < length b → length (fraction_text a) < length (fraction_text b)
point_more a [] h = absurd (omega arith)
point_more [] (y ∷ ys) h = omega arith
point_more (x ∷ xs) (y ∷ ys) h = omega arith

point_least : (a b : List ℕ) → (a ≡ b) ⊎ (length b < length a) → length (fraction_text b) ≤ length (fraction_text a)
point_least a b (inl e) = let same = ap (λ l. length (fraction_text l)) e in omega arith
point_least a b (inr h) = let more = point_more b a h in omega arith

sign_least : (a b : Bool) → (a ≡ b) ⊎ ((a ≡ true) × (b ≡ false)) → length (sign_text b) ≤ length (sign_text a)
sign_least a b (inl e) = let same = ap (λ x. length (sign_text x)) e in omega arith
sign_least a b (inr h) = rw (h.0, h.1) (omega arith)

pub shortest : (text : List ℕ) (n : JsonNumber) (units : ℤ) → IsJsonNumber text n → n.mark ≡ [] → unsigned_abs units < 10 ^ 38
    → units_of_number n ≡ Ok units → (text ≡ units_text units) ⊎ (length (units_text units) < length text)
unfolding units_text
shortest text n units is unmarked small e =
    let worth = worth_of text n units is unmarked small e in
    let whole = decimal (unsigned_abs units / 10 ^ 18) in
    let digits = fraction_digits 18 (unsigned_abs units % 10 ^ 18) in
    let plain : text ≡ sign_text n.negative ++ whole ++ fraction_text n.fraction =
    is.written ∙ ap₂ (λ mark exponent. sign_text n.negative ++ n.whole ++ fraction_text n.fraction ++ mark ++ exponent) unmarked worth.exponent
    ∙ append-nil (sign_text n.negative ++ n.whole ++ fraction_text n.fraction ++ []) ∙ append-nil (sign_text n.negative ++ n.whole ++ fraction_text n.fraction)
    ∙ ap (λ w. sign_text n.negative ++ w ++ fraction_text n.fraction) worth.whole in
    let len = ap length plain ∙ length-append (sign_text n.negative ++ whole) (fraction_text n.fraction) in
    let front = length-append (sign_text n.negative) whole in
    let other = length-append (sign_text (is_negative units) ++ whole) (fraction_text digits) in
    let other_front = length-append (sign_text (is_negative units)) whole in
    let signs = sign_least n.negative (is_negative units) worth.sign in
    let points = point_least n.fraction digits worth.fraction in
    elim worth.sign [
      | inr minus ↦ let one = ap (λ b. length (sign_text b)) minus.0 in let none = ap (λ b. length (sign_text b)) minus.1 in inr (omega arith)
      | inl sign ↦ elim worth.fraction [
        | inr longer ↦ let more = point_more digits n.fraction longer in inr (omega arith)
        | inl same ↦ inl (plain ∙ ap₂ (λ b f. sign_text b ++ whole ++ fraction_text f) sign same)
      ]
    ]

-- Digits that write one number are the same, up to zeros at their ends.
use Rattle.std.proofs.Common.{◌≡◌, ◌≢◌, ℕ, zero, suc, ◌+◌, ◌-◌, ◌*◌, ◌/◌, ◌%◌, ◌^◌, ◌<◌, ◌≤◌, true, false, not, ◌||◌, eqb, ltb, List, [], ◌∷◌, ◌++◌, length, get_or, slice_index, decimal, sym, refl, ap, ap₂, ◌∙◌, arith, eq-eqb, ltb-true, lt-ltb, inl, inr, length-append}
use Rattle.std.proofs.Math.Nat.{pow-le-pow_right}
use Rattle.std.proofs.lemmas.Nat.{mul-le, same_from_place, div_below, mod_below, div-add-mod'}
use Rattle.std.proofs.lemmas.Bool.{cases_lt}
use Rattle.std.proofs.lemmas.Bool.Decides.{nat_tests}
use Rattle.std.proofs.lemmas.List.{get_or_append_left}
use Rattle.std.proofs.lemmas.List.Folds.{list_all-append}
use Rattle.std.proofs.lemmas.Fmt.{decimal_by_steps_wide}
use Rattle.std.specs.Char.{is_ascii_digit}
use Rattle.text_num.specs.Digits.{decimal_value, all_digits}
use Rattle.text_num.specs.JsonNumber.{is_whole}
use Rattle.text_num.specs.Units.{fraction_digits}
use Rattle.text_num.proofs.DigitLemmas.{bool_cases, both_true, digit_bounds, value_lt, value_push, ten_pow}
use Rattle.text_num.proofs.MultipleLemmas.{tens, times_ten}
use Rattle.text_num.proofs.WritingLemmas.{no_digits, next_digit}

pub same_digits : (a b : List ℕ) → all_digits a ≡ true → all_digits b ≡ true → length a ≡ length b → decimal_value a ≡ decimal_value b → a ≡ b
same_digits [] [] p q len e = refl
same_digits [] (y ∷ ys) p q len e = absurd (omega arith)
same_digits (x ∷ xs) [] p q len e = absurd (omega arith)
same_digits (x ∷ xs) (y ∷ ys) p q len e =
    let ps = both_true (is_ascii_digit x) (all_digits xs) p in
    let qs = both_true (is_ascii_digit y) (all_digits ys) q in
    let low = digit_bounds x ps.0 in
    let high = digit_bounds y qs.0 in
    let places : length xs ≡ length ys = omega arith in
    let power = ap (λ n. 10 ^ n) places in
    let below = value_lt xs ps.1 in
    let under = value_lt ys qs.1 in
    let joined : (x - 48) * 10 ^ length xs + decimal_value xs ≡ (y - 48) * 10 ^ length xs + decimal_value ys =
    e ∙ ap (λ t. (y - 48) * t + decimal_value ys) (sym power) in
    let parts = same_from_place (x - 48) (decimal_value xs) (y - 48) (decimal_value ys) (10 ^ length xs) below (omega arith) joined in
    let ih = same_digits xs ys ps.1 qs.1 places parts.1 in
    let first : x ≡ y = omega (arith, parts.0) in
    ap₂ (λ h t. h ∷ t) first ih

-- ---- digits before the point

-- what `decimal` writes
pub record IsDecimal (n : ℕ) (ds : List ℕ) : Type 0 where
  pub digits : all_digits ds ≡ true
  pub value : decimal_value ds ≡ n
  pub some : 0 < length ds
  pub first : 0 < n → 48 < get_or ds 0 0
  pub zero_alone : n ≡ 0 → length ds ≡ 1

one_digit : (n : ℕ) → n < 10 → IsDecimal n ((48 + n) ∷ [])
one_digit n small =
    let digit : is_ascii_digit (48 + n) ≡ true = grind (arith, nat_tests) in
    let one : 10 ^ 0 ≡ 1 = refl in
    record { digits = rw digit refl; value = omega arith; some = omega arith; first = λ h. omega arith; zero_alone = λ e. refl }

one_more : (n : ℕ) (ds : List ℕ) → 10 ≤ n → IsDecimal (n / 10) ds → IsDecimal n (ds ++ ((48 + n % 10) ∷ []))
one_more n ds large is =
    let small = mod_below n 10 (omega arith) in
    let digit : is_ascii_digit (48 + n % 10) ≡ true = grind (arith, nat_tests) in
    let long = length-append ds ((48 + n % 10) ∷ []) in
    record {
      digits = list_all-append is_ascii_digit ds ((48 + n % 10) ∷ []) ∙ rw (is.digits, digit) refl;
      value = value_push ds (48 + n % 10) ∙ omega (arith, is.value);
      some = omega arith;
      first = λ h. rw (get_or_append_left ds ((48 + n % 10) ∷ []) 0 0 is.some) (is.first (omega arith));
      zero_alone = λ e. absurd (omega arith);
    }

pub decimal_is : (n : ℕ) → n < 10 ^ 64 → IsDecimal n (decimal n)
decimal_is n small = decimal_by_steps_wide IsDecimal one_digit one_more n small

pub decimal_whole : (n : ℕ) → n < 10 ^ 64 → is_whole (decimal n) ≡ true
decimal_whole n small =
    let is = decimal_is n small in
    let some : ltb 0 (length (decimal n)) ≡ true = lt-ltb _ _ is.some in
    elim (cases_lt 0 n) [
      | inl more ↦
          let first = is.first more in
          let no_zero : eqb (get_or (decimal n) 0 0) 48 ≡ false = grind (arith, nat_tests) in
          elim (bool_cases (eqb (length (decimal n)) 1)) [ inl one ↦ rw (some, one) refl | inr longer ↦ rw (some, longer, no_zero) refl ]
      | inr none ↦
          let one : eqb (length (decimal n)) 1 ≡ true = eq-eqb _ _ (is.zero_alone (omega arith)) in rw (some, one) refl
    ]

-- the first digit of several counts
counts : (ds : List ℕ) (less : ℕ) → is_whole ds ≡ true → all_digits ds ≡ true → length ds ≡ suc (suc less) → 10 ^ suc less ≤ decimal_value ds
counts [] less w p len = absurd (omega arith)
counts (d ∷ ds) less w p len =
    let tests = both_true (ltb 0 (length (d ∷ ds))) ((eqb (length (d ∷ ds)) 1) || not (eqb d 48)) w in
    let bounds = digit_bounds d (both_true (is_ascii_digit d) (all_digits ds) p).0 in
    let several : eqb (length (d ∷ ds)) 1 ≡ false = grind (arith, nat_tests) in
    let isn't : not (eqb d 48) ≡ true = rw several at tests.1 in
    let first : 49 ≤ d = grind (arith, nat_tests) in
    let power : 10 ^ length ds ≡ 10 ^ suc less = ap (λ n. 10 ^ n) (omega arith) in
    let times = mul-le 1 (10 ^ length ds) (d - 48) (10 ^ length ds) (omega arith) (omega arith) in
    omega arith

not_shorter : (a b : List ℕ) → all_digits a ≡ true → is_whole b ≡ true → all_digits b ≡ true → decimal_value a ≡ decimal_value b → 0 < length a → length b ≤ length a
not_shorter a b p w q e some = go (length b) refl
  where
    go : (n : ℕ) → length b ≡ n → length b ≤ length a
    go zero len = omega arith
    go (suc zero) len = omega arith
    go (suc (suc less)) len =
        elim (cases_lt (length a) (length b)) [
          | inr is ↦ is
          | inl shorter ↦
              let below = value_lt a p in
              let power : 10 ^ length a ≤ 10 ^ suc less = pow-le-pow_right {n = 10} (omega arith) {i = length a} {j = suc less} (omega arith) in
              let large = counts b less w q len in absurd (omega arith)
        ]

some_whole : (ds : List ℕ) → is_whole ds ≡ true → 0 < length ds
some_whole ds w = ltb-true _ _ (both_true (ltb 0 (length ds)) ((eqb (length ds) 1) || not (eqb (slice_index ds 0) 48)) w).0

pub same_whole : (a b : List ℕ) → is_whole a ≡ true → all_digits a ≡ true → is_whole b ≡ true → all_digits b ≡ true → decimal_value a ≡ decimal_value b → a ≡ b
same_whole a b v p w q e =
    let one = not_shorter a b p w q e (some_whole a v) in
    let other = not_shorter b a q v p (sym e) (some_whole b w) in
    same_digits a b p q (omega arith) e

-- ---- digits behind the point

pub fraction_all : (places rest : ℕ) → rest < 10 ^ places → all_digits (fraction_digits places rest) ≡ true
fraction_all zero rest small = let none : rest ≡ 0 = (let one : 10 ^ 0 ≡ 1 = refl in omega arith) in rw none (rw (no_digits 0) refl)
fraction_all (suc places) rest small =
    elim (cases_lt 0 rest) [
      | inr none ↦ let zero_rest : rest ≡ 0 = omega arith in rw zero_rest (rw (no_digits (suc places)) refl)
      | inl some ↦
          let small_digit = div_below rest (10 ^ places) 10 (tens places) (omega (arith, ten_pow places)) in
          let digit : is_ascii_digit (48 + rest / 10 ^ places) ≡ true = grind (arith, nat_tests) in
          rw (next_digit places rest some) (rw digit (fraction_all places (rest % 10 ^ places) (mod_below rest (10 ^ places) (tens places))))
    ]

more_value : (places rest : ℕ) (ds : List ℕ) → decimal_value ds * 10 ^ places ≡ rest % 10 ^ places * 10 ^ length ds
    → decimal_value ((48 + rest / 10 ^ places) ∷ ds) * 10 ^ suc places ≡ rest * 10 ^ length ((48 + rest / 10 ^ places) ∷ ds)
more_value places rest ds e =
    let q = rest / 10 ^ places in
    let high : 48 + q - 48 ≡ q = omega arith in
    let whole = div-add-mod' rest (10 ^ places) in
    let left : decimal_value ((48 + q) ∷ ds) ≡ q * 10 ^ length ds + decimal_value ds = ap (λ n. n * 10 ^ length ds + decimal_value ds) high in
    let up = times_ten (decimal_value ((48 + q) ∷ ds)) places in
    let down = times_ten rest (length ds) in
    let product = ap (λ n. n * 10 ^ places) left in
    let rests = ap (λ n. n * 10 ^ length ds) (sym whole) in
    omega arith

-- what they are worth
pub fraction_value : (places rest : ℕ) → rest < 10 ^ places
    → decimal_value (fraction_digits places rest) * 10 ^ places ≡ rest * 10 ^ length (fraction_digits places rest)
fraction_value zero rest small = let none : rest ≡ 0 = (let one : 10 ^ 0 ≡ 1 = refl in omega arith) in rw none (rw (no_digits 0) refl)
fraction_value (suc places) rest small =
    elim (cases_lt 0 rest) [
      | inr none ↦ let zero_rest : rest ≡ 0 = omega arith in rw zero_rest (rw (no_digits (suc places)) (omega arith))
      | inl some ↦ rw (next_digit places rest some) (more_value places rest (fraction_digits places (rest % 10 ^ places))
          (fraction_value places (rest % 10 ^ places) (mod_below rest (10 ^ places) (tens places))))
    ]

more_last : (places rest : ℕ) (ds : List ℕ) → 0 < rest → rest < 10 ^ suc places → decimal_value ds * 10 ^ places ≡ rest % 10 ^ places * 10 ^ length ds
    → (0 < length ds → decimal_value ds % 10 ≢ 0) → decimal_value ((48 + rest / 10 ^ places) ∷ ds) % 10 ≢ 0
more_last places rest [] some small e others =
    let q = rest / 10 ^ places in
    let one : 10 ^ 0 ≡ 1 = refl in
    let below = div_below rest (10 ^ places) 10 (tens places) (omega (arith, ten_pow places)) in
    let whole = div-add-mod' rest (10 ^ places) in
    λ none.
    let zero_digit : rest / 10 ^ places ≡ 0 = omega arith in
    let nothing = ap (λ n. n * 10 ^ places) zero_digit in
    absurd (omega arith)
more_last places rest (d ∷ ds) some small e others =
    let last = others (omega arith) in
    let up = times_ten (48 + rest / 10 ^ places - 48) (length ds) in
    λ none. last (omega arith)

-- the last isn't 0
pub fraction_last : (places rest : ℕ) → rest < 10 ^ places → 0 < length (fraction_digits places rest) → decimal_value (fraction_digits places rest) % 10 ≢ 0
fraction_last zero rest small some = let none : rest ≡ 0 = (let one : 10 ^ 0 ≡ 1 = refl in omega arith) in absurd (omega (arith, ap (λ n. length (fraction_digits 0 n)) none, ap length (no_digits 0)))
fraction_last (suc places) rest small some =
    elim (cases_lt 0 rest) [
      | inr none ↦ let zero_rest : rest ≡ 0 = omega arith in absurd (omega (arith, ap (λ n. length (fraction_digits (suc places) n)) zero_rest, ap length (no_digits (suc places))))
      | inl left ↦
          let below = mod_below rest (10 ^ places) (tens places) in
          rw (next_digit places rest left) (more_last places rest (fraction_digits places (rest % 10 ^ places)) left small
          (fraction_value places (rest % 10 ^ places) below) (fraction_last places (rest % 10 ^ places) below))
    ]

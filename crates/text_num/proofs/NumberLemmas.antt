-- JSON numbers: what is read is what is written, and the other way round.
use Rattle.std.proofs.Common.{◌≡◌, ℕ, suc, ◌≤◌, Bool, true, false, ◌&&◌, ◌||◌, ◌==◌, eqb, ltb, List, [], ◌∷◌, ◌++◌, length, get_or, slice_index, take, drop, Option, Some, None, option_and_then, sym, refl, ap, ◌∙◌, subst, arith, eqb-true, ltb-true, inl, inr, append_assoc}
use Rattle.std.specs.Char.{is_ascii_digit}
use Rattle.std.proofs.lemmas.Bool.Decides.{nat_tests}
use Rattle.std.proofs.lemmas.List.{take-append-drop, nil_from_length}
use Rattle.text_num.specs.Digits.{all_digits, is_number, digits_front, behind_digits, fraction_of, fraction_text}
use Rattle.text_num.specs.JsonNumber.{JsonNumber, IsJsonNumber, sign_text, is_whole, is_sign, is_exponent_letter, is_exponent, has_minus, behind_sign, mark_len, exponent_of, number_with, number_of}
use Rattle.text_num.proofs.DigitLemmas.{bool_cases, both_true, digit_bounds, front_digits, front_behind, front_append}
use Rattle.text_num.proofs.FractionLemmas.{same_pair, fraction_is, fraction_read}

-- ---- the steps of a reading

pub no_exponent : (text : List ℕ) → true ≡ eqb (length text) 0 → Some (text, text) ≡ exponent_of text
unfolding exponent_of
no_exponent [] e = refl
no_exponent (c ∷ cs) e = let none : suc (length cs) ≡ 0 = eqb-true _ _ (sym e) in absurd (omega arith)

pub no_letter : (text : List ℕ) → false ≡ eqb (length text) 0 → false ≡ is_exponent_letter (slice_index text 0) → None ≡ exponent_of text
unfolding exponent_of
no_letter text some e = rw (← some, ← e) refl

pub no_digits : (text mark digits : List ℕ) → false ≡ eqb (length text) 0 → true ≡ is_exponent_letter (slice_index text 0)
    → digits ≡ drop (mark_len text) text → false ≡ is_number digits → None ≡ exponent_of text
unfolding exponent_of
no_digits text mark digits some letter is e =
    let none : is_number (drop (mark_len text) text) ≡ false = ap is_number (sym is) ∙ sym e in
    rw (← some, ← letter, none) refl

pub exponent_found : (text mark digits : List ℕ) → false ≡ eqb (length text) 0 → true ≡ is_exponent_letter (slice_index text 0)
    → mark ≡ take (mark_len text) text → digits ≡ drop (mark_len text) text → true ≡ is_number digits → Some (mark, digits) ≡ exponent_of text
unfolding exponent_of
exponent_found text mark digits some letter is behind e =
    let found : is_number (drop (mark_len text) text) ≡ true = ap is_number (sym behind) ∙ sym e in
    rw (← some, ← letter, found, is, behind) refl

pub no_fraction : (text rest : List ℕ) → rest ≡ behind_digits (behind_sign text) → None ≡ fraction_of rest → None ≡ number_of text
unfolding number_of
no_fraction text rest is e = rw (← is, ← e) refl

pub bad_exponent : (text rest fraction after : List ℕ) → rest ≡ behind_digits (behind_sign text) → Some (fraction, after) ≡ fraction_of rest
    → None ≡ exponent_of after → None ≡ number_of text
unfolding number_of
bad_exponent text rest fraction after is e none = rw (← is, ← e, ← none) refl

pub with_exponent : (text rest fraction after mark exponent : List ℕ) → rest ≡ behind_digits (behind_sign text) → Some (fraction, after) ≡ fraction_of rest
    → Some (mark, exponent) ≡ exponent_of after
    → number_with (has_minus text) (digits_front (behind_sign text)) fraction (mark, exponent) ≡ number_of text
unfolding number_of
with_exponent text rest fraction after mark exponent is e found = rw (← is, ← e, ← found) refl

-- ---- what is read is written

sign_is : (text : List ℕ) → text ≡ sign_text (has_minus text) ++ behind_sign text
sign_is [] = refl
sign_is (c ∷ cs) =
    elim (bool_cases (eqb c 45)) [ inl is ↦ rw is (ap (λ x. x ∷ cs) (eqb-true _ _ is)) | inr isn't ↦ rw isn't refl ]

-- two for a sign behind the letter, which is there then
mark_of : (c : ℕ) (cs : List ℕ) → is_exponent_letter c ≡ true → is_number (drop (mark_len (c ∷ cs)) (c ∷ cs)) ≡ true
    → is_exponent (take (mark_len (c ∷ cs)) (c ∷ cs)) (drop (mark_len (c ∷ cs)) (c ∷ cs)) ≡ true
mark_of c [] letter digits = rw letter digits
mark_of c (d ∷ cs) letter digits =
    elim (bool_cases ((d == 43) || (d == 45))) [
      | inl sign ↦ let number = rw sign at digits in rw (sign, letter, sign, number) refl
      | inr no_sign ↦ let number = rw no_sign at digits in rw (no_sign, letter, number) refl
    ]

pub exponent_is : (text mark digits : List ℕ) → exponent_of text ≡ Some (mark, digits)
    → (text ≡ mark ++ digits) × (is_exponent mark digits ≡ true) × (all_digits digits ≡ true)
unfolding exponent_of
exponent_is [] mark digits e = let same = same_pair [] [] mark digits e in rw (← same.0, ← same.1) (refl, refl, refl)
exponent_is (c ∷ cs) mark digits e =
    let some : eqb (suc (length cs)) 0 ≡ false = grind (arith, nat_tests) in
    elim (bool_cases (is_exponent_letter c)) [
      | inl letter ↦
          elim (bool_cases (is_number (drop (mark_len (c ∷ cs)) (c ∷ cs)))) [
            | inl number ↦
                let same = same_pair (take (mark_len (c ∷ cs)) (c ∷ cs)) (drop (mark_len (c ∷ cs)) (c ∷ cs)) mark digits (rw (some, letter, number) at e) in
                rw (← same.0, ← same.1) (
                  sym (take-append-drop (mark_len (c ∷ cs)) (c ∷ cs)),
                  mark_of c cs letter number,
                  (both_true _ (all_digits (drop (mark_len (c ∷ cs)) (c ∷ cs))) number).1,
                )
            | inr no_number ↦ let no = rw (some, letter, no_number) at e in cc
          ]
      | inr no_letter ↦ let no = rw (some, no_letter) at e in cc
    ]

-- what the steps of a reading found, where it found a number
record IsRead (text : List ℕ) (n : JsonNumber) : Type 0 where
  fraction : List ℕ
  after : List ℕ
  mark : List ℕ
  exponent : List ℕ
  fraction_is : fraction_of (behind_digits (behind_sign text)) ≡ Some (fraction, after)
  exponent_is : exponent_of after ≡ Some (mark, exponent)
  number_is : number_with (has_minus text) (digits_front (behind_sign text)) fraction (mark, exponent) ≡ Some n

steps : (text : List ℕ) (n : JsonNumber) → number_of text ≡ Some n → IsRead text n
unfolding number_of
steps text n e = go (fraction_of (behind_digits (behind_sign text))) refl e
  where
    last : (f : List ℕ × List ℕ) → fraction_of (behind_digits (behind_sign text)) ≡ Some f → (o : Option (List ℕ × List ℕ)) → exponent_of f.1 ≡ o
        → option_and_then (number_with (has_minus text) (digits_front (behind_sign text)) f.0) o ≡ Some n → IsRead text n
    last f is None read e = cc
    last f is (Some x) read e =
        record { fraction = f.0; after = f.1; mark = x.0; exponent = x.1; fraction_is = is; exponent_is = read; number_is = e }

    go : (o : Option (List ℕ × List ℕ)) → fraction_of (behind_digits (behind_sign text)) ≡ o
        → option_and_then (λ fraction. option_and_then (number_with (has_minus text) (digits_front (behind_sign text)) fraction.0) (exponent_of fraction.1)) o ≡ Some n
        → IsRead text n
    go None is e = cc
    go (Some f) is e = last f is (exponent_of f.1) refl e

number_with_is : (negative : Bool) (whole fraction : List ℕ) (exponent : List ℕ × List ℕ) (n : JsonNumber)
    → number_with negative whole fraction exponent ≡ Some n
    → (is_whole whole ≡ true) × (record { negative = negative; whole = whole; fraction = fraction; mark = exponent.0; exponent = exponent.1 } ≡ n)
number_with_is negative whole fraction exponent n e =
    elim (bool_cases (is_whole whole)) [
      | inl is ↦ let at = rw is at e in (is, cc)
      | inr isn't ↦ let no = rw isn't at e in cc
    ]

pub number_is : (text : List ℕ) (n : JsonNumber) → number_of text ≡ Some n → IsJsonNumber text n
number_is text n e =
    let read = steps text n e in
    let whole = digits_front (behind_sign text) in
    let fraction = fraction_is (behind_digits (behind_sign text)) read.fraction read.after read.fraction_is in
    let exponent = exponent_is read.after read.mark read.exponent read.exponent_is in
    let found = number_with_is (has_minus text) whole read.fraction (read.mark, read.exponent) n read.number_is in
    let Of : JsonNumber → Type 0 = λ m. IsJsonNumber text m in
    subst Of found.1 (record {
      written = sign_is text ∙ ap (λ l. sign_text (has_minus text) ++ l) (sym (front_behind (behind_sign text)) ∙ ap (λ l. whole ++ l) (fraction.1 ∙ ap (λ l. fraction_text read.fraction ++ l) exponent.0))
          ∙ sym (append_assoc (sign_text (has_minus text)) whole (fraction_text read.fraction ++ (read.mark ++ read.exponent)))
          ∙ sym (append_assoc (sign_text (has_minus text) ++ whole) (fraction_text read.fraction) (read.mark ++ read.exponent))
          ∙ sym (append_assoc ((sign_text (has_minus text) ++ whole) ++ fraction_text read.fraction) read.mark read.exponent);
      whole = found.0;
      digits = front_digits (behind_sign text);
      fraction = fraction.0;
      exponent = exponent.1;
    })

-- ---- what is written is read

first_digit : (digits : List ℕ) → is_number digits ≡ true → (48 ≤ get_or digits 0 0) × (get_or digits 0 0 ≤ 57)
first_digit [] e = absurd (omega (arith, ltb-true 0 0 (both_true (ltb 0 0) true e).0))
first_digit (d ∷ ds) e =
    let digits : all_digits (d ∷ ds) ≡ true = (both_true (ltb 0 (length (d ∷ ds))) (all_digits (d ∷ ds)) e).1 in
    digit_bounds d (both_true (is_ascii_digit d) (all_digits ds) digits).0

exponent_read : (mark digits : List ℕ) → is_exponent mark digits ≡ true → exponent_of (mark ++ digits) ≡ Some (mark, digits)
unfolding exponent_of
exponent_read [] digits e = rw (nil_from_length digits (eqb-true _ _ e)) refl
exponent_read (c ∷ []) digits e =
    let parts = both_true (is_exponent_letter c && true) (is_number digits) e in
    let letter = (both_true (is_exponent_letter c) true parts.0).0 in
    let first = first_digit digits parts.1 in
    let some : eqb (suc (length digits)) 0 ≡ false = grind (arith, nat_tests) in
    let no_sign : ((slice_index digits 0 == 43) || (slice_index digits 0 == 45)) ≡ false = grind (arith, nat_tests) in
    rw (some, no_sign, letter, parts.1) refl
exponent_read (c ∷ s ∷ sign) digits e =
    let parts = both_true (is_exponent_letter c && is_sign (s ∷ sign)) (is_number digits) e in
    let front = both_true (is_exponent_letter c) (is_sign (s ∷ sign)) parts.0 in
    let signs = both_true ((s == 43) || (s == 45)) (length sign == 0) front.1 in
    let none : sign ≡ [] = nil_from_length sign (eqb-true _ _ signs.1) in
    let some : eqb (suc (suc (length digits))) 0 ≡ false = grind (arith, nat_tests) in
    rw none (rw (some, signs.0, front.0, parts.1) refl)

sign_read : (negative : Bool) (rest : List ℕ) → (48 ≤ get_or rest 0 0) → (has_minus (sign_text negative ++ rest) ≡ negative) × (behind_sign (sign_text negative ++ rest) ≡ rest)
sign_read true rest high = (refl, refl)
sign_read false rest high = let no_minus : eqb (get_or rest 0 0) 45 ≡ false = grind (arith, nat_tests) in (no_minus, rw no_minus refl)

exponent_first : (mark digits : List ℕ) → is_exponent mark digits ≡ true
    → (is_ascii_digit (get_or (mark ++ digits) 0 0) ≡ false) × (eqb (get_or (mark ++ digits) 0 0) 46 ≡ false)
exponent_first [] digits e = rw (nil_from_length digits (eqb-true _ _ e)) (refl, refl)
exponent_first (c ∷ sign) digits e =
    let letter = (both_true (is_exponent_letter c) (is_sign sign) (both_true (is_exponent_letter c && is_sign sign) (is_number digits) e).0).0 in
    (grind (arith, nat_tests), grind (arith, nat_tests))

fraction_first : (digits rest : List ℕ) → is_ascii_digit (get_or rest 0 0) ≡ false → is_ascii_digit (get_or (fraction_text digits ++ rest) 0 0) ≡ false
fraction_first [] rest e = e
fraction_first (d ∷ ds) rest e = refl

whole_first : (digits rest : List ℕ) → is_whole digits ≡ true → all_digits digits ≡ true → 48 ≤ get_or (digits ++ rest) 0 0
whole_first [] rest e are = absurd (omega (arith, ltb-true 0 0 (both_true (ltb 0 0) true e).0))
whole_first (d ∷ ds) rest e are = (digit_bounds d (both_true (is_ascii_digit d) (all_digits ds) are).0).0

whole_number : (n : JsonNumber) → is_whole n.whole ≡ true → number_with n.negative n.whole n.fraction (n.mark, n.exponent) ≡ Some n
whole_number n e = rw e refl

pub number_read : (text : List ℕ) (n : JsonNumber) → IsJsonNumber text n → number_of text ≡ Some n
number_read text n is =
    let last = n.mark ++ n.exponent in
    let after = fraction_text n.fraction ++ last in
    let first = exponent_first n.mark n.exponent is.exponent in
    let split = front_append n.whole after is.digits (fraction_first n.fraction last first.0) in
    let sign = sign_read n.negative (n.whole ++ after) (whole_first n.whole after is.whole is.digits) in
    let same : text ≡ sign_text n.negative ++ (n.whole ++ after) =
    is.written ∙ append_assoc (((sign_text n.negative) ++ n.whole) ++ fraction_text n.fraction) n.mark n.exponent
    ∙ append_assoc ((sign_text n.negative) ++ n.whole) (fraction_text n.fraction) last ∙ append_assoc (sign_text n.negative) n.whole after in
    let fraction = fraction_read n.fraction last is.fraction first.0 first.1 in
    let exponent = exponent_read n.mark n.exponent is.exponent in
    let read = with_exponent (sign_text n.negative ++ (n.whole ++ after)) after n.fraction last n.mark n.exponent
    (sym (ap behind_digits sign.1 ∙ split.1)) (sym fraction) (sym exponent) in
    let front : digits_front (behind_sign (sign_text n.negative ++ (n.whole ++ after))) ≡ n.whole = ap digits_front sign.1 ∙ split.0 in
    ap number_of same ∙ sym read
    ∙ ap (λ b. number_with b (digits_front (behind_sign (sign_text n.negative ++ (n.whole ++ after)))) n.fraction (n.mark, n.exponent)) sign.0
    ∙ ap (λ w. number_with n.negative w n.fraction (n.mark, n.exponent)) front
    ∙ whole_number n is.whole

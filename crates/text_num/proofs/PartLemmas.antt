-- A part of a duration: what is read is what is written, and the other way round.
use Rattle.std.proofs.Common.{◌≡◌, ℕ, suc, ◌<◌, ◌≤◌, true, false, eqb, ltb, List, [], ◌∷◌, ◌++◌, length, get_or, slice_index, drop, Option, Some, None, option_map, option_and_then, sym, refl, ap, ◌∙◌, subst, arith, eqb-true, ltb-true, lt-ltb, inl, inr, append_assoc, length-append}
use Rattle.std.specs.Char.{is_ascii_digit}
use Rattle.std.proofs.lemmas.Bool.Decides.{nat_tests}
use Rattle.text_num.specs.declared.duration.TimeUnit.{TimeUnit}
use Rattle.text_num.specs.declared.duration.TimeUnit.TheVariants.{Week, Day, Hour, Minute, Second, Milli}
use Rattle.text_num.specs.Digits.{all_digits, is_number, digits_front, behind_digits, fraction_of, fraction_text}
use Rattle.text_num.specs.Duration.{Part, IsPart, part_text, unit_text, unit_of, unit_of_letter, is_milli, part_of, part_with}
use Rattle.text_num.proofs.DigitLemmas.{bool_cases, both_true, digit_bounds, front_digits, front_behind, front_append}
use Rattle.text_num.proofs.FractionLemmas.{fraction_is, fraction_read}

-- ---- the steps of a reading

pub no_fraction : (text rest : List ℕ) → rest ≡ behind_digits text → None ≡ fraction_of rest → part_of text ≡ None
unfolding part_of
no_fraction text rest is e = rw (← is, ← e) refl

pub no_unit : (text rest fraction after : List ℕ) → rest ≡ behind_digits text → Some (fraction, after) ≡ fraction_of rest
    → None ≡ unit_of after → part_of text ≡ None
unfolding part_of
no_unit text rest fraction after is e none = rw (← is, ← e, ← none) refl

pub with_unit : (text rest fraction after last : List ℕ) (unit : TimeUnit) → rest ≡ behind_digits text → Some (fraction, after) ≡ fraction_of rest
    → Some (unit, last) ≡ unit_of after → part_of text ≡ part_with (digits_front text) fraction (unit, last)
unfolding part_of
with_unit text rest fraction after last unit is e some = rw (← is, ← e, ← some) refl

pub no_whole : (whole fraction : List ℕ) (unit : TimeUnit × List ℕ) → eqb (length whole) 0 ≡ true → part_with whole fraction unit ≡ None
no_whole whole fraction unit e = rw e refl

pub long_fraction : (whole fraction : List ℕ) (unit : TimeUnit × List ℕ) → 9 < length fraction → part_with whole fraction unit ≡ None
long_fraction whole fraction unit e =
    let long : ltb 9 (length fraction) ≡ true = lt-ltb _ _ e in
    elim (bool_cases (eqb (length whole) 0)) [ inl is ↦ rw is refl | inr isn't ↦ rw (isn't, long) refl ]

pub whole_part : (whole fraction : List ℕ) (unit : TimeUnit × List ℕ) → eqb (length whole) 0 ≡ false → length fraction ≤ 9
    → part_with whole fraction unit ≡ Some (record { whole = whole; fraction = fraction; unit = unit.0 }, unit.1)
whole_part whole fraction unit some short =
    let fits : ltb 9 (length fraction) ≡ false = grind (arith, nat_tests) in rw (some, fits) refl

-- ---- what is read is written

same_unit : (a b : TimeUnit) (xs ys : List ℕ) → ◌≡◌ {A = Option (TimeUnit × List ℕ)} (Some (a, xs)) (Some (b, ys)) → (a ≡ b) × (xs ≡ ys)
same_unit a b xs ys e =
    let one : TimeUnit × List ℕ = (a, xs) in
    let other : TimeUnit × List ℕ = (b, ys) in
    let same : one ≡ other = cc in (ap (λ (p : TimeUnit × List ℕ). p.0) same, ap (λ (p : TimeUnit × List ℕ). p.1) same)

mapped : (o : Option TimeUnit) (cs rest : List ℕ) (unit : TimeUnit) → option_map {U = TimeUnit × List ℕ} (λ u. (u, cs)) o ≡ Some (unit, rest) → (o ≡ Some unit) × (cs ≡ rest)
mapped None cs rest unit e = cc
mapped (Some u) cs rest unit e = let same = same_unit u unit cs rest e in (ap (λ x. Some x) same.0, same.1)

letter_is : (c : ℕ) (unit : TimeUnit) → unit_of_letter c ≡ Some unit → unit_text unit ≡ c ∷ []
letter_is c unit e =
    elim (bool_cases (eqb c 119)) [
      | inl is ↦ let at = rw is at e in let same : Week ≡ unit = cc in rw (← same, eqb-true _ _ is) refl
      | inr not_week ↦ elim (bool_cases (eqb c 100)) [
        | inl is ↦ let at = rw (not_week, is) at e in let same : Day ≡ unit = cc in rw (← same, eqb-true _ _ is) refl
        | inr not_day ↦ elim (bool_cases (eqb c 104)) [
          | inl is ↦ let at = rw (not_week, not_day, is) at e in let same : Hour ≡ unit = cc in rw (← same, eqb-true _ _ is) refl
          | inr not_hour ↦ elim (bool_cases (eqb c 109)) [
            | inl is ↦ let at = rw (not_week, not_day, not_hour, is) at e in let same : Minute ≡ unit = cc in rw (← same, eqb-true _ _ is) refl
            | inr not_minute ↦ elim (bool_cases (eqb c 115)) [
              | inl is ↦ let at = rw (not_week, not_day, not_hour, not_minute, is) at e in let same : Second ≡ unit = cc in rw (← same, eqb-true _ _ is) refl
              | inr not_second ↦ let no = rw (not_week, not_day, not_hour, not_minute, not_second) at e in cc
            ]
          ]
        ]
      ]
    ]

first_is : (cs : List ℕ) (c : ℕ) → get_or cs 0 0 ≡ suc c → cs ≡ suc c ∷ drop 1 cs
first_is [] c e = absurd (omega arith)
first_is (x ∷ cs) c e = ap (λ y. y ∷ cs) e

unit_is : (text rest : List ℕ) (unit : TimeUnit) → unit_of text ≡ Some (unit, rest) → text ≡ unit_text unit ++ rest
unfolding unit_of
unit_is [] rest unit e = cc
unit_is (c ∷ cs) rest unit e =
    elim (bool_cases (is_milli c cs)) [
      | inl is ↦
          let tests = both_true (eqb c 109) (eqb (slice_index cs 0) 115) is in
          let same = same_unit Milli unit (drop 1 cs) rest (rw is at e) in
          let second : cs ≡ 115 ∷ drop 1 cs = first_is cs 114 (eqb-true _ _ tests.1) in
          rw (← same.0, ← same.1) (ap (λ l. c ∷ l) second ∙ ap (λ x. x ∷ 115 ∷ drop 1 cs) (eqb-true _ _ tests.0))
      | inr isn't ↦
          let parts = mapped (unit_of_letter c) cs rest unit (rw isn't at e) in
          rw (letter_is c unit parts.0, ← parts.1) refl
    ]

none_and_then : (o : Option (TimeUnit × List ℕ)) (whole fraction : List ℕ) (p : Part) (rest : List ℕ)
    → option_and_then (part_with whole fraction) o ≡ Some (p, rest)
    → (unit : TimeUnit) × (last : List ℕ) × (o ≡ Some (unit, last)) × (part_with whole fraction (unit, last) ≡ Some (p, rest))
none_and_then None whole fraction p rest e = cc
none_and_then (Some unit) whole fraction p rest e = (unit.0, unit.1, refl, e)

-- what the steps of a reading found, where it found a part
record IsRead (text : List ℕ) (p : Part) (rest : List ℕ) : Type 0 where
  fraction : List ℕ
  after : List ℕ
  unit : TimeUnit
  last : List ℕ
  fraction_is : fraction_of (behind_digits text) ≡ Some (fraction, after)
  unit_is : unit_of after ≡ Some (unit, last)
  part_is : part_with (digits_front text) fraction (unit, last) ≡ Some (p, rest)

steps : (text : List ℕ) (p : Part) (rest : List ℕ) → part_of text ≡ Some (p, rest) → IsRead text p rest
unfolding part_of
steps text p rest e = go (fraction_of (behind_digits text)) refl e
  where
    go : (o : Option (List ℕ × List ℕ)) → fraction_of (behind_digits text) ≡ o
        → option_and_then (λ fraction. option_and_then (part_with (digits_front text) fraction.0) (unit_of fraction.1)) o ≡ Some (p, rest) → IsRead text p rest
    go None is e = cc
    go (Some fraction) is e =
        let found = none_and_then (unit_of fraction.1) (digits_front text) fraction.0 p rest e in
        record { fraction = fraction.0; after = fraction.1; unit = found.0; last = found.1; fraction_is = is; unit_is = found.2; part_is = found.3 }

same_part : (a b : Part) (xs ys : List ℕ) → ◌≡◌ {A = Option (Part × List ℕ)} (Some (a, xs)) (Some (b, ys)) → (a ≡ b) × (xs ≡ ys)
same_part a b xs ys e =
    let one : Part × List ℕ = (a, xs) in
    let other : Part × List ℕ = (b, ys) in
    let same : one ≡ other = cc in (ap (λ (p : Part × List ℕ). p.0) same, ap (λ (p : Part × List ℕ). p.1) same)

-- the tests on a part's digits
part_with_is : (whole fraction last : List ℕ) (unit : TimeUnit) (p : Part) (rest : List ℕ) → part_with whole fraction (unit, last) ≡ Some (p, rest)
    → (0 < length whole) × (length fraction ≤ 9) × (p ≡ record { whole = whole; fraction = fraction; unit = unit }) × (rest ≡ last)
part_with_is whole fraction last unit p rest e =
    elim (bool_cases (eqb (length whole) 0)) [
      | inl empty ↦ let no = rw empty at e in cc
      | inr some ↦ elim (bool_cases (ltb 9 (length fraction))) [
        | inl long ↦ let no = rw (some, long) at e in cc
        | inr short ↦
            let same = same_part (record { whole = whole; fraction = fraction; unit = unit }) p last rest (rw (some, short) at e) in
            (grind (arith, nat_tests), grind (arith, nat_tests), sym same.0, sym same.1)
      ]
    ]

pub part_is : (text : List ℕ) (p : Part) (rest : List ℕ) → part_of text ≡ Some (p, rest) → IsPart p × (text ≡ part_text p ++ rest)
part_is text p rest e =
    let read = steps text p rest e in
    let fraction = fraction_is (behind_digits text) read.fraction read.after read.fraction_is in
    let unit = unit_is read.after read.last read.unit read.unit_is in
    let tests = part_with_is (digits_front text) read.fraction read.last read.unit p rest read.part_is in
    let some : ltb 0 (length (digits_front text)) ≡ true = lt-ltb _ _ tests.0 in
    let read_as : Part = record { whole = digits_front text; fraction = read.fraction; unit = read.unit } in
    let base : IsPart read_as × (text ≡ part_text read_as ++ read.last) = (
      record { whole = rw some (front_digits text); fraction = fraction.0; short = tests.1 },
      sym (front_behind text) ∙ ap (λ l. digits_front text ++ l) (fraction.1 ∙ ap (λ l. fraction_text read.fraction ++ l) unit)
          ∙ sym (append_assoc (digits_front text) (fraction_text read.fraction) (unit_text read.unit ++ read.last))
          ∙ sym (append_assoc (digits_front text ++ fraction_text read.fraction) (unit_text read.unit) read.last),
    ) in
    let At : List ℕ → Type 0 = λ l. IsPart read_as × (text ≡ part_text read_as ++ l) in
    let Of : Part → Type 0 = λ q. IsPart q × (text ≡ part_text q ++ rest) in
    subst Of (sym tests.2) (subst At (sym tests.3) base)

some_unit : (unit : TimeUnit) → 0 < length (unit_text unit)
some_unit Week = omega arith
some_unit Day = omega arith
some_unit Hour = omega arith
some_unit Minute = omega arith
some_unit Second = omega arith
some_unit Milli = omega arith

-- a part has a byte or more
pub part_shrinks : (text : List ℕ) (p : Part) (rest : List ℕ) → part_of text ≡ Some (p, rest) → length rest < length text
part_shrinks text p rest e =
    let written = ap length (part_is text p rest e).1 in
    let some = some_unit p.unit in
    omega (arith, length-append (part_text p) rest, length-append (p.whole ++ fraction_text p.fraction) (unit_text p.unit))

-- ---- what is written is read

unit_read : (unit : TimeUnit) (rest : List ℕ) → eqb (get_or rest 0 0) 115 ≡ false → unit_of (unit_text unit ++ rest) ≡ Some (unit, rest)
unfolding unit_of
unit_read Week rest e = refl
unit_read Day rest e = refl
unit_read Hour rest e = refl
unit_read Minute rest e = rw e refl
unit_read Second rest e = refl
unit_read Milli rest e = refl

unit_first : (unit : TimeUnit) (rest : List ℕ) → (is_ascii_digit (get_or (unit_text unit ++ rest) 0 0) ≡ false) × (eqb (get_or (unit_text unit ++ rest) 0 0) 46 ≡ false)
unit_first Week rest = (refl, refl)
unit_first Day rest = (refl, refl)
unit_first Hour rest = (refl, refl)
unit_first Minute rest = (refl, refl)
unit_first Second rest = (refl, refl)
unit_first Milli rest = (refl, refl)

fraction_first : (digits rest : List ℕ) → is_ascii_digit (get_or rest 0 0) ≡ false → is_ascii_digit (get_or (fraction_text digits ++ rest) 0 0) ≡ false
fraction_first [] rest e = e
fraction_first (d ∷ ds) rest e = refl

pub part_read : (p : Part) (rest : List ℕ) → IsPart p → eqb (get_or rest 0 0) 115 ≡ false → part_of (part_text p ++ rest) ≡ Some (p, rest)
part_read p rest is_part e =
    let tail = unit_text p.unit ++ rest in
    let first = unit_first p.unit rest in
    let whole = both_true (ltb 0 (length p.whole)) (all_digits p.whole) is_part.whole in
    let split = front_append p.whole (fraction_text p.fraction ++ tail) whole.1 (fraction_first p.fraction tail first.0) in
    let same : part_text p ++ rest ≡ p.whole ++ (fraction_text p.fraction ++ tail) =
    append_assoc (p.whole ++ fraction_text p.fraction) (unit_text p.unit) rest ∙ append_assoc p.whole (fraction_text p.fraction) tail in
    let fraction = fraction_read p.fraction tail is_part.fraction first.0 first.1 in
    let unit = unit_read p.unit rest e in
    let some : eqb (length p.whole) 0 ≡ false = grind (arith, nat_tests) in
    ap part_of same
    ∙ with_unit (p.whole ++ (fraction_text p.fraction ++ tail)) (fraction_text p.fraction ++ tail) p.fraction tail rest p.unit (sym split.1) (sym fraction) (sym unit)
    ∙ ap (λ w. part_with w p.fraction (p.unit, rest)) split.0
    ∙ whole_part p.whole p.fraction (p.unit, rest) some is_part.short

pub part_first : (p : Part) (rest : List ℕ) → IsPart p → eqb (get_or (part_text p ++ rest) 0 0) 115 ≡ false
part_first p rest is_part = go p.whole is_part.whole
  where
    go : (whole : List ℕ) → is_number whole ≡ true → eqb (get_or (((whole ++ fraction_text p.fraction) ++ unit_text p.unit) ++ rest) 0 0) 115 ≡ false
    go [] e = absurd (omega (arith, ltb-true 0 0 (both_true (ltb 0 0) true e).0))
    go (c ∷ cs) e =
        let digits : all_digits (c ∷ cs) ≡ true = (both_true (ltb 0 (length (c ∷ cs))) (all_digits (c ∷ cs)) e).1 in
        let bounds = digit_bounds c (both_true (is_ascii_digit c) (all_digits cs) digits).0 in
        let isn't : eqb c 115 ≡ false = grind (arith, nat_tests) in isn't

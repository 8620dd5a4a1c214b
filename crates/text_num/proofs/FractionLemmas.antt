-- Fractions: what is read is what is written, and the other way round.
use Rattle.std.proofs.Common.{◌≡◌, ℕ, ◌<◌, true, false, eqb, ltb, List, [], ◌∷◌, ◌++◌, length, get_or, Option, Some, sym, refl, ap, arith, eqb-true, ltb-true, lt-ltb, inl, inr}
use Rattle.std.specs.Char.{is_ascii_digit}
use Rattle.text_num.specs.Digits.{all_digits, digits_front, behind_digits, fraction_of, fraction_text}
use Rattle.text_num.proofs.DigitLemmas.{bool_cases, front_digits, front_behind, front_append}

pub same_pair : (a b c d : List ℕ) → ◌≡◌ {A = Option (List ℕ × List ℕ)} (Some (a, b)) (Some (c, d)) → (a ≡ c) × (b ≡ d)
same_pair a b c d e =
    let one : List ℕ × List ℕ = (a, b) in
    let other : List ℕ × List ℕ = (c, d) in
    let same : one ≡ other = cc in (ap (λ (p : List ℕ × List ℕ). p.0) same, ap (λ (p : List ℕ × List ℕ). p.1) same)

point_before : (ds : List ℕ) → 0 < length ds → fraction_text ds ≡ 46 ∷ ds
point_before [] some = absurd (omega arith)
point_before (d ∷ ds) some = refl

pub fraction_is : (text digits rest : List ℕ) → fraction_of text ≡ Some (digits, rest)
    → (all_digits digits ≡ true) × (text ≡ fraction_text digits ++ rest)
unfolding fraction_of
fraction_is [] digits rest e =
    let same = same_pair [] [] digits rest e in rw (← same.0, ← same.1) (refl, refl)
fraction_is (c ∷ cs) digits rest e =
    elim (bool_cases (eqb c 46)) [
      | inl point ↦
          elim (bool_cases (ltb 0 (length (digits_front cs)))) [
            | inl some ↦
                let same = same_pair (digits_front cs) (behind_digits cs) digits rest (rw (point, some) at e) in
                let written = point_before (digits_front cs) (ltb-true _ _ some) in
                rw (← same.0, ← same.1, written, eqb-true _ _ point) (front_digits cs, ap (λ l. 46 ∷ l) (sym (front_behind cs)))
            | inr none ↦ let no = rw (point, none) at e in cc
          ]
      | inr no_point ↦
          let same = same_pair [] (c ∷ cs) digits rest (rw no_point at e) in rw (← same.0, ← same.1) (refl, refl)
    ]

pub fraction_read : (digits rest : List ℕ) → all_digits digits ≡ true → is_ascii_digit (get_or rest 0 0) ≡ false
    → eqb (get_or rest 0 0) 46 ≡ false → fraction_of (fraction_text digits ++ rest) ≡ Some (digits, rest)
unfolding fraction_of
fraction_read [] rest are_digits no_digit no_point = rw no_point refl
fraction_read (d ∷ ds) rest are_digits no_digit no_point =
    let split = front_append (d ∷ ds) rest are_digits no_digit in
    let some : ltb 0 (length (d ∷ ds)) ≡ true = lt-ltb _ _ (omega arith) in
    rw (split.0, split.1, some) refl

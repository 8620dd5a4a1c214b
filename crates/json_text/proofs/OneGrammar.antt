-- A number of this grammar is one of the grammar by which its units are read.
use Rattle.std.proofs.Common.{◌≡◌, ℕ, Bool, true, false, List, [], ◌∷◌, ◌++◌, refl, sym, ◌∙◌, ap, append_assoc, arith, length, suc, inl, inr, Option, Some, None, Err}
use Rattle.std.specs.Prelude.{◌&&◌, ◌||◌, ◌==◌, nat_le, nat_lt, not}
use Rattle.std.proofs.lemmas.Bool.Decides.{nat_tests}
use Rattle.json_text.proofs.Booleans.{and_left, and_right}
use Rattle.json_text.specs.Bytes.{Each, is_digit, is_leading_digit, is_exponent_mark, is_sign}
use Rattle.json_text.specs.Lexical as lexical
use Rattle.text_num.specs.Digits.{all_digits, fraction_text, is_number}
use Rattle.text_num.specs.JsonNumber.{JsonNumber, IsJsonNumber, is_exponent, is_whole, number_text, sign_text}
use Rattle.text_num.specs.JsonNumber as one
use Rattle.text_num.specs.Units.{signed_multiple, units_of, units_of_number, magnitude_of}
use Rattle.text_num.specs.declared.fault.NumFault.TheVariants as fault

both : (a b : Bool) → a ≡ true → b ≡ true → (a && b) ≡ true
both a b h k = rw (h, k) refl

digits-are : (ds : List ℕ) → Each is_digit ds → all_digits ds ≡ true
digits-are [] h = refl
digits-are (d ∷ ds) h = both (is_digit d) (all_digits ds) h.0 (digits-are ds h.1)

record IsSpelled (w : List ℕ) : Type 0 where
  pub first : ℕ
  pub rest : List ℕ
  pub is : w ≡ first ∷ rest
  pub digits : all_digits (first ∷ rest) ≡ true

some-digits : (w : List ℕ) → lexical.AreDigits w → IsSpelled w
some-digits w h = record { first = h.first; rest = h.rest; is = h.spelled; digits = both (is_digit h.first) (all_digits h.rest) h.leads (digits-are h.rest h.digits) }

more-than-none : (n : ℕ) → nat_lt 0 (suc n) ≡ true
more-than-none n = grind (arith, nat_tests)

number-is : (w : List ℕ) → lexical.AreDigits w → is_number w ≡ true
number-is w h = let s = some-digits w h in rw s.is (both (nat_lt 0 (suc (length s.rest))) (all_digits (s.first ∷ s.rest)) (more-than-none (length s.rest)) s.digits)

minus-is : (w : List ℕ) → lexical.IsMinus w → (b : Bool) × (w ≡ sign_text b)
minus-is w (inl e) = (false, e)
minus-is w (inr e) = (true, e)

wider : (b : ℕ) → nat_le 0x31 b ≡ true → nat_le 0x30 b ≡ true
wider b h = grind (arith, nat_tests)

leading-digit : (b : ℕ) → is_leading_digit b ≡ true → is_digit b ≡ true
leading-digit b h = both (nat_le 0x30 b) (nat_le b 0x39) (wider b (and_left (nat_le 0x31 b) (nat_le b 0x39) h)) (and_right (nat_le 0x31 b) (nat_le b 0x39) h)

no-zero : (b : ℕ) → nat_le 0x31 b ≡ true → (b == 48) ≡ false
no-zero b h = grind (arith, nat_tests)

or-true : (a b : Bool) → b ≡ true → (a || b) ≡ true
or-true true b h = refl
or-true false b h = h

leads-whole : (b : ℕ) (bs : List ℕ) → is_leading_digit b ≡ true → is_whole (b ∷ bs) ≡ true
leads-whole b bs h =
    both (nat_lt 0 (suc (length bs))) ((suc (length bs) == 1) || not (b == 48)) (more-than-none (length bs))
    (or-true (suc (length bs) == 1) (not (b == 48)) (ap not (no-zero b (and_left (nat_le 0x31 b) (nat_le b 0x39) h))))

whole-is : (w : List ℕ) → lexical.IsWhole w → (is_whole w ≡ true) × (all_digits w ≡ true)
whole-is w (inl e) = rw e (refl, refl)
whole-is w (inr p) = rw p.spelled (leads-whole p.first p.rest p.leads, both (is_digit p.first) (all_digits p.rest) (leading-digit p.first p.leads) (digits-are p.rest p.digits))

fraction-is : (w : List ℕ) → lexical.Maybe lexical.IsFraction w → (ds : List ℕ) × (w ≡ fraction_text ds) × (all_digits ds ≡ true)
fraction-is w (inl e) = ([], e, refl)
fraction-is w (inr h) = let s = some-digits h.0 h.2 in (s.first ∷ s.rest, h.1 ∙ ap (λ (x : List ℕ). 0x2e ∷ x) s.is, s.digits)

sign-is : (w : List ℕ) → lexical.IsSign w → one.is_sign w ≡ true
sign-is w (inl e) = rw e refl
sign-is w (inr h) = rw h.1 (both (is_sign h.0) true h.2 refl)

exponent-is : (w : List ℕ) → lexical.Maybe lexical.IsExponent w → (mark : List ℕ) × (ds : List ℕ) × (w ≡ mark ++ ds) × (is_exponent mark ds ≡ true)
exponent-is w (inl e) = ([], [], e, refl)
exponent-is w (inr h) = (
  h.0 ∷ h.1,
  h.2,
  h.3,
  both (is_exponent_mark h.0 && one.is_sign h.1) (is_number h.2) (both (is_exponent_mark h.0) (one.is_sign h.1) h.4 (sign-is h.1 h.5)) (number-is h.2 h.6),
)

known-or-out : (b : Bool) (o : Option ℕ) → signed_multiple b o ≡ Err fault.NotANumber → ⊥
known-or-out b None h = absurd (cc)
known-or-out b (Some m) h = absurd (cc)

pub never-none : ((text : List ℕ) (n : JsonNumber) → IsJsonNumber text n → units_of text ≡ units_of_number n) → (w : List ℕ) → lexical.IsNumber w → units_of w ≡ Err fault.NotANumber → ⊥
never-none law w h none =
    let m = minus-is h.minus h.is_minus in let d = whole-is h.whole h.is_whole in let f = fraction-is h.fraction h.is_fraction in let e = exponent-is h.exponent h.is_exponent in
    let n : JsonNumber = record { negative = m.0; whole = h.whole; fraction = f.0; mark = e.0; exponent = e.1 } in
    let written : w ≡ number_text n = h.spelled
    ∙ ap (λ (x : List ℕ). x ++ h.whole ++ h.fraction ++ h.exponent) m.1
    ∙ ap (λ (x : List ℕ). sign_text m.0 ++ h.whole ++ x ++ h.exponent) f.1
    ∙ ap (λ (x : List ℕ). sign_text m.0 ++ h.whole ++ fraction_text f.0 ++ x) e.2
    ∙ sym (append_assoc (sign_text m.0 ++ h.whole ++ fraction_text f.0) e.0 e.1) in
    known-or-out n.negative (magnitude_of n) (sym (law w n (record { written = written; whole = d.0; digits = d.1; fraction = f.2; exponent = e.3 })) ∙ none)

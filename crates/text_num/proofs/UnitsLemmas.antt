-- What a text gives as units, by its number.
use Rattle.std.proofs.Common.{◌≡◌, ℕ, List, Option, Some, None, Result, Err, ℤ, ◌⊎◌, sym, refl, ap, ◌∙◌, inl, inr, ◌+◌, length, Bool, ltb, zero, suc, pos, negsuc, unsigned_abs, true, false, arith}
use Rattle.text_num.specs.declared.fault.NumFault.{NumFault}
use Rattle.text_num.specs.declared.fault.NumFault.TheVariants.{NotANumber}
use Rattle.text_num.specs.Digits.{decimal_value}
use Rattle.text_num.specs.JsonNumber.{JsonNumber, IsJsonNumber, number_of}
use Rattle.text_num.specs.Units.{units_if, units_of, units_of_number, shrinks, multiple_of, digits_of, magnitude_of, signed}
use Rattle.std.specs.Int.{is_negative}
use Rattle.std.proofs.lemmas.Bool.Decides.{nat_tests}
use Rattle.text_num.proofs.NumberLemmas.{number_is, number_read}

pub units_known : (text : List ℕ) (o : Option JsonNumber) → o ≡ number_of text → units_if o ≡ units_of text
unfolding units_of
units_known text o e = ap units_if e

-- any number that writes a text gives its units
pub units_at : (text : List ℕ) (result : Result ℤ NumFault) → result ≡ units_of text
    → (n : JsonNumber) → IsJsonNumber text n → result ≡ units_of_number n
units_at text result is n written = is ∙ sym (units_known text (Some n) (sym (number_read text n written)))

-- and a text that no number writes is none
pub number_at : (text : List ℕ) (result : Result ℤ NumFault) → result ≡ units_of text
    → (result ≡ Err NotANumber) ⊎ ((n : JsonNumber) × IsJsonNumber text n)
number_at text result is = go (number_of text) refl
  where
    go : (o : Option JsonNumber) → number_of text ≡ o → (result ≡ Err NotANumber) ⊎ ((n : JsonNumber) × IsJsonNumber text n)
    go None e = inl (is ∙ sym (units_known text None (sym e)))
    go (Some n) e = inr (n, number_is text n e)

-- the places of a number, by the sign of its exponent
pub shrunk : (n : JsonNumber) → shrinks n ≡ true → multiple_of (digits_of n) 18 (length n.fraction + decimal_value n.exponent) ≡ magnitude_of n
shrunk n e = rw e refl

pub grown : (n : JsonNumber) → shrinks n ≡ false → multiple_of (digits_of n) (18 + decimal_value n.exponent) (length n.fraction) ≡ magnitude_of n
grown n e = rw e (ap (multiple_of (digits_of n) (18 + decimal_value n.exponent)) (omega arith))

-- signs
pub signed_abs : (negative : Bool) (m : ℕ) → unsigned_abs (signed negative m) ≡ m
signed_abs true zero = refl
signed_abs true (suc m) = refl
signed_abs false m = refl

pub abs_signed : (units : ℤ) → signed (is_negative units) (unsigned_abs units) ≡ units
abs_signed (pos n) = let no : ltb n 0 ≡ false = grind (arith, nat_tests) in rw no refl
abs_signed (negsuc n) = refl

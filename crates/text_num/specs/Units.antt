-- Decimals as multiples of 10^-18, the units of this crate.
use Rattle.std.specs.Prelude.{ℕ, zero, suc, ◌+◌, ◌*◌, ◌/◌, ◌%◌, ◌^◌, ◌==◌, ◌&&◌, ◌++◌, nat_lt, Bool, if◌then◌else◌, List, [], ◌∷◌, length, slice_index, decimal, ℤ, pos, neg_ℤ, unsigned_abs, Option, Some, None, Result, Ok, Err}
use Rattle.std.specs.Int.{is_negative}
use Rattle.text_num.specs.declared.fault.NumFault.{NumFault}
use Rattle.text_num.specs.declared.fault.NumFault.TheVariants.{NotANumber, OutOfRange}
use Rattle.text_num.specs.Digits.{decimal_value, fraction_text}
use Rattle.text_num.specs.JsonNumber.{JsonNumber, number_of, sign_text}

-- ---- from a number to its units

-- the digits of a number without its point
abbrev pub digits_of : JsonNumber → ℕ
digits_of n = decimal_value (n.whole ++ n.fraction)

-- whether the exponent has a minus (45)
abbrev pub shrinks : JsonNumber → Bool
shrinks n = slice_index n.mark 1 == 45

-- the units of a number are its digits, times ten to the first of these, divided by ten to the second
abbrev pub places_up : JsonNumber → ℕ
places_up n = 18 + (if shrinks n then 0 else decimal_value n.exponent)

abbrev pub places_down : JsonNumber → ℕ
places_down n = length n.fraction + (if shrinks n then decimal_value n.exponent else 0)

abbrev pub signed : Bool → ℕ → ℤ
signed negative m = if negative then neg_ℤ (pos m) else pos m

-- digits with places: a whole multiple below 10^38, or none
unfoldable pub multiple_of : ℕ → ℕ → ℕ → Option ℕ
multiple_of digits up down =
    if (digits * 10 ^ up % 10 ^ down == 0) && nat_lt (digits * 10 ^ up / 10 ^ down) (10 ^ 38)
    then Some (digits * 10 ^ up / 10 ^ down)
    else None

abbrev pub signed_multiple : Bool → Option ℕ → Result ℤ NumFault
signed_multiple negative None = Err OutOfRange
signed_multiple negative (Some m) = Ok (signed negative m)

-- a number's units without their sign
abbrev pub magnitude_of : JsonNumber → Option ℕ
magnitude_of n = multiple_of (digits_of n) (places_up n) (places_down n)

-- a number's units, where they are whole and below 10^38: the number is below 10^20
abbrev pub units_of_number : JsonNumber → Result ℤ NumFault
units_of_number n = signed_multiple n.negative (magnitude_of n)

abbrev pub units_if : Option JsonNumber → Result ℤ NumFault
units_if None = Err NotANumber
units_if (Some n) = units_of_number n

-- what a text gives as units
unfoldable pub units_of : List ℕ → Result ℤ NumFault
units_of text = units_if (number_of text)

-- ---- from units to their text

-- the digits of a fraction below 1, of which `rest` counts the 10^-places, up to the last that isn't 0
unfoldable pub fraction_digits : ℕ → ℕ → List ℕ
fraction_digits zero rest = []
fraction_digits (suc places) rest =
    if rest == 0 then [] else (48 + rest / 10 ^ places) ∷ fraction_digits places (rest % 10 ^ places)

-- the number that units are written as: no exponent, no zeros at the end of the fraction
unfoldable pub number_of_units : ℤ → JsonNumber
number_of_units units = record {
  negative = is_negative units;
  whole = decimal (unsigned_abs units / 10 ^ 18);
  fraction = fraction_digits 18 (unsigned_abs units % 10 ^ 18);
  mark = [];
  exponent = [];
}

unfoldable pub units_text : ℤ → List ℕ
units_text units =
    sign_text (is_negative units) ++ decimal (unsigned_abs units / 10 ^ 18)
    ++ fraction_text (fraction_digits 18 (unsigned_abs units % 10 ^ 18))

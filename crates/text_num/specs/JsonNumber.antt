-- The numbers of JSON (RFC 8259, section 6): `-1.50e+3`.
use Rattle.std.specs.Prelude.{◌≡◌, ℕ, ◌==◌, ◌&&◌, ◌||◌, ◌++◌, not, nat_lt, true, Bool, if◌then◌else◌, List, [], ◌∷◌, length, take, drop, slice_index, codes, Option, Some, None, option_and_then}
use Rattle.text_num.specs.Digits.{all_digits, is_number, digits_front, behind_digits, fraction_of, fraction_text}

-- ---- what a number is

-- whether it has a minus, its digits before the point and behind it (none without one), `e` or `E` with the sign that
-- may follow, and the digits of the exponent (both empty without one)
pub record JsonNumber : Type 0 where
  pub negative : Bool
  pub whole : List ℕ
  pub fraction : List ℕ
  pub mark : List ℕ
  pub exponent : List ℕ

abbrev pub sign_text : Bool → List ℕ
sign_text negative = if negative then codes "-" else []

abbrev pub number_text : JsonNumber → List ℕ
number_text n = sign_text n.negative ++ n.whole ++ fraction_text n.fraction ++ n.mark ++ n.exponent

-- no zero stands before another digit
abbrev pub is_whole : List ℕ → Bool
is_whole digits = nat_lt 0 (length digits) && ((length digits == 1) || not (slice_index digits 0 == 48))

-- a plus (43) or a minus (45), or neither
abbrev pub is_sign : List ℕ → Bool
is_sign [] = true
is_sign (c ∷ cs) = ((c == 43) || (c == 45)) && (length cs == 0)

-- `e` (101) or `E` (69)
abbrev pub is_exponent_letter : ℕ → Bool
is_exponent_letter c = (c == 101) || (c == 69)

abbrev pub is_exponent : List ℕ → List ℕ → Bool
is_exponent [] digits = length digits == 0
is_exponent (c ∷ sign) digits = is_exponent_letter c && is_sign sign && is_number digits

-- a text is written by this number
pub record IsJsonNumber (text : List ℕ) (n : JsonNumber) : Type 0 where
  pub written : text ≡ number_text n
  pub whole : is_whole n.whole ≡ true
  pub digits : all_digits n.whole ≡ true
  pub fraction : all_digits n.fraction ≡ true
  pub exponent : is_exponent n.mark n.exponent ≡ true

-- ---- the number of a text, from its front

-- whether a text begins with a minus (45), and what follows the sign
abbrev pub has_minus : List ℕ → Bool
has_minus text = slice_index text 0 == 45

abbrev pub behind_sign : List ℕ → List ℕ
behind_sign text = if has_minus text then drop 1 text else text

-- the length of an exponent's mark: two where a plus (43) or a minus stands behind the letter
abbrev pub mark_len : List ℕ → ℕ
mark_len text = if (slice_index text 1 == 43) || (slice_index text 1 == 45) then 2 else 1

-- the mark and the digits of the exponent that a text is, or none of both where there is no text
unfoldable pub exponent_of : List ℕ → Option (List ℕ × List ℕ)
exponent_of text =
    if length text == 0 then Some ([], [])
    else if is_exponent_letter (slice_index text 0) && is_number (drop (mark_len text) text)
    then Some (take (mark_len text) text, drop (mark_len text) text)
    else None

abbrev pub number_with : Bool → List ℕ → List ℕ → List ℕ × List ℕ → Option JsonNumber
number_with negative whole fraction exponent =
    if is_whole whole
    then Some (record {
      negative = negative;
      whole = whole;
      fraction = fraction;
      mark = exponent.0;
      exponent = exponent.1;
    })
    else None

unfoldable pub number_of : List ℕ → Option JsonNumber
number_of text = option_and_then
    (λ fraction.
    option_and_then (number_with (has_minus text) (digits_front (behind_sign text)) fraction.0)
    (exponent_of fraction.1))
    (fraction_of (behind_digits (behind_sign text)))

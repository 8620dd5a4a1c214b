-- Numbers (RFC 8259, section 6), and strings (section 7) in UTF-8 (RFC 3629, section 4).
use Rattle.std.specs.Prelude.{◌≡◌, ℕ, Bool, true, false, ◌&&◌, ◌||◌, nat_le, List, [], ◌∷◌, ◌++◌, ◌⊎◌}
use Rattle.json_text.specs.Bytes.{Each, is_digit, is_leading_digit, is_exponent_mark, is_sign}

-- ---- numbers

-- `digit1-9 *DIGIT`
pub record IsPositive (w : List ℕ) : Type 0 where
  pub first : ℕ
  pub rest : List ℕ
  pub spelled : w ≡ first ∷ rest
  pub leads : is_leading_digit first ≡ true
  pub digits : Each is_digit rest

-- `1*DIGIT`
pub record AreDigits (w : List ℕ) : Type 0 where
  pub first : ℕ
  pub rest : List ℕ
  pub spelled : w ≡ first ∷ rest
  pub leads : is_digit first ≡ true
  pub digits : Each is_digit rest

-- `[ minus ]`
abbrev pub IsMinus : List ℕ → Type 0
IsMinus w = (w ≡ []) ⊎ (w ≡ 0x2d ∷ [])

-- `int = zero / ( digit1-9 *DIGIT )`
abbrev pub IsWhole : List ℕ → Type 0
IsWhole w = (w ≡ 0x30 ∷ []) ⊎ IsPositive w

-- `frac = decimal-point 1*DIGIT`
abbrev pub IsFraction : List ℕ → Type 0
IsFraction w = (ds : List ℕ) × (w ≡ 0x2e ∷ ds) × AreDigits ds

-- `[ minus / plus ]`
abbrev pub IsSign : List ℕ → Type 0
IsSign w = (w ≡ []) ⊎ ((b : ℕ) × (w ≡ b ∷ []) × (is_sign b ≡ true))

-- `exp = e [ minus / plus ] 1*DIGIT`
abbrev pub IsExponent : List ℕ → Type 0
IsExponent w =
    (mark : ℕ) × (sign : List ℕ) × (ds : List ℕ) × (w ≡ mark ∷ (sign ++ ds))
    × (is_exponent_mark mark ≡ true) × IsSign sign × AreDigits ds

abbrev pub Maybe : (List ℕ → Type 0) → List ℕ → Type 0
Maybe P w = (w ≡ []) ⊎ P w

-- `number = [ minus ] int [ frac ] [ exp ]`
pub record IsNumber (w : List ℕ) : Type 0 where
  pub minus : List ℕ
  pub whole : List ℕ
  pub fraction : List ℕ
  pub exponent : List ℕ
  pub spelled : w ≡ minus ++ whole ++ fraction ++ exponent
  pub is_minus : IsMinus minus
  pub is_whole : IsWhole whole
  pub is_fraction : Maybe IsFraction fraction
  pub is_exponent : Maybe IsExponent exponent

-- ---- strings

-- A class of bytes is a list of ranges, and a pattern one class for each byte.
abbrev pub Class : Type 0
Class = List (ℕ × ℕ)

abbrev pub Pattern : Type 0
Pattern = List Class

abbrev pub in_class : Class → ℕ → Bool
in_class [] b = false
in_class (r ∷ rs) b = (nat_le r.0 b && nat_le b r.1) || in_class rs b

abbrev pub matches : Pattern → List ℕ → Bool
matches [] [] = true
matches [] (b ∷ bs) = false
matches (c ∷ cs) [] = false
matches (c ∷ cs) (b ∷ bs) = in_class c b && matches cs bs

-- one byte
abbrev pub only : ℕ → Class
only b = (b, b) ∷ []

-- `UTF8-tail`
abbrev pub tail : Class
tail = (0x80, 0xbf) ∷ []

-- `HEXDIG`, in either case
abbrev pub hex : Class
hex = (0x30, 0x39) ∷ (0x41, 0x46) ∷ (0x61, 0x66) ∷ []

-- the hexadecimal digits but D
abbrev pub hex_not_d : Class
hex_not_d = (0x30, 0x39) ∷ (0x41, 0x43) ∷ (0x45, 0x46) ∷ (0x61, 0x63) ∷ (0x65, 0x66) ∷ []

abbrev pub letter_d : Class
letter_d = only 0x44 ++ only 0x64

-- The digits after a D that make no surrogate, a high one and a low one.
abbrev pub hex_0_to_7 : Class
hex_0_to_7 = (0x30, 0x37) ∷ []

abbrev pub hex_8_to_b : Class
hex_8_to_b = (0x38, 0x39) ∷ (0x41, 0x42) ∷ (0x61, 0x62) ∷ []

abbrev pub hex_c_to_f : Class
hex_c_to_f = (0x43, 0x46) ∷ (0x63, 0x66) ∷ []

-- `"`, `\`, `/`, `b`, `f`, `n`, `r` and `t`
abbrev pub short_escape : Class
short_escape =
    only 0x22 ++ only 0x5c ++ only 0x2f ++ only 0x62 ++ only 0x66 ++ only 0x6e ++ only 0x72 ++ only 0x74

abbrev pub backslash : Class
backslash = only 0x5c

abbrev pub letter_u : Class
letter_u = only 0x75

-- `char`: `unescaped`, which stands in UTF-8, a short escape, or `\u` with four digits. A surrogate
-- stands in a pair alone, the high one first.
abbrev pub characters : List Pattern
characters =
    (((0x20, 0x21) ∷ (0x23, 0x5b) ∷ (0x5d, 0x7f) ∷ []) ∷ [])
    ∷ (((0xc2, 0xdf) ∷ []) ∷ tail ∷ [])
    ∷ (only 0xe0 ∷ ((0xa0, 0xbf) ∷ []) ∷ tail ∷ [])
    ∷ (((0xe1, 0xec) ∷ (0xee, 0xef) ∷ []) ∷ tail ∷ tail ∷ [])
    ∷ (only 0xed ∷ ((0x80, 0x9f) ∷ []) ∷ tail ∷ [])
    ∷ (only 0xf0 ∷ ((0x90, 0xbf) ∷ []) ∷ tail ∷ tail ∷ [])
    ∷ (((0xf1, 0xf3) ∷ []) ∷ tail ∷ tail ∷ tail ∷ [])
    ∷ (only 0xf4 ∷ ((0x80, 0x8f) ∷ []) ∷ tail ∷ tail ∷ [])
    ∷ (backslash ∷ short_escape ∷ [])
    ∷ (backslash ∷ letter_u ∷ hex_not_d ∷ hex ∷ hex ∷ hex ∷ [])
    ∷ (backslash ∷ letter_u ∷ letter_d ∷ hex_0_to_7 ∷ hex ∷ hex ∷ [])
    ∷ (backslash ∷ letter_u ∷ letter_d ∷ hex_8_to_b ∷ hex ∷ hex ∷ backslash ∷ letter_u ∷ letter_d
    ∷ hex_c_to_f ∷ hex ∷ hex ∷ [])
    ∷ []

-- the pattern is in the list
abbrev pub Among : List Pattern → Pattern → Type 0
Among [] p = ⊥
Among (q ∷ qs) p = (p ≡ q) ⊎ Among qs p

pub record IsCharacter (w : List ℕ) : Type 0 where
  pub pattern : Pattern
  pub known : Among characters pattern
  pub fits : matches pattern w ≡ true

-- `*char`
pub data AreCharacters : List ℕ → Type 0 where
  none : AreCharacters []
  more : (w c : List ℕ) → AreCharacters w → IsCharacter c → AreCharacters (w ++ c)

-- `string = quotation-mark *char quotation-mark`
pub record IsString (w : List ℕ) : Type 0 where
  pub inside : List ℕ
  pub spelled : w ≡ 0x22 ∷ inside ++ 0x22 ∷ []
  pub characters : AreCharacters inside

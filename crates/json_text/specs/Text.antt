-- The text that a string stands for, and the spelling that is written of a text (RFC 8259, section 7).
use Rattle.std.specs.Prelude.{ℕ, ◌+◌, ◌-◌, ◌*◌, ◌/◌, ◌%◌, ◌==◌, nat_le, nat_lt, Bool, cond, ◌&&◌, ◌||◌}
use Rattle.std.specs.Prelude.{◌≡◌, List, [], ◌∷◌, ◌++◌, length, take, drop, Option, Some, None, bytes_eq, encode_utf8}
use lib.Utf8.{scalar}
use Rattle.json_text.specs.Grammar.{Json, spelling, object, is_text}
use Rattle.json_text.specs.Nodes.{list_of}

-- ---- reading

-- the number that a hexadecimal digit stands for
abbrev pub hex_value : ℕ → ℕ
hex_value b = cond (nat_le b 0x39) (b - 0x30) (cond (nat_le b 0x46) (b - 0x37) (b - 0x57))

-- the code unit of four digits
abbrev pub code_unit : ℕ → ℕ → ℕ → ℕ → ℕ
code_unit a b c d = ((hex_value a * 16 + hex_value b) * 16 + hex_value c) * 16 + hex_value d

abbrev pub is_high_surrogate : ℕ → Bool
is_high_surrogate u = nat_le 0xd800 u && nat_lt u 0xdc00

-- the character of a surrogate pair
abbrev pub surrogate_pair : ℕ → ℕ → ℕ
surrogate_pair high low = 0x10000 + (high - 0xd800) * 0x400 + (low - 0xdc00)

-- a character in UTF-8
abbrev pub character_bytes : ℕ → List ℕ
character_bytes c = cond (scalar c) (encode_utf8 c) []

-- what a backslash and this byte stand for
abbrev pub short_meaning : ℕ → ℕ
short_meaning b =
    cond (b == 0x62) 0x08 (cond (b == 0x66) 0x0c (cond (b == 0x6e) 0x0a
    (cond (b == 0x72) 0x0d (cond (b == 0x74) 0x09 b))))

pub data Escape : Type 0 where
  none : Escape
  backslash : Escape
  unit : Escape
  low_unit : ℕ → Escape

-- The text of the bytes between the quotation marks. No other bytes come in a string.
unfoldable pub text_from : Escape → List ℕ → List ℕ
text_from none [] = []
text_from none (b ∷ bs) = cond (b == 0x5c) (text_from backslash bs) (b ∷ text_from none bs)
text_from backslash [] = []
text_from backslash (b ∷ bs) = cond (b == 0x75) (text_from unit bs) (short_meaning b ∷ text_from none bs)
text_from unit [] = []
text_from unit (a ∷ []) = []
text_from unit (a ∷ b ∷ []) = []
text_from unit (a ∷ b ∷ c ∷ []) = []
text_from unit (a ∷ b ∷ c ∷ d ∷ bs) =
    cond (is_high_surrogate (code_unit a b c d)) (text_from (low_unit (code_unit a b c d)) bs)
    (character_bytes (code_unit a b c d) ++ text_from none bs)
text_from (low_unit h) [] = []
text_from (low_unit h) (s ∷ []) = []
text_from (low_unit h) (s ∷ u ∷ []) = []
text_from (low_unit h) (s ∷ u ∷ a ∷ []) = []
text_from (low_unit h) (s ∷ u ∷ a ∷ b ∷ []) = []
text_from (low_unit h) (s ∷ u ∷ a ∷ b ∷ c ∷ []) = []
text_from (low_unit h) (s ∷ u ∷ a ∷ b ∷ c ∷ d ∷ bs) =
    character_bytes (surrogate_pair h (code_unit a b c d)) ++ text_from none bs

-- what stands between the first byte and the last
abbrev pub inside : List ℕ → List ℕ
inside w = take (length w - 2) (drop 1 w)

-- the text that a string's spelling stands for
abbrev pub unescaped : List ℕ → List ℕ
unescaped w = text_from none (inside w)

abbrev pub text_of : Json → List ℕ
text_of j = unescaped (spelling j)

-- the value is a string that stands for this text
abbrev pub has_text : List ℕ → Json → Bool
has_text t j = is_text j && bytes_eq (text_of j) t

-- ---- members

abbrev pub or_else : Option Json → Option Json → Option Json
or_else None other = other
or_else (Some j) other = Some j

-- Of names and values in turn, the value behind the last name whose text this is.
abbrev pub last_named : List ℕ → List Json → Option Json
last_named name [] = None
last_named name (k ∷ []) = None
last_named name (k ∷ v ∷ rest) =
    or_else (last_named name rest) (cond (bytes_eq (text_of k) name) (Some v) None)

-- the names and values of an object in turn
abbrev pub named_parts : Json → List Json
named_parts (object w js) = list_of js
named_parts _ = []

-- the value of the last member of this name
abbrev pub member_of : Json → List ℕ → Option Json
member_of j name = last_named name (named_parts j)

-- ---- writing

-- a lower-case hexadecimal digit
abbrev pub hex_digit : ℕ → ℕ
hex_digit n = cond (nat_lt n 10) (0x30 + n) (0x57 + n)

-- `"` and `\` behind a backslash, a control character as `\u00` and two digits, and others as they are
abbrev pub escaped_byte : ℕ → List ℕ
escaped_byte b =
    cond ((b == 0x22) || (b == 0x5c)) (0x5c ∷ b ∷ [])
    (cond (nat_lt b 0x20) (0x5c ∷ 0x75 ∷ 0x30 ∷ 0x30 ∷ hex_digit (b / 16) ∷ hex_digit (b % 16) ∷ [])
    (b ∷ []))

abbrev pub escaped : List ℕ → List ℕ
escaped [] = []
escaped (b ∷ bs) = escaped_byte b ++ escaped bs

-- the string that is written of a text
abbrev pub quoted : List ℕ → List ℕ
quoted text = 0x22 ∷ escaped text ++ 0x22 ∷ []

-- what is written stands behind the old bytes, up to some place
abbrev pub IsBegun : List ℕ → List ℕ → List ℕ → Type 0
IsBegun old added new = (rest : List ℕ) × (old ++ added ≡ new ++ rest)

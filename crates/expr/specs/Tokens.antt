-- The tokens of a text. Cutting never fails: what begins no token is a token that no expression holds.
use Rattle.std.specs.Prelude.{ℕ, zero, suc, ◌+◌, ◌-◌, ◌*◌, ◌==◌, ◌&&◌, ◌||◌, nat_le, nat_lt, ℤ, Bool, if◌then◌else◌, List, [], ◌∷◌, ◌++◌, length, drop, slice_index, take, map, ◌%◌, Option, Some, None, Result, Ok, Err, encode_utf8}
use lib.Utf8.{scalar}
use Rattle.std.specs.Char.{is_ascii_digit, is_ascii_alphabetic, is_ascii_hexdigit}
use Rattle.text_num.specs.declared.fault.NumFault.{NumFault}
use Rattle.text_num.specs.Digits.{behind_digits, fraction_of}
use Rattle.text_num.specs.Units.{units_of}
use Rattle.expr.specs.declared.term.Operator.{Operator}
use Rattle.expr.specs.declared.term.Operator.TheVariants.{Or, And, Less, LessOrEqual, Greater, GreaterOrEqual, Equal, NotEqual, Plus, Minus, Times, Divide, Remainder}

pub data Token : Type 0 where
  -- in units of 10^-18
  number : ℤ → Token
  -- a string by its value
  quoted : List ℕ → Token
  -- a name or a word of the grammar; `in` is one of them
  word : List ℕ → Token
  operator : Operator → Token
  exclaim : Token
  round_open : Token
  round_close : Token
  square_open : Token
  square_close : Token
  dot : Token
  comma : Token
  question : Token
  colon : Token
  -- a byte that begins no token, a number out of the range, a string with a wrong escape
  wrong : Token
  -- a string that isn't closed
  unclosed : Token

-- a token, and what follows it
pub record Cut : Type 0 where
  pub token : Token
  pub rest : List ℕ

abbrev pub cut : Token → List ℕ → Cut
cut token rest = record { token = token; rest = rest }

-- ---- numbers: digits, optionally a point and digits; a point without digits behind it is a token of its own

abbrev pub behind_fraction : Option (List ℕ × List ℕ) → List ℕ → List ℕ
behind_fraction (Some parts) after = parts.1
behind_fraction None after = after

abbrev pub behind_number : List ℕ → List ℕ
behind_number bytes = behind_fraction (fraction_of (behind_digits bytes)) (behind_digits bytes)

-- leading zeros change nothing
abbrev pub without_zeros : List ℕ → List ℕ
without_zeros [] = []
without_zeros (d ∷ ds) =
    if (d == 48) && is_ascii_digit (slice_index ds 0) then without_zeros ds else d ∷ ds

abbrev pub number_token : Result ℤ NumFault → Token
number_token (Ok units) = number units
number_token (Err fault) = wrong

abbrev pub cut_number : List ℕ → List ℕ → Cut
cut_number bytes rest =
    cut (number_token (units_of (without_zeros (take (length bytes - length rest) bytes)))) rest

-- ---- names: a letter or `_` (95), then letters, digits and `_`

abbrev pub begins_name : ℕ → Bool
begins_name c = is_ascii_alphabetic c || c == 95

abbrev pub goes_on_name : ℕ → Bool
goes_on_name c = begins_name c || is_ascii_digit c

abbrev pub name_front : List ℕ → List ℕ
name_front [] = []
name_front (c ∷ cs) = if goes_on_name c then c ∷ name_front cs else []

abbrev pub behind_name : List ℕ → List ℕ
behind_name [] = []
behind_name (c ∷ cs) = if goes_on_name c then behind_name cs else c ∷ cs

-- ---- strings, byte by byte

-- where a reader stands in a string: among its bytes, behind a backslash, or in a `\u` with so many digits to come
pub data Within : Type 0 where
  plain : Within
  escaped : Within
  coded : ℕ → ℕ → Within

-- what the next byte does: the string goes on with these bytes more, it ends, or its escape is wrong
pub data Byte : Type 0 where
  goes : List ℕ → Within → Byte
  ends : Byte
  fails : Byte

-- backslash, both quotes, and n, r, t
abbrev pub short_escape : ℕ → Byte
short_escape c =
    if c == 92 || c == 34 || c == 39 then goes (c ∷ []) plain
    else if c == 110 then goes (10 ∷ []) plain
    else if c == 114 then goes (13 ∷ []) plain
    else if c == 116 then goes (9 ∷ []) plain
    else if c == 117 then goes [] (coded 4 0)
    else fails

abbrev pub hex_value : ℕ → ℕ
hex_value c = if nat_le c 57 then c - 48 else if nat_le c 70 then c - 55 else c - 87

-- the number that the last four digits write
abbrev pub last_four : ℕ → ℕ → ℕ
last_four code c = code % 4096 * 16 + hex_value c

-- the last digit of an escape gives its character in UTF-8; a surrogate is none
abbrev pub coded_byte : ℕ → ℕ → Byte
coded_byte left code =
    if nat_lt 1 left then goes [] (coded (left - 1) code)
    else if scalar code then goes (encode_utf8 code) plain
    else fails

abbrev pub next_byte : ℕ → Within → ℕ → Byte
next_byte quote plain c =
    if c == quote then ends else if c == 92 then goes [] escaped else goes (c ∷ []) plain
next_byte quote escaped c = short_escape c
next_byte quote (coded left code) c =
    if is_ascii_hexdigit c then coded_byte left (last_four code c) else fails

abbrev pub cut_behind : List ℕ → List ℕ → Byte → (List ℕ → Within → Cut) → Cut
cut_behind value cs (goes more within) on = on (value ++ more) within
cut_behind value cs ends on = cut (quoted value) cs
cut_behind value cs fails on = cut wrong []

abbrev pub cut_string : ℕ → List ℕ → Within → List ℕ → Cut
cut_string quote value within [] = cut unclosed []
cut_string quote value within (c ∷ cs) =
    cut_behind value cs (next_byte quote within c) (λ longer next. cut_string quote longer next cs)

-- ---- signs

abbrev pub two : ℕ → Token → Token → List ℕ → Cut
two second both one cs = if slice_index cs 0 == second then cut both (drop 1 cs) else cut one cs

abbrev pub cut_sign : ℕ → List ℕ → Cut
cut_sign c cs =
    if c == 40 then cut round_open cs
    else if c == 41 then cut round_close cs
    else if c == 91 then cut square_open cs
    else if c == 93 then cut square_close cs
    else if c == 46 then cut dot cs
    else if c == 44 then cut comma cs
    else if c == 63 then cut question cs
    else if c == 58 then cut colon cs
    else if c == 43 then cut (operator Plus) cs
    else if c == 45 then cut (operator Minus) cs
    else if c == 42 then cut (operator Times) cs
    else if c == 47 then cut (operator Divide) cs
    else if c == 37 then cut (operator Remainder) cs
    else if c == 60 then two 61 (operator LessOrEqual) (operator Less) cs
    else if c == 62 then two 61 (operator GreaterOrEqual) (operator Greater) cs
    else if c == 33 then two 61 (operator NotEqual) exclaim cs
    else if c == 61 then two 61 (operator Equal) wrong cs
    else if c == 38 then two 38 (operator And) wrong cs
    else if c == 124 then two 124 (operator Or) wrong cs
    else cut wrong cs

-- ---- the tokens of a text

abbrev pub cut_at : ℕ → List ℕ → Cut
cut_at c cs =
    if is_ascii_digit c then cut_number (c ∷ cs) (behind_number (c ∷ cs))
    else if begins_name c then cut (word (name_front (c ∷ cs))) (behind_name (c ∷ cs))
    else if c == 34 || c == 39 then cut_string c [] plain cs
    else cut_sign c cs

-- space, tab, LF and CR
abbrev pub is_space : ℕ → Bool
is_space c = c == 32 || c == 9 || c == 10 || c == 13

abbrev pub behind_spaces : List ℕ → List ℕ
behind_spaces [] = []
behind_spaces (c ∷ cs) = if is_space c then behind_spaces cs else c ∷ cs

-- a token and the place where it begins
pub record Placed : Type 0 where
  pub start : ℕ
  pub token : Token

-- the tokens of what is left of a text of this length; `most` bounds their number
abbrev pub placed_at : ℕ → List ℕ → (List ℕ → List Placed) → List Placed
placed_at whole [] on = []
placed_at whole (c ∷ cs) on =
    record { start = whole - length (c ∷ cs); token = (cut_at c cs).token } ∷ on (cut_at c cs).rest

abbrev pub placed_from : ℕ → ℕ → List ℕ → List Placed
placed_from whole zero bytes = []
placed_from whole (suc most) bytes = placed_at whole (behind_spaces bytes) (placed_from whole most)

unfoldable pub placed_tokens : List ℕ → List Placed
placed_tokens text = placed_from (length text) (length text) text

abbrev pub token_of : Placed → Token
token_of p = p.token

unfoldable pub tokens_of : List ℕ → List Token
tokens_of text = map token_of (placed_tokens text)

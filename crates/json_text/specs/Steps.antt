-- The steps inside a string and inside a word, each state with a name.
use Rattle.std.specs.Prelude.{ℕ, Bool, true, false, cond, ◌&&◌, ◌||◌, nat_le, ◌==◌, List, [], ◌∷◌, not, Option, Some, None, codes}
use Rattle.json_text.specs.Lexical.{Pattern, tail, hex, hex_not_d, letter_d, hex_0_to_7, hex_8_to_b, hex_c_to_f, short_escape, backslash, letter_u, characters}
use Rattle.json_text.specs.Grammar.{Json, null, boolean}
use Rattle.json_text.specs.declared.character.Within.{Within}
use Rattle.json_text.specs.declared.character.Within.TheVariants as at
use Rattle.json_text.specs.declared.word.Word.{Word}
use Rattle.json_text.specs.declared.word.Word.TheVariants as word

abbrev low : Pattern
low = letter_d ∷ hex_c_to_f ∷ hex ∷ hex ∷ []

-- what may still come of the character
abbrev pub alternatives : Within → List Pattern
alternatives at.Between = characters
alternatives at.Tail1 = (tail ∷ []) ∷ []
alternatives at.Tail2 = (tail ∷ tail ∷ []) ∷ []
alternatives at.Tail3 = (tail ∷ tail ∷ tail ∷ []) ∷ []
alternatives at.AfterE0 = (((0xa0, 0xbf) ∷ []) ∷ tail ∷ []) ∷ []
alternatives at.AfterEd = (((0x80, 0x9f) ∷ []) ∷ tail ∷ []) ∷ []
alternatives at.AfterF0 = (((0x90, 0xbf) ∷ []) ∷ tail ∷ tail ∷ []) ∷ []
alternatives at.AfterF4 = (((0x80, 0x8f) ∷ []) ∷ tail ∷ tail ∷ []) ∷ []
alternatives at.Escape =
    (short_escape ∷ []) ∷ (letter_u ∷ hex_not_d ∷ hex ∷ hex ∷ hex ∷ [])
    ∷ (letter_u ∷ letter_d ∷ hex_0_to_7 ∷ hex ∷ hex ∷ [])
    ∷ (letter_u ∷ letter_d ∷ hex_8_to_b ∷ hex ∷ hex ∷ backslash ∷ letter_u ∷ low) ∷ []
alternatives at.Unit =
    (hex_not_d ∷ hex ∷ hex ∷ hex ∷ []) ∷ (letter_d ∷ hex_0_to_7 ∷ hex ∷ hex ∷ [])
    ∷ (letter_d ∷ hex_8_to_b ∷ hex ∷ hex ∷ backslash ∷ letter_u ∷ low) ∷ []
alternatives at.AfterD =
    (hex_0_to_7 ∷ hex ∷ hex ∷ []) ∷ (hex_8_to_b ∷ hex ∷ hex ∷ backslash ∷ letter_u ∷ low) ∷ []
alternatives at.Hex1 = (hex ∷ []) ∷ []
alternatives at.Hex2 = (hex ∷ hex ∷ []) ∷ []
alternatives at.Hex3 = (hex ∷ hex ∷ hex ∷ []) ∷ []
alternatives at.High2 = (hex ∷ hex ∷ backslash ∷ letter_u ∷ low) ∷ []
alternatives at.High1 = (hex ∷ backslash ∷ letter_u ∷ low) ∷ []
alternatives at.AfterHigh = (backslash ∷ letter_u ∷ low) ∷ []
alternatives at.LowEscape = (letter_u ∷ low) ∷ []
alternatives at.Low = low ∷ []
alternatives at.LowAfterD = (hex_c_to_f ∷ hex ∷ hex ∷ []) ∷ []

abbrev pub is_unescaped : ℕ → Bool
is_unescaped b = nat_le 0x20 b && nat_le b 0x7f && not (b == 0x22) && not (b == 0x5c)

abbrev pub after_lead : ℕ → Option Within
after_lead b =
    cond (nat_le 0xc2 b && nat_le b 0xdf) (Some at.Tail1)
    (cond (b == 0xe0) (Some at.AfterE0)
    (cond (b == 0xed) (Some at.AfterEd)
    (cond (nat_le 0xe1 b && nat_le b 0xef) (Some at.Tail2)
    (cond (b == 0xf0) (Some at.AfterF0)
    (cond (nat_le 0xf1 b && nat_le b 0xf3) (Some at.Tail3)
    (cond (b == 0xf4) (Some at.AfterF4) None))))))

abbrev pub next_if : Bool → Within → Option Within
next_if test next = cond test (Some next) None

abbrev pub in_range : ℕ → ℕ → ℕ → Bool
in_range from to b = nat_le from b && nat_le b to

abbrev pub is_hex : ℕ → Bool
is_hex b = in_range 0x30 0x39 b || in_range 0x41 0x46 b || in_range 0x61 0x66 b

abbrev pub is_d : ℕ → Bool
is_d b = (b == 0x44) || (b == 0x64)

abbrev pub is_short : ℕ → Bool
is_short b =
    (b == 0x22) || (b == 0x5c) || (b == 0x2f) || (b == 0x62) || (b == 0x66) || (b == 0x6e) || (b == 0x72)
    || (b == 0x74)

abbrev pub is_low_digit : ℕ → Bool
is_low_digit b = in_range 0x43 0x46 b || in_range 0x63 0x66 b

abbrev pub is_high_digit : ℕ → Bool
is_high_digit b = in_range 0x38 0x39 b || in_range 0x41 0x42 b || in_range 0x61 0x62 b

-- how a string goes on inside a character, or None where it cannot
abbrev pub next_within : Within → ℕ → Option Within
next_within at.Between b =
    cond (is_unescaped b) (Some at.Between) (cond (b == 0x5c) (Some at.Escape) (after_lead b))
next_within at.Tail1 b = next_if (in_range 0x80 0xbf b) at.Between
next_within at.Tail2 b = next_if (in_range 0x80 0xbf b) at.Tail1
next_within at.Tail3 b = next_if (in_range 0x80 0xbf b) at.Tail2
next_within at.AfterE0 b = next_if (in_range 0xa0 0xbf b) at.Tail1
next_within at.AfterEd b = next_if (in_range 0x80 0x9f b) at.Tail1
next_within at.AfterF0 b = next_if (in_range 0x90 0xbf b) at.Tail2
next_within at.AfterF4 b = next_if (in_range 0x80 0x8f b) at.Tail2
next_within at.Escape b = cond (b == 0x75) (Some at.Unit) (next_if (is_short b) at.Between)
next_within at.Unit b = cond (is_d b) (Some at.AfterD) (next_if (is_hex b) at.Hex3)
next_within at.AfterD b = cond (in_range 0x30 0x37 b) (Some at.Hex2) (next_if (is_high_digit b) at.High2)
next_within at.Hex1 b = next_if (is_hex b) at.Between
next_within at.Hex2 b = next_if (is_hex b) at.Hex1
next_within at.Hex3 b = next_if (is_hex b) at.Hex2
next_within at.High2 b = next_if (is_hex b) at.High1
next_within at.High1 b = next_if (is_hex b) at.AfterHigh
next_within at.AfterHigh b = next_if (b == 0x5c) at.LowEscape
next_within at.LowEscape b = next_if (b == 0x75) at.Low
next_within at.Low b = next_if (is_d b) at.LowAfterD
next_within at.LowAfterD b = next_if (is_low_digit b) at.Hex2

-- the bytes of a word that are still to come, and its value
abbrev pub rest_of : Word → List ℕ
rest_of word.Ull = codes "ull"
rest_of word.Ll = codes "ll"
rest_of word.L = codes "l"
rest_of word.Rue = codes "rue"
rest_of word.Ue = codes "ue"
rest_of word.TrueE = codes "e"
rest_of word.Alse = codes "alse"
rest_of word.Lse = codes "lse"
rest_of word.Se = codes "se"
rest_of word.FalseE = codes "e"

abbrev pub word_value : Word → Json
word_value word.Ull = null
word_value word.Ll = null
word_value word.L = null
word_value word.Rue = boolean true
word_value word.Ue = boolean true
word_value word.TrueE = boolean true
word_value word.Alse = boolean false
word_value word.Lse = boolean false
word_value word.Se = boolean false
word_value word.FalseE = boolean false

abbrev pub first_of : Word → ℕ
first_of word.Ull = 0x75
first_of word.Ll = 0x6c
first_of word.L = 0x6c
first_of word.Rue = 0x72
first_of word.Ue = 0x75
first_of word.TrueE = 0x65
first_of word.Alse = 0x61
first_of word.Lse = 0x6c
first_of word.Se = 0x73
first_of word.FalseE = 0x65

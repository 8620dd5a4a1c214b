-- A reader of one byte at a time, which decides the grammar. It holds the parts of each open bracket.
use Rattle.std.specs.Prelude.{ℕ, Bool, true, false, cond, nat_le, List, [], ◌∷◌, ◌++◌, ◌==◌, length, Option, Some, None, option_and_then, codes}
use Rattle.json_text.specs.Bytes.{is_space, is_digit, is_leading_digit, is_exponent_mark, is_sign}
use Rattle.json_text.specs.Lexical.{Pattern, in_class, characters}
use Rattle.json_text.specs.Grammar.{Json, null, boolean, number, text, array, object, Parts, no_parts, part, spelling, Turn, whole, nothing, element, name, member, following, parts_at}
use Rattle.json_text.specs.declared.number.Stage.{Stage}
use Rattle.json_text.specs.declared.number.Stage.TheVariants as stage

-- ---- numbers

abbrev pub from_minus : ℕ → Option Stage
from_minus b = cond (b == 0x30) (Some stage.Zero) (cond (is_leading_digit b) (Some stage.Whole) None)

abbrev pub from_whole : ℕ → Option Stage
from_whole b = cond (b == 0x2e) (Some stage.Point) (cond (is_exponent_mark b) (Some stage.Mark) None)

-- how a number goes on with this byte
abbrev pub next_stage : Stage → ℕ → Option Stage
next_stage stage.Start b = cond (b == 0x2d) (Some stage.Minus) (from_minus b)
next_stage stage.Minus b = from_minus b
next_stage stage.Zero b = from_whole b
next_stage stage.Whole b = cond (is_digit b) (Some stage.Whole) (from_whole b)
next_stage stage.Point b = cond (is_digit b) (Some stage.Fraction) None
next_stage stage.Fraction b =
    cond (is_digit b) (Some stage.Fraction) (cond (is_exponent_mark b) (Some stage.Mark) None)
next_stage stage.Mark b =
    cond (is_sign b) (Some stage.Sign) (cond (is_digit b) (Some stage.Exponent) None)
next_stage stage.Sign b = cond (is_digit b) (Some stage.Exponent) None
next_stage stage.Exponent b = cond (is_digit b) (Some stage.Exponent) None

-- a number may end here
abbrev pub may_end : Stage → Bool
may_end stage.Start = false
may_end stage.Minus = false
may_end stage.Zero = true
may_end stage.Whole = true
may_end stage.Point = false
may_end stage.Fraction = true
may_end stage.Mark = false
may_end stage.Sign = false
may_end stage.Exponent = true

-- ---- strings

-- what is left of each pattern that may begin with this byte
abbrev pub left_after : ℕ → List Pattern → List Pattern
left_after b [] = []
left_after b ([] ∷ ps) = left_after b ps
left_after b ((c ∷ cs) ∷ ps) = cond (in_class c b) (cs ∷ left_after b ps) (left_after b ps)

-- one of the patterns is at its end
abbrev pub has_ended : List Pattern → Bool
has_ended [] = false
has_ended ([] ∷ ps) = true
has_ended ((c ∷ cs) ∷ ps) = has_ended ps

-- ---- brackets

-- An open bracket: whose turn it is, its bytes so far, and its parts. The outermost is the whole text.
pub record Frame : Type 0 where
  pub turn : Turn
  pub bytes : List ℕ
  pub parts : Parts

-- Where the reader is: at the first part or the closing bracket, at a part behind a separator, or behind
-- a part; or in a text, in a character of it (with what may follow there), in a number or in a word.
pub data Mode : Type 0 where
  first : Mode
  next : Mode
  after : Mode
  text_at : List ℕ → Mode
  character : List ℕ → List Pattern → Mode
  numeral : List ℕ → Stage → Mode
  word : List ℕ → List ℕ → Json → Mode

-- the bytes of the text, number or word so far
abbrev pub token : Mode → List ℕ
token first = []
token next = []
token after = []
token (text_at w) = w
token (character w ps) = w
token (numeral w s) = w
token (word w rest j) = w

-- a token begins at its first byte
pub record State : Type 0 where
  pub mode : Mode
  pub top : Frame
  pub below : List Frame

abbrev pub state : Mode → Frame → List Frame → State
state m f fs = record { mode = m; top = f; below = fs }

abbrev pub with_byte : ℕ → Frame → Frame
with_byte b f = record f { bytes = f.bytes ++ b ∷ [] }

abbrev pub snoc : Parts → Json → Parts
snoc no_parts j = part j no_parts
snoc (part i is) j = part i (snoc is j)

abbrev pub put : Json → Frame → Frame
put j f = record { turn = following f.turn; bytes = f.bytes ++ spelling j; parts = snoc f.parts j }

abbrev pub closes : Turn → ℕ → Bool
closes element b = b == 0x5d
closes name b = b == 0x7d
closes _ b = false

abbrev pub closed : Turn → List ℕ → Parts → Json
closed element w js = array w js
closed _ w js = object w js

abbrev pub close : ℕ → Frame → List Frame → Option State
close b f [] = None
close b f (g ∷ gs) = Some (state after (put (closed f.turn (f.bytes ++ b ∷ []) f.parts) g) gs)

abbrev pub open_at : Turn → ℕ → Frame → List Frame → State
open_at t b f fs = state first (record { turn = t; bytes = b ∷ []; parts = no_parts }) (f ∷ fs)

abbrev pub begin_word : ℕ → Frame → List Frame → Option State
begin_word b f fs =
    cond (b == 0x6e) (Some (state (word (b ∷ []) (codes "ull") null) f fs))
    (cond (b == 0x74) (Some (state (word (b ∷ []) (codes "rue") (boolean true)) f fs))
    (cond (b == 0x66) (Some (state (word (b ∷ []) (codes "alse") (boolean false)) f fs)) None))

abbrev pub begin_number : ℕ → Option Stage → Frame → List Frame → Option State
begin_number b None f fs = begin_word b f fs
begin_number b (Some s) f fs = Some (state (numeral (b ∷ []) s) f fs)

abbrev pub begin_value : ℕ → Frame → List Frame → Option State
begin_value b f fs =
    cond (b == 0x5b) (Some (open_at element b f fs))
    (cond (b == 0x7b) (Some (open_at name b f fs)) (begin_number b (next_stage stage.Start b) f fs))

-- any value may stand there
abbrev pub takes_values : Turn → Bool
takes_values whole = true
takes_values nothing = false
takes_values element = true
takes_values name = false
takes_values member = true

abbrev pub begin_after : Turn → ℕ → Frame → List Frame → Option State
begin_after name b f fs = None
begin_after nothing b f fs = None
begin_after _ b f fs = begin_value b f fs

abbrev pub begin : ℕ → Frame → List Frame → Option State
begin b f fs = cond (b == 0x22) (Some (state (text_at (b ∷ [])) f fs)) (begin_after f.turn b f fs)

abbrev pub step_after : ℕ → Frame → List Frame → Option State
step_after b f fs =
    cond (is_space b) (Some (state after (with_byte b f) fs))
    (cond (closes f.turn b) (close b f fs)
    (cond (parts_at f.turn b) (Some (state next (with_byte b f) fs)) None))

abbrev pub step_character : List ℕ → List Pattern → Frame → List Frame → Option State
step_character w [] f fs = None
step_character w (p ∷ ps) f fs =
    Some (state (cond (has_ended (p ∷ ps)) (text_at w) (character w (p ∷ ps))) f fs)

abbrev pub step_numeral : ℕ → List ℕ → Stage → Option Stage → Frame → List Frame → Option State
step_numeral b w s (Some t) f fs = Some (state (numeral (w ++ b ∷ []) t) f fs)
step_numeral b w s None f fs = cond (may_end s) (step_after b (put (number w) f) fs) None

abbrev pub step_word : List ℕ → List ℕ → Json → Frame → List Frame → State
step_word w [] j f fs = state after (put j f) fs
step_word w (c ∷ cs) j f fs = state (word w (c ∷ cs) j) f fs

abbrev pub step_in : Mode → ℕ → Frame → List Frame → Option State
step_in first b f fs =
    cond (is_space b) (Some (state first (with_byte b f) fs))
    (cond (closes f.turn b) (close b f fs) (begin b f fs))
step_in next b f fs = cond (is_space b) (Some (state next (with_byte b f) fs)) (begin b f fs)
step_in after b f fs = step_after b f fs
step_in (text_at w) b f fs =
    cond (b == 0x22) (Some (state after (put (text (w ++ b ∷ [])) f) fs))
    (step_character (w ++ b ∷ []) (left_after b characters) f fs)
step_in (character w ps) b f fs = step_character (w ++ b ∷ []) (left_after b ps) f fs
step_in (numeral w s) b f fs = step_numeral b w s (next_stage s b) f fs
step_in (word w [] j) b f fs = None
step_in (word w (c ∷ cs) j) b f fs = cond (b == c) (Some (step_word (w ++ b ∷ []) cs j f fs)) None

-- the state behind this byte, or None where the byte cannot stand here
unfoldable pub step : State → ℕ → Option State
step s b = step_in s.mode b s.top s.below

abbrev pub start : State
start = state first (record { turn = whole; bytes = []; parts = no_parts }) []

abbrev pub only_part : Parts → Option Json
only_part (part j no_parts) = Some j
only_part _ = None

abbrev pub ended : Frame → List Frame → Option Json
ended f [] = only_part f.parts
ended f (g ∷ gs) = None

-- the value, if the text may end here
unfoldable pub value_of : State → Option Json
value_of s = elim s.mode [
  | first ↦ None
  | next ↦ None
  | after ↦ ended s.top s.below
  | text_at w ↦ None
  | character w ps ↦ None
  | numeral w t ↦ cond (may_end t) (ended (put (number w) s.top) s.below) None
  | word w rest j ↦ None
]

-- the state behind these bytes, where each can stand and no more than `limit` brackets are ever open
unfoldable pub run : ℕ → List ℕ → State → Option State
run limit [] s = Some s
run limit (b ∷ bs) s =
    option_and_then (λ t. cond (nat_le (length t.below) limit) (run limit bs t) None) (step s b)

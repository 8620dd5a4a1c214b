-- What the reader of the code holds, as a state of the automaton.
use Rattle.std.specs.Prelude.{◌≡◌, true, ℕ, ◌≤◌, ◌<◌, List, [], ◌∷◌, ◌++◌, length, take, slice_index}
use Rattle.std.specs.Prelude.{Option, Some, None, Result, Ok, Err, ⊤, ◌⊎◌}
use Rattle.json_text.specs.Grammar.{Json, number, Parts, no_parts, part, spelling}
use Rattle.json_text.specs.Automaton.{Frame, Mode, first, next, after, text_at, character, numeral, word, token}
use Rattle.json_text.specs.Automaton.{State, state, begin_number, next_stage, may_end, snoc}
use Rattle.json_text.specs.Nodes.{Document}
use Rattle.json_text.specs.Entries.{bytes_below}
use Rattle.json_text.specs.Building.{Lies}
use Rattle.json_text.specs.Steps.{alternatives, rest_of, word_value}
use Rattle.json_text.specs.declared.character.Within.{Within}
use Rattle.json_text.specs.declared.character.Within.TheVariants as at
use Rattle.json_text.specs.declared.fault.JsonFault.{JsonFault}
use Rattle.json_text.specs.declared.fault.JsonFault.TheVariants.{NotJson, TooDeep, Memory}
use Rattle.json_text.specs.declared.number.Stage.TheVariants as stage
use Rattle.json_text.specs.declared.reader.Mode.{Mode as CodeMode}
use Rattle.json_text.specs.declared.reader.Mode.TheVariants as code
use Rattle.json_text.specs.declared.reader.Reader.{Reader}

abbrev pub InString : Mode → Within → Type 0
InString first x = ⊥
InString next x = ⊥
InString after x = ⊥
InString (text_at w) x = x ≡ at.Between
InString (character w ps) x = (ps ≡ alternatives x) × (x ≡ at.Between → ⊥)
InString (numeral w s) x = ⊥
InString (word w rest j) x = ⊥

abbrev pub IsWithin : Within → Mode → Type 0
IsWithin x m = InString m x

abbrev pub IsMode : CodeMode → Mode → Type 0
IsMode code.First first = ⊤
IsMode code.Next next = ⊤
IsMode code.After after = ⊤
IsMode (code.Text x) m = IsWithin x m
IsMode (code.Number s) (numeral w t) = s ≡ t
IsMode (code.Word x) (word w rest j) = (rest ≡ rest_of x) × (j ≡ word_value x) × (spelling j ≡ w ++ rest)
IsMode _ _ = ⊥

abbrev pub IsToken : Mode → Type 0
IsToken first = ⊥
IsToken next = ⊥
IsToken after = ⊥
IsToken _ = ⊤

abbrev pub BeginsAt : Mode → ℕ → ℕ → Type 0
BeginsAt first n m = ⊤
BeginsAt next n m = ⊤
BeginsAt after n m = ⊤
BeginsAt _ n m = n ≡ m

pub record Shows (w : List ℕ) (r : Reader) (s : State) : Type 0 where
  pub source : r.bytes.now ≡ w
  pub mode : IsMode r.mode s.mode
  pub begins : BeginsAt s.mode r.start (length (bytes_below s.below ++ s.top.bytes))
  pub lies : Lies w r.builder s.top.turn s.top.parts s.below

-- the automaton's state before the byte at `at`
pub record Holds (w : List ℕ) (r : Reader) (at byte : ℕ) (m : Mode) (f : Frame) (fs : List Frame)
    : Type 0 where
  pub shows : Shows w r (state m f fs)
  pub spelled : take at w ≡ bytes_below fs ++ f.bytes ++ token m
  pub few : length fs ≤ 64
  pub within : at < length w
  pub byte_is : byte ≡ slice_index w at

-- the same between two tokens
pub record Stays (w : List ℕ) (r : Reader) (at byte : ℕ) (f : Frame) (fs : List Frame) : Type 0 where
  pub source : r.bytes.now ≡ w
  pub lies : Lies w r.builder f.turn f.parts fs
  pub spelled : take at w ≡ bytes_below fs ++ f.bytes
  pub few : length fs ≤ 64
  pub within : at < length w
  pub byte_is : byte ≡ slice_index w at

-- what a step answers, where the automaton answers o
abbrev pub Answers : List ℕ → ℕ → Option State → Result ⊤ JsonFault → Reader → Type 0
Answers w at o (Ok _) r = (t : State) × (o ≡ Some t) × (length t.below ≤ 64) × Shows w r t
Answers w at o (Err (NotJson p)) r = (p ≡ at) × (o ≡ None)
Answers w at o (Err (TooDeep p)) r = (p ≡ at) × ((t : State) × (o ≡ Some t) × (64 < length t.below))
Answers w at o (Err Memory) r = ⊤

-- a number or a word begins with this byte
abbrev pub Begins : ℕ → Option CodeMode → Type 0
Begins b None = (f : Frame) (fs : List Frame) → begin_number b (next_stage stage.Start b) f fs ≡ None
Begins b (Some c) =
    (m : Mode) × IsMode c m × (token m ≡ b ∷ []) × IsToken m
    × ((f : Frame) (fs : List Frame)
    → begin_number b (next_stage stage.Start b) f fs ≡ Some (state m f fs))

abbrev pub HasOne : Parts → Type 0
HasOne js = (j : Json) × (js ≡ part j no_parts)

-- outside all brackets only one value has been read
abbrev pub IsAlone : Mode → Frame → List Frame → Type 0
IsAlone after f fs = fs ≡ [] → HasOne f.parts
IsAlone (numeral w s) f fs = fs ≡ [] → may_end s ≡ true → HasOne (snoc f.parts (number w))
IsAlone _ f fs = ⊤

-- the automaton's state at the end of the bytes
pub record Ends (w : List ℕ) (r : Reader) (s : State) : Type 0 where
  pub shows : Shows w r s
  pub spelled : w ≡ bytes_below s.below ++ s.top.bytes ++ token s.mode
  pub alone : IsAlone s.mode s.top s.below

-- the same between two tokens
pub record Closes (w : List ℕ) (r : Reader) (f : Frame) (fs : List Frame) : Type 0 where
  pub lies : Lies w r.builder f.turn f.parts fs
  pub alone : fs ≡ [] → HasOne f.parts

-- what is answered at the end of so many bytes, where the automaton has this value
abbrev pub EndsAs : ℕ → Option Json → Result Document JsonFault → Type 0
EndsAs at o (Ok tree) = o ≡ Some tree.value
EndsAs at o (Err f) = (f ≡ Memory) ⊎ ((f ≡ NotJson at) × (o ≡ None))

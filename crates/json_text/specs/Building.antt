-- What the reader's entries are, and what each of its calls does to them.
use Rattle.std.specs.Prelude.{◌≡◌, ℕ, ◌≤◌, List, [], ◌∷◌, ◌++◌, length, take, slice_range, ◌<◌, set, get_or}
use Rattle.json_text.specs.Grammar.{Json, Parts, no_parts, spelling, Turn, following}
use Rattle.json_text.specs.Automaton.{Frame, snoc, closed}
use Rattle.json_text.specs.Nodes.{nodes, kind_of, parts_of}
use Rattle.json_text.specs.Entries.{Laid, IsBracket, turn_of, bytes_below}
use Rattle.json_text.specs.declared.bracket.Bracket.{Bracket}
use Rattle.json_text.specs.declared.bracket.Turn.{Turn as CodeTurn}
use Rattle.json_text.specs.declared.builder.Builder.{Builder}
use Rattle.json_text.specs.declared.entry.Entry.{Entry}
use Rattle.json_text.specs.declared.kind.Kind.{Kind}

abbrev pub new_entry : Kind → ℕ → ℕ → ℕ → Entry
new_entry kind start stop next =
    record { kind = kind; count = 0; start = start; stop = stop; next = next }

-- the entry of a bracket that closes here
abbrev pub ended_entry : Entry → ℕ → ℕ → ℕ → Entry
ended_entry e count stop next = record e { count = count; stop = stop; next = next }

-- the bracket b with one more part
abbrev pub AddsPart : Bracket → Bracket → Type 0
AddsPart old new =
    (new.entry ≡ old.entry)
    × ((t : Turn) (js : Parts) (j : Json) → IsBracket old t js → IsBracket new (following t) (snoc js j))

abbrev pub Lies : List ℕ → Builder → Turn → Parts → List Frame → Type 0
Lies w b t js fs = Laid w b.nodes.items b.top b.below.items t js fs

-- a value without parts, in this place of the source
pub record IsLeaf (w : List ℕ) (start stop : ℕ) (kind : Kind) (j : Json) : Type 0 where
  pub is_kind : kind ≡ kind_of j
  pub alone : nodes j ≡ j ∷ []
  pub no_parts_there : parts_of j ≡ []
  pub ordered : start ≤ stop
  pub within : stop ≤ length w
  pub slice : slice_range w start stop ≡ spelling j

abbrev pub Puts : Builder → ℕ → ℕ → Kind → Builder → Type 0
Puts old start stop kind new =
    (w : List ℕ) (t : Turn) (js : Parts) (fs : List Frame) (j : Json) → IsLeaf w start stop kind j
    → Lies w old t js fs → Lies w new (following t) (snoc js j) fs

abbrev pub Opens : Builder → CodeTurn → ℕ → Builder → Type 0
Opens old turn start new =
    (w : List ℕ) (g : Frame) (gs : List Frame) → Lies w old g.turn g.parts gs
    → start ≡ length (bytes_below (g ∷ gs)) → Lies w new (turn_of turn) no_parts (g ∷ gs)

abbrev pub Closes : Builder → ℕ → Builder → Type 0
Closes old stop new = (w : List ℕ) (t : Turn) (js : Parts) (g : Frame) (gs : List Frame) (v : List ℕ)
    → Lies w old t js (g ∷ gs) → stop ≤ length w → take stop w ≡ bytes_below (g ∷ gs) ++ v
    → Lies w new (following g.turn) (snoc g.parts (closed t v js)) gs

abbrev pub IsOutermost : Builder → Type 0
IsOutermost b =
    (w : List ℕ) (t : Turn) (js : Parts) (g : Frame) (gs : List Frame) → Lies w b t js (g ∷ gs) → ⊥

abbrev pub IsInside : Builder → Type 0
IsInside b = (w : List ℕ) (t : Turn) (js : Parts) → Lies w b t js [] → ⊥

-- the entry of the innermost bracket has its end
abbrev pub EndsEntry : Builder → ℕ → Builder → Type 0
EndsEntry old stop new = (d : Entry) → old.top.entry < length old.nodes.items
    → new.nodes.items
    ≡ set old.nodes.items old.top.entry
    (ended_entry (get_or old.nodes.items old.top.entry d) old.top.count stop
    (length old.nodes.items))

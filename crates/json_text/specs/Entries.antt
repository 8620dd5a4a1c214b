-- The entries of a tree, while it is read and when it stands.
use Rattle.std.specs.Prelude.{◌≡◌, ℕ, ◌+◌, ◌≤◌, List, [], ◌∷◌, ◌++◌, length, slice_range, ⊤}
use Rattle.json_text.specs.Grammar.{Json, Parts, spelling, Turn, whole, nothing, element, name, member}
use Rattle.json_text.specs.Automaton.{Frame}
use Rattle.json_text.specs.Nodes.{list_of, nodes, nodes_of, kind_of, parts_of}
use Rattle.json_text.specs.declared.bracket.Bracket.{Bracket}
use Rattle.json_text.specs.declared.bracket.Turn.{Turn as CodeTurn}
use Rattle.json_text.specs.declared.bracket.Turn.TheVariants as turn
use Rattle.json_text.specs.declared.entry.Entry.{Entry}
use Rattle.json_text.specs.declared.kind.Kind.{Kind}
use Rattle.json_text.specs.declared.kind.Kind.TheVariants as kind

abbrev pub turn_of : CodeTurn → Turn
turn_of turn.Whole = whole
turn_of turn.Nothing = nothing
turn_of turn.Element = element
turn_of turn.Name = name
turn_of turn.Member = member

-- the kind of a bracket with this turn
abbrev pub bracket_kind : Turn → Kind
bracket_kind element = kind.List
bracket_kind _ = kind.Object

-- The entry at this index is that of the value.
pub record IsEntry (w : List ℕ) (index : ℕ) (e : Entry) (j : Json) : Type 0 where
  pub is_kind : e.kind ≡ kind_of j
  pub is_count : e.count ≡ length (parts_of j)
  pub ordered : e.start ≤ e.stop
  pub within : e.stop ≤ length w
  pub slice : slice_range w e.start e.stop ≡ spelling j
  pub is_next : e.next ≡ index + length (nodes j)

abbrev pub AreEntries : List ℕ → ℕ → List Entry → List Json → Type 0
AreEntries w index [] [] = ⊤
AreEntries w index [] (j ∷ js) = ⊥
AreEntries w index (e ∷ es) [] = ⊥
AreEntries w index (e ∷ es) (j ∷ js) = IsEntry w index e j × AreEntries w (index + 1) es js

abbrev pub bytes_below : List Frame → List ℕ
bytes_below [] = []
bytes_below (g ∷ gs) = bytes_below gs ++ g.bytes

-- the bracket has this turn and these parts
pub record IsBracket (b : Bracket) (t : Turn) (js : Parts) : Type 0 where
  pub is_turn : turn_of b.turn ≡ t
  pub is_count : b.count ≡ length (list_of js)

-- The entries of the open brackets, the innermost last: each is its own entry and those of its parts.
abbrev pub Laid : List ℕ → List Entry → Bracket → List Bracket → Turn → Parts → List Frame → Type 0
Laid w es b bs t js [] = IsBracket b t js × (bs ≡ []) × AreEntries w 0 es (nodes_of js)
Laid w es b bs t js (g ∷ gs) =
    (before : List Entry) × (own : Entry) × (inside : List Entry) × (c : Bracket) × (cs : List Bracket)
    × IsBracket b t js × (es ≡ before ++ own ∷ inside) × (bs ≡ cs ++ c ∷ []) × (b.entry ≡ length before)
    × (own.kind ≡ bracket_kind t) × (own.start ≡ length (bytes_below (g ∷ gs)))
    × AreEntries w (length before + 1) inside (nodes_of js) × Laid w before c cs g.turn g.parts gs

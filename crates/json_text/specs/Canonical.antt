-- How the text that a value has in common with its equals is written.
use Rattle.std.specs.Prelude.{◌≡◌, ℕ, ◌<◌, Bool, true, false, List, [], ◌++◌, length, map, Option, Some, None}
use Rattle.json_text.specs.Grammar.{Json}
use Rattle.json_text.specs.Nodes.{Document, IsNodeOf, nodes, value_at}
use Rattle.json_text.specs.Same.{Field, bracketed, by_name, canonical, field_text, list_text}
use Rattle.json_text.specs.Text.{text_of}

-- the text is written at the end, or there is none
abbrev pub Writes : Bool → List ℕ → Option (List ℕ) → List ℕ → Type 0
Writes true old o new = (w : List ℕ) × (o ≡ Some w) × (new ≡ old ++ w)
Writes false old o new = o ≡ None

abbrev pub named : List (Json × Json) → List Field
named ms = map (λ m. (text_of m.0, canonical m.1)) ms

-- the texts of a list and of an object, from their items and members
abbrev pub as_list : List Json → Option (List ℕ)
as_list js = bracketed 0x5b 0x5d (list_text (map canonical js))

abbrev pub as_object : List (Json × Json) → Option (List ℕ)
as_object ms = bracketed 0x7b 0x7d (list_text (map field_text (by_name [] (named ms))))

-- the fields of members that are kept by the nodes of their values
abbrev pub seen : Document → List (List ℕ × ℕ) → List Field
seen d es = map (λ e. (e.0, canonical (value_at d e.1))) es

-- a node inside another: it has fewer nodes of its own
abbrev pub IsInside : Document → ℕ → ℕ → Type 0
IsInside d n m = IsNodeOf d m × (length (nodes (value_at d m)) < length (nodes (value_at d n)))

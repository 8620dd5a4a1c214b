-- Where a node's own part of the source begins: behind the bracket, or behind the part before it, past
-- spaces and the comma or colon (RFC 8259, sections 2 to 5). The rest of the source from there on tells it.
use Rattle.std.specs.Prelude.{ℕ, ◌-◌, Bool, cond, ◌||◌, ◌==◌, List, [], ◌∷◌, ◌++◌, length, drop, get_or, nat_lt, ◌+◌}
use Rattle.json_text.specs.Bytes.{is_space}
use Rattle.json_text.specs.Grammar.{Json, null, boolean, number, text, array, object, Parts, no_parts, part, spelling}
use Rattle.json_text.specs.Nodes.{Document, behind, value_at}

-- the byte comes between two parts
abbrev pub is_between : ℕ → Bool
is_between b = is_space b || (b == 0x2c) || (b == 0x3a)

-- the bytes without those at their front that come between parts
abbrev pub skipped : List ℕ → List ℕ
skipped [] = []
skipped (b ∷ bs) = cond (is_between b) (skipped bs) (b ∷ bs)

abbrev mutual
  -- the rest of the source from each node of a value on, where the value begins these bytes
  pub rests : List ℕ → Json → List (List ℕ)
  rests w null = w ∷ []
  rests w (boolean b) = w ∷ []
  rests w (number v) = w ∷ []
  rests w (text v) = w ∷ []
  rests w (array v js) = w ∷ rests_in (drop 1 w) js
  rests w (object v js) = w ∷ rests_in (drop 1 w) js

  -- the same of parts that stand in these bytes
  pub rests_in : List ℕ → Parts → List (List ℕ)
  rests_in w no_parts = []
  rests_in w (part j js) = rests (skipped w) j ++ rests_in (drop (length (spelling j)) (skipped w)) js

-- the source from a node on
abbrev pub rest_at : Document → ℕ → List ℕ
rest_at d n = get_or (rests_in d.source (part d.value no_parts)) n []

-- the place where a node begins, in bytes from 0
abbrev pub start_at : Document → ℕ → ℕ
start_at d n = length d.source - length (rest_at d n)

-- ---- on the way to a node from one before it

-- the node that is next: the first inside, where the target is there, and else the one behind
abbrev pub next_node : Document → ℕ → ℕ → ℕ
next_node d target n = cond (nat_lt target (behind d n)) (n + 1) (behind d n)

-- how many bytes stand before what is next: those of a bracket, or of the whole value
abbrev pub bytes_before : Document → ℕ → ℕ → ℕ
bytes_before d target n = cond (nat_lt target (behind d n)) 1 (length (spelling (value_at d n)))

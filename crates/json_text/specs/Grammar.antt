-- A JSON text (RFC 8259, sections 2 to 5) and the value that it spells.
use Rattle.std.specs.Prelude.{◌≡◌, ℕ, suc, max, ◌≤◌, Bool, true, false, List, [], ◌∷◌, ◌++◌, ◌==◌, ⊤, codes}
use Rattle.json_text.specs.Bytes.{Each, is_space}
use Rattle.json_text.specs.Lexical.{IsNumber, IsString}

-- A value keeps its spelling, without the spaces around it. What an array holds is its values; what an
-- object holds is a name and a value in turn, and the names are texts.
mutual
  pub data Json : Type 0 where
    null : Json
    boolean : Bool → Json
    number : List ℕ → Json
    text : List ℕ → Json
    array : List ℕ → Parts → Json
    object : List ℕ → Parts → Json

  pub data Parts : Type 0 where
    no_parts : Parts
    part : Json → Parts → Parts

abbrev pub spelling : Json → List ℕ
spelling null = codes "null"
spelling (boolean true) = codes "true"
spelling (boolean false) = codes "false"
spelling (number w) = w
spelling (text w) = w
spelling (array w parts) = w
spelling (object w parts) = w

abbrev pub is_text : Json → Bool
is_text (text w) = true
is_text _ = false

-- Which part comes next: the value of the whole text, and nothing after it; a value of an array; the
-- name or the value of a member.
pub data Turn : Type 0 where
  whole : Turn
  nothing : Turn
  element : Turn
  name : Turn
  member : Turn

abbrev pub following : Turn → Turn
following whole = nothing
following nothing = nothing
following element = element
following name = member
following member = name

abbrev pub turn_after : Turn → Parts → Turn
turn_after t no_parts = t
turn_after t (part j js) = turn_after (following t) js

-- the byte stands between the part before and this one: `value-separator`, or `name-separator` after a name
abbrev pub parts_at : Turn → ℕ → Bool
parts_at whole b = false
parts_at nothing b = false
parts_at element b = b == 0x2c
parts_at name b = b == 0x2c
parts_at member b = b == 0x3a

-- a name is a text
abbrev pub may_stand : Turn → Json → Bool
may_stand whole j = true
may_stand nothing j = false
may_stand element j = true
may_stand name j = is_text j
may_stand member j = true

abbrev pub IsSpaces : List ℕ → Type 0
IsSpaces = Each is_space

abbrev mutual
  -- The value's spelling is one of the grammar.
  pub IsValue : Json → Type 0
  IsValue null = ⊤
  IsValue (boolean b) = ⊤
  IsValue (number w) = IsNumber w
  IsValue (text w) = IsString w
  -- `array = begin-array [ value *( value-separator value ) ] end-array`
  IsValue (array w js) =
      (inside : List ℕ) × (w ≡ 0x5b ∷ inside ++ 0x5d ∷ []) × AreParts element inside js
  -- `object = begin-object [ member *( value-separator member ) ] end-object`,
  -- `member = string name-separator value`
  IsValue (object w js) =
      (inside : List ℕ) × (w ≡ 0x7b ∷ inside ++ 0x7d ∷ []) × AreParts name inside js
      × (turn_after name js ≡ name)

  -- what stands between the brackets
  pub AreParts : Turn → List ℕ → Parts → Type 0
  AreParts t w no_parts = IsSpaces w
  AreParts t w (part j js) =
      (before : List ℕ) × (rest : List ℕ) × (after : List ℕ)
      × (w ≡ before ++ spelling j ++ rest ++ after) × IsSpaces before × IsSpaces after
      × IsValue j × (may_stand t j ≡ true) × AreMore (following t) rest js

  -- the parts after the first, each behind its separator
  pub AreMore : Turn → List ℕ → Parts → Type 0
  AreMore t w no_parts = w ≡ []
  AreMore t w (part j js) =
      (before : List ℕ) × (mark : ℕ) × (after : List ℕ) × (rest : List ℕ)
      × (w ≡ before ++ mark ∷ after ++ spelling j ++ rest) × IsSpaces before × IsSpaces after
      × (parts_at t mark ≡ true) × IsValue j × (may_stand t j ≡ true) × AreMore (following t) rest js

-- `JSON-text = ws value ws`: the bytes spell this value
pub record IsText (w : List ℕ) (j : Json) : Type 0 where
  pub before : List ℕ
  pub after : List ℕ
  pub spelled : w ≡ before ++ spelling j ++ after
  pub spaces_before : IsSpaces before
  pub spaces_after : IsSpaces after
  pub value : IsValue j

-- how many brackets are open at the deepest place
abbrev mutual
  pub depth : Json → ℕ
  depth null = 0
  depth (boolean b) = 0
  depth (number w) = 0
  depth (text w) = 0
  depth (array w js) = suc (depth_of_parts js)
  depth (object w js) = suc (depth_of_parts js)

  pub depth_of_parts : Parts → ℕ
  depth_of_parts no_parts = 0
  depth_of_parts (part j js) = max (depth j) (depth_of_parts js)

-- The text spells this value, with at most 64 open brackets at each place.
pub record IsJson (w : List ℕ) (j : Json) : Type 0 where
  pub spelled : IsText w j
  pub shallow : depth j ≤ 64

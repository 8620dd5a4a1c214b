-- The text that a value has in common with its equals and, where both have one, with no other value. Its form
-- is this project's own, and no JSON: without spaces, a comma behind each item and member, members in the order
-- of their names' bytes, of several of one name the last alone, each string escaped in one way, and each number
-- as the shortest decimal of its units.
use Rattle.std.specs.Prelude.{ℕ, Bool, true, false, cond, List, [], ◌∷◌, ◌++◌, codes, Option, Some, None, Result, Ok, Err, bytes_eq, map, option_map, ℤ}
use Rattle.std.specs.Option.{is_some}
use Rattle.std.specs.Ordering.{nat_cmp}
use Rattle.std.specs.Cmp.Lexicographic.{slice_cmp}
use Rattle.std.specs.BTreeMap.{insert_entry}
use Rattle.json_text.specs.Grammar.{Json, null, boolean, number, text, array, object, Parts, no_parts, part, spelling}
use Rattle.json_text.specs.Text.{quoted, text_of, unescaped}
use Rattle.json_text.specs.declared.comparison.Comparison.{Comparison}
use Rattle.json_text.specs.declared.comparison.Comparison.TheVariants.{Equal, Unequal, OutOfRange}
use Rattle.text_num.specs.Units.{units_of, units_text}
use Rattle.text_num.specs.declared.fault.NumFault.{NumFault}

-- the units of a number, where they are in range
abbrev pub known : Result ℤ NumFault → Option ℤ
known (Ok units) = Some units
known (Err fault) = None

abbrev pub units_at : Json → Option ℤ
units_at j = known (units_of (spelling j))

-- a number by its units, where they are in range
abbrev pub number_text : Result ℤ NumFault → Option (List ℕ)
number_text (Ok units) = Some (units_text units)
number_text (Err fault) = None

-- a text and a comma, before those that follow
abbrev pub listed : Option (List ℕ) → Option (List ℕ) → Option (List ℕ)
listed None rest = None
listed (Some w) rest = option_map (λ v. w ++ 0x2c ∷ v) rest

-- texts one behind another, a comma behind each
abbrev pub list_text : List (Option (List ℕ)) → Option (List ℕ)
list_text [] = Some []
list_text (o ∷ os) = listed o (list_text os)

-- between two brackets
abbrev pub bracketed : ℕ → ℕ → Option (List ℕ) → Option (List ℕ)
bracketed first last inside = option_map (λ w. first ∷ w ++ last ∷ []) inside

-- a member: its name, and the text of its value
abbrev pub Field : Type 0
Field = List ℕ × Option (List ℕ)

-- fields in the order of their names, with these put among them: a later one takes the place of one of its name
abbrev pub by_name : List Field → List Field → List Field
by_name sorted [] = sorted
by_name sorted (m ∷ ms) = by_name (insert_entry (slice_cmp nat_cmp) sorted m.0 m.1) ms

abbrev pub field_text : Field → Option (List ℕ)
field_text m = option_map (λ v. quoted m.0 ++ 0x3a ∷ v) m.1

abbrev mutual
  -- the text that a value has in common with its equals, where each number that counts is in range
  pub canonical : Json → Option (List ℕ)
  canonical null = Some (codes "null")
  canonical (boolean true) = Some (codes "true")
  canonical (boolean false) = Some (codes "false")
  canonical (number w) = number_text (units_of w)
  canonical (text w) = Some (quoted (unescaped w))
  canonical (array w js) = bracketed 0x5b 0x5d (list_text (item_texts js))
  canonical (object w js) = bracketed 0x7b 0x7d (list_text (map field_text (by_name [] (fields js))))

  pub item_texts : Parts → List (Option (List ℕ))
  item_texts no_parts = []
  item_texts (part j js) = canonical j ∷ item_texts js

  pub fields : Parts → List Field
  fields no_parts = []
  fields (part k no_parts) = []
  fields (part k (part v js)) = (text_of k, canonical v) ∷ fields js

-- each number that counts is in range
abbrev pub in_range : Json → Bool
in_range j = is_some (canonical j)

abbrev pub compared : Option (List ℕ) → Option (List ℕ) → Comparison
compared (Some v) (Some w) = cond (bytes_eq v w) Equal Unequal
compared _ _ = OutOfRange

abbrev pub comparison : Json → Json → Comparison
comparison a b = compared (canonical a) (canonical b)

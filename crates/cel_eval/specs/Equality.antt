-- When two values are equal, deep and by value, and when a number in them is out of range.
use Rattle.std.specs.Prelude.{◌==◌, ◌&&◌, ◌||◌, not, ℕ, ℤ, Bool, true, false, List, [], ◌∷◌, Result, Ok, Err, bytes_eq}
use Rattle.std.specs.Ordering.{int_eq}
use Rattle.json_text.specs.Grammar.{Json, spelling}
use Rattle.json_text.specs.Nodes.{kind_of, items_of}
use Rattle.json_text.specs.Text.{has_text}
use Rattle.json_text.specs.declared.kind.Kind.{Kind}
use Rattle.json_text.specs.declared.kind.Kind.TheVariants as kind
use Rattle.text_num.specs.Units.{units_of}
use Rattle.cel_eval.specs.declared.fault.EvalFault.{EvalFault}
use Rattle.json_text.specs.Same.{in_range, comparison}
use Rattle.json_text.specs.declared.comparison.Comparison.{Comparison}
use Rattle.json_text.specs.declared.comparison.Comparison.TheVariants.{Equal, Unequal, OutOfRange}
use Rattle.cel_eval.specs.Data.{Datum, null, boolean, number, text, list, object, written, Data, none, more, units_within, is_true}

abbrev pub is_same : Comparison → Bool
is_same Equal = true
is_same Unequal = false
is_same OutOfRange = false

-- no number in it is out of range, but for those of a member that one of its name follows
abbrev mutual
  pub fits : Datum → Bool
  fits null = true
  fits (boolean b) = true
  fits (number n) = true
  fits (text t) = true
  fits (list j) = in_range j
  fits (object j) = in_range j
  fits (written ds) = all_fit ds

  pub all_fit : Data → Bool
  all_fit none = true
  all_fit (more d ds) = fits d && all_fit ds

abbrev pub same_bool : Bool → Bool → Bool
same_bool true b = b
same_bool false b = not b

abbrev pub is_number : ℤ → Result ℤ EvalFault → Bool
is_number n (Ok m) = int_eq n m
is_number n (Err e) = false

-- equal to a value of an event's text, which is of this kind
abbrev mutual
  pub is_value : Datum → Kind → Json → Bool
  is_value null kind.Null j = true
  is_value (boolean b) kind.Bool j = same_bool b (is_true j)
  is_value (number n) kind.Number j = is_number n (units_within (units_of (spelling j)))
  is_value (text t) k j = has_text t j
  is_value (list l) kind.List j = is_same (comparison l j)
  is_value (object l) kind.Object j = is_same (comparison l j)
  is_value (written ds) kind.List j = are_parts ds (items_of j)
  is_value _ k j = false

  pub are_parts : Data → List Json → Bool
  are_parts none [] = true
  are_parts (more d ds) (j ∷ js) = is_value d (kind_of j) j && are_parts ds js
  are_parts _ _ = false

abbrev pub is_json : Datum → Json → Bool
is_json d j = is_value d (kind_of j) j

abbrev pub is_null : Datum → Bool
is_null null = true
is_null _ = false

abbrev pub is_boolean : Bool → Datum → Bool
is_boolean b (boolean c) = same_bool b c
is_boolean b _ = false

abbrev pub is_units : ℤ → Datum → Bool
is_units m (number n) = int_eq m n
is_units m _ = false

abbrev pub is_string : List ℕ → Datum → Bool
is_string s (text t) = bytes_eq s t
is_string s _ = false

-- values of two kinds are never equal
abbrev mutual
  pub equal : Datum → Datum → Bool
  equal null e = is_null e
  equal (boolean b) e = is_boolean b e
  equal (number n) e = is_units n e
  equal (text t) e = is_string t e
  equal (list j) e = is_json e j
  equal (object j) e = is_json e j
  equal (written ds) (list j) = is_json (written ds) j
  equal (written ds) (written es) = all_equal ds es
  equal (written ds) _ = false

  pub all_equal : Data → Data → Bool
  all_equal none none = true
  all_equal (more d ds) (more e es) = equal d e && all_equal ds es
  all_equal _ _ = false

-- among the items of a list
abbrev pub is_among_parts : Datum → List Json → Bool
is_among_parts d [] = false
is_among_parts d (j ∷ js) = is_json d j || is_among_parts d js

abbrev pub is_among : Datum → Data → Bool
is_among d none = false
is_among d (more e es) = equal d e || is_among d es

-- When two values are equal, part by part.
use Rattle.std.specs.Prelude.{◌≡◌, ℕ, Bool, List, Option, Some, None, Ok, ℤ}
use Rattle.json_text.specs.Grammar.{Json, null, boolean, number, text, array, object, Parts, no_parts, part}
use Rattle.json_text.specs.Nodes.{list_of}
use Rattle.json_text.specs.Text.{last_named, unescaped}
use Rattle.text_num.specs.Units.{units_of}

mutual
  -- Both are of one kind: numbers of the same units, strings that stand for one text, lists that are equal
  -- item by item, and objects that are equal at every name.
  pub data AreEqual : Json → Json → Type 0 where
    nulls : AreEqual null null
    booleans : (b : Bool) → AreEqual (boolean b) (boolean b)
    numbers : (v w : List ℕ) (units : ℤ) → units_of v ≡ Ok units → units_of w ≡ Ok units
        → AreEqual (number v) (number w)
    texts : (v w : List ℕ) → unescaped v ≡ unescaped w → AreEqual (text v) (text w)
    lists : (v w : List ℕ) (js ks : Parts) → AreEqualItems js ks → AreEqual (array v js) (array w ks)
    objects : (v w : List ℕ) (js ks : Parts)
        → ((name : List ℕ)
        → AreEqualMembers (last_named name (list_of js)) (last_named name (list_of ks)))
        → AreEqual (object v js) (object w ks)

  pub data AreEqualItems : Parts → Parts → Type 0 where
    no_items : AreEqualItems no_parts no_parts
    item : (j k : Json) (js ks : Parts) → AreEqual j k → AreEqualItems js ks
        → AreEqualItems (part j js) (part k ks)

  -- the last member of a name in each: neither has one, or their values are equal
  pub data AreEqualMembers : Option Json → Option Json → Type 0 where
    missing : AreEqualMembers None None
    found : (j k : Json) → AreEqual j k → AreEqualMembers (Some j) (Some k)

-- The nodes of a text: its value, and then the nodes of the value's parts, in the order of the source.
use Rattle.std.specs.Prelude.{◌≡◌, MatchOption, Some, ℕ, zero, suc, ◌+◌, ◌*◌, ◌/◌, ◌<◌, List, [], ◌∷◌, ◌++◌, length, get_or, Option, None, slice_get}
use Rattle.json_text.specs.Grammar.{Json, null, boolean, number, text, array, object, Parts, no_parts, part}
use Rattle.json_text.specs.declared.kind.Kind.{Kind}
use Rattle.json_text.specs.declared.kind.Kind.TheVariants as kind

abbrev pub list_of : Parts → List Json
list_of no_parts = []
list_of (part j js) = j ∷ list_of js

abbrev mutual
  pub nodes : Json → List Json
  nodes null = null ∷ []
  nodes (boolean b) = boolean b ∷ []
  nodes (number w) = number w ∷ []
  nodes (text w) = text w ∷ []
  nodes (array w js) = array w js ∷ nodes_of js
  nodes (object w js) = object w js ∷ nodes_of js

  pub nodes_of : Parts → List Json
  nodes_of no_parts = []
  nodes_of (part j js) = nodes j ++ nodes_of js

-- a text and the value that it spells
pub record Document : Type 0 where
  pub source : List ℕ
  pub value : Json

-- the number is that of a node
abbrev pub IsNodeOf : Document → ℕ → Type 0
IsNodeOf d n = n < length (nodes d.value)

-- the value at a node
abbrev pub value_at : Document → ℕ → Json
value_at d n = get_or (nodes d.value) n null

-- the node that is found has the value that is told, or there is none
abbrev pub IsFound : Document → Option Json → Option ℕ → Type 0
IsFound d told found = MatchOption found (told ≡ None) (λ m. IsNodeOf d m × (told ≡ Some (value_at d m)))

-- the number behind all the nodes of the value at a node
abbrev pub behind : Document → ℕ → ℕ
behind d n = n + length (nodes (value_at d n))

abbrev pub kind_of : Json → Kind
kind_of null = kind.Null
kind_of (boolean b) = kind.Bool
kind_of (number w) = kind.Number
kind_of (text w) = kind.Text
kind_of (array w js) = kind.List
kind_of (object w js) = kind.Object

-- what stands between the brackets: values, or names and values in turn
abbrev pub parts_of : Json → List Json
parts_of null = []
parts_of (boolean b) = []
parts_of (number w) = []
parts_of (text w) = []
parts_of (array w js) = list_of js
parts_of (object w js) = list_of js

-- the number of items or members
abbrev pub len_of : Json → ℕ
len_of null = 0
len_of (boolean b) = 0
len_of (number w) = 0
len_of (text w) = 0
len_of (array w js) = length (list_of js)
len_of (object w js) = length (list_of js) / 2

-- the k-th item, or the value of the k-th member
abbrev pub item_of : Json → ℕ → Option Json
item_of null k = None
item_of (boolean b) k = None
item_of (number w) k = None
item_of (text w) k = None
item_of (array w js) k = slice_get (list_of js) k
item_of (object w js) k = slice_get (list_of js) (2 * k + 1)

-- the name of the k-th member
abbrev pub key_of : Json → ℕ → Option Json
key_of null k = None
key_of (boolean b) k = None
key_of (number w) k = None
key_of (text w) k = None
key_of (array w js) k = None
key_of (object w js) k = slice_get (list_of js) (2 * k)

-- the items of a list
abbrev pub items_of : Json → List Json
items_of null = []
items_of (boolean b) = []
items_of (number w) = []
items_of (text w) = []
items_of (array w js) = list_of js
items_of (object w js) = []

-- names and values in turn, as members
abbrev pub pairs : List Json → List (Json × Json)
pairs [] = []
pairs (k ∷ []) = []
pairs (k ∷ v ∷ js) = (k, v) ∷ pairs js

-- the members of an object: names and values
abbrev pub members_of : Json → List (Json × Json)
members_of null = []
members_of (boolean b) = []
members_of (number w) = []
members_of (text w) = []
members_of (array w js) = []
members_of (object w js) = pairs (list_of js)

-- so many nodes from this one on, each behind all the nodes of the one before
abbrev pub siblings : Document → ℕ → ℕ → List ℕ
siblings d n zero = []
siblings d n (suc count) = n ∷ siblings d (behind d n) count

-- so many names and values from this node on
abbrev pub sibling_pairs : Document → ℕ → ℕ → List (ℕ × ℕ)
sibling_pairs d n zero = []
sibling_pairs d n (suc count) = (n, behind d n) ∷ sibling_pairs d (behind d (behind d n)) count

-- the nodes of the items of the list at a node
abbrev pub item_nodes : Document → ℕ → List ℕ
item_nodes d n = siblings d (n + 1) (length (items_of (value_at d n)))

-- the nodes of the members of the object at a node: names and values
abbrev pub member_nodes : Document → ℕ → List (ℕ × ℕ)
member_nodes d n = sibling_pairs d (n + 1) (length (members_of (value_at d n)))

-- both are nodes
abbrev pub AreNodesOf : Document → ℕ × ℕ → Type 0
AreNodesOf d m = IsNodeOf d m.0 × IsNodeOf d m.1

-- the values at both
abbrev pub values_at : Document → ℕ × ℕ → Json × Json
values_at d m = (value_at d m.0, value_at d m.1)

-- Which items are ready: those of a group, a score counted from the least that there is, and a number.
use Rattle.std.specs.Prelude.{◌≡◌, ◌⊎◌, ◌+◌, ◌<◌, ◌≤◌, length, ℕ, Bool, true, false}
use Rattle.std.specs.Prelude.{List, Option, Some, None}
use Rattle.std.specs.List.{list_any}
use Rattle.std.specs.BTreeMap.{is_at}
use Rattle.std.specs.Map.{lookup}
use Rattle.std.specs.Ordering.{nat_cmp}
use Rattle.kinds.specs.Queue.{group_cmp, group_of}
use Rattle.kinds.specs.declared.cell.Cell.{Cell}
use Rattle.kinds.specs.declared.cell.CellLimit.{CellLimit}
use Rattle.kinds.specs.declared.store.Item.{Item}
use Rattle.ready_queue.specs.declared.fronts.Place.{Place}
use Rattle.ready_queue.specs.Keys.{has, IsUpTo}
use Rattle.ready_queue.specs.Places.{IsParkedAt}
use Rattle.ready_queue.specs.Opens.{Gates}

abbrev pub Group : Type 0
Group = List CellLimit × Option Cell

abbrev pub Held : Type 0
Held = Group → ℕ → ℕ → Bool

-- the numbers of groups, and the keys
pub record Ready : Type 0 where
  pub names : List (Group × ℕ)
  pub keys : List (ℕ × ℕ × ℕ)

-- these, and the places of the groups that aren't parked
pub record Groups : Type 0 where
  pub held : Ready
  pub places : List (ℕ × Place)

abbrev pub name_at : Group → List (Group × ℕ) → Option ℕ
name_at group names = lookup (is_at (group_cmp group)) names

abbrev pub has_at : List (ℕ × ℕ × ℕ) → Option ℕ → ℕ → ℕ → Bool
has_at keys None s n = false
has_at keys (Some g) s n = has keys g s n

unfoldable pub holds : Ready → Held
holds ready group s n = has_at ready.keys (name_at group ready.names) s n

-- no two groups have one number, none has a number that is still to be given, and each key is of a group
-- that has one
pub record IsNamed (names : List (Group × ℕ)) (keys : List (ℕ × ℕ × ℕ)) (next : ℕ) : Type 0 where
  pub below : (k : Group) (g : ℕ) → name_at k names ≡ Some g → g < next
  pub single : (k l : Group) (g : ℕ) → name_at k names ≡ Some g → name_at l names ≡ Some g → k ≡ l
  pub named : (g s n : ℕ) → has keys g s n ≡ true → (k : Group) × (name_at k names ≡ Some g)

-- ---- what came and went

abbrev pub AreSame : Held → Held → Type 0
AreSame old new = (k : Group) (s n : ℕ) → new k s n ≡ old k s n

pub record Comes (k : Group) (s n : ℕ) (old new : Held) : Type 0 where
  pub added : (l : Group) (u m : ℕ) → new l u m ≡ true
      → ((l ≡ k) × (u ≡ s) × (m ≡ n)) ⊎ (old l u m ≡ true)
  pub here : new k s n ≡ true
  pub kept : (l : Group) (u m : ℕ) → old l u m ≡ true → new l u m ≡ true

pub record Goes (k : Group) (s n : ℕ) (old new : Held) : Type 0 where
  pub had : (l : Group) (u m : ℕ) → new l u m ≡ true → old l u m ≡ true
  pub split : (l : Group) (u m : ℕ) → old l u m ≡ true
      → ((l ≡ k) × (u ≡ s) × (m ≡ n)) ⊎ (new l u m ≡ true)
  pub gone : new k s n ≡ true → ⊥

-- a key came of the group that has this number
abbrev pub ComesNamed : ℕ → ℕ → ℕ → Ready → Ready → Type 0
ComesNamed g s n old new =
    (k : Group) → name_at k old.names ≡ Some g → Comes k s n (holds old) (holds new)

-- ---- groups that are parked: they have keys, and no place

pub record IsParked (gs : Groups) (k : Group) : Type 0 where
  pub name : ℕ
  pub named : name_at k gs.held.names ≡ Some name
  pub parked : IsParkedAt name (record { keys = gs.held.keys; places = gs.places })

-- a group that has no items
abbrev pub HoldsNothing : Groups → Group → Type 0
HoldsNothing gs k = (s n : ℕ) → holds gs.held k s n ≡ false

-- no group is parked that wasn't
abbrev pub AreFewer : Groups → Groups → Type 0
AreFewer old new = (k : Group) → IsParked new k → IsParked old k

-- no group is parked that wasn't, but this one
abbrev pub AreOneMore : Group → Groups → Groups → Type 0
AreOneMore group old new = (k : Group) → IsParked new k → (k ≡ group) ⊎ IsParked old k

abbrev pub ParksNothing : Groups → Type 0
ParksNothing gs = (k : Group) → IsParked gs k → ⊥

-- the gate is closed for parked groups
abbrev pub AreClosed : Gates → Groups → Type 0
AreClosed gate gs = (k : Group) → IsParked gs k → gate k.0 k.1 ≡ false

-- ---- the least of those for whose group the gate is open

abbrev pub IsSoundHeld : Gates → Held → Option (ℕ × ℕ) → Type 0
IsSoundHeld gate held None = Unit {0}
IsSoundHeld gate held (Some b) = (k : Group) × (held k b.0 b.1 ≡ true) × (gate k.0 k.1 ≡ true)

pub record IsLeastHeld (gate : Gates) (held : Held) (r : Option (ℕ × ℕ)) : Type 0 where
  pub sound : IsSoundHeld gate held r
  pub least : (k : Group) (s n : ℕ) → held k s n ≡ true → gate k.0 k.1 ≡ true → IsUpTo r (s, n)

-- a map has an item of this number and group
abbrev pub IsOf : List (ℕ × Item) → Group → ℕ → Type 0
IsOf pairs k n = (item : Item) × (lookup (is_at (nat_cmp n)) pairs ≡ Some item) × (group_of item ≡ k)

abbrev pub AreOf : List (ℕ × Item) → Held → Type 0
AreOf pairs held = (k : Group) (s n : ℕ) → held k s n ≡ true → IsOf pairs k n

-- an item has the group
abbrev pub is_of : Group → Item → Bool
is_of k item = is_at (group_cmp k) (group_of item)

-- among the items are some of each group
abbrev pub HasEach : List Item → Held → Type 0
HasEach items held = (k : Group) (s n : ℕ) → held k s n ≡ true → list_any (is_of k) items ≡ true

-- no more are asked than there are items, where these have each group
abbrev pub AsksFew : Held → ℕ → ℕ → Type 0
AsksFew held old new = (items : List Item) → HasEach items held → new ≤ old + length items

-- Places of groups, and the order that the groups stand in by them.
use Rattle.std.specs.Prelude.{◌≡◌, ◌⊎◌, ℕ, cond, ◌==◌, Bool, true, false, not, ◌&&◌, ◌||◌}
use Rattle.std.specs.Prelude.{List, Option, Some, None, if◌then◌else◌}
use Rattle.std.specs.BTreeMap.{is_at}
use Rattle.std.specs.Map.{lookup}
use Rattle.std.specs.Ordering.{nat_cmp}
use Rattle.ready_queue.specs.declared.fronts.Place.{Place}
use Rattle.ready_queue.specs.Keys.{has, at_most}

abbrev pub place_at : ℕ → List (ℕ × Place) → Option Place
place_at g places = lookup (is_at (nat_cmp g)) places

-- a group with this place stands here in the order
unfoldable pub is_front : ℕ → ℕ → Option Place → Bool
is_front s n None = false
is_front s n (Some place) = s == place.score && n == place.number

-- the order has each group at its place, and nothing else
unfoldable pub IsFronts : List (ℕ × ℕ × ℕ) → List (ℕ × Place) → Type 0
IsFronts order places = (s n g : ℕ) → has order s n g ≡ is_front s n (place_at g places)

unfoldable pub IsShown : ℕ → Place → List (ℕ × ℕ × ℕ) → List (ℕ × ℕ × ℕ) → Type 0
IsShown group place old new =
    (s n g : ℕ) → has new s n g ≡ (has old s n g || (g == group && is_front s n (Some place)))

unfoldable pub IsHidden : ℕ → Place → Option Place → List (ℕ × ℕ × ℕ) → List (ℕ × ℕ × ℕ) → Type 0
IsHidden group was place old new =
    (s n g : ℕ)
    → has new s n g
    ≡ (has old s n g
    && not (g == group && s == was.score && n == was.number && not (is_front s n place)))

-- one group's place came, went or took the place of another
unfoldable pub Puts : ℕ → Option Place → List (ℕ × Place) → List (ℕ × Place) → Type 0
Puts group place old new =
    (q : ℕ) → place_at q new ≡ cond (is_at (nat_cmp group) q) place (place_at q old)

-- ---- the places beside the keys

pub record Indexed : Type 0 where
  pub keys : List (ℕ × ℕ × ℕ)
  pub places : List (ℕ × Place)

abbrev pub IsLedBy : Option Place → ℕ × ℕ → Type 0
IsLedBy None x = Unit {0}
IsLedBy (Some place) x = at_most (place.score, place.number) x ≡ true

abbrev pub HasKey : List (ℕ × ℕ × ℕ) → ℕ → Type 0
HasKey keys g = (s : ℕ) × (n : ℕ) × (has keys g s n ≡ true)

-- the place of a group, where it has one, isn't after any of its keys; a group that has a place has a
-- key
pub record IsIndexed (keys : List (ℕ × ℕ × ℕ)) (places : List (ℕ × Place)) : Type 0 where
  pub led : (g s n : ℕ) → has keys g s n ≡ true → IsLedBy (place_at g places) (s, n)
  pub used : (g : ℕ) (place : Place) → place_at g places ≡ Some place → HasKey keys g

-- the place that a group gets with a further key: its own, where this isn't after the key
abbrev pub lowered : Option Place → ℕ → ℕ → Place
lowered None s n = record { score = s; number = n }
lowered (Some place) s n =
    if at_most (place.score, place.number) (s, n) then place else record { score = s; number = n }

-- the place is as before, or the least key of its group
abbrev pub IsRaised : ℕ → ℕ × ℕ → List (ℕ × Place) → List (ℕ × Place) → Type 0
IsRaised group least old new =
    (new ≡ old)
    ⊎ ((was : Place)
    × (place_at group old ≡ Some was)
    × Puts group (Some (record { score = least.0; number = least.1 })) old new)

-- a place that was there before stays, and one that wasn't goes
abbrev pub IsRestored : ℕ → Option Place → List (ℕ × Place) → List (ℕ × Place) → Type 0
IsRestored group None old new = Puts group None old new
IsRestored group (Some place) old new = new ≡ old

-- ---- groups that are parked

-- the group has a key and no place
pub record IsParkedAt (g : ℕ) (i : Indexed) : Type 0 where
  pub none : place_at g i.places ≡ None
  pub score : ℕ
  pub number : ℕ
  pub key : has i.keys g score number ≡ true

-- no group is parked that wasn't
abbrev pub ParksNone : Indexed → Indexed → Type 0
ParksNone old new = (g : ℕ) → IsParkedAt g new → IsParkedAt g old

-- no group is parked that wasn't, but this one
abbrev pub ParksOne : ℕ → Indexed → Indexed → Type 0
ParksOne group old new = (g : ℕ) → IsParkedAt g new → (g ≡ group) ⊎ IsParkedAt g old

-- the keys of parked groups are closed
abbrev pub AreShut : (ℕ → Bool) → Indexed → Type 0
AreShut open_at i =
    (g s n : ℕ) → has i.keys g s n ≡ true → place_at g i.places ≡ None → open_at n ≡ false

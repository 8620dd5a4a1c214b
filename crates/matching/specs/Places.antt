-- Where an index keeps what it matches with events: by name, by the path of a bucket, and by its value.
use Rattle.std.specs.Prelude.{◌≡◌, ◌⊎◌, ℕ, ◌==◌, Bool, true, false, ◌&&◌, List, [], ◌∷◌, ◌++◌, Option, Some, None}
use Rattle.std.specs.Option.{option_and, option_map, option_cmp}
use Rattle.std.specs.List.{list_any, AllByRecursion}
use Rattle.std.specs.BTreeMap.{is_at}
use Rattle.std.specs.Ordering.{nat_cmp, ordering_then, is_lt, is_gt, is_eq}
use Rattle.std.specs.Cmp.Lexicographic.{slice_cmp}
use Rattle.std.specs.Str.{bytes_eq}
use Rattle.std.specs.declared.cmp.Ordering.{Ordering}
use Rattle.kinds.specs.declared.event.Event.{Event}
use Rattle.kinds.specs.declared.store.Bucket.{Bucket}
use Rattle.kinds.specs.Stores.{Condition, Values, is_value}
use Rattle.matching.specs.declared.place.Field.{Field}

-- A bucket counts where there is a condition that it may spare.
abbrev pub bucket_of : Condition → Option Bucket
bucket_of c = option_and c.cond c.bucket

abbrev pub value_in : Option Bucket → List ℕ
value_in None = []
value_in (Some b) = b.value

abbrev pub path_in : Bucket → List (List ℕ)
path_in b = b.path

abbrev pub field_of : Condition → Field
field_of c = record { name = c.name; path = option_map path_in (bucket_of c) }

-- name and path, and the value there
abbrev pub place_of : Condition → Field × List ℕ
place_of c = (field_of c, value_in (bucket_of c))

-- the value that an entry of a field must have for an event: the empty one where there is no path
abbrev pub value_for : Values → Event → Option (List (List ℕ)) → Option (List ℕ)
value_for values event None = Some []
value_for values event (Some path) = values event path

-- whether the conditions at a place are looked at for an event
abbrev pub is_near : Values → Event → Field × List ℕ → Bool
is_near values event p = bytes_eq p.0.name event.name && is_value p.1 (value_for values event p.0.path)

-- ---- the order of places

abbrev pub field_cmp : Field → Field → Ordering
field_cmp a b =
    ordering_then (slice_cmp nat_cmp a.name b.name)
    (option_cmp (slice_cmp (slice_cmp nat_cmp)) a.path b.path)

abbrev pub place_cmp : Field × List ℕ → Field × List ℕ → Ordering
place_cmp a b = ordering_then (field_cmp a.0 b.0) (slice_cmp nat_cmp a.1 b.1)

abbrev pub path_behind : Option (List (List ℕ)) → List (List ℕ)
path_behind None = []
path_behind (Some path) = path ++ [] ∷ []

-- the least field that comes after a field
abbrev pub field_after : Field → Field
field_after f = record { name = f.name; path = Some (path_behind f.path) }

abbrev pub has_number : List ℕ → ℕ → Bool
has_number ns n = list_any (is_at (nat_cmp n)) ns

-- whether a place of the index is looked at for an event, and has the number there
abbrev pub is_wanted : Values → Event → ℕ → (Field × List ℕ) × ℕ → Bool
is_wanted values event n q = is_near values event q.0 && n == q.1

-- the same of the places of one field
abbrev pub is_wanted_of : Field → Values → Event → ℕ → (Field × List ℕ) × ℕ → Bool
is_wanted_of field values event n q = is_eq (field_cmp field q.0.0) && is_wanted values event n q

-- The field is the least one of the index from a field on, where the names are equal.
abbrev pub IsNext : Field → List ((Field × List ℕ) × ℕ) → Option Field → Type 0
IsNext from keys None =
    AllByRecursion (λ q. bytes_eq q.0.0.name from.name ≡ true → is_lt (field_cmp q.0.0 from) ≡ true) keys
IsNext from keys (Some f) =
    (f.name ≡ from.name) × (is_lt (field_cmp f from) ≡ false)
    × (list_any (λ q. is_eq (field_cmp f q.0.0)) keys ≡ true)
    × AllByRecursion
    (λ q. (is_lt (field_cmp q.0.0 from) ≡ true) ⊎ (is_gt (field_cmp f q.0.0) ≡ false)) keys

-- Entries in order of number, and the map and set that a timeline keeps them in.
use Rattle.std.specs.Prelude.{◌≡◌, ℕ, ◌==◌, Bool, false, List, map, find, Option, Some, None}
use Rattle.std.specs.List.{list_any}
use Rattle.std.specs.Map.{values_of}
use Rattle.std.specs.BTreeMap.{is_at}
use Rattle.std.specs.Ordering.{nat_cmp, ordering_then}
use Rattle.std.specs.declared.cmp.Ordering.{Ordering}
use Rattle.std.specs.List.Sorted.{IsStrictlySortedBy}
use Rattle.kinds.specs.declared.seen.SeenEntry.{SeenEntry}
use Rattle.intake.specs.Number.{has_number}

-- each number is below the next
abbrev pub IsInOrder : List SeenEntry → Type 0
IsInOrder entries = IsStrictlySortedBy nat_cmp (map (λ (e : SeenEntry). e.number) entries)

abbrev pub pair_cmp : ℕ × ℕ → ℕ × ℕ → Ordering
pair_cmp a b = ordering_then (nat_cmp a.0 b.0) (nat_cmp a.1 b.1)

abbrev pub moment_of : SeenEntry → ℕ
moment_of entry = entry.moment

abbrev pub has_part : (SeenEntry → ℕ) → ℕ → Option SeenEntry → Bool
has_part part p None = false
has_part part p (Some entry) = p == part entry

-- a set has a part and the number of each entry, and no more
abbrev pub AreListed : (SeenEntry → ℕ) → List (ℕ × ℕ) → List SeenEntry → Type 0
AreListed part pairs entries =
    (p number : ℕ) → list_any (is_at (pair_cmp (p, number))) pairs
    ≡ has_part part p (find (has_number number) entries)

-- the entries of a map under their numbers
abbrev pub under_numbers : List SeenEntry → List (ℕ × SeenEntry)
under_numbers entries = map (λ (e : SeenEntry). (e.number, e)) entries

-- a map has the entries under their numbers, and a set has the moment and number of each
pub record IsTimeline (entries : List (ℕ × SeenEntry)) (moments : List (ℕ × ℕ)) : Type 0 where
  pub keyed : entries ≡ under_numbers (values_of entries)
  pub ordered : IsInOrder (values_of entries)
  pub listed : AreListed moment_of moments (values_of entries)

-- What stands beside the entries: where each id is found, and what all of them weigh.
use Rattle.std.specs.Prelude.{◌≡◌, ℕ, ◌+◌, ◌/◌, Bool, false, List, [], ◌∷◌, filter, find, Option, Some, None, ⊤}
use Rattle.std.specs.BTreeMap.{is_at}
use Rattle.std.specs.BTreeMap.Range.{range_contains}
use Rattle.std.specs.declared.ops.Bound.TheVariants.{Included, Excluded}
use Rattle.std.specs.Int.{from_be_bytes, w64}
use Rattle.std.specs.List.{list_any}
use Rattle.sha2.specs.Sha256.{sha256}
use Rattle.kinds.specs.declared.seen.SeenEntry.{SeenEntry}
use Rattle.kinds.specs.Seen.{has_id, weight_of}
use Rattle.intake.specs.Order.{pair_cmp}

-- a number that stands for the bytes of an id: half of what the first eight bytes of its SHA-256
-- (FIPS 180-4) come to; other ids may have the same
unfoldable pub digest : List ℕ → ℕ
digest id = from_be_bytes w64 (sha256 id) / 2

abbrev pub digest_of : SeenEntry → ℕ
digest_of entry = digest entry.id

abbrev pub is_of : List ℕ → Option SeenEntry → Bool
is_of id None = false
is_of id (Some entry) = has_id id entry

unfoldable pub has_place : List (ℕ × ℕ) → ℕ → ℕ → Bool
has_place places d number = list_any (is_at (pair_cmp (d, number))) places

-- the places of a digest, as a range of the set gives them
abbrev pub is_within : ℕ → ℕ × ℕ → Bool
is_within d place = range_contains pair_cmp (Included (d, 0)) (Excluded (d + 1, 0)) place

abbrev pub places_of : ℕ → List (ℕ × ℕ) → List (ℕ × ℕ)
places_of d places = filter (is_within d) places

-- no two entries have one id
abbrev pub AreApart : List SeenEntry → Type 0
AreApart [] = ⊤
AreApart (e ∷ es) = (find (has_id e.id) es ≡ None) × AreApart es

-- the entries have ids of their own, and weigh so much
pub record IsSeen (entries : List SeenEntry) (weight : ℕ) : Type 0 where
  pub apart : AreApart entries
  pub weighed : weight ≡ weight_of entries

-- What the maps and sets beside a list of entries hold.
use Rattle.std.specs.Prelude.{◌≡◌, ◌<◌, ℕ, ◌==◌, length, Bool, false, ◌&&◌, List, map, find, Option, Some, None}
use Rattle.std.specs.Option.{option_map}
use Rattle.std.specs.List.{list_any}
use Rattle.std.specs.Map.{lookup, values_of}
use Rattle.std.specs.BTreeMap.{is_at}
use Rattle.std.specs.Ordering.{nat_cmp, ordering_then}
use Rattle.std.specs.declared.cmp.Ordering.{Ordering}
use Rattle.lists.specs.Entries.{has, without, key_of, by_key, AreApart, AreApartBy, IsInOrder}

abbrev pub has_key : {X : Type 0} → (X → ℕ) → (X → ℕ) → ℕ → ℕ → X → Bool
has_key rank number r n e = r == rank e && n == number e

-- A map has the entries under their ranks and numbers.
pub record IsSorted {X : Type 0} (rank number : X → ℕ) (entries : List ((ℕ × ℕ) × X)) : Type 0 where
  pub keyed : entries ≡ map (λ e. (key_of rank number e, e)) (values_of entries)
  pub ordered : IsInOrder rank number (values_of entries)

-- A look-up has the place of each key.
pub record IsPlaced {X K P : Type 0} (eq : K → K → Bool) (key : X → K) (place : X → P) (es : List X)
    (look : K → Option P) : Type 0 where
  pub apart : AreApartBy eq key es
  pub placed : (k : K) → look k ≡ option_map place (find (by_key eq key k) es)

-- A map has the entries, and a second one the rank of each number.
pub record IsKept {X : Type 0} (rank number : X → ℕ) (entries : List ((ℕ × ℕ) × X))
    (ranks : List (ℕ × ℕ)) : Type 0 where
  pub sorted : IsSorted rank number entries
  pub placed : IsPlaced (λ a b. a == b) number rank (values_of entries)
      (λ n. lookup (is_at (nat_cmp n)) ranks)

-- ---- numbers in groups

-- the order by a part, and by number where the parts tie
abbrev pub group_cmp : {K : Type 0} → (K → K → Ordering) → K × ℕ → K × ℕ → Ordering
group_cmp cmp a b = ordering_then (cmp a.0 b.0) (nat_cmp a.1 b.1)

abbrev pub has_part : {X K : Type 0} → (K → K → Ordering) → (X → K) → K → Option X → Bool
has_part cmp part p None = false
has_part cmp part p (Some e) = is_at (cmp p) (part e)

-- A set has a part and the number of each entry.
pub record IsListed {X K : Type 0} (cmp : K → K → Ordering) (part : X → K) (number : X → ℕ) (es : List X)
    (pairs : List (K × ℕ)) : Type 0 where
  pub apart : AreApart number es
  pub listed : (p : K) (n : ℕ)
      → list_any (is_at (group_cmp cmp (p, n))) pairs ≡ has_part cmp part p (find (has number n) es)

-- An entry of a run was taken out.
pub record IsTakenOf {X : Type 0} (part number : X → ℕ) (run : ℕ) (old : List X) (e : X)
    (new : List X) : Type 0 where
  pub its : run ≡ part e
  pub held : find (has number (number e)) old ≡ Some e
  pub left : new ≡ without number (number e) old
  pub rest : without part run new ≡ without part run old
  pub fewer : length new < length old

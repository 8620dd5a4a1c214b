-- How many entries have a part.
use Rattle.std.specs.Prelude.{◌≡◌, ℕ, ◌+◌, ◌-◌, ◌==◌, cond, List, filter, length, Option, Some}
use Rattle.std.specs.BTreeMap.{is_at}
use Rattle.std.specs.Map.{lookup}
use Rattle.std.specs.Option.{unwrap_or}
use Rattle.std.specs.Ordering.{nat_cmp}
use Rattle.lists.specs.Entries.{has}

-- a part that no entry has is counted 0
abbrev pub count_of : ℕ → List (ℕ × ℕ) → ℕ
count_of part counts = unwrap_or (lookup (is_at (nat_cmp part)) counts) 0

-- no count is 0: what no entry has any more is dropped
abbrev pub NoneIsZero : List (ℕ × ℕ) → Type 0
NoneIsZero counts = (q : ℕ) → lookup (is_at (nat_cmp q)) counts ≡ Some 0 → ⊥

-- one part has this count from now on, where it has any
abbrev pub Sets : ℕ → Option ℕ → List (ℕ × ℕ) → List (ℕ × ℕ) → Type 0
Sets part count old new =
    (q : ℕ)
    → lookup (is_at (nat_cmp q)) new
    ≡ cond (is_at (nat_cmp part) q) count (lookup (is_at (nat_cmp q)) old)

pub record IsRaised (part : ℕ) (old new : List (ℕ × ℕ)) : Type 0 where
  pub each : (q : ℕ) → count_of q new ≡ count_of q old + cond (q == part) 1 0

pub record IsLowered (part : ℕ) (old new : List (ℕ × ℕ)) : Type 0 where
  pub each : (q : ℕ) → count_of q new ≡ count_of q old - cond (q == part) 1 0

-- each part's count is that of the entries that have it
pub record IsCounted {X : Type 0} (part : X → ℕ) (xs : List X) (counts : List (ℕ × ℕ)) : Type 0 where
  pub each : (q : ℕ) → count_of q counts ≡ length (filter (has part q) xs)

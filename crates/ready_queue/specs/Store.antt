-- The map of items.
use Rattle.std.specs.Prelude.{◌≡◌, ℕ, ℤ, ◌+ℤ◌, ◌-ℤ◌, pos, negsuc, List, unsigned_abs}
use Rattle.std.specs.List.{AllByRecursion}
use Rattle.std.specs.Map.{values_of}
use Rattle.std.specs.Ordering.{nat_cmp}
use Rattle.kinds.specs.Cells.{IsStart}
use Rattle.kinds.specs.Queue.{number_of}
use Rattle.kinds.specs.declared.store.Item.{Item}
use Rattle.lists.proofs.Stored.{IsStored}

abbrev pub least_score : ℤ
least_score = negsuc 9223372036854775807

-- a score, counted from the least that there is
unfoldable pub lifted : ℤ → ℕ
lifted score = unsigned_abs (score -ℤ least_score)

-- nothing is lost by counting so
unfoldable pub IsScore : ℤ → Type 0
IsScore score = least_score +ℤ pos (lifted score) ≡ score

-- each item under its number, each start a throttle's cell, each score in its range
pub record IsStore (pairs : List (ℕ × Item)) : Type 0 where
  pub stored : IsStored nat_cmp number_of pairs
  pub starts : AllByRecursion (λ (i : Item). IsStart i.start) (values_of pairs)
  pub scores : AllByRecursion (λ (i : Item). IsScore i.score) (values_of pairs)

-- Counts of issues by cell, and how they change.
use Rattle.std.specs.Prelude.{◌≡◌, ◌≤◌, ℕ, ◌+◌, ◌-◌, Bool, cond, List, take, Option, Some, nat_le}
use Rattle.std.specs.BTreeMap.{is_at}
use Rattle.std.specs.Map.{lookup, values_of}
use Rattle.std.specs.Option.{unwrap_or}
use Rattle.std.specs.Ordering.{nat_cmp}
use Rattle.kinds.specs.Cells.{cell_cmp, is_cell, has_cell, open_in}
use Rattle.kinds.specs.declared.cell.Cell.{Cell}
use Rattle.kinds.specs.declared.cell.CellLimit.{CellLimit}
use Rattle.kinds.specs.declared.cell.IssueEntry.{IssueEntry}
use Rattle.lists.proofs.Stored.{IsStored}

-- a cell without a count has 0
abbrev pub count_of : Cell → List (Cell × ℕ) → ℕ
count_of cell counts = unwrap_or (lookup (is_at (cell_cmp cell)) counts) 0

-- as many issues have the cell as its limit, or more
abbrev pub is_full_by : List (Cell × ℕ) → CellLimit → Bool
is_full_by counts l = nat_le l.limit (count_of l.cell counts)

-- no cell has the count 0: what no issue has any more is dropped
abbrev pub NoneIsZero : List (Cell × ℕ) → Type 0
NoneIsZero counts = (q : Cell) → lookup (is_at (cell_cmp q)) counts ≡ Some 0 → ⊥

-- one cell has this count from now on, where it has any
abbrev pub Sets : Cell → Option ℕ → List (Cell × ℕ) → List (Cell × ℕ) → Type 0
Sets cell count old new =
    (q : Cell)
    → lookup (is_at (cell_cmp q)) new ≡ cond (is_cell cell q) count (lookup (is_at (cell_cmp q)) old)

-- 1 where the list names the cell
unfoldable pub held : Cell → List CellLimit → ℕ
held cell limits = cond (has_cell cell limits) 1 0

pub record IsSame (old new : List (Cell × ℕ)) : Type 0 where
  pub each : (q : Cell) → count_of q new ≡ count_of q old

pub record IsRaised (cell : Cell) (old new : List (Cell × ℕ)) : Type 0 where
  pub each : (q : Cell) → count_of q new ≡ count_of q old + cond (is_cell cell q) 1 0

pub record IsLowered (cell : Cell) (old new : List (Cell × ℕ)) : Type 0 where
  pub each : (q : Cell) → count_of q new ≡ count_of q old - cond (is_cell cell q) 1 0

-- the cell at k is counted, unless the list names it before k
pub record IsRaisedAt (k : ℕ) (limits : List CellLimit) (old new : List (Cell × ℕ)) : Type 0 where
  pub each : (q : Cell)
      → count_of q new + held q (take k limits) ≡ count_of q old + held q (take (k + 1) limits)

pub record IsLoweredAt (k : ℕ) (limits : List CellLimit) (old new : List (Cell × ℕ)) : Type 0 where
  pub more : (q : Cell) → held q (take k limits) ≤ held q (take (k + 1) limits)
  pub each : (q : Cell)
      → count_of q new ≡ count_of q old - (held q (take (k + 1) limits) - held q (take k limits))

pub record IsRaisedAll (limits : List CellLimit) (old new : List (Cell × ℕ)) : Type 0 where
  pub each : (q : Cell) → count_of q new ≡ count_of q old + held q limits

pub record IsLoweredAll (limits : List CellLimit) (old new : List (Cell × ℕ)) : Type 0 where
  pub each : (q : Cell) → count_of q new ≡ count_of q old - held q limits

abbrev pub issue_of : IssueEntry → ℕ
issue_of entry = entry.issue

-- each issue under its number, and each count that of the issues
pub record IsCounted (pairs : List (ℕ × IssueEntry)) (counts : List (Cell × ℕ)) : Type 0 where
  pub stored : IsStored nat_cmp issue_of pairs
  pub counted : (q : Cell) → count_of q counts ≡ open_in q (values_of pairs)

-- For which items of a map a gate is open.
use Rattle.std.specs.Prelude.{◌≡◌, ℕ, Bool, false, List, Option, Some, None}
use Rattle.std.specs.BTreeMap.{is_at}
use Rattle.std.specs.Map.{lookup}
use Rattle.std.specs.Ordering.{nat_cmp}
use Rattle.kinds.specs.Cells.{IsStart}
use Rattle.kinds.specs.declared.cell.Cell.{Cell}
use Rattle.kinds.specs.declared.cell.CellLimit.{CellLimit}
use Rattle.kinds.specs.declared.store.Item.{Item}

abbrev pub Gates : Type 0
Gates = List CellLimit → Option Cell → Bool

abbrev pub opens_for : Gates → Option Item → Bool
opens_for gate None = false
opens_for gate (Some item) = gate item.cells item.start

-- the gate is open for the item of this number
unfoldable pub opens : Gates → List (ℕ × Item) → ℕ → Bool
opens gate pairs n = opens_for gate (lookup (is_at (nat_cmp n)) pairs)

abbrev pub HaveStarts : List (ℕ × Item) → Type 0
HaveStarts pairs =
    (n : ℕ) (item : Item) → lookup (is_at (nat_cmp n)) pairs ≡ Some item → IsStart item.start

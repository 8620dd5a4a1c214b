-- Queue items: their order, which of them may be issued, and when the next may.
use Rattle.std.specs.Prelude.{ℕ, ◌==◌, Bool, not, ◌&&◌, List, [], ◌∷◌, length, filter, Option, Some, None, nat_lt, nat_le, if◌then◌else◌, min}
use Rattle.std.specs.Option.{option_map, option_cmp}
use Rattle.std.specs.Ordering.{nat_cmp, int_cmp, ordering_then, is_gt, is_eq}
use Rattle.std.specs.Cmp.Lexicographic.{slice_cmp}
use Rattle.std.specs.declared.cmp.Ordering.{Ordering}
use Rattle.kinds.specs.Cells.{cell_cmp, are_free, may_start, release_moment}
use Rattle.kinds.specs.contracts.cell.CellLimitOrd.TheImpl as limit_order
use Rattle.kinds.specs.declared.cell.Cell.{Cell}
use Rattle.kinds.specs.declared.cell.CellLimit.{CellLimit}
use Rattle.kinds.specs.declared.cell.IssueEntry.{IssueEntry}
use Rattle.kinds.specs.declared.cell.StartEntry.{StartEntry}
use Rattle.kinds.specs.declared.store.Item.{Item}

abbrev pub number_of : Item → ℕ
number_of item = item.number

abbrev pub has_number : ℕ → Item → Bool
has_number number item = number == item.number

abbrev pub has_run : ℕ → Item → Bool
has_run run item = run == item.run

-- the item in its place, where items stand by number
abbrev pub insert_item : Item → List Item → List Item
insert_item item [] = item ∷ []
insert_item item (i ∷ is) =
    if nat_lt item.number i.number then item ∷ i ∷ is else i ∷ insert_item item is

abbrev pub without_number : ℕ → List Item → List Item
without_number number items = filter (λ i. not (has_number number i)) items

abbrev pub without_run : ℕ → List Item → List Item
without_run run items = filter (λ i. not (has_run run i)) items

-- ---- which is issued

-- the lesser score comes first, and at one score the lesser number
abbrev pub item_cmp : Item → Item → Ordering
item_cmp a b = ordering_then (int_cmp a.score b.score) (nat_cmp a.number b.number)

abbrev pub lesser : Item → Option Item → Option Item
lesser item None = Some item
lesser item (Some other) = if is_gt (item_cmp item other) then Some other else Some item

-- the first in order of the items that pass
unfoldable pub least : (Item → Bool) → List Item → Option Item
least passes [] = None
least passes (i ∷ is) = if passes i then lesser i (least passes is) else least passes is

-- A gate is a test of an item's cells and start. The item is due, and the gate is open for it.
abbrev pub is_admissible : (List CellLimit → Option Cell → Bool) → ℕ → Item → Bool
is_admissible gate t item = nat_le item.due t && gate item.cells item.start

abbrev pub least_admissible : (List CellLimit → Option Cell → Bool) → ℕ → List Item → Option ℕ
least_admissible gate t items = option_map number_of (least (is_admissible gate t) items)

-- the gate of the open issues and the starts so far: the cells are free, and a start is let
abbrev pub admits : List IssueEntry → List StartEntry → ℕ → List CellLimit → Option Cell → Bool
admits issues starts t cells start = are_free cells issues && may_start start t starts

-- ---- groups

abbrev pub limit_cmp : CellLimit → CellLimit → Ordering
limit_cmp = limit_order.ghosts.cmp

-- a group's cells with their limits, and its start
abbrev pub group_cmp : List CellLimit × Option Cell → List CellLimit × Option Cell → Ordering
group_cmp a b = ordering_then (slice_cmp limit_cmp a.0 b.0) (option_cmp cell_cmp a.1 b.1)

abbrev pub group_of : Item → List CellLimit × Option Cell
group_of item = (item.cells, item.start)

abbrev pub same_group : Item → Item → Bool
same_group a b = is_eq (group_cmp (group_of a) (group_of b))

-- the items that are of another group than each item before them
unfoldable pub group_firsts : List Item → List Item
group_firsts [] = []
group_firsts (i ∷ is) = i ∷ filter (λ j. not (same_group i j)) (group_firsts is)

-- how many groups the items are of
abbrev pub groups_of : List Item → ℕ
groups_of items = length (group_firsts items)

-- ---- when the next may be issued

-- the release of a due item's start, where its cells are free
abbrev pub release_of : List IssueEntry → List StartEntry → List CellLimit → Option Cell → Option ℕ
release_of issues starts cells None = None
release_of issues starts cells (Some start) =
    if are_free cells issues then Some (release_moment start starts) else None

-- an item's due where it is to come, and else the release of its start
abbrev pub moment_of : List IssueEntry → List StartEntry → ℕ → Item → Option ℕ
moment_of issues starts t item =
    if nat_lt t item.due then Some item.due else release_of issues starts item.cells item.start

abbrev pub sooner : Option ℕ → Option ℕ → Option ℕ
sooner None b = b
sooner (Some a) None = Some a
sooner (Some a) (Some b) = Some (min a b)

-- the least of these moments, where there is one
unfoldable pub next_item : List IssueEntry → List StartEntry → ℕ → List Item → Option ℕ
next_item issues starts t [] = None
next_item issues starts t (i ∷ is) = sooner (moment_of issues starts t i) (next_item issues starts t is)

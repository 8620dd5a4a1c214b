-- Items whose groups may be parked: at a cell that is full, or till a moment before which they aren't
-- let start.
use Rattle.std.specs.Prelude.{◌≡◌, ◌⊎◌, ◌<◌, ◌≤◌, ℕ, cond, Bool, true, false, ◌&&◌, List, []}
use Rattle.std.specs.Prelude.{Option, Some, None}
use Rattle.std.specs.List.{list_any, AllByRecursion}
use Rattle.std.specs.BTreeMap.{is_at}
use Rattle.std.specs.BTreeSet.{insert_key}
use Rattle.std.specs.Map.{lookup}
use Rattle.std.specs.Ordering.{nat_cmp}
use Rattle.std.specs.declared.cmp.Ordering.{Ordering}
use Rattle.kinds.specs.Cells.{cell_cmp, is_cell, has_cell, is_full, may_start}
use Rattle.kinds.specs.Queue.{group_cmp}
use Rattle.kinds.specs.declared.cell.Cell.{Cell}
use Rattle.kinds.specs.declared.cell.CellLimit.{CellLimit}
use Rattle.kinds.specs.declared.cell.IssueEntry.{IssueEntry}
use Rattle.kinds.specs.declared.cell.StartEntry.{StartEntry}
use Rattle.kinds.specs.declared.store.Item.{Item}
use Rattle.ready_queue.specs.Held.{Group, Groups, IsParked}

pub record Listed : Type 0 where
  pub items : List Item
  pub ready : Groups

-- the items, the groups that are parked at each cell, and those that are parked till each moment
pub record Parking : Type 0 where
  pub items : List Item
  pub full : List (Cell × List Group)
  pub later : List (ℕ × List Group)

abbrev pub at_cell : Cell → List (Cell × List Group) → Option (List Group)
at_cell cell full = lookup (is_at (cell_cmp cell)) full

abbrev pub at_moment : ℕ → List (ℕ × List Group) → Option (List Group)
at_moment m later = lookup (is_at (nat_cmp m)) later

-- ---- what is parked can't be open

-- the cell is one of the group's, and full
abbrev pub IsFullFor : List IssueEntry → Cell → Group → Type 0
IsFullFor issues cell k =
    list_any (λ (l : CellLimit). is_cell cell l.cell && is_full issues l) k.0 ≡ true

-- the group isn't let start before the moment
abbrev pub IsHeldTill : List StartEntry → ℕ → Group → Type 0
IsHeldTill starts m k = (t : ℕ) → t < m → may_start k.1 t starts ≡ false

-- each group that is parked at a cell has it full, and those that are parked till a moment have it to
-- come
pub record IsShut (q : Parking) (issues : List IssueEntry) (starts : List StartEntry)
    (t : ℕ) : Type 0 where
  pub full : (c : Cell) (gs : List Group) → at_cell c q.full ≡ Some gs
      → AllByRecursion (IsFullFor issues c) gs
  pub later : (m : ℕ) (gs : List Group) → at_moment m q.later ≡ Some gs
      → AllByRecursion (IsHeldTill starts m) gs
  pub coming : (m : ℕ) (gs : List Group) → at_moment m q.later ≡ Some gs → t < m

-- ---- what calls do to it

-- what is parked was parked
pub record ParksFewer (old new : Parking) : Type 0 where
  pub full : (c : Cell) (gs : List Group) → at_cell c new.full ≡ Some gs → at_cell c old.full ≡ Some gs
  pub later : (m : ℕ) (gs : List Group) → at_moment m new.later ≡ Some gs
      → at_moment m old.later ≡ Some gs

-- no group is parked at one of the cells
abbrev pub AreLookedAt : List CellLimit → Parking → Type 0
AreLookedAt cells q = (c : Cell) → has_cell c cells ≡ true → at_cell c q.full ≡ None

-- all groups that are parked till a moment have it to come
abbrev pub AreToCome : ℕ → Parking → Type 0
AreToCome t q = (m : ℕ) (gs : List Group) → at_moment m q.later ≡ Some gs → t < m

-- ---- the maps

abbrev pub is_in : Group → List Group → Bool
is_in k gs = list_any (is_at (group_cmp k)) gs

pub record IsListedIn {K : Type 0} (cmp : K → K → Ordering) (map : List (K × List Group))
    (k : Group) : Type 0 where
  pub place : K
  pub groups : List Group
  pub found : lookup (is_at (cmp place)) map ≡ Some groups
  pub among : is_in k groups ≡ true

abbrev pub HasPlace : List (Cell × List Group) → List (ℕ × List Group) → Group → Type 0
HasPlace full later k = IsListedIn cell_cmp full k ⊎ IsListedIn nat_cmp later k

-- each group that is parked has a place where it is found again
abbrev pub HavePlaces : Groups → List (Cell × List Group) → List (ℕ × List Group) → Type 0
HavePlaces ready full later = (k : Group) → IsParked ready k → HasPlace full later k

abbrev pub groups_in : Option (List Group) → List Group
groups_in None = []
groups_in (Some gs) = gs

-- the group is among these, each once
abbrev pub with_group : Group → List Group → List Group
with_group k gs = insert_key group_cmp gs k

-- a group came to those of a key
unfoldable pub Gains : {K : Type 0} → (K → K → Ordering) → K → Group
    → List (K × List Group) → List (K × List Group) → Type 0
Gains {K = K} cmp key k old new =
    (q : K) → lookup (is_at (cmp q)) new
    ≡ cond (is_at (cmp key) q) (Some (with_group k (groups_in (lookup (is_at (cmp key)) old))))
    (lookup (is_at (cmp q)) old)

-- the groups of a key went
unfoldable pub Loses : {K : Type 0} → (K → K → Ordering) → K
    → List (K × List Group) → List (K × List Group) → Type 0
Loses {K = K} cmp key old new =
    (q : K) → lookup (is_at (cmp q)) new ≡ cond (is_at (cmp key) q) None (lookup (is_at (cmp q)) old)

-- the same groups are under each key
unfoldable pub IsLike : {K : Type 0} → (K → K → Ordering)
    → List (K × List Group) → List (K × List Group) → Type 0
IsLike {K = K} cmp old new = (q : K) → lookup (is_at (cmp q)) new ≡ lookup (is_at (cmp q)) old

-- some groups are parked till this moment, and none till an earlier one
pub record IsFirst (f : ℕ) (later : List (ℕ × List Group)) : Type 0 where
  pub held : at_moment f later ≡ None → ⊥
  pub least : (m : ℕ) (gs : List Group) → at_moment m later ≡ Some gs → f ≤ m

-- the cells of those limits at which groups are parked are among the rest
abbrev pub AreLookedAtBut : List CellLimit → List CellLimit → Parking → Type 0
AreLookedAtBut limits rest q =
    (c : Cell) (gs : List Group) → has_cell c limits ≡ true → at_cell c q.full ≡ Some gs
    → has_cell c rest ≡ true

-- those of the groups that are parked are among the rest
abbrev pub AreAmong : Groups → List Group → List Group → Type 0
AreAmong ready gs rest = (k : Group) → is_in k gs ≡ true → IsParked ready k → is_in k rest ≡ true

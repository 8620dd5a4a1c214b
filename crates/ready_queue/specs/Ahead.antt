-- The next moment, where the groups have all that is due.
use Rattle.std.specs.Prelude.{◌≡◌, ◌⊎◌, ◌<◌, ◌≤◌, ℕ, Bool, true, false, List, Option, Some, None}
use Rattle.std.specs.Prelude.{nat_le, find}
use Rattle.std.specs.List.{AllByRecursion}
use Rattle.kinds.specs.Cells.{IsStart}
use Rattle.kinds.specs.Queue.{has_number, moment_of, release_of}
use Rattle.kinds.specs.declared.cell.IssueEntry.{IssueEntry}
use Rattle.kinds.specs.declared.cell.StartEntry.{StartEntry}
use Rattle.kinds.specs.declared.store.Item.{Item}
use Rattle.ready_queue.specs.Held.{Group, Groups, holds, IsParked}
use Rattle.ready_queue.specs.Parking.{at_moment, IsHeldTill}
use Rattle.ready_queue.specs.Pool.{has_pair, is_held, IsReady}

-- what was found doesn't come after the moment
abbrev pub reached : Option ℕ → ℕ → Bool
reached None x = false
reached (Some b) x = nat_le b x

-- an item's next moment was found, or none
abbrev pub IsMomentIn : List IssueEntry → List StartEntry → ℕ → List Item → Option ℕ → Type 0
IsMomentIn issues starts t items None = Unit {0}
IsMomentIn issues starts t items (Some b) =
    (n : ℕ) × (i : Item) × (find (has_number n) items ≡ Some i) × (moment_of issues starts t i ≡ Some b)

-- more was looked at
pub record IsFurther (issues : List IssueEntry) (starts : List StartEntry) (t : ℕ) (items : List Item)
    (old new : Option ℕ) : Type 0 where
  pub sound : IsMomentIn issues starts t items old → IsMomentIn issues starts t items new
  pub kept : (x : ℕ) → reached old x ≡ true → reached new x ≡ true

-- what was found doesn't come after the release of a group's start
abbrev pub Covers : List IssueEntry → List StartEntry → Option ℕ → Group → Type 0
Covers issues starts best k = (x : ℕ) → release_of issues starts k.0 k.1 ≡ Some x → reached best x ≡ true

-- the same of each group among these that is parked
abbrev pub CoversAll : List IssueEntry → List StartEntry → Groups → (Group → Type 0) → Option ℕ → Type 0
CoversAll issues starts ready Among best =
    (k : Group) → Among k → IsParked ready k → Covers issues starts best k

-- the same of each group that holds anything
abbrev pub CoversEach : List IssueEntry → List StartEntry → Groups → Option ℕ → Type 0
CoversEach issues starts ready best =
    (k : Group) (s n : ℕ) → holds ready.held k s n ≡ true → Covers issues starts best k

-- no group of these is let start before its moment
abbrev pub AreHeld : List StartEntry → List (ℕ × List Group) → Type 0
AreHeld starts later =
    (m : ℕ) (gs : List Group) → at_moment m later ≡ Some gs → AllByRecursion (IsHeldTill starts m) gs

-- what the groups hold is due at the moment
abbrev pub AreDue : List Item → Groups → ℕ → Type 0
AreDue items ready t = (k : Group) (s n : ℕ) → holds ready.held k s n ≡ true → IsReady items t k s n

-- an item is due and in its group, or its due is to come and not before the first
abbrev pub IsPlaced : Groups → ℕ → Option ℕ → Item → Type 0
IsPlaced ready t first i =
    ((is_held (holds ready.held) i i.number ≡ true) × (i.due ≤ t))
    ⊎ ((t < i.due) × (reached first i.due ≡ true))

-- the first is the due of an item, and is to come
abbrev pub IsDueOf : List Item → ℕ → Option ℕ → Type 0
IsDueOf items t None = Unit {0}
IsDueOf items t (Some d) =
    (n : ℕ) × (i : Item) × (find (has_number n) items ≡ Some i) × (i.due ≡ d) × (t < d)

-- The groups have what is due at the moment and nothing else, and this is the first due that is to come.
pub record IsRipe (items : List Item) (ready : Groups) (t : ℕ) (first : Option ℕ) : Type 0 where
  pub due : AreDue items ready t
  pub each : AllByRecursion (IsPlaced ready t first) items
  pub coming : IsDueOf items t first

-- the first of the dues of what waits
abbrev pub IsFirstDue : List (ℕ × ℕ) → Option ℕ → Type 0
IsFirstDue waiting None = (d n : ℕ) → has_pair waiting d n ≡ false
IsFirstDue waiting (Some d) =
    ((n : ℕ) × (has_pair waiting d n ≡ true)) × ((e n : ℕ) → has_pair waiting e n ≡ true → d ≤ e)

-- an item that a group holds
pub record IsItemOf (items : List Item) (ready : Groups) (k : Group) (i : Item) : Type 0 where
  pub score : ℕ
  pub number : ℕ
  pub here : holds ready.held k score number ≡ true
  pub found : find (has_number number) items ≡ Some i
  pub start : IsStart i.start

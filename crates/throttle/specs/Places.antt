-- Where the entries stand: each under its greatest and a number of its own, and that place under the cell.
use Rattle.std.specs.Prelude.{◌≡◌, ◌<◌, ℕ, cond, List, map, Option, Some}
use Rattle.std.specs.BTreeMap.{insert_entry, is_at}
use Rattle.std.specs.List.{AllByRecursion}
use Rattle.std.specs.List.Sorted.{IsStrictlySortedBy}
use Rattle.std.specs.Map.{keys_of, lookup}
use Rattle.kinds.specs.Cells.{cell_cmp}
use Rattle.kinds.specs.declared.cell.Cell.{Cell}
use Rattle.kinds.specs.declared.cell.StartEntry.{StartEntry}
use Rattle.lists.specs.Entries.{pair_cmp}

abbrev pub Places : Type 0
Places = List (Cell × (ℕ × ℕ))

abbrev pub Placed : Type 0
Placed = List ((ℕ × ℕ) × StartEntry)

abbrev pub entry_of : Cell × (ℕ × ℕ) → StartEntry
entry_of p = record { cell = p.0; greatest = p.1.0 }

abbrev pub entries_of : Places → List StartEntry
entries_of places = map entry_of places

abbrev pub place_at : Places → Cell → Option (ℕ × ℕ)
place_at places cell = lookup (is_at (cell_cmp cell)) places

abbrev pub entry_at : Placed → ℕ × ℕ → Option StartEntry
entry_at entries place = lookup (is_at (pair_cmp place)) entries

-- A cell has a place exactly where its entry stands there, and the numbers of places are below the next.
pub record AreLinked (place : Cell → Option (ℕ × ℕ)) (entry : ℕ × ℕ → Option StartEntry)
    (next : ℕ) : Type 0 where
  pub stands : (c : Cell) (p : ℕ × ℕ) → place c ≡ Some p → entry p ≡ Some (entry_of (c, p))
  pub placed : (p : ℕ × ℕ) (e : StartEntry) → entry p ≡ Some e → place e.cell ≡ Some p
  pub below : (p : ℕ × ℕ) (e : StartEntry) → entry p ≡ Some e → p.1 < next

pub record IsIndexed (places : Places) (entries : Placed) (next : ℕ) : Type 0 where
  pub ordered : IsStrictlySortedBy cell_cmp (keys_of places)
  pub linked : AreLinked (place_at places) (entry_at entries) next

-- each place has the entry of its cell
abbrev pub AreFound : Placed → Places → Type 0
AreFound entries places =
    AllByRecursion (λ (p : Cell × (ℕ × ℕ)). entry_at entries p.1 ≡ Some (entry_of p)) places

-- ---- what calls do

-- this entry, or none, is at the place, and all others are as before
abbrev pub Changes : ℕ × ℕ → Option StartEntry → Placed → Placed → Type 0
Changes p now old new = (q : ℕ × ℕ) → entry_at new q ≡ cond (is_at (pair_cmp p) q) now (entry_at old q)

-- the cell has the place, and had this one or none
pub record Settles (c : Cell) (p : ℕ × ℕ) (left : Option (ℕ × ℕ)) (old new : Places) : Type 0 where
  pub had : left ≡ place_at old c
  pub entries : new ≡ insert_entry cell_cmp old c p
  pub placed : (d : Cell) → place_at new d ≡ cond (is_at (cell_cmp c) d) (Some p) (place_at old d)
  pub ordered : IsStrictlySortedBy cell_cmp (keys_of new)

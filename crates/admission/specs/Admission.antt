-- What waits to be issued and what is open, at a moment.
use Rattle.std.specs.Prelude.{◌≡◌, ◌≤◌, ℕ, List, [], ◌∷◌, ◌++◌, map, find, Option, Some, None}
use Rattle.kinds.specs.Cells.{after_start, last_moment}
use Rattle.kinds.specs.Queue.{admits, has_number, least_admissible, without_number}
use Rattle.kinds.specs.declared.cell.Cell.{Cell}
use Rattle.kinds.specs.declared.cell.IssueEntry.{IssueEntry}
use Rattle.kinds.specs.declared.cell.StartEntry.{StartEntry}
use Rattle.kinds.specs.declared.store.Item.{Item}
use Rattle.ready_queue.specs.Parking.{Parking, IsShut}
use Rattle.admission.specs.declared.issue.Issue.{Issue}
use Rattle.admission.specs.Issues.{in_cells, issued}

pub record Admission : Type 0 where
  -- the calls that are to be made, in order of number
  pub items : List Item
  -- those that are open, in order of number
  pub issues : List Issue
  -- the throttles that tell anything of later starts, in order of cell
  pub starts : List StartEntry
  -- milliseconds since 1970
  pub moment : ℕ

abbrev pub empty : Admission
empty = record { items = []; issues = []; starts = []; moment = 0 }

-- the open calls as cells count them
abbrev pub issue_entries : Admission → List IssueEntry
issue_entries a = map in_cells a.issues

-- the item that is issued next
abbrev pub next_issued : Admission → Option ℕ
next_issued a = least_admissible (admits (issue_entries a) a.starts a.moment) a.moment a.items

-- ## A call is made

abbrev pub started_at : Option Cell → ℕ → List StartEntry → List StartEntry
started_at None moment starts = starts
started_at (Some cell) moment starts = after_start cell moment starts

abbrev pub issue : Item → ℕ → ℕ → Admission → Admission
issue i call limit a = record a {
  items = without_number i.number a.items;
  issues = a.issues ++ issued i call limit a.moment ∷ [];
  starts = started_at i.start a.moment a.starts;
}

abbrev pub issue_found : Option Item → ℕ → ℕ → Admission → Admission
issue_found None call limit a = a
issue_found (Some i) call limit a = issue i call limit a

-- the call of an item is made, with the numbers of the call and of its limit
abbrev pub with_issued : ℕ → ℕ → ℕ → Admission → Admission
with_issued number call limit a = issue_found (find (has_number number) a.items) call limit a

-- ## What the indexes say

-- the cells count the open calls, and what is parked can't be open
pub record IsAdmission (parking : Parking) (issues : List Issue) (cells : List IssueEntry)
    (starts : List StartEntry) (t : ℕ) : Type 0 where
  pub counted : cells ≡ map in_cells issues
  pub shut : IsShut parking cells starts t
  pub near : t ≤ last_moment

-- Runs that have not ended or whose calls are open still, and the lists of them.
use Rattle.std.specs.Prelude.{ℕ, ℤ, pos, ◌≡◌, ◌≤◌, ◌≤ℤ◌, neg_ℤ, ◌*ℤ◌, ◌-ℤ◌, ◌+◌, ◌==◌, Bool, true}
use Rattle.std.specs.Prelude.{List, [], ◌∷◌, length, find, Option, Some, None, is_some}
use Rattle.std.specs.List.{list_any}
use Rattle.lists.specs.Entries.{has, insert_by}
use Rattle.kinds.specs.Moments.{last_moment}
use Rattle.kinds.specs.RunSteps.{RunSteps}
use Rattle.kinds.specs.declared.cell.Cell.{Cell}
use Rattle.kinds.specs.declared.cell.CellLimit.{CellLimit}
use Rattle.kinds.specs.declared.store.Parent.{Parent}
use Rattle.kinds.specs.declared.store.StepEntry.{StepEntry}

pub record Run : Type 0 where
  pub number : ℕ
  -- when it was made
  pub moment : ℕ
  -- the function that it is a run of
  pub version : ℕ
  -- the numbers of its events, in order, at least one
  pub events : List ℕ
  -- its concurrency cells with their limits, each cell once
  pub cells : List CellLimit
  -- its throttle's cell
  pub start : Option Cell
  -- so many seconds it goes before others of its moment, from -600 to 600
  pub shift : ℤ
  -- something was recorded since its last call that finds out what comes next, or there was none yet
  pub wanted : Bool
  -- it planned a step
  pub planned : Bool
  -- a call of it was made
  pub started : Bool
  pub parent : Option Parent
  pub steps : RunSteps

-- the runs that have not ended, and those that have and whose calls are open still, each in order of
-- number
pub record RunLists : Type 0 where
  pub live : List Run
  pub closing : List Run

abbrev pub no_runs : RunLists
no_runs = record { live = []; closing = [] }

-- ## Of one run

abbrev pub run_number : Run → ℕ
run_number r = r.number

abbrev pub events_of : Run → List ℕ
events_of r = r.events

abbrev pub version_of : Run → ℕ
version_of r = r.version

-- when it may have been made, and how far it may go before others
pub record IsBounded (moment : ℕ) (shift : ℤ) : Type 0 where
  pub early : moment ≤ last_moment
  pub least : neg_ℤ (pos 600) ≤ℤ shift
  pub most : shift ≤ℤ pos 600

-- the lesser comes first
abbrev pub score_of : Run → ℤ
score_of r = pos r.moment -ℤ (pos 1000 *ℤ r.shift)

abbrev pub first_of : List ℕ → ℕ
first_of [] = 0
first_of (n ∷ ns) = n

-- ## Of lists of runs

-- a run goes to its place among others, where it is there
abbrev pub with_run : Option Run → List Run → List Run
with_run None rs = rs
with_run (Some r) rs = insert_by run_number r rs

-- no run stands in both lists
pub record AreDisjoint (live closing : List Run) : Type 0 where
  pub once : (number : ℕ) → is_some (find (has run_number number) live) ≡ true
      → find (has run_number number) closing ≡ None

abbrev pub run_at : ℕ → List Run → Option Run
run_at number rs = find (has run_number number) rs

abbrev pub is_in : ℕ → List ℕ → Bool
is_in number numbers = list_any (λ n. number == n) numbers

abbrev pub names_event : ℕ → Run → Bool
names_event event r = is_in event r.events

abbrev pub has_version : ℕ → Run → Bool
has_version version r = version == r.version

-- the bytes of a run's results
abbrev pub bytes_of_steps : List StepEntry → ℕ
bytes_of_steps [] = 0
bytes_of_steps (e ∷ es) = length e.result + bytes_of_steps es

abbrev pub bytes_of_results : List Run → ℕ
bytes_of_results [] = 0
bytes_of_results (r ∷ rs) = bytes_of_steps r.steps.recorded + bytes_of_results rs

-- What is kept beside a list of runs.
use Rattle.std.specs.Prelude.{◌≡◌, ℕ, List, [], ◌∷◌, Option, if◌then◌else◌}
use Rattle.std.specs.BTreeMap.{is_at}
use Rattle.std.specs.Map.{values_of, lookup}
use Rattle.std.specs.Ordering.{nat_cmp}
use Rattle.lists.proofs.Stored.{IsStored}
use Rattle.runs.specs.Counts.{IsCounted}
use Rattle.runs.specs.Mentions.{IsTold}
use Rattle.runs.specs.Runs.{Run, bytes_of_results, events_of, run_number, version_of}

-- the run under a number
abbrev pub held : ℕ → List (ℕ × Run) → Option Run
held number entries = lookup (is_at (nat_cmp number)) entries

-- the run under a number changes
abbrev pub changed_at : ℕ → (Run → Run) → List (ℕ × Run) → List (ℕ × Run)
changed_at number f [] = []
changed_at number f (e ∷ es) =
    if is_at (nat_cmp number) e.0 then (e.0, f e.1) ∷ es else e ∷ changed_at number f es

-- each run under its number, the bytes of all results, who names an event, and how many are of a version
pub record IsIndexed (entries : List (ℕ × Run)) (bytes : ℕ) (events versions : List (ℕ × ℕ))
    : Type 0 where
  pub stored : IsStored nat_cmp run_number entries
  pub summed : bytes ≡ bytes_of_results (values_of entries)
  pub named : IsTold run_number events_of (values_of entries) events
  pub of_version : IsCounted version_of (values_of entries) versions

-- What a run records.
use Rattle.std.specs.Prelude.{ℕ, true, false, List, ◌++◌, codes}
pub use Rattle.admission.specs.Items.{without_item}
pub use Rattle.runs.specs.Changes.{changed, error_result, is_pending_in, most_bytes, record_in, result_for}
use Rattle.run_model.specs.Making.{discover}
use Rattle.run_model.specs.State.{State, Run, live_run}

-- ## Results

abbrev pub data_result : List ℕ → List ℕ
data_result text = codes "{\"data\":" ++ text ++ codes "}"

-- ## Recording

abbrev pub change_run : ℕ → (Run → Run) → State → State
change_run number f s = record s { live = changed number f s.live }

-- A step of a run that has not ended is recorded: it isn't called any more, and what comes next is to be
-- found out.
abbrev pub record_result : ℕ → List ℕ → List ℕ → State → State
record_result run name result s =
    change_run run (record_in name result) (record s { items = without_item run name s.items })

-- What a step waits for has come: it is recorded, where the run has not ended and the step waits still.
abbrev pub wake_step : ℕ → List ℕ → List ℕ → State → State
wake_step run name result s = elim (is_pending_in name (live_run run s)) as (λ _. State)
    [ true ↦ record_result run name result s | false ↦ s ]

-- ## When it is found out what comes next

-- at once, or at the end of what goes on
pub data Discovery : Type 0 where
  at_once : Discovery
  at_the_end : Discovery

abbrev pub discovered : Discovery → State → State
discovered at_once s = discover s
discovered at_the_end s = s

-- What changes in a run: it is to find out what comes next, is called, records, plans, waits.
use Rattle.std.specs.Prelude.{ℕ, ◌≡◌, ◌+◌, ◌==◌, Bool, true, false, not, ◌&&◌, ◌||◌, List, ◌++◌}
use Rattle.std.specs.Prelude.{map, length, codes, nat_lt, bytes_eq, if◌then◌else◌, Option, Some}
use Rattle.std.specs.Prelude.{None}
use Rattle.kinds.specs.ErrorObject.{error_object}
use Rattle.kinds.specs.RunSteps.{RunSteps, Noting, adds, known, full, is_pending, is_recorded}
use Rattle.kinds.specs.RunSteps.{keep_step, note_pending, note_plan, pend_step, plan_step}
use Rattle.kinds.specs.RunSteps.{record_step}
use Rattle.kinds.specs.declared.store.Pending.{Pending}
use Rattle.runs.specs.Runs.{Run, bytes_of_steps}
use Rattle.runs.specs.declared.naming.Naming.{Naming}
use Rattle.runs.specs.declared.naming.Naming.TheVariants.{New, Known, Full}

-- one of the runs changes
abbrev pub changed : ℕ → (Run → Run) → List Run → List Run
changed number f rs = map (λ (r : Run). if number == r.number then f r else r) rs

-- ## What comes next

abbrev pub want : Run → Run
want r = record r { wanted = true }

-- to find out what comes next
abbrev pub step_target : List ℕ
step_target = codes "step"

-- A call of it is made. The call that finds out what comes next answers what was recorded so far.
abbrev pub called : List ℕ → Run → Run
called target r = record r { started = true; wanted = r.wanted && not (bytes_eq target step_target) }

-- ## Results

abbrev pub error_result : List ℕ → List ℕ
error_result error = codes "{\"error\":" ++ error ++ codes "}"

-- the most bytes that the results of a run have
abbrev pub most_bytes : ℕ
most_bytes = 4194304

unfoldable pub state_too_large : List ℕ
state_too_large = error_result (error_object (codes "run state too large"))

-- a result that would bring the run past them is an error in its place
abbrev pub result_for : List ℕ → Run → List ℕ
result_for result r =
    if nat_lt most_bytes (bytes_of_steps r.steps.recorded + length result) then state_too_large
    else result

abbrev pub with_result : List ℕ → List ℕ → Run → Run
with_result name result r = record r { steps = record_step name result r.steps; wanted = true }

abbrev pub record_in : List ℕ → List ℕ → Run → Run
record_in name result r = with_result name (result_for result r) r

-- a result for the name would be new
abbrev pub is_new_result : List ℕ → RunSteps → Bool
is_new_result name steps = not (is_recorded name steps || is_pending name steps)

-- ## Plans and waits

abbrev pub with_steps : RunSteps → Run → Run
with_steps steps r = record r { steps = steps }

abbrev pub with_plan : List ℕ → Run → Run
with_plan name r = record r { steps = plan_step name r.steps; planned = true }

abbrev pub with_pending : List ℕ → Pending → Run → Run
with_pending name kind r = with_steps (pend_step name kind r.steps) r

-- ## What becomes of a name

abbrev pub naming_of : Noting → Naming
naming_of (adds steps) = New
naming_of known = Known
naming_of full = Full

-- nothing changes where the name isn't new
abbrev pub if_new : {A : Type 0} → Naming → A → A → A
if_new New next same = next
if_new Known next same = same
if_new Full next same = same

-- of a run that isn't there every name is known
abbrev pub naming_in : (Run → Noting) → Option Run → Naming
naming_in note None = Known
naming_in note (Some r) = naming_of (note r)

abbrev pub keep_in : List ℕ → List ℕ → Run → Noting
keep_in name result r = keep_step name result r.steps

abbrev pub plan_in : List ℕ → Run → Noting
plan_in name r = note_plan name r.steps

abbrev pub pend_in : List ℕ → Pending → Run → Noting
pend_in name kind r = note_pending name kind r.steps

-- a run that is there waits for something under the name
abbrev pub is_pending_in : List ℕ → Option Run → Bool
is_pending_in name None = false
is_pending_in name (Some r) = is_pending name r.steps

-- What a note on a name answers, and what there is from then on.
pub record IsNoted {A : Type 0} (noting : Noting) (next old : A) (naming : Naming) (new : A)
    : Type 0 where
  pub told : naming ≡ naming_of noting
  pub now : new ≡ if_new naming next old

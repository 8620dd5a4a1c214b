-- The steps of a run by name. A name is recorded, planned or pending, one of these, or it is new.
use Rattle.std.specs.Prelude.{ℕ, ◌+◌, Bool, ◌||◌, List, [], ◌∷◌, ◌++◌, length, find, Option, is_some, nat_le, if◌then◌else◌}
use Rattle.std.specs.BTreeMap.{insert_entry, is_at}
use Rattle.std.specs.BTreeSet.{insert_key}
use Rattle.std.specs.Cmp.Lexicographic.{slice_cmp}
use Rattle.std.specs.List.{list_any}
use Rattle.std.specs.Map.{lookup, remove_entry}
use Rattle.std.specs.Option.{option_map}
use Rattle.std.specs.Ordering.{nat_cmp}
use Rattle.std.specs.Set.{remove_key}
use Rattle.std.specs.Str.{bytes_eq}
use Rattle.kinds.specs.declared.store.Pending.{Pending}
use Rattle.kinds.specs.declared.store.StepEntry.{StepEntry}

pub record RunSteps : Type 0 where
  -- names with their results, in the order of recording
  pub recorded : List StepEntry
  -- names that have an item or a call, in the order of dictionaries
  pub planned : List (List ℕ)
  -- names with what they wait for, in that order too
  pub pending : List (List ℕ × Pending)

abbrev pub no_steps : RunSteps
no_steps = record { recorded = []; planned = []; pending = [] }

-- ## What is known of a name

abbrev pub has_name : List ℕ → StepEntry → Bool
has_name name entry = bytes_eq name entry.hash

-- the result of a recorded step
abbrev pub result_of : List ℕ → RunSteps → Option (List ℕ)
result_of name s = option_map (λ (e : StepEntry). e.result) (find (has_name name) s.recorded)

abbrev pub is_recorded : List ℕ → RunSteps → Bool
is_recorded name s = is_some (find (has_name name) s.recorded)

abbrev pub is_planned : List ℕ → RunSteps → Bool
is_planned name s = list_any (is_at (slice_cmp nat_cmp name)) s.planned

-- what a pending name waits for
abbrev pub pending_of : List ℕ → RunSteps → Option Pending
pending_of name s = lookup (is_at (slice_cmp nat_cmp name)) s.pending

abbrev pub is_pending : List ℕ → RunSteps → Bool
is_pending name s = is_some (pending_of name s)

-- how many names a run has
abbrev pub names : RunSteps → ℕ
names s = length s.recorded + length s.planned + length s.pending

-- the most that a run can have
abbrev pub most_names : ℕ
most_names = 1000

-- ## How a name's state changes

-- The name is recorded, behind all that are, and neither planned nor pending from now on.
abbrev pub record_step : List ℕ → List ℕ → RunSteps → RunSteps
record_step name result s = record {
  recorded = s.recorded ++ (record { hash = name; result = result }) ∷ [];
  planned = remove_key (is_at (slice_cmp nat_cmp name)) s.planned;
  pending = remove_entry (is_at (slice_cmp nat_cmp name)) s.pending;
}

abbrev pub plan_step : List ℕ → RunSteps → RunSteps
plan_step name s = record s { planned = insert_key (slice_cmp nat_cmp) s.planned name }

abbrev pub pend_step : List ℕ → Pending → RunSteps → RunSteps
pend_step name kind s = record s { pending = insert_entry (slice_cmp nat_cmp) s.pending name kind }

-- ## What an operation on a name finds

pub data Noting : Type 0 where
  -- the name was new; the steps from now on
  adds : RunSteps → Noting
  -- the name was known, and nothing changes
  known : Noting
  -- the run has no room for one name more, and nothing changes
  full : Noting

-- a new name, where there is room for it
abbrev pub with_room : RunSteps → RunSteps → Noting
with_room next s = if nat_le most_names (names s) then full else adds next

-- A result is new also where its name is planned.
abbrev pub keep_step : List ℕ → List ℕ → RunSteps → Noting
keep_step name result s =
    if is_recorded name s || is_pending name s then known
    else if is_planned name s then adds (record_step name result s)
    else with_room (record_step name result s) s

-- whether a name is recorded, planned or pending
abbrev pub is_known : List ℕ → RunSteps → Bool
is_known name s = is_recorded name s || is_planned name s || is_pending name s

abbrev pub note_plan : List ℕ → RunSteps → Noting
note_plan name s = if is_known name s then known else with_room (plan_step name s) s

abbrev pub note_pending : List ℕ → Pending → RunSteps → Noting
note_pending name kind s = if is_known name s then known else with_room (pend_step name kind s) s

-- When the machine has something to do next, and what can be looked at.
use Rattle.std.specs.Prelude.{ℕ, ◌==◌, Bool, true, false, List, [], ◌∷◌, find, length, nat_lt, Option, Some, None}
use Rattle.std.specs.Option.{option_map, option_and_then}
use Rattle.kinds.specs.Queue.{next_item, sooner}
use Rattle.kinds.specs.RunSteps.{result_of}
use Rattle.kinds.specs.declared.store.RunStatus.{RunStatus}
use Rattle.kinds.specs.declared.store.RunStatus.TheVariants.{Queued, Running}
use Rattle.run_model.specs.Advance.{Next, least, timed}
use Rattle.run_model.specs.Ends.{function_id}
use Rattle.run_model.specs.State.{State, Run, Issue, EndedRun, issue_entries, last_ended, live_run}

-- ## The next moment

abbrev pub due_next : Option Next → Option ℕ
due_next None = None
due_next (Some next) = Some next.due

-- the least of the dues of timed entries, the dues of items that are to come, and the moments at which
-- throttles let due items start whose cells are free
unfoldable pub next_moment : State → Option ℕ
next_moment s =
    sooner (due_next (least (timed s))) (next_item (issue_entries s) s.starts s.moment s.items)

-- ## Views

-- a run as it is shown
pub record View : Type 0 where
  pub number : ℕ
  pub moment : ℕ
  pub function : List ℕ
  pub status : RunStatus
  pub events : List ℕ

abbrev pub status_of : Run → RunStatus
status_of r = elim r.started as (λ _. RunStatus) [ true ↦ Running | false ↦ Queued ]

abbrev pub live_view : State → Run → View
live_view s r = record {
  number = r.number;
  moment = r.moment;
  function = function_id r s;
  status = status_of r;
  events = r.events;
}

abbrev pub ended_view : EndedRun → View
ended_view e = record {
  number = e.run;
  moment = e.moment;
  function = e.function;
  status = e.status;
  events = e.events;
}

abbrev pub view_ended : ℕ → State → Option View
view_ended number s = option_map ended_view (find (λ (e : EndedRun). number == e.run) (last_ended s))

abbrev pub view_with : ℕ → State → Option Run → Option View
view_with number s None = view_ended number s
view_with number s (Some r) = Some (live_view s r)

-- a run that has not ended, or is among the last thousand that have
abbrev pub run_view : ℕ → State → Option View
run_view number s = view_with number s (live_run number s)

-- the result of a step of a run that has not ended
abbrev pub step_result : ℕ → List ℕ → State → Option (List ℕ)
step_result run name s = option_and_then (λ (r : Run). result_of name r.steps) (live_run run s)

-- the first of the open calls, which is the least: they are in order of number
abbrev pub first_open : List Issue → Option Issue
first_open [] = None
first_open (i ∷ is) = Some i

abbrev pub is_begun : Option Run → Bool
is_begun None = false
is_begun (Some r) = nat_lt 0 (length r.steps.recorded)

-- steps of the call's run are recorded
abbrev pub has_results : State → Issue → Bool
has_results s i = is_begun (live_run i.item.run s)

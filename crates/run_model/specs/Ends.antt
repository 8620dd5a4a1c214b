-- How a run ends: what of it goes, what its parent records, and the event of a failed run.
use Rattle.std.specs.Prelude.{ℕ, ◌==◌, Bool, true, false, not, List, [], ◌∷◌, ◌++◌, filter, take, length, codes, Option, Some, None, bytes_eq}
use Rattle.kinds.specs.ErrorObject.{error_object}
use Rattle.kinds.specs.Queue.{without_run}
use Rattle.kinds.specs.RunSteps.{is_pending}
use Rattle.kinds.specs.declared.event.EventIn.{EventIn}
use Rattle.kinds.specs.declared.store.Parent.{Parent}
use Rattle.kinds.specs.declared.store.Rule.{Rule}
use Rattle.kinds.specs.declared.store.RunStatus.{RunStatus}
use Rattle.kinds.specs.declared.store.RunStatus.TheVariants.{Completed, Failed, Cancelled}
use Rattle.functions.specs.declared.entry.FunctionEntry.{FunctionEntry}
use Rattle.json_text.specs.Text.{quoted}
use Rattle.lists.specs.Entries.{insert_by}
use Rattle.step_ids.specs.Run.{run_text}
pub use Rattle.awaited.specs.Entries.{is_invocation_of}
pub use Rattle.runs.specs.Runs.{run_number}
use Rattle.run_model.specs.Events.{add_event, event_with, follow}
use Rattle.run_model.specs.Making.{first_of, text_or_none}
use Rattle.run_model.specs.Recording.{Discovery, at_the_end, data_result, discovered, error_result, record_result}
use Rattle.run_model.specs.State.{State, Run, EndedRun, Invocation, Sleep, Waiting, function_at, live_run, text_of}

-- ## What goes

abbrev pub id_at : Option FunctionEntry → List ℕ
id_at None = []
id_at (Some f) = f.function.id

-- the id of the function that a run is of
abbrev pub function_id : Run → State → List ℕ
function_id r s = id_at (function_at r.version s)

abbrev pub ended_run : Run → RunStatus → State → EndedRun
ended_run r status s = record {
  run = r.number;
  moment = r.moment;
  function = function_id r s;
  status = status;
  events = r.events;
}

-- A run ends: its items, sleeps, waits, invocations and rules go. Its open calls stay.
abbrev pub end_run : Run → RunStatus → State → State
end_run r status s = record s {
  live = filter (λ (other : Run). not (r.number == other.number)) s.live;
  closing = insert_by run_number r s.closing;
  items = without_run r.number s.items;
  sleeps = filter (λ (e : Sleep). not (r.number == e.run)) s.sleeps;
  waits = filter (λ (e : Waiting). not (r.number == e.wait.run)) s.waits;
  invocations = filter (λ (e : Invocation). not (r.number == e.run)) s.invocations;
  rules = filter (λ (e : Rule). not (r.number == e.run)) s.rules;
  ended = s.ended ++ ended_run r status s ∷ [];
}

-- ## What its parent records

abbrev pub without_invocation_of : Parent → State → State
without_invocation_of p s =
    record s { invocations = filter (λ i. not (is_invocation_of p i)) s.invocations }

-- the step waits no more, where the invocation had an end of its own
abbrev pub record_at_parent : Discovery → Parent → List ℕ → Bool → State → State
record_at_parent discovery p result true s =
    discovered discovery (record_result p.run p.hash result (without_invocation_of p s))
record_at_parent discovery p result false s = s

abbrev pub tell : Discovery → Parent → List ℕ → Option Run → State → State
tell discovery p result None s = s
tell discovery p result (Some r) s = record_at_parent discovery p result (is_pending p.hash r.steps) s

-- A run that invoked this one, and waits for it still, records its result.
abbrev pub tell_parent : Discovery → Option Parent → List ℕ → State → State
tell_parent discovery None result s = s
tell_parent discovery (Some p) result s = tell discovery p result (live_run p.run s) s

-- ## The event of a failed run

abbrev pub failed_name : List ℕ
failed_name = codes "inngest/function.failed"

abbrev pub failed_begun : List ℕ
failed_begun = codes "{\"name\":" ++ quoted failed_name ++ codes ","

-- an event's text begins with its name
abbrev pub is_of_failure : List ℕ → Bool
is_of_failure event = bytes_eq failed_begun (take (length failed_begun) event)

abbrev pub own_event : List ℕ → List ℕ → Option (List ℕ) → Option (List ℕ) → EventIn
own_event name content user v =
    record { name = name; content = content; id = None; ts = None; user = user; v = v }

abbrev pub failed_content : List ℕ → List ℕ → List ℕ → List ℕ → List ℕ
failed_content function run error event =
    codes "{\"function_id\":\"" ++ function ++ codes "\",\"run_id\":\"" ++ run ++ codes "\",\"error\":"
    ++ error ++ codes ",\"event\":" ++ event ++ codes "}"

-- the text of the run's first event
abbrev pub first_text : Run → State → List ℕ
first_text r s = text_or_none (text_of (first_of r.events) s)

abbrev pub failed_event : Run → List ℕ → State → EventIn
failed_event r error s =
    own_event failed_name
    (failed_content (function_id r s) (run_text r.moment r.number) error (first_text r s)) None None

abbrev pub raise : EventIn → State → State
raise event s = follow at_the_end (event_with event s) (add_event (event_with event s) s)

-- none for a run of such an event
abbrev pub raise_failed : Run → List ℕ → State → State
raise_failed r error s =
    elim (is_of_failure (first_text r s)) as (λ _. State)
    [ true ↦ s | false ↦ raise (failed_event r error s) s ]

-- ## The ways to end

-- within a reply
abbrev pub complete_run : Run → List ℕ → State → State
complete_run r output s = tell_parent at_the_end r.parent (data_result output) (end_run r Completed s)

-- within a reply or a failure
unfoldable pub fail_run : Run → List ℕ → State → State
fail_run r error s =
    raise_failed r error (tell_parent at_the_end r.parent (error_result error) (end_run r Failed s))

abbrev pub cancelled_result : List ℕ
cancelled_result = error_result (error_object (codes "invoked run cancelled"))

-- its children go on
abbrev pub cancel_run : Discovery → Run → State → State
cancel_run discovery r s = tell_parent discovery r.parent cancelled_result (end_run r Cancelled s)

-- What a reply to a call does, and a call that fails.
use Rattle.std.specs.Prelude.{ℕ, ◌+◌, ◌==◌, Bool, true, false, not, ◌&&◌, ◌||◌, List, [], ◌∷◌, ◌++◌, filter, find, length, codes, min, max, Option, Some, None, Result, Ok, Err, nat_lt, nat_le, bytes_eq}
use Rattle.std.specs.List.{list_any}
use Rattle.std.specs.Option.{option_map, option_and_then}
use Rattle.json_text.specs.Grammar.{Json, spelling, object}
use Rattle.json_text.specs.Text.{member_of}
use Rattle.json_text.specs.Texts.{read_text}
use Rattle.json_text.specs.declared.fault.JsonFault.{JsonFault}
use Rattle.kinds.specs.ErrorObject.{error_object}
use Rattle.kinds.specs.Moments.{last_moment}
use Rattle.kinds.specs.RunSteps.{Noting, adds, known, full, keep_step, note_plan, note_pending, is_recorded, pend_step}
use Rattle.kinds.specs.declared.event.Event.{Event}
use Rattle.kinds.specs.declared.event.EventIn.{EventIn}
use Rattle.kinds.specs.declared.reply.After.{After}
use Rattle.kinds.specs.declared.reply.After.TheVariants as after
use Rattle.kinds.specs.declared.reply.Op.{Op}
use Rattle.kinds.specs.declared.reply.Op.TheVariants as op
use Rattle.kinds.specs.declared.reply.Outcome.{Outcome}
use Rattle.kinds.specs.declared.reply.Outcome.TheVariants as outcome
use Rattle.kinds.specs.declared.reply.ReplyIn.{ReplyIn}
use Rattle.kinds.specs.declared.reply.Time.{Time}
use Rattle.kinds.specs.declared.reply.Time.TheVariants as time
use Rattle.kinds.specs.declared.store.Item.{Item}
use Rattle.kinds.specs.declared.store.Pending.{Pending}
use Rattle.kinds.specs.declared.store.Pending.TheVariants as pending
use Rattle.functions.specs.declared.entry.FunctionEntry.{FunctionEntry}
use Rattle.sdk_reply.specs.Delay.{delay}
use Rattle.sdk_reply.specs.Outcome.{outcome_of}
pub use Rattle.runs.specs.Changes.{is_new_result, want, with_plan, with_steps}
use Rattle.event_keys.specs.Buckets.{bucket_of}
use Rattle.run_model.specs.Ends.{complete_run, fail_run, first_text, own_event}
use Rattle.run_model.specs.Events.{add_event, event_with}
use Rattle.run_model.specs.Making.{discover, first_of, make_run, queue, queue_new, step_target}
use Rattle.run_model.specs.Recording.{change_run, data_result, error_result, record_result}
use Rattle.run_model.specs.State.{State, Sleep, Run, Issue, Waiting, function_at, live_run, open_issue}

-- ## A call that ends

-- the call is open no more, and its cells are free
abbrev pub close : ℕ → State → State
close call s = record s { issues = filter (λ (i : Issue). not (call == i.call)) s.issues }

-- ## A call that fails

abbrev pub retries_at : Option FunctionEntry → ℕ
retries_at None = 0
retries_at (Some f) = f.function.retries

-- how often a call of a run is made again
abbrev pub retries_of : Run → State → ℕ
retries_of r s = retries_at (function_at r.version s)

-- the item as it is queued again
abbrev pub again : Item → After → State → Item
again i after s =
    record i { attempt = i.attempt + 1; due = s.moment + delay i.attempt after s.moment; start = None }

-- The call of a recorded step isn't made again, and it is to be found out what comes next. Others are made
-- again while attempts are left, and then the run fails.
abbrev pub retry_run : Run → Item → After → List ℕ → State → State
retry_run r i after error s =
    elim (is_recorded i.target r.steps) as (λ _. State) [
      | true ↦ change_run r.number want s
      | false ↦ elim (nat_lt i.attempt (retries_of r s)) as (λ _. State)
          [ true ↦ queue (again i after s) s | false ↦ fail_run r error s ]
    ]

abbrev pub retry_found : Option Run → Item → After → List ℕ → State → State
retry_found None i after error s = s
retry_found (Some r) i after error s = retry_run r i after error s

-- where the run has ended, nothing happens
abbrev pub retry : Item → After → List ℕ → State → State
retry i after error s = retry_found (live_run i.run s) i after error s

-- ## Names of steps

-- in the midst of a reply's operations
pub record Taking : Type 0 where
  pub state : State
  -- a step's error says that the reply's call is to be made again
  pub again : Bool
  -- the run has failed, and no further operation is taken
  pub stopped : Bool

abbrev pub begun : State → Taking
begun s = record { state = s; again = false; stopped = false }

abbrev pub goes_on : Taking → State → Taking
goes_on taking s = record taking { state = s }

-- the run has no room for one step more, and fails
abbrev pub stops : Run → Taking → Taking
stops r taking =
    record taking {
      state = fail_run r (error_object (codes "too many steps")) taking.state;
      stopped = true;
    }

-- what a new name makes, and nothing where it is known
abbrev pub noted : Noting → Run → (State → State) → Taking → Taking
noted (adds steps) r effect taking = goes_on taking (effect taking.state)
noted known r effect taking = taking
noted full r effect taking = stops r taking

-- ## Results

abbrev pub keep : Run → List ℕ → List ℕ → Taking → Taking
keep r name result taking =
    noted (keep_step name result r.steps) r (record_result r.number name result) taking

-- no attempt is left, or the reply says that there is to be none
abbrev pub is_final : Item → Bool → Run → State → Bool
is_final i no_retry r s = nat_le (retries_of r s) i.attempt || no_retry

abbrev pub on_error : Bool → Run → List ℕ → List ℕ → Taking → Taking
on_error true r name error taking = keep r name (error_result error) taking
on_error false r name error taking = record taking { again = taking.again || is_new_result name r.steps }

-- ## Plans, sleeps, waits

abbrev pub plan_named : Run → List ℕ → State → State
plan_named r name s = queue_new r name (change_run r.number (with_plan name) s)

abbrev pub plan : Run → List ℕ → Taking → Taking
plan r name taking = noted (note_plan name r.steps) r (plan_named r name) taking

-- when something is due: not before the moment, and not after the last
abbrev pub due_at : Time → ℕ → ℕ
due_at (time.Span span) moment = moment + span
due_at (time.At at) moment = max moment (min at last_moment)

abbrev pub pend : Pending → List ℕ → Run → State → State
pend kind name r s = change_run r.number (λ r. with_steps (pend_step name kind r.steps) r) s

abbrev pub new_sleep : Run → List ℕ → Time → State → Sleep
new_sleep r name t s =
    record { number = s.entries + 1; run = r.number; hash = name; due = due_at t s.moment }

abbrev pub add_sleep : Run → List ℕ → Time → State → State
add_sleep r name t s = record (pend pending.Sleep name r s) {
  entries = s.entries + 1;
  sleeps = s.sleeps ++ new_sleep r name t s ∷ [];
}

abbrev pub wait_with : Run → List ℕ → List ℕ → Time → Option (List ℕ) → State → Waiting
wait_with r name event t cond s = record {
  wait = record {
    number = s.entries + 1;
    run = r.number;
    first = first_of r.events;
    name = event;
    cond = cond;
    due = due_at t s.moment;
    bucket = bucket_of cond (first_text r s);
  };
  hash = name;
}

abbrev pub add_wait : Run → List ℕ → List ℕ → Time → Option (List ℕ) → State → State
add_wait r name event t cond s = record (pend pending.Wait name r s) {
  entries = s.entries + 1;
  waits = s.waits ++ wait_with r name event t cond s ∷ [];
}

-- ## Invocations

abbrev pub invoked_name : List ℕ
invoked_name = codes "inngest/function.invoked"

abbrev pub slice_of : Option Json → Option (List ℕ)
slice_of member = option_map spelling member

-- an object as it stands, and else an empty one
abbrev pub content_of : Option Json → List ℕ
content_of (Some (object w parts)) = w
content_of _ = codes "{}"

abbrev pub member_in : Option Json → List ℕ → Option Json
member_in payload name = option_and_then (λ j. member_of j name) payload

abbrev pub invoked_with : Option Json → EventIn
invoked_with payload = own_event invoked_name (content_of (member_in payload (codes "data")))
    (slice_of (member_in payload (codes "user"))) (slice_of (member_in payload (codes "v")))

abbrev pub value_in : Result Json JsonFault → Option Json
value_in (Ok j) = Some j
value_in (Err e) = None

abbrev pub json_of : Option (List ℕ) → Option Json
json_of None = None
json_of (Some text) = value_in (read_text text)

-- the event of an invocation, with its payload's data
abbrev pub invoked_event : Option (List ℕ) → EventIn
invoked_event payload = invoked_with (json_of payload)

abbrev pub add_invocation : Run → List ℕ → ℕ → Option Time → State → State
add_invocation r name child t s = record s {
  entries = s.entries + 1;
  invocations = s.invocations ++ (record {
    number = s.entries + 1;
    run = r.number;
    hash = name;
    child = child;
    due = option_map (λ t. due_at t s.moment) t;
  }) ∷ [];
}

-- the event, which wakes and triggers nothing else, then the run, then the invocation
abbrev pub invoke_with : FunctionEntry → Run → List ℕ → Event → Option Time → State → State
invoke_with f r name event t s =
    add_invocation r name (s.runs + 1) t
    (make_run f (event.number ∷ []) (Some (record { run = r.number; hash = name })) (add_event event s))

abbrev pub unknown_function : List ℕ
unknown_function = error_result (error_object (codes "unknown function"))

abbrev pub invoke_found : Option FunctionEntry → Run → List ℕ → Option (List ℕ) → Option Time → State
    → State
invoke_found None r name payload t s = record_result r.number name unknown_function s
invoke_found (Some f) r name payload t s =
    invoke_with f r name (event_with (invoked_event payload) s) t (pend pending.Invocation name r s)

-- a current function by its id
abbrev pub current : List ℕ → State → Option FunctionEntry
current id s = find (λ (f : FunctionEntry). bytes_eq id f.function.id) s.functions

abbrev pub invoke : Run → List ℕ → List ℕ → Option (List ℕ) → Option Time → State → State
invoke r name id payload t s = invoke_found (current id s) r name payload t s

-- ## Operations

abbrev pub take_named : Item → Bool → Run → Op → Taking → Taking
take_named i no_retry r (op.StepRun name value) taking = keep r name (data_result value) taking
take_named i no_retry r (op.StepError name error) taking =
    on_error (is_final i no_retry r taking.state) r name error taking
take_named i no_retry r (op.StepPlanned name) taking = plan r name taking
take_named i no_retry r (op.Sleep name t) taking =
    noted (note_pending name pending.Sleep r.steps) r (add_sleep r name t) taking
take_named i no_retry r (op.WaitForEvent name event t cond) taking =
    noted (note_pending name pending.Wait r.steps) r (add_wait r name event t cond) taking
take_named i no_retry r (op.InvokeFunction name id payload t) taking =
    noted (note_pending name pending.Invocation r.steps) r (invoke r name id payload t) taking

abbrev pub take_found : Item → Bool → Op → Option Run → Taking → Taking
take_found i no_retry o None taking = taking
take_found i no_retry o (Some r) taking = take_named i no_retry r o taking

abbrev pub take_operation : Item → Bool → Op → Taking → Taking
take_operation i no_retry o taking =
    elim taking.stopped as (λ _. Taking)
    [ true ↦ taking | false ↦ take_found i no_retry o (live_run i.run taking.state) taking ]

-- in order
unfoldable pub take_operations : Item → Bool → List Op → Taking → Taking
take_operations i no_retry [] taking = taking
take_operations i no_retry (o ∷ os) taking =
    take_operations i no_retry os (take_operation i no_retry o taking)

-- ## After the operations

-- no item, no open call, nothing that it waits for, and nothing to find out
abbrev pub is_idle : Run → State → Bool
is_idle r s =
    not (list_any (λ (i : Item). r.number == i.run) s.items)
    && not (list_any (λ (i : Issue). r.number == i.item.run) s.issues)
    && (length r.steps.pending == 0) && not r.wanted

abbrev pub moved_nothing : List ℕ
moved_nothing = error_object (codes "reply moved nothing")

abbrev pub after_run : Run → Item → After → State → State
after_run r i after s =
    elim (is_idle r s) as (λ _. State) [ true ↦ retry_run r i after moved_nothing s | false ↦ s ]

abbrev pub after_found : Option Run → Item → After → State → State
after_found None i after s = s
after_found (Some r) i after s = after_run r i after s

-- the call is made again, where a step's error says so
abbrev pub finished : Item → After → Taking → State
finished i after taking =
    elim taking.again as (λ _. State) [
      | true ↦ retry i after [] taking.state
      | false ↦ after_found (live_run i.run taking.state) i after taking.state
    ]

-- ## Outcomes

abbrev pub is_outcome_of : List ℕ → Op → Bool
is_outcome_of target (op.StepRun name value) = bytes_eq target name
is_outcome_of target (op.StepError name error) = bytes_eq target name
is_outcome_of target _ = false

-- the call was made for a step that the operations don't tell of
abbrev pub lacks_target : Item → List Op → Bool
lacks_target i ops = not (bytes_eq i.target step_target) && not (list_any (is_outcome_of i.target) ops)

abbrev pub take_ops : Run → Item → List Op → Bool → After → State → State
take_ops r i ops no_retry after s =
    elim (lacks_target i ops) as (λ _. State) [
      | true ↦ retry_run r i after (error_object (codes "target missing")) s
      | false ↦ finished i after (take_operations i no_retry ops (begun s))
    ]

abbrev pub take_outcome : Run → Item → Outcome → State → State
take_outcome r i (outcome.Ended output) s = complete_run r output s
take_outcome r i (outcome.Ops ops no_retry after) s = take_ops r i ops no_retry after s
take_outcome r i (outcome.Retry after error) s = retry_run r i after error s
take_outcome r i (outcome.NoRetry error) s = fail_run r error s
take_outcome r i (outcome.Unreadable at) s =
    retry_run r i after.None (error_object (codes "unreadable reply")) s

-- where the run has ended, nothing happens
abbrev pub reply_found : Option Run → Item → ReplyIn → State → State
reply_found None i reply s = s
reply_found (Some r) i reply s = discover (take_outcome r i (outcome_of reply) s)

-- ## Replies and failures of calls

abbrev pub take_reply : Option Issue → ReplyIn → State → State
take_reply None reply s = s
take_reply (Some i) reply s = reply_found (live_run i.item.run s) i.item reply (close i.call s)

-- a call has ended by the advance of the same step, where it isn't open
unfoldable pub on_reply : ℕ → ReplyIn → State → State
on_reply call reply s = take_reply (open_issue call s) reply s

-- a call fails, with this error
abbrev pub fail_call : Issue → List ℕ → State → State
fail_call i error s = discover (retry i.item after.None error (close i.call s))

abbrev pub fail_found : Option Issue → List ℕ → State → State
fail_found None error s = s
fail_found (Some i) error s = fail_call i error s

unfoldable pub on_call_failed : ℕ → State → State
on_call_failed call s = fail_found (open_issue call s) (error_object (codes "call failed")) s

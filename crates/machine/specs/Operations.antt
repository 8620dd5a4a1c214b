-- The operations of a reply, of a run that may not be there.
use Rattle.std.specs.Prelude.{ℕ, ◌+◌, ◌++◌, ◌∷◌, ◌||◌, Bool, true, false, List, [], codes, Option, Some, None, nat_le}
use Rattle.std.specs.Option.{option_map}
use Rattle.event_keys.specs.Buckets.{bucket_of}
use Rattle.functions.specs.declared.entry.FunctionEntry.{FunctionEntry}
use Rattle.kinds.specs.ErrorObject.{error_object}
use Rattle.kinds.specs.RunSteps.{Noting, keep_step, note_pending, note_plan}
use Rattle.kinds.specs.declared.reply.Op.{Op}
use Rattle.kinds.specs.declared.reply.Op.TheVariants as op
use Rattle.kinds.specs.declared.reply.Time.{Time}
use Rattle.kinds.specs.declared.store.Item.{Item}
use Rattle.kinds.specs.declared.store.Pending.TheVariants as pending
use Rattle.kinds.specs.declared.store.Wait.{Wait}
use Rattle.event_texts.specs.Texts.{text_or_none}
use Rattle.run_model.specs.Events.{add_event, event_with}
use Rattle.run_model.specs.Making.{first_of}
use Rattle.run_model.specs.Recording.{data_result, error_result, record_result}
use Rattle.run_model.specs.Replies.{Taking, add_sleep, add_wait, due_at, invoke, invoked_event, is_new_result, plan_named, unknown_function}
use Rattle.run_model.specs.State.{State, Run, live_run, text_of}
use Rattle.machine.specs.Words.{make_at, retries_at}
use Rattle.machine.specs.declared.operations.Taken.{Taken}
use Rattle.machine.specs.declared.operations.Taken.TheVariants.{GoesOn, Again, Stops}

abbrev pub taken_by : Bool → Bool → Taken
taken_by true again = Stops
taken_by false true = Again
taken_by false false = GoesOn

abbrev pub taken_of : Taking → Taken
taken_of t = taken_by t.stopped t.again

abbrev pub taken_again : Bool → Taken
taken_again b = taken_by false b

abbrev pub stops : Taken → Bool
stops Stops = true
stops GoesOn = false
stops Again = false

abbrev pub is_again : Taken → Bool
is_again Again = true
is_again GoesOn = false
is_again Stops = false

abbrev pub error_taken : List ℕ → Option Run → Taken
error_taken name None = GoesOn
error_taken name (Some r) = taken_again (is_new_result name r.steps)

abbrev pub early_by : Bool → List ℕ → Option Run → Option Taken
early_by true name found = None
early_by false name found = Some (error_taken name found)

-- what follows from an error that isn't the last
abbrev pub early_taken : Item → Bool → Op → Option Run → State → Option Taken
early_taken i no_retry (op.StepError name error) found s =
    early_by (nat_le (retries_at found s) i.attempt || no_retry) name found
early_taken i no_retry _ found s = None

abbrev pub too_many_steps : List ℕ
too_many_steps = error_object (codes "too many steps")

-- of a run that is there
abbrev pub at_run : (Run → State → State) → Option Run → State → State
at_run effect None s = s
at_run effect (Some r) s = effect r s

-- ## Names

abbrev pub plan_at : Option Run → List ℕ → State → State
plan_at found name s = at_run (λ r. plan_named r name) found s

abbrev pub sleep_at : Option Run → List ℕ → Time → State → State
sleep_at found name t s = at_run (λ r. add_sleep r name t) found s

abbrev pub wait_at : Option Run → List ℕ → List ℕ → Time → Option (List ℕ) → State → State
wait_at found name event t cond s = at_run (λ r. add_wait r name event t cond) found s

abbrev pub invoke_at : Option Run → List ℕ → List ℕ → Option (List ℕ) → Option Time → State → State
invoke_at found name id payload t s = at_run (λ r. invoke r name id payload t) found s

-- what becomes of an operation's name
abbrev pub note_of : Op → Run → Noting
note_of (op.StepRun name value) r = keep_step name (data_result value) r.steps
note_of (op.StepError name error) r = keep_step name (error_result error) r.steps
note_of (op.StepPlanned name) r = note_plan name r.steps
note_of (op.Sleep name t) r = note_pending name pending.Sleep r.steps
note_of (op.WaitForEvent name event t cond) r = note_pending name pending.Wait r.steps
note_of (op.InvokeFunction name id payload t) r = note_pending name pending.Invocation r.steps

-- what an operation makes, where its name is new
abbrev pub effect_of : Op → Run → State → State
effect_of (op.StepRun name value) r s = record_result r.number name (data_result value) s
effect_of (op.StepError name error) r s = record_result r.number name (error_result error) s
effect_of (op.StepPlanned name) r s = plan_named r name s
effect_of (op.Sleep name t) r s = add_sleep r name t s
effect_of (op.WaitForEvent name event t cond) r s = add_wait r name event t cond s
effect_of (op.InvokeFunction name id payload t) r s = invoke r name id payload t s

-- ## What waits

abbrev pub slept : ℕ → List ℕ → Time → State → State
slept run name t s = record s {
  entries = s.entries + 1;
  sleeps =
      s.sleeps ++ (record { number = s.entries + 1; run = run; hash = name; due = due_at t s.moment })
      ∷ [];
}

abbrev pub first_at : Option Run → ℕ
first_at None = 0
first_at (Some r) = first_of r.events

abbrev pub new_wait : Option Run → ℕ → List ℕ → Time → Option (List ℕ) → State → Wait
new_wait found run name t cond s = record {
  number = s.entries + 1;
  run = run;
  first = first_at found;
  name = name;
  cond = cond;
  due = due_at t s.moment;
  bucket = bucket_of cond (text_or_none (text_of (first_at found) s));
}

abbrev pub waited : ℕ → List ℕ → List ℕ → Time → Option (List ℕ) → State → State
waited run name event t cond s = record s {
  entries = s.entries + 1;
  waits = s.waits ++ (record { wait = new_wait (live_run run s) run event t cond s; hash = name }) ∷ [];
}

-- ## Invocations

abbrev pub await_child : ℕ → List ℕ → ℕ → Option Time → State → State
await_child run name child t s = record s {
  entries = s.entries + 1;
  invocations = s.invocations ++ (record {
    number = s.entries + 1;
    run = run;
    hash = name;
    child = child;
    due = option_map (λ t. due_at t s.moment) t;
  }) ∷ [];
}

-- the event, then the run
abbrev pub make_child : Option FunctionEntry → ℕ → List ℕ → Option (List ℕ) → State → State
make_child found run name payload s =
    make_at found ((s.events + 1) ∷ []) (Some (record { run = run; hash = name }))
    (add_event (event_with (invoked_event payload) s) s)

-- and then what waits for it
abbrev pub invoke_version : Option FunctionEntry → ℕ → List ℕ → Option (List ℕ) → Option Time → State
    → State
invoke_version found run name payload t s =
    await_child run name (s.runs + 1) t (make_child found run name payload s)

abbrev pub invoke_current : Option FunctionEntry → ℕ → List ℕ → Option (List ℕ) → Option Time → State
    → State
invoke_current None run name payload t s = record_result run name unknown_function s
invoke_current (Some f) run name payload t s = invoke_version (Some f) run name payload t s

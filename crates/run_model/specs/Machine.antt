-- The documented machine: what an input does to the state, what is said, and which inputs are turned away.
use Rattle.std.specs.Prelude.{ℕ, ◌≡◌, ◌+◌, ◌^◌, ◌==◌, Bool, true, false, not, List, [], ◌∷◌, ◌++◌, map, filter, Option, Some, None, codes, length, nat_le, nat_lt, if◌then◌else◌}
use Rattle.std.specs.List.{list_any}
use Rattle.kinds.specs.Answer.{ids_answer}
use Rattle.functions.specs.Functions.{current_after, is_modified, new_in, registered, stays, version_of}
use Rattle.functions.specs.declared.entry.FunctionEntry.{FunctionEntry}
use Rattle.kinds.specs.Inputs.{reading}
use Rattle.kinds.specs.declared.function.App.{App}
use Rattle.kinds.specs.declared.input.Input.{Input}
use Rattle.kinds.specs.declared.input.Input.TheVariants.{Events, Register, Reply, CallFailed, Tick, Cancel, Reopened}
use Rattle.kinds.specs.declared.limits.Limits.{Limits}
use Rattle.kinds.specs.declared.out.Out.{Out}
use Rattle.kinds.specs.declared.out.Out.TheVariants.{Answer, Hang}
use Rattle.kinds.specs.declared.refusal.Refusal.{Refusal}
use Rattle.kinds.specs.declared.refusal.Refusal.TheVariants.{NumbersSpent, KeptFull, RunsFull, FunctionsFull, UnknownCall, UnknownRun, RunEnded}
use Rattle.lists.specs.Entries.{insert_by}
use Rattle.kinds.specs.RunSteps.{is_recorded}
use Rattle.kinds.specs.declared.store.Item.{Item}
use Rattle.run_model.specs.Advance.{Advanced, advance}
use Rattle.run_model.specs.Making.{discover, queue}
use Rattle.run_model.specs.Recording.{change_run}
use Rattle.run_model.specs.Replies.{on_call_failed, on_reply, want}
use Rattle.run_model.specs.Requests.{Answering, cancel_found, on_events}
use Rattle.run_model.specs.Settle.{Settled, settle}
use Rattle.run_model.specs.State.{State, Run, Issue, EndedRun, empty, greatest, kept, last_ended, live, live_run, moment_at, open_issue, tidied}

-- a state with what is said
pub record Stepped : Type 0 where
  pub state : State
  pub outs : List Out

abbrev pub silent : State → Stepped
silent s = record { state = s; outs = [] }

-- ## Events

abbrev pub answered : Answering → Stepped
answered answering = record { state = answering.state; outs = ids_answer answering.numbers ∷ [] }

-- ## Registrations

abbrev pub boolean_text : Bool → List ℕ
boolean_text true = codes "true"
boolean_text false = codes "false"

-- the answer to a registration: whether the list of current functions is another than before
abbrev pub registered_answer : Bool → Out
registered_answer modified =
    Answer 200 (codes "{\"ok\":true,\"modified\":" ++ boolean_text modified ++ codes "}")

abbrev pub insert_all : List FunctionEntry → List FunctionEntry → List FunctionEntry
insert_all [] entries = entries
insert_all (f ∷ fs) entries = insert_all fs (insert_by version_of f entries)

-- The functions of an application take the place of those that it had, which stay while they are named.
abbrev pub with_functions : App → State → State
with_functions app s = record s {
  versions = s.versions + length (new_in app s.functions);
  functions = registered app s.versions s.functions;
  retired = insert_all (filter (λ f. not (stays app f)) s.functions) s.retired;
}

abbrev pub is_changed : App → State → Bool
is_changed app s = is_modified s.functions (registered app s.versions s.functions)

abbrev pub on_register : App → State → Stepped
on_register app s =
    record { state = with_functions app s; outs = registered_answer (is_changed app s) ∷ [] }

-- ## Cancellations

-- a run that has ended by the advance of the same step is answered all the same
abbrev pub on_cancel : ℕ → State → Stepped
on_cancel run s = record { state = cancel_found (live_run run s) s; outs = Answer 204 [] ∷ [] }

-- ## Reopening

-- the item of an open call is queued again as it was, due now, or where its step is recorded it goes
abbrev pub requeue_run : Item → Run → State → State
requeue_run i r s = elim (is_recorded i.target r.steps) as (λ _. State)
    [ true ↦ change_run r.number want s | false ↦ queue (record i { due = s.moment }) s ]

abbrev pub requeue_found : Item → Option Run → State → State
requeue_found i None s = s
requeue_found i (Some r) s = requeue_run i r s

abbrev pub requeue_all : List Issue → State → State
requeue_all [] s = s
requeue_all (i ∷ is) s = requeue_all is (requeue_found i.item (live_run i.item.run s) s)

-- no call is open any more
abbrev pub reopen : State → State
reopen s = discover (requeue_all s.issues (record s { issues = [] }))

-- ## One step

unfoldable pub act : Input → State → Stepped
act (Events at events) s = answered (on_events events (record { state = s; numbers = [] }))
act (Register at app) s = on_register app s
act (Reply at call reply) s = silent (on_reply call reply s)
act (CallFailed at call) s = silent (on_call_failed call s)
act (Tick at) s = silent s
act (Cancel at run) s = on_cancel run s
act (Reopened at) s = silent (reopen s)

abbrev pub count_input : State → State
count_input s = record s { inputs = s.inputs + 1 }

abbrev pub stepped : List Out → Settled → Stepped
stepped before settled = record { state = tidied settled.state; outs = before ++ settled.outs }

abbrev pub settled_after : List Out → Stepped → Stepped
settled_after hangs acted =
    stepped (hangs ++ acted.outs) (settle (record { state = acted.state; outs = [] }))

abbrev pub acted_after : Input → Advanced → Stepped
acted_after input a = settled_after (map (λ call. Hang call) a.hangs) (act input a.state)

-- Time goes on to the input's moment, the input acts, and what may be issued is.
unfoldable pub step : State → Input → Stepped
step s input = acted_after input (advance (moment_at (reading input) s) (count_input s))

-- ## What is refused

-- from here on no input is taken
abbrev pub spent : ℕ
spent = 2 ^ 61

abbrev pub refusal_of_events : State → Option Refusal
refusal_of_events s = if nat_le s.limits.kept (kept s) then Some (KeptFull (kept s))
    else if nat_le s.limits.live (live s) then Some (RunsFull (live s)) else None

-- more functions than the limit would be current
abbrev pub refusal_of_registration : App → State → Option Refusal
refusal_of_registration app s =
    if nat_lt s.limits.functions (current_after app s.functions)
    then Some (FunctionsFull (current_after app s.functions)) else None

abbrev pub refusal_of_call : ℕ → Option Issue → Option Refusal
refusal_of_call call None = Some (UnknownCall call)
refusal_of_call call (Some i) = None

abbrev pub has_ended : ℕ → State → Bool
has_ended run s = list_any (λ (e : EndedRun). run == e.run) (last_ended s)

abbrev pub refusal_of_cancel : ℕ → Option Run → State → Option Refusal
refusal_of_cancel run (Some r) s = None
refusal_of_cancel run None s = if has_ended run s then Some (RunEnded run) else Some (UnknownRun run)

abbrev pub refusal_by_kind : State → Input → Option Refusal
refusal_by_kind s (Events at events) = refusal_of_events s
refusal_by_kind s (Register at app) = refusal_of_registration app s
refusal_by_kind s (Reply at call reply) = refusal_of_call call (open_issue call s)
refusal_by_kind s (CallFailed at call) = refusal_of_call call (open_issue call s)
refusal_by_kind s (Tick at) = None
refusal_by_kind s (Cancel at run) = refusal_of_cancel run (live_run run s) s
refusal_by_kind s (Reopened at) = None

-- why the state as it stands turns an input away, if it does
abbrev pub refusal : State → Input → Option Refusal
refusal s input =
    if nat_le spent (greatest s) then Some (NumbersSpent (greatest s)) else refusal_by_kind s input

abbrev pub Accepts : State → Input → Type 0
Accepts s input = refusal s input ≡ None

-- ## Histories

-- the state after inputs, the first of them first
abbrev pub state_after : State → List Input → State
state_after s [] = s
state_after s (input ∷ inputs) = state_after (step s input).state inputs

abbrev pub fold : Limits → List Input → State
fold limits inputs = state_after (empty limits) inputs

-- what is said for inputs, input by input
abbrev pub outs_after : State → List Input → List (List Out)
outs_after s [] = []
outs_after s (input ∷ inputs) = (step s input).outs ∷ outs_after (step s input).state inputs

abbrev pub outs : Limits → List Input → List (List Out)
outs limits inputs = outs_after (empty limits) inputs

-- each input is accepted in its turn
abbrev pub AreAcceptedFrom : State → List Input → Type 0
AreAcceptedFrom s [] = Unit {0}
AreAcceptedFrom s (input ∷ inputs) = Accepts s input × AreAcceptedFrom (step s input).state inputs

abbrev pub AreAccepted : Limits → List Input → Type 0
AreAccepted limits inputs = AreAcceptedFrom (empty limits) inputs

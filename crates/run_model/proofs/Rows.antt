-- The definition on examples: inputs, each with what is said for it in brief; the steps that calls send; and
-- what is refused.
use Rattle.std.specs.List.{join_with_byte}
use Rattle.std.proofs.Common.{◌≡◌, ℕ, List, [], ◌∷◌, ◌++◌, map, codes, Option, Some, None, refl}
use Rattle.std.specs.Prelude.{⊤}
use Rattle.kinds.specs.Limits.{shipped}
use Rattle.kinds.specs.declared.limits.Limits.{Limits}
use Rattle.kinds.specs.declared.event.EventIn.{EventIn}
use Rattle.kinds.specs.declared.function.CancelEntry.{CancelEntry}
use Rattle.kinds.specs.declared.function.Function.{Function}
use Rattle.kinds.specs.declared.function.Limit.{Limit}
use Rattle.kinds.specs.declared.function.Scope.TheVariants as scope
use Rattle.kinds.specs.declared.input.Input.{Input}
use Rattle.kinds.specs.declared.input.Input.TheVariants.{Events, Register, Reply, CallFailed, Tick, Cancel, Reopened}
use Rattle.kinds.specs.declared.out.Out.{Out}
use Rattle.kinds.specs.declared.out.Out.TheVariants as out
use Rattle.kinds.specs.declared.refusal.Refusal.{Refusal}
use Rattle.kinds.specs.declared.refusal.Refusal.TheVariants.{KeptFull, RunsFull, FunctionsFull, UnknownRun, RunEnded}
use Rattle.kinds.specs.declared.reply.ReplyIn.{ReplyIn}
use Rattle.event_keys.specs.Matching.{truth_by}
use Rattle.run_model.specs.Advance.{advance, fire_by, least, timed}
use Rattle.run_model.specs.Ends.{fail_run}
use Rattle.run_model.specs.Events.{follow}
use Rattle.run_model.specs.Expressions.{truth_in}
use Rattle.run_model.specs.Machine.{act, fold, outs, refusal, step}
use Rattle.run_model.specs.Making.{discover, make_run}
use Rattle.run_model.specs.Replies.{on_call_failed, on_reply, take_operations}
use Rattle.run_model.specs.Requests.{on_events}
use Rattle.run_model.specs.Settle.{settle_by}
use Rattle.run_model.specs.State.{Run, live_run, tidied}
use Rattle.sdk_call.specs.Body.{parted, step_member}
use Rattle.kinds.specs.Queue as items
use Rattle.functions.specs.Functions.{registered, same}
use Rattle.intake.specs.Events.{event_text}
use Rattle.sdk_reply.specs.Outcome.{outcome_of}
use Rattle.json_text.specs.Texts.{read_from}
use Rattle.json_text.specs.Automaton as json
use Rattle.json_text.specs.Text.{text_from}
use Rattle.json_text.specs.Trees.{tree_of}
use Rattle.sdk_reply.specs.Operations.{op_of}
use Rattle.sdk_reply.specs.Ops.{ops_at}
use Rattle.sdk_reply.specs.Dates.{date_moment, http_moment}
use Rattle.text_num.specs.Digits.{u64_of, fraction_of}
use Rattle.text_num.specs.Duration.{unit_of, part_of, parts_of, duration_of}
use Rattle.text_num.specs.JsonNumber.{exponent_of, number_of}
use Rattle.text_num.specs.Units.{multiple_of, units_of, fraction_digits, number_of_units, units_text}
use Rattle.expr.specs.Reading.{atom_of, is_in, method_of, callee_of, read_tokens, tree_of_text}
use Rattle.expr.specs.Tokens.{placed_tokens, tokens_of}
use Rattle.cel_eval.specs.Table.{worth_of}
use Rattle.cel_parse.specs.Faults.{parse_of}
use Rattle.std.specs.Fmt.{digits}

-- ## What computes on examples

unfoldable pub steps_compute : ⊤
unfolding advance fire_by least timed act step discover make_run settle_by tidied registered same items.least
steps_compute = tt

unfoldable pub inputs_compute : ⊤
unfolding follow truth_in truth_by on_events on_reply on_call_failed take_operations fail_run items.next_item
inputs_compute = tt

unfoldable pub texts_compute : ⊤
unfolding event_text digits read_from json.step json.value_of json.run text_from tree_of
texts_compute = tt

unfoldable pub replies_compute : ⊤
unfolding outcome_of op_of ops_at date_moment http_moment
replies_compute = tt

unfoldable pub numbers_compute : ⊤
unfolding u64_of duration_of parts_of part_of unit_of fraction_of exponent_of number_of multiple_of units_of
numbers_compute = tt

unfoldable pub units_compute : ⊤
unfolding fraction_digits number_of_units units_text
units_compute = tt

unfoldable pub expressions_compute : ⊤
unfolding atom_of is_in method_of callee_of read_tokens tree_of_text placed_tokens tokens_of worth_of parse_of
expressions_compute = tt

unfoldable pub values_compute : ⊤
unfolding texts_compute numbers_compute units_compute expressions_compute
values_compute = tt

unfoldable pub machine_computes : ⊤
unfolding steps_compute inputs_compute replies_compute values_compute
machine_computes = tt

-- ## What is said, in brief

pub data Said : Type 0 where
  -- a status
  answer : ℕ → Said
  -- the call that is hung
  hang : ℕ → Said
  -- a call's number, function, target, run, attempt, recorded steps and events
  called : ℕ → List ℕ → List ℕ → ℕ → ℕ → ℕ → List ℕ → Said

abbrev said : Out → Said
said (out.Hang c) = hang c
said (out.Answer status body) = answer status
said (out.Call c function target run attempt steps events host port path body) =
    called c function target run attempt steps events

-- the inputs have these outs, each its own
abbrev Says : List (Input × List Said) → Type 0
Says rows = map (λ os. map said os) (outs shipped (map (λ row. row.0) rows)) ≡ map (λ row. row.1) rows

-- a call of the function `a-f` that finds out what comes next
abbrev call : ℕ → ℕ → ℕ → ℕ → List ℕ → Said
call number run attempt steps events = called number (codes "a-f") (codes "step") run attempt steps events

-- ## What a call's body has

abbrev steps_in : Option Run → List ℕ
steps_in None = []
steps_in (Some r) = parted (map step_member r.steps.recorded)

-- the steps of a run after these inputs, as they stand in the body of a call
abbrev steps_of : ℕ → List Input → List ℕ
steps_of run inputs = steps_in (live_run run (fold shipped inputs))

-- a step with its result
abbrev step_text : List ℕ → List ℕ → List ℕ
step_text name result = codes "\"" ++ name ++ codes "\":" ++ result

-- ## Functions and inputs

abbrev plain : Function
plain = record {
  id = codes "a-f";
  triggers = (record { event = codes "x"; cond = None }) ∷ [];
  host = codes "127.0.0.1";
  port = 9;
  path = codes "/api";
  query = codes "fnId=a-f&stepId=step";
  retries = 4;
  limits = [];
  throttle = None;
  debounce = None;
  batch = None;
  priority = None;
  cancels = [];
}

-- sees runs that failed
abbrev watcher : Function
watcher = record plain {
  id = codes "a-h";
  query = [];
  triggers = (record { event = codes "inngest/function.failed"; cond = None }) ∷ [];
}

-- so many calls at once, for each value of a key where there is one
abbrev limit : ℕ → Option (List ℕ) → List Limit
limit n key = (record { place = 0; limit = n; scope = scope.Own; key = key }) ∷ []

-- an event of this name cancels a run, where the condition is true
abbrev cancels_by : List ℕ → List ℕ → List CancelEntry
cancels_by name cond = (record { event = name; cond = Some cond; timeout = None }) ∷ []

abbrev register_all : ℕ → List Function → Input
register_all at fs = Register at (record { name = codes "a"; functions = fs })

abbrev registers : ℕ → Function → Input
registers at f = register_all at (f ∷ [])

abbrev event : List ℕ → List ℕ → EventIn
event name content = record { name = name; content = content; id = None; ts = None; user = None; v = None }

abbrev x_with_id : ℕ → List ℕ → Input
x_with_id at id = Events at ((record (event (codes "x") (codes "{}")) { id = Some id }) ∷ [])

abbrev x : List ℕ → EventIn
x u = event (codes "x") (codes "{\"u\":" ++ u ++ codes "}")

abbrev x1 : EventIn
x1 = x (codes "1")

abbrev x2 : EventIn
x2 = x (codes "2")

-- ## Replies

abbrev reply : ℕ → List ℕ → ReplyIn
reply status body = record { status = status; no_retry = None; retry = None; body = body }

abbrev e500 : ReplyIn
e500 = reply 500 (codes "{\"name\":\"E\",\"message\":\"m\"}")

-- the names of two steps
abbrev h1 : List ℕ
h1 = codes "a9993e364706816aba3e25717850c26c9cd0d89d"

abbrev h2 : List ℕ
h2 = codes "86f7e437faa5a7fce15d1ddcb9eaeaea377667b8"

-- an operation on a step: its kind, and what stands behind that
abbrev does : List ℕ → List ℕ → List ℕ → List ℕ
does name kind rest =
    codes "{\"id\":\"" ++ name ++ codes "\",\"op\":\"" ++ kind ++ codes "\"" ++ rest ++ codes "}"

abbrev runs : List ℕ → List ℕ → List ℕ
runs name data_ = does name (codes "StepRun") (codes ",\"data\":" ++ data_)

abbrev plans : List ℕ → List ℕ
plans name = does name (codes "StepPlanned") []

abbrev sleeps : List ℕ → List ℕ → List ℕ
sleeps name duration =
    does name (codes "Sleep") (codes ",\"opts\":{\"duration\":\"" ++ duration ++ codes "\"}")

-- waits for an event `y`, with an end and what stands behind that
abbrev waits : List ℕ → List ℕ → List ℕ → List ℕ
waits name timeout rest =
    does name (codes "WaitForEvent")
    (codes ",\"opts\":{\"event\":\"y\",\"timeout\":\"" ++ timeout ++ codes "\"" ++ rest ++ codes "}")

abbrev invokes : List ℕ → List ℕ → List ℕ
invokes name function =
    does name (codes "InvokeFunction")
    (codes ",\"opts\":{\"function_id\":\"" ++ function ++ codes "\",\"payload\":{\"data\":{\"u\":9}}}")

abbrev ops : List (List ℕ) → ReplyIn
ops os = reply 206 (codes "[" ++ join_with_byte 44 os ++ codes "]")

-- ## Events

-- an event may be repeated
row-repeated-event : Says (
    (x_with_id 0 (codes "i1"), answer 200 ∷ [])
    ∷ (x_with_id 86399999 (codes "i1"), answer 200 ∷ [])
    ∷ [])
unfolding machine_computes
row-repeated-event = refl

-- it takes no number, and a day later it does
row-repeated-numbers :
    map (λ at. (fold shipped (x_with_id 0 (codes "i1") ∷ x_with_id at (codes "i1") ∷ [])).events)
    (86399999 ∷ 86400000 ∷ [])
    ≡ 1 ∷ 2 ∷ []
unfolding machine_computes
row-repeated-numbers = refl

-- a clock that goes back is passed over
row-clock :
    (fold shipped (x_with_id 1000 (codes "i1") ∷ x_with_id 500 (codes "i2") ∷ [])).moment
    ≡ 1000
unfolding machine_computes
row-clock = refl

-- ## Calls and steps

-- two runs of one function: the second call is answered first
row-two-runs : Says (
    (registers 0 plain, answer 200 ∷ [])
    ∷ (Events 1 (x1 ∷ x2 ∷ []), answer 200 ∷ call 1 1 0 0 (1 ∷ []) ∷ call 2 2 0 0 (2 ∷ []) ∷ [])
    ∷ (Reply 2 2 (reply 200 []), [])
    ∷ (Reply 3 1 (reply 200 []), [])
    ∷ [])
unfolding machine_computes
row-two-runs = refl

-- a step is recorded and goes on with the next call
row-step : Says (
    (registers 0 plain, answer 200 ∷ [])
    ∷ (Events 1000 (x1 ∷ []), answer 200 ∷ call 1 1 0 0 (1 ∷ []) ∷ [])
    ∷ (Reply 1050 1 (ops (runs h1 (codes "\"ok\"") ∷ [])), call 2 1 0 1 (1 ∷ []) ∷ [])
    ∷ (Reply 1100 2 (reply 200 (codes "\"done\"")), [])
    ∷ [])
unfolding machine_computes
row-step = refl

-- what was recorded is sent as it was written
row-verbatim :
    steps_of 1
    (registers 0 plain ∷ Events 1000 (x1 ∷ [])
    ∷ Reply 1050 1 (ops (runs h1 (codes "{\"p\":1.50,\"q\":1e2}") ∷ [])) ∷ [])
    ≡ step_text h1 (codes "{\"data\":{\"p\":1.50,\"q\":1e2}}")
unfolding machine_computes
row-verbatim = refl

-- planned steps are called beside each other
row-planned : Says (
    (registers 0 plain, answer 200 ∷ [])
    ∷ (Events 1 (x1 ∷ []), answer 200 ∷ call 1 1 0 0 (1 ∷ []) ∷ [])
    ∷ (
      Reply 2 1 (ops (plans h1 ∷ plans h2 ∷ [])),
      called 2 (codes "a-f") h1 1 0 0 (1 ∷ []) ∷ called 3 (codes "a-f") h2 1 0 0 (1 ∷ []) ∷ [],
    )
    ∷ (Reply 3 2 (ops (runs h1 (codes "1") ∷ [])), call 4 1 0 1 (1 ∷ []) ∷ [])
    ∷ (Reply 4 3 (ops (runs h2 (codes "2") ∷ [])), [])
    ∷ (Reply 5 4 (ops (plans h2 ∷ [])), call 5 1 0 2 (1 ∷ []) ∷ [])
    ∷ [])
unfolding machine_computes
row-planned = refl

-- the call of a step that was recorded beside it isn't made again
row-target-recorded : Says (
    (registers 0 plain, answer 200 ∷ [])
    ∷ (Events 1 (x1 ∷ []), answer 200 ∷ call 1 1 0 0 (1 ∷ []) ∷ [])
    ∷ (
      Reply 2 1 (ops (plans h1 ∷ sleeps h2 (codes "1s") ∷ [])),
      called 2 (codes "a-f") h1 1 0 0 (1 ∷ []) ∷ [],
    )
    ∷ (Tick 1002, call 3 1 0 1 (1 ∷ []) ∷ [])
    ∷ (Reply 1003 3 (ops (runs h1 (codes "1") ∷ [])), call 4 1 0 2 (1 ∷ []) ∷ [])
    ∷ (Reply 1004 4 (ops []), [])
    ∷ (Reply 1005 2 (ops (runs h1 (codes "1") ∷ [])), call 5 1 0 2 (1 ∷ []) ∷ [])
    ∷ [])
unfolding machine_computes
row-target-recorded = refl

-- ## Failed calls

-- the last attempt fails, and the function that watches sees the run's event
row-failed : Says (
    (register_all 0 (plain ∷ watcher ∷ []), answer 200 ∷ [])
    ∷ (Events 0 (x1 ∷ []), answer 200 ∷ call 1 1 0 0 (1 ∷ []) ∷ [])
    ∷ (Reply 1000 1 (record e500 { retry = Some (codes "3") }), [])
    ∷ (Tick 4000, call 2 1 1 0 (1 ∷ []) ∷ [])
    ∷ (Reply 4000 2 e500, [])
    ∷ (Tick 34000, call 3 1 2 0 (1 ∷ []) ∷ [])
    ∷ (Reply 34000 3 e500, [])
    ∷ (Tick 94000, call 4 1 3 0 (1 ∷ []) ∷ [])
    ∷ (Reply 94000 4 e500, [])
    ∷ (Tick 214000, call 5 1 4 0 (1 ∷ []) ∷ [])
    ∷ (Reply 214000 5 e500, called 6 (codes "a-h") (codes "step") 2 0 0 (2 ∷ []) ∷ [])
    ∷ [])
unfolding machine_computes
row-failed = refl

-- a reply that can't be read is a failed call
row-unreadable : Says (
    (registers 0 plain, answer 200 ∷ [])
    ∷ (Events 1000 (x1 ∷ []), answer 200 ∷ call 1 1 0 0 (1 ∷ []) ∷ [])
    ∷ (Reply 2000 1 (ops (does h1 (codes "Gateway") [] ∷ [])), [])
    ∷ (Tick 11999, [])
    ∷ (Tick 12000, call 2 1 1 0 (1 ∷ []) ∷ [])
    ∷ [])
unfolding machine_computes
row-unreadable = refl

-- a call is hung at its limit and made again
row-call-limit : Says (
    (registers 0 plain, answer 200 ∷ [])
    ∷ (Events 1 (x1 ∷ []), answer 200 ∷ call 1 1 0 0 (1 ∷ []) ∷ [])
    ∷ (Tick 7200000, [])
    ∷ (Tick 7200001, hang 1 ∷ [])
    ∷ (Tick 7210001, call 2 1 1 0 (1 ∷ []) ∷ [])
    ∷ [])
unfolding machine_computes
row-call-limit = refl

-- a call that a stop lost is made again
row-reopened : Says (
    (registers 0 plain, answer 200 ∷ [])
    ∷ (Events 1 (x1 ∷ []), answer 200 ∷ call 1 1 0 0 (1 ∷ []) ∷ [])
    ∷ (Reopened 2, call 2 1 0 0 (1 ∷ []) ∷ [])
    ∷ [])
unfolding machine_computes
row-reopened = refl

-- ## Sleeps, waits, invocations

-- a wait is met, and one whose condition fails is not
row-wait : Says (
    (registers 0 plain, answer 200 ∷ [])
    ∷ (Events 1 (x1 ∷ []), answer 200 ∷ call 1 1 0 0 (1 ∷ []) ∷ [])
    ∷ (
      Reply 2 1 (ops (
          waits h1 (codes "1h") []
          ∷ waits h2 (codes "1h") (codes ",\"if\":\"async.data.k == event.data.k\"") ∷ [])),
      [],
    )
    ∷ (Events 3 (event (codes "y") (codes "{\"k\":1}") ∷ []), answer 200 ∷ call 2 1 0 1 (1 ∷ []) ∷ [])
    ∷ [])
unfolding machine_computes
row-wait = refl

-- the event is the result of the wait
row-wait-result :
    steps_of 1
    (registers 0 plain ∷ Events 1 (x1 ∷ []) ∷ Reply 2 1 (ops (waits h1 (codes "1h") [] ∷ []))
    ∷ Events 3 (event (codes "y") (codes "{\"k\":1}") ∷ []) ∷ [])
    ≡ step_text h1
    (codes "{\"data\":{\"name\":\"y\",\"data\":{\"k\":1},\"id\":\"evt-2\",\"ts\":3}}")
unfolding machine_computes
row-wait-result = refl

-- a wait is over in time
row-wait-timeout : Says (
    (registers 0 plain, answer 200 ∷ [])
    ∷ (Events 1 (x1 ∷ []), answer 200 ∷ call 1 1 0 0 (1 ∷ []) ∷ [])
    ∷ (Reply 2 1 (ops (waits h1 (codes "1s") [] ∷ [])), [])
    ∷ (Tick 1002, call 2 1 0 1 (1 ∷ []) ∷ [])
    ∷ [])
unfolding machine_computes
row-wait-timeout = refl

-- a run invokes another and gets its output
row-invocation : Says (
    (registers 0 plain, answer 200 ∷ [])
    ∷ (Events 1 (x1 ∷ []), answer 200 ∷ call 1 1 0 0 (1 ∷ []) ∷ [])
    ∷ (Reply 2 1 (ops (invokes h1 (codes "a-f") ∷ [])), call 2 2 0 0 (2 ∷ []) ∷ [])
    ∷ (Reply 3 2 (reply 200 (codes "{\"r\":1.0}")), call 3 1 0 1 (1 ∷ []) ∷ [])
    ∷ [])
unfolding machine_computes
row-invocation = refl

-- the output is sent as it was written
row-invocation-result :
    steps_of 1
    (registers 0 plain ∷ Events 1 (x1 ∷ []) ∷ Reply 2 1 (ops (invokes h1 (codes "a-f") ∷ []))
    ∷ Reply 3 2 (reply 200 (codes "{\"r\":1.0}")) ∷ [])
    ≡ step_text h1 (codes "{\"data\":{\"r\":1.0}}")
unfolding machine_computes
row-invocation-result = refl

-- an unknown function is an error at once
row-unknown-function : Says (
    (registers 0 plain, answer 200 ∷ [])
    ∷ (Events 1 (x1 ∷ []), answer 200 ∷ call 1 1 0 0 (1 ∷ []) ∷ [])
    ∷ (Reply 2 1 (ops (invokes h1 (codes "none") ∷ [])), call 2 1 0 1 (1 ∷ []) ∷ [])
    ∷ [])
unfolding machine_computes
row-unknown-function = refl

-- ## Cancellation

-- the call of a cancelled run keeps its cell until it is answered
row-cancel-rule : Says ((
  registers 0 (record plain {
    limits = limit 1 None;
    cancels = cancels_by (codes "stop") (codes "async.data.u == event.data.u");
  }),
  answer 200 ∷ [],
)
    ∷ (Events 1 (x1 ∷ x2 ∷ []), answer 200 ∷ call 1 1 0 0 (1 ∷ []) ∷ [])
    ∷ (Events 2 (event (codes "stop") (codes "{\"u\":1}") ∷ []), answer 200 ∷ [])
    ∷ (Reply 3 1 (ops (runs h1 (codes "1") ∷ [])), call 2 2 0 0 (2 ∷ []) ∷ [])
    ∷ [])
unfolding machine_computes
row-cancel-rule = refl

-- a cancelled run's call may end
row-cancel : Says (
    (registers 0 plain, answer 200 ∷ [])
    ∷ (Events 0 (x1 ∷ []), answer 200 ∷ call 1 1 0 0 (1 ∷ []) ∷ [])
    ∷ (Cancel 1 1, answer 204 ∷ [])
    ∷ (CallFailed 2 1, [])
    ∷ [])
unfolding machine_computes
row-cancel = refl

-- ## Limits of concurrency, throttles, priority

abbrev two_a_minute : Function
two_a_minute = record plain { throttle = Some (record { limit = 2; period = 60000; burst = 2; key = None }) }

-- one call at a time for each value of a key
row-keyed-limit : Says (
    (registers 0 (record plain { limits = limit 1 (Some (codes "event.data.u")) }), answer 200 ∷ [])
    ∷ (Events 1 (x1 ∷ x1 ∷ x2 ∷ []), answer 200 ∷ call 1 1 0 0 (1 ∷ []) ∷ call 2 3 0 0 (3 ∷ []) ∷ [])
    ∷ (Reply 2 1 (reply 200 []), call 3 2 0 0 (2 ∷ []) ∷ [])
    ∷ [])
unfolding machine_computes
row-keyed-limit = refl

-- a run that sleeps holds no cell
row-sleep : Says (
    (registers 0 (record plain { limits = limit 1 None }), answer 200 ∷ [])
    ∷ (Events 1 (x1 ∷ x2 ∷ []), answer 200 ∷ call 1 1 0 0 (1 ∷ []) ∷ [])
    ∷ (Reply 2 1 (ops (sleeps h1 (codes "10s") ∷ [])), call 2 2 0 0 (2 ∷ []) ∷ [])
    ∷ (Tick 10002, [])
    ∷ (Reply 10003 2 (reply 200 []), call 3 1 0 1 (1 ∷ []) ∷ [])
    ∷ [])
unfolding machine_computes
row-sleep = refl

-- a limit that is lowered holds for later runs
row-lowered-limit : Says (
    (registers 0 (record plain { limits = limit 3 None }), answer 200 ∷ [])
    ∷ (
      Events 1 (x1 ∷ x1 ∷ x1 ∷ []),
      answer 200 ∷ call 1 1 0 0 (1 ∷ []) ∷ call 2 2 0 0 (2 ∷ []) ∷ call 3 3 0 0 (3 ∷ []) ∷ [],
    )
    ∷ (registers 2 (record plain { limits = limit 1 None }), answer 200 ∷ [])
    ∷ (Events 3 (x1 ∷ []), answer 200 ∷ [])
    ∷ (Reply 4 1 (reply 200 []), [])
    ∷ (Reply 5 2 (reply 200 []), [])
    ∷ (Reply 6 3 (reply 200 []), call 4 4 0 0 (4 ∷ []) ∷ [])
    ∷ [])
unfolding machine_computes
row-lowered-limit = refl

-- two starts in a minute, and two at once
row-throttle : Says (
    (registers 0 two_a_minute, answer 200 ∷ [])
    ∷ (Events 0 (x1 ∷ x1 ∷ x1 ∷ []), answer 200 ∷ call 1 1 0 0 (1 ∷ []) ∷ call 2 2 0 0 (2 ∷ []) ∷ [])
    ∷ (Tick 29999, [])
    ∷ (Tick 30000, call 3 3 0 0 (3 ∷ []) ∷ [])
    ∷ [])
unfolding machine_computes
row-throttle = refl

-- a run goes so many seconds before others
row-priority : Says ((
  registers 0 (record plain { limits = limit 1 None; priority = Some (codes "event.data.u") }),
  answer 200 ∷ [],
)
    ∷ (Events 0 (x (codes "0") ∷ []), answer 200 ∷ call 1 1 0 0 (1 ∷ []) ∷ [])
    ∷ (Events 1000 (x (codes "0") ∷ []), answer 200 ∷ [])
    ∷ (Events 600999 (x (codes "600") ∷ []), answer 200 ∷ [])
    ∷ (Events 601000 (x (codes "600") ∷ []), answer 200 ∷ [])
    ∷ (Events 601001 (x (codes "600") ∷ []), answer 200 ∷ [])
    ∷ (Reply 601002 1 (reply 200 []), call 2 3 0 0 (3 ∷ []) ∷ [])
    ∷ (Reply 601002 2 (reply 200 []), call 3 2 0 0 (2 ∷ []) ∷ [])
    ∷ (Reply 601002 3 (reply 200 []), call 4 4 0 0 (4 ∷ []) ∷ [])
    ∷ (Reply 601002 4 (reply 200 []), call 5 5 0 0 (5 ∷ []) ∷ [])
    ∷ [])
unfolding machine_computes
row-priority = refl

-- ## Windows

abbrev debounced : Function
debounced = record plain { debounce = Some (record { period = 10000; timeout = Some 25000; key = None }) }

abbrev in_threes : Function
in_threes = record plain { batch = Some (record { size = 3; timeout = 5000; key = None }) }

-- a window ends at its timeout, with its last event
row-debounce : Says (
    (registers 0 debounced, answer 200 ∷ [])
    ∷ (Events 0 (x1 ∷ []), answer 200 ∷ [])
    ∷ (Events 9000 (x1 ∷ []), answer 200 ∷ [])
    ∷ (Events 18000 (x1 ∷ []), answer 200 ∷ [])
    ∷ (Tick 25000, call 1 1 0 0 (3 ∷ []) ∷ [])
    ∷ [])
unfolding machine_computes
row-debounce = refl

-- a batch is full, and the next one is over in time
row-batch : Says (
    (registers 0 in_threes, answer 200 ∷ [])
    ∷ (Events 0 (x1 ∷ x1 ∷ x1 ∷ x1 ∷ []), answer 200 ∷ call 1 1 0 0 (1 ∷ 2 ∷ 3 ∷ []) ∷ [])
    ∷ (Tick 12000, call 2 2 0 0 (4 ∷ []) ∷ [])
    ∷ [])
unfolding machine_computes
row-batch = refl

-- a window keeps its version
row-batch-version : Says (
    (registers 0 in_threes, answer 200 ∷ [])
    ∷ (Events 0 (x1 ∷ x2 ∷ []), answer 200 ∷ [])
    ∷ (registers 1 plain, answer 200 ∷ [])
    ∷ (Tick 5000, call 1 1 0 0 (1 ∷ 2 ∷ []) ∷ [])
    ∷ [])
unfolding machine_computes
row-batch-version = refl

-- ## Refusals

-- a machine with room for one run and one function, after both
abbrev one_run : List Input
one_run = registers 0 plain ∷ Events 1 (x1 ∷ []) ∷ []

abbrev for_one : Limits
for_one = record { kept = 1073741824; live = 1; functions = 1 }

abbrev refuses : Limits → List Input → Input → Option Refusal
refuses limits inputs input = refusal (fold limits inputs) input

-- no room for a further run
row-runs-full :
    refuses for_one one_run (Events 2 (x1 ∷ []))
    ≡ Some (RunsFull 1)
unfolding machine_computes
row-runs-full = refl

-- no room for a further function
row-functions-full :
    refuses for_one one_run (register_all 2 (plain ∷ watcher ∷ []))
    ≡ Some (FunctionsFull 2)
unfolding machine_computes
row-functions-full = refl

-- no run has the number
row-unknown-run :
    refuses for_one one_run (Cancel 2 9)
    ≡ Some (UnknownRun 9)
unfolding machine_computes
row-unknown-run = refl

-- a run ends once
row-run-ended :
    refuses shipped (one_run ++ Cancel 2 1 ∷ []) (Cancel 3 1)
    ≡ Some (RunEnded 1)
unfolding machine_computes
row-run-ended = refl

-- a remembered id is kept with 64 bytes more
row-kept-full :
    refuses (record { kept = 10; live = 10; functions = 10 })
    (x_with_id 0 (codes "i") ∷ []) (Events 1 (x1 ∷ []))
    ≡ Some (KeptFull 65)
unfolding machine_computes
row-kept-full = refl

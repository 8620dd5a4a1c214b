-- The operations that a reply asks for: objects with a step's name as `id`, the kind as `op`, and the
-- parts of that kind.
use Rattle.std.specs.Prelude.{ℕ, List, [], ◌∷◌, bytes_eq, codes, if◌then◌else◌}
use Rattle.std.specs.Prelude.{Option, Some, None, Result, Ok, Err, option_map, option_and_then}
use Rattle.cel_parse.specs.Faults.{parse_text}
use Rattle.cel_parse.specs.declared.fault.ParseFault.{ParseFault}
use Rattle.json_text.specs.Grammar.{Json, text, spelling}
use Rattle.json_text.specs.Text.{member_of, or_else, unescaped}
use Rattle.kinds.specs.declared.reply.Op.{Op}
use Rattle.kinds.specs.declared.reply.Op.TheVariants.{StepRun, StepError, StepPlanned}
use Rattle.kinds.specs.declared.reply.Op.TheVariants.{Sleep, WaitForEvent, InvokeFunction}
use Rattle.kinds.specs.declared.reply.Time.{Time}
use Rattle.kinds.specs.declared.reply.Time.TheVariants.{Span, At}
use Rattle.step_ids.specs.Step.{is_step_name}
use Rattle.text_num.specs.Duration.{duration_of}
use Rattle.text_num.specs.declared.fault.NumFault.{NumFault}
use Rattle.sdk_reply.specs.declared.op_word.OpWord.{OpWord}
use Rattle.sdk_reply.specs.declared.op_word.OpWord.TheVariants.{Ran, Failed, Planned}
use Rattle.sdk_reply.specs.declared.op_word.OpWord.TheVariants.{Sleeps, Waits, Invokes, Unknown}
use Rattle.sdk_reply.specs.declared.part.Part.{Part}
use Rattle.sdk_reply.specs.declared.part.Part.TheVariants.{Absent, Valid, Invalid}
use Rattle.sdk_reply.specs.Dates.{date_moment}

-- ## Members

-- a text, unescaped
abbrev pub text_in : Option Json → Option (List ℕ)
text_in (Some (text w)) = Some (unescaped w)
text_in _ = None

-- a text that isn't empty
abbrev pub as_name : List ℕ → Option (List ℕ)
as_name [] = None
as_name (byte ∷ bytes) = Some (byte ∷ bytes)

abbrev pub name_in : Option Json → Option (List ℕ)
name_in j = option_and_then as_name (text_in j)

-- any value as it stands
abbrev pub slice_in : Option Json → Option (List ℕ)
slice_in None = None
slice_in (Some j) = Some (spelling j)

-- any value as it stands, and `null` where it is absent
abbrev pub slice_or_null : Option Json → List ℕ
slice_or_null None = codes "null"
slice_or_null (Some j) = spelling j

-- the members that an operation is read of
pub record Parts : Type 0 where
  pub id : Option Json
  pub op : Option Json
  pub «data» : Option Json
  pub error : Option Json
  pub opts : Option Json
  pub name : Option Json

-- of each name the last
abbrev pub parts_of : Json → Parts
parts_of j = record {
  id = member_of j (codes "id");
  op = member_of j (codes "op");
  «data» = member_of j (codes "data");
  error = member_of j (codes "error");
  opts = member_of j (codes "opts");
  name = member_of j (codes "name");
}

-- a member of `opts`; what is no object has no members
abbrev pub option_of : Option Json → List ℕ → Option Json
option_of opts name = option_and_then (λ j. member_of j name) opts

-- the same, or where it is absent the member `name`
abbrev pub option_or_name : Parts → List ℕ → Option Json
option_or_name p name = or_else (option_of p.opts name) p.name

-- a step's name
abbrev pub as_hash : List ℕ → Option (List ℕ)
as_hash written = if is_step_name written then Some written else None

abbrev pub hash_in : Option Json → Option (List ℕ)
hash_in j = option_and_then as_hash (text_in j)

-- ## Times

abbrev pub as_date : Option ℕ → Option Time
as_date None = None
as_date (Some moment) = Some (At moment)

abbrev pub as_span : List ℕ → Result ℕ NumFault → Option Time
as_span written (Ok millis) = Some (Span millis)
as_span written (Err fault) = as_date (date_moment written)

-- a duration, or else a date
abbrev pub as_time : List ℕ → Option Time
as_time written = as_span written (duration_of written)

abbrev pub time_in : Option Json → Option Time
time_in j = option_and_then as_time (text_in j)

-- ## Parts that may be absent

abbrev pub given : {A : Type 0} → Option A → Part A
given None = Invalid
given (Some a) = Valid a

abbrev pub optional_time : Option Json → Part Time
optional_time None = Absent
optional_time (Some j) = given (time_in (Some j))

abbrev pub parsed : Result (List ℕ) ParseFault → Part (List ℕ)
parsed (Ok condition) = Valid condition
parsed (Err fault) = Invalid

-- a text that is an expression
abbrev pub condition_in : Option (List ℕ) → Part (List ℕ)
condition_in None = Invalid
condition_in (Some written) = parsed (parse_text written)

abbrev pub optional_condition : Option Json → Part (List ℕ)
optional_condition None = Absent
optional_condition (Some j) = condition_in (text_in (Some j))

-- ## Operations

-- a time in `opts.duration`, or else in `name`
abbrev pub sleep : List ℕ → Parts → Option Op
sleep hash p = option_map (λ time. Sleep hash time) (time_in (option_or_name p (codes "duration")))

abbrev pub wait_where : List ℕ → List ℕ → Time → Part (List ℕ) → Option Op
wait_where hash event timeout Absent = Some (WaitForEvent hash event timeout None)
wait_where hash event timeout (Valid condition) = Some (WaitForEvent hash event timeout (Some condition))
wait_where hash event timeout Invalid = None

abbrev pub wait_until : List ℕ → Option Json → List ℕ → Time → Option Op
wait_until hash opts event timeout =
    wait_where hash event timeout (optional_condition (option_of opts (codes "if")))

abbrev pub wait_for : List ℕ → Option Json → List ℕ → Option Op
wait_for hash opts event =
    option_and_then (wait_until hash opts event) (time_in (option_of opts (codes "timeout")))

-- a name in `opts.event`, or else in `name`, a time in `opts.timeout`, and optionally an expression in
-- `opts.if`
abbrev pub wait_for_event : List ℕ → Parts → Option Op
wait_for_event hash p =
    option_and_then (wait_for hash p.opts) (name_in (option_or_name p (codes "event")))

abbrev pub invoke_within : List ℕ → List ℕ → Option (List ℕ) → Part Time → Option Op
invoke_within hash function payload Absent = Some (InvokeFunction hash function payload None)
invoke_within hash function payload (Valid timeout) =
    Some (InvokeFunction hash function payload (Some timeout))
invoke_within hash function payload Invalid = None

abbrev pub invoke : List ℕ → Option Json → List ℕ → Option Op
invoke hash opts function =
    invoke_within hash function (slice_in (option_of opts (codes "payload")))
    (optional_time (option_of opts (codes "timeout")))

-- a text in `opts.function_id`, and optionally any value in `opts.payload` and a time in `opts.timeout`
abbrev pub invoke_function : List ℕ → Option Json → Option Op
invoke_function hash opts =
    option_and_then (invoke hash opts) (text_in (option_of opts (codes "function_id")))

-- what a step gave stands in `data` or `error`
abbrev pub run_of : List ℕ → Option Json → Option Op
run_of hash given = Some (StepRun hash (slice_or_null given))

abbrev pub error_of : List ℕ → Option Json → Option Op
error_of hash given = Some (StepError hash (slice_or_null given))

-- the word of a kind
abbrev pub word_of : List ℕ → OpWord
word_of written =
    if bytes_eq written (codes "StepRun") then Ran
    else if bytes_eq written (codes "StepError") then Failed
    else if bytes_eq written (codes "StepPlanned") then Planned
    else if bytes_eq written (codes "Sleep") then Sleeps
    else if bytes_eq written (codes "WaitForEvent") then Waits
    else if bytes_eq written (codes "InvokeFunction") then Invokes
    else Unknown

abbrev pub word_in : Json → OpWord
word_in (text w) = word_of (unescaped w)
word_in _ = Unknown

abbrev pub op_by : OpWord → List ℕ → Parts → Option Op
op_by Ran hash p = run_of hash p.«data»
op_by Failed hash p = error_of hash p.error
op_by Planned hash p = Some (StepPlanned hash)
op_by Sleeps hash p = sleep hash p
op_by Waits hash p = wait_for_event hash p
op_by Invokes hash p = invoke_function hash p.opts
op_by Unknown hash p = None

abbrev pub op_named : List ℕ → Parts → Json → Option Op
op_named hash p op = op_by (word_in op) hash p

abbrev pub op_with : Parts → List ℕ → Option Op
op_with p hash = option_and_then (op_named hash p) p.op

abbrev pub op_from : Parts → Option Op
op_from p = option_and_then (op_with p) (hash_in p.id)

-- the operation that a value is; None where it isn't valid
unfoldable pub op_of : Json → Option Op
op_of j = op_from (parts_of j)

-- What a script makes the documented machine say, and how it ends.
use Rattle.std.specs.Prelude.{ℕ, ◌+◌, ◌-◌, Bool, ◌||◌, List, [], ◌∷◌, ◌++◌, Option, Some, None}
use Rattle.std.specs.Prelude.{length, map, nat_lt, ◌==◌, if◌then◌else◌, codes, decimal, flat_map}
use Rattle.std.specs.List.{join_with_byte}
use Rattle.kinds.specs.Limits.{shipped}
use Rattle.kinds.specs.Refusal.{refusal_answer}
use Rattle.kinds.specs.declared.input.Input.{Input}
use Rattle.kinds.specs.declared.out.Out.{Out}
use Rattle.kinds.specs.declared.out.Out.TheVariants.{Hang, Answer, Call}
use Rattle.kinds.specs.declared.refusal.Refusal.{Refusal}
use Rattle.kinds.specs.declared.refusal.Refusal.TheVariants.{NumbersSpent, UnknownCall, UnknownRun}
use Rattle.run_model.specs.Machine.{Stepped, step, refusal}
use Rattle.run_model.specs.State.{State, empty, live}
use Rattle.replay_core.specs.Line.{read_line}
use Rattle.replay_core.specs.declared.form.Form.{Form}
use Rattle.replay_core.specs.declared.form.Form.TheVariants.{Full, Brief}
use Rattle.replay_core.specs.declared.line.Line.{Line}
use Rattle.replay_core.specs.declared.line.Line.TheVariants as line
use Rattle.replay_core.specs.Pieces.{all_lines, lines_of, text_of_line}
use Rattle.requests.specs.declared.requested.Requested.TheVariants as requested

-- how a script ends
pub data Ending : Type 0 where
  -- all of its lines were run
  Finished : Ending
  -- this line, counted from 1, is outside the grammar
  Outside : (line : ℕ) → Ending
  -- the machine takes no further input
  Spent : Ending

-- what a script prints, and how it ends
pub record Transcript : Type 0 where
  pub text : List ℕ
  pub ending : Ending

-- where a script's run stands between two lines
pub record Progress : Type 0 where
  pub state : State
  -- how calls are printed
  pub form : Form
  -- the lines read so far
  pub lines : ℕ
  -- the bytes that the script may still have
  pub room : ℕ

-- the bytes of a whole script
abbrev pub script_limit : ℕ
script_limit = 268435456

-- the bytes of a line, without the byte that ends it
abbrev pub line_limit : ℕ
line_limit = 5242880

abbrev pub start : Form → Progress
start form = record { state = empty shipped; form = form; lines = 0; room = script_limit }

-- a run that goes on, or one that has ended, each with what was printed
pub data Outcome : Type 0 where
  Goes : (progress : Progress) (text : List ℕ) → Outcome
  Stops : (ending : Ending) (text : List ℕ) → Outcome

-- ## Printed lines

-- a body behind its space, where there is one
abbrev pub body_text : List ℕ → List ℕ
body_text [] = []
body_text (byte ∷ bytes) = 32 ∷ byte ∷ bytes

-- the port of a URL, where it isn't the scheme's own
abbrev pub port_text : ℕ → List ℕ
port_text port = if port == 80 then [] else codes ":" ++ decimal port

abbrev pub event_id : ℕ → List ℕ
event_id event = codes "evt-" ++ decimal event

-- parted by commas (44)
abbrev pub ids_text : List ℕ → List ℕ
ids_text events = join_with_byte 44 (map event_id events)

-- the run that a call is of, and its events
abbrev pub brief_run : ℕ → ℕ → ℕ → List ℕ → List ℕ
brief_run run attempt steps events =
    codes " run " ++ decimal run ++ codes " attempt " ++ decimal attempt ++ codes " steps "
    ++ decimal steps
    ++ codes " events " ++ ids_text events ++ codes "\n"

-- a call by what it is of
abbrev pub brief_call : ℕ → List ℕ → List ℕ → ℕ → ℕ → ℕ → List ℕ → List ℕ
brief_call call function target run attempt steps events =
    codes "call " ++ decimal call ++ codes " " ++ function ++ codes " " ++ target
    ++ brief_run run attempt steps events

-- a call with its request
abbrev pub full_call : ℕ → List ℕ → ℕ → List ℕ → List ℕ → List ℕ
full_call call host port path body =
    codes "call " ++ decimal call ++ codes " POST http://" ++ host ++ port_text port ++ path ++ codes " "
    ++ body
    ++ codes "\n"

abbrev pub printed : Form → Out → List ℕ
printed form (Hang call) = codes "hang " ++ decimal call ++ codes "\n"
printed form (Answer status body) = codes "answer " ++ decimal status ++ body_text body ++ codes "\n"
printed Full (Call call function target run attempt steps events host port path body) =
    full_call call host port path body
printed Brief (Call call function target run attempt steps events host port path body) =
    brief_call call function target run attempt steps events

abbrev pub end_line : State → List ℕ
end_line s =
    codes "end inputs=" ++ decimal s.inputs
    ++ codes " live=" ++ decimal (live s)
    ++ codes " moment=" ++ decimal s.moment
    ++ codes "\n"

-- ## Lines in order

-- a line of so many bytes is counted before it is run
abbrev pub counted : Progress → ℕ → Progress
counted progress size = record progress { lines = progress.lines + 1; room = progress.room - size }

abbrev pub taken : Progress → Stepped → Outcome
taken progress stepped =
    Goes (record progress { state = stepped.state }) (flat_map (printed progress.form) stepped.outs)

-- A refused input changes nothing. One that names a call that isn't open or an unknown run is outside the grammar.
abbrev pub refused : Progress → Refusal → Outcome
refused progress (NumbersSpent greatest) = Stops Spent []
refused progress (UnknownCall call) = Stops (Outside progress.lines) []
refused progress (UnknownRun run) = Stops (Outside progress.lines) []
refused progress cause = Goes progress (printed progress.form (refusal_answer cause))

abbrev pub on_check : Progress → Input → Option Refusal → Outcome
on_check progress input None = taken progress (step progress.state input)
on_check progress input (Some cause) = refused progress cause

abbrev pub on_input : Progress → Input → Outcome
on_input progress input = on_check progress input (refusal progress.state input)

-- what a counted line does
abbrev pub says : Progress → Option Line → Outcome
says progress None = Stops (Outside progress.lines) []
says progress (Some line.Passed) = Goes progress []
says progress (Some (line.Asks (requested.Input input))) = on_input progress input
says progress (Some (line.Asks (requested.Answered out))) = Goes progress (printed progress.form out)

-- what a line says, given with the byte that ends it
abbrev pub line_read : List ℕ → Option Line
line_read line = read_line (text_of_line line)

-- a line that passes what is left of a script, or the limit of a line
abbrev pub passes_limits : ℕ → List ℕ → Bool
passes_limits room line = nat_lt room (length line) || nat_lt line_limit (length (text_of_line line))

-- a line with the byte that ends it; where it passes a limit, it is outside the grammar
unfoldable pub on_line : Progress → List ℕ → Outcome
on_line progress line =
    if passes_limits progress.room line then Stops (Outside (progress.lines + 1)) []
    else says (counted progress (length line)) (line_read line)

-- text was printed before
abbrev pub after_text : List ℕ → Outcome → Outcome
after_text front (Goes progress text) = Goes progress (front ++ text)
after_text front (Stops ending text) = Stops ending (front ++ text)

-- a run that goes on does this next
abbrev pub and_then : Outcome → (Progress → Outcome) → Outcome
and_then (Goes progress text) next = after_text text (next progress)
and_then (Stops ending text) next = Stops ending text

unfoldable pub on_lines : Progress → List (List ℕ) → Outcome
on_lines progress [] = Goes progress []
on_lines progress (line ∷ lines) = and_then (on_line progress line) (λ next. on_lines next lines)

-- what a run printed
abbrev pub text_of : Outcome → List ℕ
text_of (Goes progress text) = text
text_of (Stops ending text) = text

abbrev pub finish : Outcome → Transcript
finish (Goes progress text) = record { text = text ++ end_line progress.state; ending = Finished }
finish (Stops ending text) = record { text = text; ending = ending }

-- what a script prints from a blank start, and how it ends
abbrev pub transcript : Form → List ℕ → Transcript
transcript form bytes = finish (on_lines (start form) (all_lines (lines_of bytes)))

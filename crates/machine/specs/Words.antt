-- The words of the documented machine, of a run that may not be there: then nothing happens.
use Rattle.std.specs.Prelude.{ℕ, ◌+◌, ◌&&◌, ◌++◌, not, Bool, true, false, List, [], map, filter, Option, Some, None}
use Rattle.event_texts.specs.Texts.{text_or_none}
use Rattle.functions.specs.declared.entry.FunctionEntry.{FunctionEntry}
use Rattle.kinds.specs.Seen.{note_seen}
use Rattle.kinds.specs.declared.event.Event.{Event}
use Rattle.kinds.specs.declared.event.EventIn.{EventIn}
use Rattle.kinds.specs.declared.out.Out.{Out}
use Rattle.kinds.specs.declared.store.Item.{Item}
use Rattle.kinds.specs.declared.store.Parent.{Parent}
use Rattle.kinds.specs.declared.store.RunStatus.{RunStatus}
use Rattle.lists.specs.Entries.{in_order}
use Rattle.runs.specs.Ended.{ended_names, ended_number}
use Rattle.runs.specs.Runs.{names_event, run_number}
use Rattle.step_ids.specs.Run.{run_text}
use Rattle.run_model.specs.Ends.{cancel_run, complete_run, end_run, fail_run, failed_content, failed_name, first_text, function_id, is_of_failure, own_event, raise}
use Rattle.run_model.specs.Making.{has_discovery, make_run, queue_new}
use Rattle.run_model.specs.Next.{View, has_results}
use Rattle.run_model.specs.Recording as recording
use Rattle.run_model.specs.Replies.{retries_of}
use Rattle.run_model.specs.Requests.{Answering, repeats}
use Rattle.run_model.specs.Settle.{Settled, call_found, issue, issue_found, item_at}
use Rattle.run_model.specs.State.{State, Run, Issue, function_at, last_ended, live_run, text_of}
use Rattle.machine.specs.declared.recording.Discovery.{Discovery}
use Rattle.machine.specs.declared.recording.Discovery.TheVariants.{AtOnce, AtTheEnd}
use Rattle.machine.specs.declared.views.OpenCall.{OpenCall}
use Rattle.machine.specs.declared.views.RunView.{RunView}

abbrev pub when_of : Discovery → recording.Discovery
when_of AtOnce = recording.at_once
when_of AtTheEnd = recording.at_the_end

-- ## Making

abbrev pub queue_at : Option Run → List ℕ → State → State
queue_at None target s = s
queue_at (Some r) target s = queue_new r target s

-- the run of this number wants to find out what comes next, and nothing does
abbrev pub wants_at : ℕ → Option Run → State → Bool
wants_at run None s = false
wants_at run (Some r) s = r.wanted && not (has_discovery s run)

-- a run of a function's version
abbrev pub make_at : Option FunctionEntry → List ℕ → Option Parent → State → State
make_at None events parent s = s
make_at (Some f) events parent s = make_run f events parent s

-- ## Ends

abbrev pub end_at : Option Run → RunStatus → State → State
end_at None status s = s
end_at (Some r) status s = end_run r status s

abbrev pub parent_at : Option Run → Option Parent
parent_at None = None
parent_at (Some r) = r.parent

abbrev pub complete_at : Option Run → List ℕ → State → State
complete_at None output s = s
complete_at (Some r) output s = complete_run r output s

abbrev pub fail_at : Option Run → List ℕ → State → State
fail_at None error s = s
fail_at (Some r) error s = fail_run r error s

abbrev pub cancel_at : recording.Discovery → Option Run → State → State
cancel_at discovery None s = s
cancel_at discovery (Some r) s = cancel_run discovery r s

-- the content of the event of a run that fails; none for a run of such an event
abbrev pub content_by : Bool → List ℕ → Option (List ℕ)
content_by true content = None
content_by false content = Some content

abbrev pub content_at : Option Run → List ℕ → State → Option (List ℕ)
content_at None error s = None
content_at (Some r) error s =
    content_by (is_of_failure (first_text r s))
    (failed_content (function_id r s) (run_text r.moment r.number) error (first_text r s))

-- the event of a failed run
abbrev pub raise_by : Option (List ℕ) → State → State
raise_by None s = s
raise_by (Some content) s = raise (own_event failed_name content None None) s

-- ## Replies

abbrev pub retries_at : Option Run → State → ℕ
retries_at None s = 0
retries_at (Some r) s = retries_of r s

abbrev pub item_in : Option Issue → Option Item
item_in None = None
item_in (Some i) = Some i.item

-- ## Events

-- an event of a state by its number
abbrev pub event_at : ℕ → List ℕ → State → Event
event_at number name s = record { number = number; name = name; text = text_or_none (text_of number s) }

abbrev pub answering : State → Answering
answering s = record { state = s; numbers = [] }

abbrev pub given_number : Option ℕ → ℕ → ℕ
given_number (Some number) next = number
given_number None next = next

-- the id of the event of a number, where it has one, is remembered
abbrev pub note_id : Option (List ℕ) → ℕ → State → State
note_id None number s = s
note_id (Some id) number s =
    record s { seen = note_seen (record { id = id; number = number; moment = s.moment }) s.seen }

-- what an event is answered with
abbrev pub number_for : EventIn → State → ℕ
number_for event s = given_number (repeats event s) (s.events + 1)

-- ## Calls that are made

abbrev pub with_outs : List Out → State → Settled
with_outs outs s = record { state = s; outs = outs }

abbrev pub issue_at : Option Item → State → State
issue_at None s = s
issue_at (Some i) s = issue i s

-- the item of this number is issued
abbrev pub issued_at : ℕ → List Out → State → Settled
issued_at number outs s = issue_found (item_at number s) (with_outs outs s)

abbrev pub said_of : Option Run → Item → ℕ → State → List Out
said_of None i call s = []
said_of (Some r) i call s = call_found (function_at r.version s) r i call s

abbrev pub said_at : Option Item → ℕ → State → List Out
said_at None call s = []
said_at (Some i) call s = said_of (live_run i.run s) i call s

-- ## Views

abbrev pub view_of : RunView → View
view_of v = record {
  number = v.number;
  moment = v.moment;
  function = v.function.now;
  status = v.status;
  events = v.events.now;
}

abbrev pub open_call : State → Issue → OpenCall
open_call s i = record { call = i.call; has_results = has_results s i }

-- the runs of an event that can be viewed, in order of number
abbrev pub runs_of : ℕ → State → List ℕ
runs_of event s = in_order
    (map run_number (filter (names_event event) s.live)
    ++ map ended_number (filter (ended_names event) (last_ended s)))

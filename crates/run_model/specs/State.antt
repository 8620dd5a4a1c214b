-- The state of the documented machine with runs: plain lists in order of making, and the counts of what was
-- named.
use Rattle.std.specs.Prelude.{ℕ, ◌+◌, ◌==◌, Bool, ◌||◌, List, [], ◌++◌, map, filter, find, length, min, max, Option}
use Rattle.std.specs.List.{list_any}
use Rattle.kinds.specs.Moments.{last_moment}
use Rattle.kinds.specs.Cells.{later_starts}
use Rattle.kinds.specs.Seen.{remembered, weight_of}
use Rattle.kinds.specs.Windows as windows
use Rattle.kinds.specs.declared.cell.IssueEntry.{IssueEntry}
use Rattle.kinds.specs.declared.cell.StartEntry.{StartEntry}
use Rattle.kinds.specs.declared.limits.Limits.{Limits}
use Rattle.kinds.specs.declared.seen.SeenEntry.{SeenEntry}
use Rattle.kinds.specs.declared.store.Item.{Item}
use Rattle.kinds.specs.declared.store.Rule.{Rule}
use Rattle.kinds.specs.declared.window.Window.{Window}
use Rattle.functions.specs.declared.entry.FunctionEntry.{FunctionEntry}
pub use Rattle.admission.specs.Issues.{has_open_call, in_cells}
pub use Rattle.admission.specs.declared.issue.Issue.{Issue}
pub use Rattle.awaited.specs.Entries.{Waiting}
pub use Rattle.awaited.specs.declared.entries.Invocation.{Invocation}
pub use Rattle.awaited.specs.declared.entries.Sleep.{Sleep}
pub use Rattle.event_texts.specs.Texts.{bytes_of_texts}
pub use Rattle.event_texts.specs.declared.texts.EventText.{EventText}
use Rattle.runs.specs.Ended as ended
pub use Rattle.runs.specs.Ended.{last_or}
pub use Rattle.runs.specs.Runs.{Run, bytes_of_results, bytes_of_steps, is_in}
pub use Rattle.runs.specs.declared.ended.EndedRun.{EndedRun}

-- ## The state

pub record State : Type 0 where
  -- how much is kept before new work is turned away
  pub limits : Limits
  -- milliseconds since 1970; it never goes back
  pub moment : ℕ
  -- the inputs that were taken, and the numbers that were given to events, runs, calls, entries and versions
  pub inputs : ℕ
  pub events : ℕ
  pub runs : ℕ
  pub calls : ℕ
  pub entries : ℕ
  pub versions : ℕ
  -- the functions that are current, in order of version
  pub functions : List FunctionEntry
  -- those that no longer are and that a run or a window names, in order of version
  pub retired : List FunctionEntry
  -- the ids that still tell a repeated event
  pub seen : List SeenEntry
  -- the events that a run or a window names, in order of number
  pub texts : List EventText
  -- the runs that have not ended, and those that have and whose calls are open still, each in order of number
  pub live : List Run
  pub closing : List Run
  -- the calls that are to be made, in order of number, and those that are open
  pub items : List Item
  pub issues : List Issue
  pub sleeps : List Sleep
  pub waits : List Waiting
  pub invocations : List Invocation
  pub rules : List Rule
  pub windows : List Window
  -- the throttles that tell anything of later starts, in order of cell
  pub starts : List StartEntry
  -- the last thousand that ended and those whose calls are open still, in order of ending
  pub ended : List EndedRun

-- the state before the first input
abbrev pub empty : Limits → State
empty limits = record {
  limits = limits;
  moment = 0;
  inputs = 0;
  events = 0;
  runs = 0;
  calls = 0;
  entries = 0;
  versions = 0;
  functions = [];
  retired = [];
  seen = [];
  texts = [];
  live = [];
  closing = [];
  items = [];
  issues = [];
  sleeps = [];
  waits = [];
  invocations = [];
  rules = [];
  windows = [];
  starts = [];
  ended = [];
}

-- the moment of an input with this clock reading
abbrev pub moment_at : ℕ → State → ℕ
moment_at reading s = max s.moment (min reading last_moment)

-- time goes on to a moment: ids run out, and throttles that tell nothing of later starts
abbrev pub at_moment : ℕ → State → State
at_moment moment s =
    record s { moment = moment; seen = remembered moment s.seen; starts = later_starts moment s.starts }

-- ## What is looked up

-- what an event goes on as
abbrev pub text_of : ℕ → State → Option EventText
text_of number s = find (λ (e : EventText). number == e.number) s.texts

abbrev pub live_run : ℕ → State → Option Run
live_run number s = find (λ (r : Run). number == r.number) s.live

abbrev pub open_issue : ℕ → State → Option Issue
open_issue call s = find (λ (i : Issue). call == i.call) s.issues

-- a function by its version, current or not
abbrev pub function_at : ℕ → State → Option FunctionEntry
function_at version s = find (λ (f : FunctionEntry). version == f.version) (s.functions ++ s.retired)

-- the open calls as cells count them
abbrev pub issue_entries : State → List IssueEntry
issue_entries s = map in_cells s.issues

-- ## How much there is

-- the greatest count of names and inputs
abbrev pub greatest : State → ℕ
greatest s = max (max (max s.inputs s.events) (max s.runs s.calls)) (max s.entries s.versions)

-- the runs that have not ended
abbrev pub live : State → ℕ
live s = length s.live

-- a run that has not ended, or a window, names the event
abbrev pub is_used : State → EventText → Bool
is_used s e =
    list_any (λ (r : Run). is_in e.number r.events) s.live
    || list_any (λ w. is_in e.number (windows.events_of w)) s.windows

-- the bytes that are kept: the events that live runs and windows name, the results of live runs, and
-- remembered ids
abbrev pub kept : State → ℕ
kept s = bytes_of_texts (filter (is_used s) s.texts) + bytes_of_results s.live + weight_of s.seen

-- the runs that ended last, a thousand at most
abbrev pub last_ended : State → List EndedRun
last_ended s = ended.last_ended s.ended

-- ## What is kept from one input to the next

-- a run that is there, or a window, names the event
abbrev pub is_named : State → EventText → Bool
is_named s e = is_used s e || list_any (λ (r : Run). is_in e.number r.events) s.closing

-- a run that is there, or a window, names the function version
abbrev pub is_version_named : State → FunctionEntry → Bool
is_version_named s f =
    list_any (λ (r : Run). f.version == r.version) s.live
    || list_any (λ (r : Run). f.version == r.version) s.closing
    || list_any (λ w. f.version == windows.version_of w) s.windows

-- an ended run's calls have ended too: what names nothing any more goes
abbrev pub without_closed : State → State
without_closed s = record s {
  closing = filter (λ (r : Run). has_open_call s.issues r.number) s.closing;
  ended = last_or (λ (e : EndedRun). has_open_call s.issues e.run) 1000 s.ended;
}

abbrev pub without_unnamed : State → State
without_unnamed s = record s {
  texts = filter (is_named s) s.texts;
  retired = filter (is_version_named s) s.retired;
}

-- what stays at the end of a step
unfoldable pub tidied : State → State
tidied s = without_unnamed (without_closed s)

-- Calls are made while an item may be issued, the least by score and number first.
use Rattle.std.specs.Prelude.{ℕ, zero, suc, ◌+◌, List, [], ◌∷◌, ◌++◌, map, find, length, Option, Some, None}
use Rattle.kinds.specs.Queue.{admits, has_number, least_admissible, without_number}
use Rattle.kinds.specs.declared.function.Function.{Function}
use Rattle.kinds.specs.declared.out.Out.{Out}
use Rattle.kinds.specs.declared.out.Out.TheVariants as out
use Rattle.kinds.specs.declared.store.Item.{Item}
use Rattle.functions.specs.declared.entry.FunctionEntry.{FunctionEntry}
use Rattle.sdk_call.specs.Body.{call_body, call_path}
use Rattle.step_ids.specs.Run.{run_text}
pub use Rattle.admission.specs.Admission.{started_at}
pub use Rattle.admission.specs.Issues.{longest_call}
pub use Rattle.runs.specs.Changes.{called}
use Rattle.admission.specs.Issues as issues
use Rattle.run_model.specs.Making.{text_or_none}
use Rattle.run_model.specs.Recording.{change_run}
use Rattle.run_model.specs.State.{State, Run, Issue, function_at, issue_entries, live_run, text_of}

-- ## What is said

abbrev pub texts_of : Run → State → List (List ℕ)
texts_of r s = map (λ n. text_or_none (text_of n s)) r.events

abbrev pub body_of : Run → Item → State → List ℕ
body_of r i s =
    call_body (run_text r.moment r.number) i.attempt r.planned (texts_of r s) r.steps.recorded

abbrev pub call_with : Function → Run → Item → ℕ → State → Out
call_with f r i call s =
    out.Call call f.id i.target r.number i.attempt (length r.steps.recorded) r.events f.host f.port
    (call_path f.path f.query f.id i.target) (body_of r i s)

abbrev pub call_found : Option FunctionEntry → Run → Item → ℕ → State → List Out
call_found None r i call s = []
call_found (Some f) r i call s = call_with f.function r i call s ∷ []

-- ## A call is made

-- an item whose call is made, and no start is needed to make it again
abbrev pub issued : Item → State → Issue
issued i s = issues.issued i (s.calls + 1) (s.entries + 1) s.moment

abbrev pub issue : Item → State → State
issue i s = change_run i.run (called i.target) (record s {
  calls = s.calls + 1;
  entries = s.entries + 1;
  items = without_number i.number s.items;
  issues = s.issues ++ issued i s ∷ [];
  starts = started_at i.start s.moment s.starts;
})

pub record Settled : Type 0 where
  pub state : State
  pub outs : List Out

abbrev pub issue_of : Option Run → Item → Settled → Settled
issue_of None i settled = record settled { state = issue i settled.state }
issue_of (Some r) i settled = record {
  state = issue i settled.state;
  outs = settled.outs
      ++ call_found (function_at r.version settled.state) r i (settled.state.calls + 1) settled.state;
}

abbrev pub issue_found : Option Item → Settled → Settled
issue_found None settled = settled
issue_found (Some i) settled = issue_of (live_run i.run settled.state) i settled

-- the item that is issued next
abbrev pub next_issued : State → Option ℕ
next_issued s = least_admissible (admits (issue_entries s) s.starts s.moment) s.moment s.items

abbrev pub item_at : ℕ → State → Option Item
item_at number s = find (has_number number) s.items

-- each takes an item from the queue
unfoldable pub settle_by : ℕ → Settled → Settled
settle_by zero settled = settled
settle_by (suc n) settled = elim (next_issued settled.state) as (λ _. Settled)
    [ None ↦ settled | Some number ↦ settle_by n (issue_found (item_at number settled.state) settled) ]

abbrev pub settle : Settled → Settled
settle settled = settle_by (length settled.state.items) settled

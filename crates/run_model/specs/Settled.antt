-- What a call sends, against what the state has of its run, and that no recorded step is called.
use Rattle.std.specs.Prelude.{ℕ, ◌≡◌, ◌==◌, false, List, find, length, IfSome, IsSomeAnd, bytes_eq}
use Rattle.std.specs.List.{AllByRecursion}
use Rattle.kinds.specs.RunSteps.{is_recorded}
use Rattle.kinds.specs.declared.out.Out.{Out}
use Rattle.kinds.specs.declared.out.Out.TheVariants as out
use Rattle.kinds.specs.declared.store.Item.{Item}
use Rattle.sdk_call.specs.Body.{call_body}
use Rattle.step_ids.specs.Run.{run_text}
use Rattle.run_model.specs.Making.{step_target}
use Rattle.run_model.specs.Settle.{texts_of}
use Rattle.run_model.specs.State.{State, Run, live_run}

-- How many of the run's steps are recorded, the numbers of its events, and a body with the texts of these
-- events and all recorded steps, in order of recording and as they were recorded.
pub record SendsRun (s : State) (attempt steps : ℕ) (events body : List ℕ) (r : Run) : Type 0 where
  pub counted : steps ≡ length r.steps.recorded
  pub named : events ≡ r.events
  pub sent :
      body
      ≡ call_body (run_text r.moment r.number) attempt r.planned (texts_of r s) r.steps.recorded

-- a call is of a run that has not ended, and sends all that is recorded of it
abbrev pub SendsRecorded : State → Out → Type 0
SendsRecorded s (out.Call call function target run attempt steps events host port path body) =
    IsSomeAnd (live_run run s) (SendsRun s attempt steps events body)
SendsRecorded s (out.Answer status body) = Unit {0}
SendsRecorded s (out.Hang call) = Unit {0}

-- Where a run has not ended, it has no result for a step.
abbrev pub IsNewStep : List Run → ℕ → List ℕ → Type 0
IsNewStep live run step =
    IfSome (find (λ (r : Run). run == r.number) live) (λ r. is_recorded step r.steps ≡ false)

-- an item finds out what comes next, or its step isn't recorded
abbrev pub IsItemNew : List Run → Item → Type 0
IsItemNew live i = bytes_eq i.target step_target ≡ false → IsNewStep live i.run i.target

abbrev pub AreItemsNew : State → Type 0
AreItemsNew s = AllByRecursion (IsItemNew s.live) s.items

-- a call finds out what comes next, or is of a step that isn't recorded
abbrev pub CallsNew : State → Out → Type 0
CallsNew s (out.Call call function target run attempt steps events host port path body) =
    bytes_eq target step_target ≡ false → IsNewStep s.live run target
CallsNew s (out.Answer status body) = Unit {0}
CallsNew s (out.Hang call) = Unit {0}

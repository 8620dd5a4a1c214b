-- A property of the runs that have not ended and of the count of runs: where the three ways in which they change
-- keep it, each step does.
use Rattle.std.proofs.Common.{◌≡◌, ℕ, ◌+◌, ◌==◌, not, List, [], ◌∷◌, ◌++◌, filter, Option, Some, None, refl, sym, append-nil, arith}
use Rattle.kinds.specs.Inputs.{reading}
use Rattle.kinds.specs.RunSteps.{pend_step}
use Rattle.kinds.specs.Windows as windows
use Rattle.kinds.specs.declared.event.EventIn.{EventIn}
use Rattle.kinds.specs.declared.input.Input.{Input}
use Rattle.kinds.specs.declared.store.Item.{Item}
use Rattle.kinds.specs.declared.store.Pending.{Pending}
use Rattle.kinds.specs.declared.store.Pending.TheVariants as pending
use Rattle.kinds.specs.declared.store.StepEntry.{StepEntry}
use Rattle.run_model.specs.Advance.{without_window}
use Rattle.run_model.specs.Events.{add_event, event_with}
use Rattle.run_model.specs.Laws.{Follows}
use Rattle.run_model.specs.Machine.{state_after, step}
use Rattle.run_model.specs.Recording.{changed, record_in}
use Rattle.run_model.specs.Replies.{want, with_plan, with_steps}
use Rattle.run_model.specs.Requests.{remember}
use Rattle.run_model.specs.Settle.{called}
use Rattle.run_model.specs.State.{State, Run, moment_at, tidied}
use Rattle.run_model.proofs.Kept.{Keeps, freely, run_from, window_after, with_offer}
use Rattle.run_model.proofs.KeptReplies.{KeepsCalls, dropping}
use Rattle.run_model.proofs.KeptSteps.{KeepsSteps, kept-step}

-- a run keeps its number, and what it recorded
abbrev pub Grows : (Run → Run) → Type 0
Grows f = (r : Run) → ((f r).number ≡ r.number) × Follows r.steps.recorded (f r).steps.recorded

pub record Stays (K : ℕ → List Run → Type 0) : Type 0 where
  pub changes : (count number : ℕ) (f : Run → Run) (rs : List Run) → Grows f → K count rs
      → K count (changed number f rs)
  pub adds : (count : ℕ) (r : Run) (rs : List Run) → r.number ≡ count + 1 → K count rs
      → K (count + 1) (rs ++ r ∷ [])
  pub ends : (count number : ℕ) (rs : List Run) → K count rs
      → K count (filter (λ (r : Run). not (number == r.number)) rs)

abbrev pub Holds : (ℕ → List Run → Type 0) → State → Type 0
Holds K s = K s.runs s.live

-- ## Changes of one run

-- what was recorded is the same
pub follows-same : (es : List StepEntry) → Follows es es
follows-same es = ([], sym (append-nil es))

grows-record_in : (name result : List ℕ) → Grows (record_in name result)
grows-record_in name result r = (refl, (_, refl))

grows-want : Grows want
grows-want r = (refl, follows-same r.steps.recorded)

grows-called : (i : Item) → Grows (called i.target)
grows-called i r = (refl, follows-same r.steps.recorded)

grows-with_plan : (name : List ℕ) → Grows (with_plan name)
grows-with_plan name r = (refl, follows-same r.steps.recorded)

abbrev pends : Pending → List ℕ → Run → Run
pends kind name r = with_steps (pend_step name kind r.steps) r

grows-pends : (kind : Pending) (name : List ℕ) → Grows (pends kind name)
grows-pends kind name r = (refl, follows-same r.steps.recorded)

-- ## The changes

module _ (K : ℕ → List Run → Type 0) (stays : Stays K) where
  holds-accepted : (event : EventIn) (id : Option (List ℕ)) (s : State) → Holds K s
      → Holds K (add_event (event_with event s) (remember id s))
  holds-accepted event None s h = h
  holds-accepted event (Some id) s h = h

  pub keeps-runs : Keeps (Holds K)
  keeps-runs = freely (Holds K) (record {
    accepts = λ event id s new h. holds-accepted event id s h;
    starts = λ f event parent s there given h.
        stays.adds s.runs (run_from f (event ∷ []) parent s) s.live refl h;
    fills = λ f r value event s may full h. stays.adds s.runs
        (run_from f (windows.events_of (window_after f r value event s)) None (with_offer f r value event s))
        s.live refl h;
    fires = λ f w s there stands h.
        stays.adds s.runs (run_from f (windows.events_of w) None (without_window (windows.number_of w) s))
        s.live refl h;
    joins = λ f r value event s may full h. h;
    windows_go = λ number s h. h;
    rules = λ r event c s there e h. h;
    finds_out = λ r s there h. h;
    wants = λ r s live h. stays.changes s.runs r.number want s.live grows-want h;
    plans = λ r name s live new h.
        stays.changes s.runs r.number (with_plan name) s.live (grows-with_plan name) h;
    sleeps = λ r name t s live new h.
        stays.changes s.runs r.number (pends pending.Sleep name) s.live (grows-pends pending.Sleep name) h;
    waits = λ r name event t cond s live new h.
        stays.changes s.runs r.number (pends pending.Wait name) s.live (grows-pends pending.Wait name) h;
    pends = λ r name s live new h.
        stays.changes s.runs r.number (pends pending.Invocation name) s.live
        (grows-pends pending.Invocation name) h;
    invokes = λ r name child t s there h. h;
    ends = λ r status s live h. stays.ends s.runs r.number s.live h;
  }) (record {
    records = λ run name result s h.
        stays.changes s.runs run (record_in name result) s.live (grows-record_in name result) h;
    sleeps_go = λ test s h. h;
    waits_go = λ test s h. h;
    invocations_go = λ test s h. h;
    rules_go = λ test s h. h;
  })

  holds-tidied : (s : State) → Holds K s → Holds K (tidied s)
  unfolding tidied
  holds-tidied s h = h

  keeps-calls : KeepsCalls (λ is s. Holds K s)
  keeps-calls = dropping (λ is s. Holds K s) (record {
    runs = λ is. keeps-runs;
    closes = λ i s there h. h;
    reopens = λ s h. h;
    drops = λ i is s h. h;
    retries = λ i is a r s live new h. h;
    requeues = λ i is r s live new h. h;
  })

  keeps-steps : (bound : ℕ) → KeepsSteps bound (λ input. Unit {0}) (λ is s. Holds K s)
  keeps-steps bound = record {
    calls = keeps-calls;
    counts = λ s h. h;
    moves = λ t next s low e h. h;
    arrives = λ t s low on before h. h;
    issues = λ number i s next there h. stays.changes s.runs i.run (called i.target) s.live (grows-called i) h;
    registers = λ at app s asked h. h;
    tidies = λ s h. holds-tidied s h;
  }

-- ## Steps

module _ (K : ℕ → List Run → Type 0) (stays : Stays K) where
  pub stays-step : (s : State) (input : Input) → Holds K s → Holds K (step s input).state
  stays-step s input h =
      let bound : ℕ = moment_at (reading input) s in
      kept-step bound (λ input. Unit {0}) (λ is s. Holds K s) (keeps-steps K stays bound) s input (omega arith)
      tt h

  pub stays-after : (inputs : List Input) (s : State) → Holds K s → Holds K (state_after s inputs)
  stays-after [] s h = h
  stays-after (input ∷ inputs) s h = stays-after inputs (step s input).state (stays-step s input h)

-- The current functions and the count of versions change by registrations alone.
use Rattle.std.proofs.Common.{ℕ, ◌≤◌, List, Option, Some, None, refl, arith}
use Rattle.kinds.specs.Inputs.{reading}
use Rattle.kinds.specs.declared.event.EventIn.{EventIn}
use Rattle.kinds.specs.declared.input.Input.{Input}
use Rattle.functions.specs.declared.entry.FunctionEntry.{FunctionEntry}
use Rattle.run_model.specs.Advance.{advance}
use Rattle.run_model.specs.Events.{add_event, event_with}
use Rattle.run_model.specs.Laws.{HasFunctions, IsNoRegistration}
use Rattle.run_model.specs.Machine.{step}
use Rattle.run_model.specs.Requests.{remember}
use Rattle.run_model.specs.State.{State, moment_at, tidied}
use Rattle.run_model.proofs.Kept.{Keeps, freely}
use Rattle.run_model.proofs.KeptReplies.{KeepsCalls, dropping}
use Rattle.run_model.proofs.KeptSteps.{KeepsSteps, kept-advance, kept-step}

module _ (versions : ℕ) (fs : List FunctionEntry) where
  functions-accepted : (event : EventIn) (id : Option (List ℕ)) (s : State) → HasFunctions versions fs s
      → HasFunctions versions fs (add_event (event_with event s) (remember id s))
  functions-accepted event None s h = h
  functions-accepted event (Some id) s h = h

  keeps-functions : Keeps (HasFunctions versions fs)
  keeps-functions = freely (HasFunctions versions fs) (record {
    accepts = λ event id s new h. functions-accepted event id s h;
    starts = λ f event parent s there given h. h;
    fills = λ f r value event s may full h. h;
    fires = λ f w s there stands h. h;
    joins = λ f r value event s may full h. h;
    windows_go = λ number s h. h;
    rules = λ r event c s there e h. h;
    finds_out = λ r s there h. h;
    wants = λ r s live h. h;
    plans = λ r name s live new h. h;
    sleeps = λ r name t s live new h. h;
    waits = λ r name event t cond s live new h. h;
    pends = λ r name s live new h. h;
    invokes = λ r name child t s there h. h;
    ends = λ r status s live h. h;
  }) (record {
    records = λ run name result s h. h;
    sleeps_go = λ test s h. h;
    waits_go = λ test s h. h;
    invocations_go = λ test s h. h;
    rules_go = λ test s h. h;
  })

  functions-calls : KeepsCalls (λ is s. HasFunctions versions fs s)
  functions-calls = dropping (λ is s. HasFunctions versions fs s) (record {
    runs = λ is. keeps-functions;
    closes = λ i s there h. h;
    reopens = λ s h. h;
    drops = λ i is s h. h;
    retries = λ i is a r s live new h. h;
    requeues = λ i is r s live new h. h;
  })

  functions-tidied : (s : State) → HasFunctions versions fs s → HasFunctions versions fs (tidied s)
  unfolding tidied
  functions-tidied s h = h

  functions-steps : (bound : ℕ) → KeepsSteps bound IsNoRegistration (λ is s. HasFunctions versions fs s)
  functions-steps bound = record {
    calls = functions-calls;
    counts = λ s h. h;
    moves = λ t next s low e h. h;
    arrives = λ t s low on before h. h;
    issues = λ number i s next there h. h;
    registers = λ at app s none h. absurd none;
    tidies = functions-tidied;
  }

pub functions-advance : (t : ℕ) (s : State) → s.moment ≤ t → HasFunctions s.versions s.functions (advance t s).state
functions-advance t s on =
    kept-advance t IsNoRegistration (λ is u. HasFunctions s.versions s.functions u)
    (functions-steps s.versions s.functions t) t s (omega arith) on (refl, refl)

pub functions-step : (s : State) (input : Input) → IsNoRegistration input
    → HasFunctions s.versions s.functions (step s input).state
functions-step s input none =
    let bound : ℕ = moment_at (reading input) s in
    kept-step bound IsNoRegistration (λ is u. HasFunctions s.versions s.functions u)
    (functions-steps s.versions s.functions bound) s input (omega arith) none (refl, refl)

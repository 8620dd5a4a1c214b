-- Each word of the definition that changes a state leaves a fit one fit.
use Rattle.std.proofs.Common.{ℕ, ◌≤◌, Bool, true, false, not, List, [], ◌∷◌, Option, Some, None, length}
use Rattle.std.specs.List.{AllByRecursion}
use Rattle.kinds.specs.Moments.{last_moment}
use Rattle.kinds.specs.RunSteps.{is_pending}
use Rattle.kinds.specs.declared.event.Event.{Event}
use Rattle.kinds.specs.declared.event.EventIn.{EventIn}
use Rattle.kinds.specs.declared.input.Input.{Input}
use Rattle.kinds.specs.declared.limits.Limits.{Limits}
use Rattle.kinds.specs.declared.reply.Op.{Op}
use Rattle.kinds.specs.declared.reply.ReplyIn.{ReplyIn}
use Rattle.kinds.specs.declared.store.Item.{Item}
use Rattle.kinds.specs.declared.store.Parent.{Parent}
use Rattle.functions.specs.declared.entry.FunctionEntry.{FunctionEntry}
use Rattle.run_model.specs.Advance.{Timed, advance, fire}
use Rattle.run_model.specs.Ends.{cancel_run, complete_run, fail_run, is_invocation_of, record_at_parent, tell, tell_parent, without_invocation_of}
use Rattle.run_model.specs.Events.{end_wait, follow, offer_to_all, wake_by}
use Rattle.run_model.specs.Fit.{AreGiven, IsFit, IsInRange}
use Rattle.run_model.specs.Laws.{IsIn}
use Rattle.run_model.specs.Machine.{act, fold, reopen, state_after, step}
use Rattle.run_model.specs.Making.{discover, make_run}
use Rattle.run_model.specs.Recording.{Discovery, record_result}
use Rattle.run_model.specs.Replies.{Taking, fail_call, on_call_failed, on_reply, take_operations}
use Rattle.run_model.specs.Requests.{Answering, cancel_all, on_events}
use Rattle.run_model.specs.Settle.{Settled, settle}
use Rattle.run_model.specs.State.{State, Run, Issue, Waiting, empty, live_run}
use Rattle.run_model.proofs.FitRuns.{fit-invocations, fit-record_result}
use Rattle.run_model.proofs.FitSteps.{FitBeside, fit-changes, fit-empty, fit-step, keeps-calls, keeps-fit, keeps-steps}
use Rattle.run_model.proofs.FitWindows.{fit-started}
use Rattle.run_model.proofs.Kept.{IsFunction, IsLive, kept-discover, kept-discovered, kept-make_run, makes-of}
use Rattle.run_model.proofs.KeptEvents.{Stands, kept-cancel_all, kept-cancel_run, kept-complete_run, kept-end_wait, kept-fail_run, kept-follow, kept-offer_to_all, kept-on_events, kept-wake_by}
use Rattle.run_model.proofs.KeptReplies.{kept-fail_call, kept-on_call_failed, kept-on_reply, kept-take_operations}
use Rattle.run_model.proofs.KeptSteps.{IsThere, kept-act, kept-advance, kept-fire, kept-reopen, kept-settle_by}

-- ## Runs and events

pub fit-discover : (s : State) → IsFit s → IsFit (discover s)
fit-discover = kept-discover IsFit keeps-fit

pub fit-make_run : (f : FunctionEntry) (events : List ℕ) (parent : Option Parent) (s : State)
    → IsFunction f s → AreGiven s.events events → IsFit s → IsFit (make_run f events parent s)
fit-make_run f events parent s there given h =
    kept-make_run IsFit (makes-of IsFit fit-changes) f events parent s (fit-started f events parent s there given h)

pub fit-end_wait : (result : List ℕ) (w : Waiting) (s : State) → IsIn w s.waits → IsFit s
    → IsFit (end_wait result w s)
fit-end_wait = kept-end_wait IsFit keeps-fit

pub fit-wake_by : (d : Discovery) (event : Event) (s : State) → IsFit s → IsFit (wake_by d event s)
fit-wake_by = kept-wake_by IsFit keeps-fit

-- the functions are there, and the event has a number that was given
pub fit-offer_to_all : (fs : List FunctionEntry) (event : Event) (s : State) → Stands fs event.number s
    → IsFit s → IsFit (offer_to_all fs event s)
fit-offer_to_all = kept-offer_to_all IsFit keeps-fit

pub fit-follow : (d : Discovery) (event : Event) (s : State) → event.number ≤ s.events → IsFit s
    → IsFit (follow d event s)
fit-follow = kept-follow IsFit keeps-fit

-- ## Ends

fit-told : (d : Discovery) (p : Parent) (result : List ℕ) (waits : Bool) (s : State) → IsFit s
    → IsFit (record_at_parent d p result waits s)
fit-told d p result true s h =
    kept-discovered IsFit keeps-fit d (record_result p.run p.hash result (without_invocation_of p s))
    (fit-record_result p.run p.hash result (without_invocation_of p s)
    (fit-invocations (λ i. not (is_invocation_of p i)) s h))
fit-told d p result false s h = h

fit-tell : (d : Discovery) (p : Parent) (result : List ℕ) (found : Option Run) (s : State) → IsFit s
    → IsFit (tell d p result found s)
fit-tell d p result None s h = h
fit-tell d p result (Some r) s h = fit-told d p result (is_pending p.hash r.steps) s h

pub fit-tell_parent : (d : Discovery) (p : Option Parent) (result : List ℕ) (s : State) → IsFit s
    → IsFit (tell_parent d p result s)
fit-tell_parent d None result s h = h
fit-tell_parent d (Some p) result s h = fit-tell d p result (live_run p.run s) s h

pub fit-complete_run : (r : Run) (output : List ℕ) (s : State) → IsLive r s → IsFit s
    → IsFit (complete_run r output s)
fit-complete_run = kept-complete_run IsFit keeps-fit

pub fit-fail_run : (r : Run) (error : List ℕ) (s : State) → IsLive r s → IsFit s → IsFit (fail_run r error s)
fit-fail_run = kept-fail_run IsFit keeps-fit

pub fit-cancel_run : (d : Discovery) (r : Run) (s : State) → IsLive r s → IsFit s → IsFit (cancel_run d r s)
fit-cancel_run = kept-cancel_run IsFit keeps-fit

pub fit-cancel_all : (runs : List ℕ) (s : State) → IsFit s → IsFit (cancel_all runs s)
fit-cancel_all = kept-cancel_all IsFit keeps-fit

-- ## Requests, replies and failures of calls

pub fit-on_events : (events : List EventIn) (a : Answering) → IsFit a.state → IsFit (on_events events a).state
fit-on_events = kept-on_events IsFit keeps-fit

pub fit-take_operations : (i : Item) (no_retry : Bool) (os : List Op) (t : Taking) → IsFit t.state
    → IsFit (take_operations i no_retry os t).state
fit-take_operations = kept-take_operations IsFit keeps-fit

pub fit-on_reply : (call : ℕ) (reply : ReplyIn) (s : State) → IsFit s → IsFit (on_reply call reply s)
fit-on_reply call reply s h = (kept-on_reply FitBeside keeps-calls call reply s (h, tt)).0

pub fit-fail_call : (i : Issue) (error : List ℕ) (s : State) → IsIn i s.issues → IsFit s
    → IsFit (fail_call i error s)
fit-fail_call i error s there h = (kept-fail_call FitBeside keeps-calls i error s there (h, tt)).0

pub fit-on_call_failed : (call : ℕ) (s : State) → IsFit s → IsFit (on_call_failed call s)
fit-on_call_failed call s h = (kept-on_call_failed FitBeside keeps-calls call s (h, tt)).0

-- ## Steps

-- what is over is one of the state
pub fit-fire : (e : Timed) (s : State) → IsThere s e → IsFit s → IsFit (fire e s)
fit-fire e s there h =
    (kept-fire last_moment IsInRange FitBeside keeps-steps e s there (h, tt)).0

pub fit-advance : (t : ℕ) (s : State) → t ≤ last_moment → s.moment ≤ t → IsFit s → IsFit (advance t s).state
fit-advance t s low on h = (kept-advance last_moment IsInRange FitBeside keeps-steps t s low on (h, tt)).0

pub fit-reopen : (s : State) → IsFit s → IsFit (reopen s)
fit-reopen s h = (kept-reopen last_moment IsInRange FitBeside keeps-steps s (h, tt)).0

pub fit-settle : (a : Settled) → IsFit a.state → IsFit (settle a).state
fit-settle a h =
    (kept-settle_by last_moment IsInRange FitBeside keeps-steps (length a.state.items) a (h, tt)).0

pub fit-act : (input : Input) (s : State) → IsInRange input → IsFit s → IsFit (act input s).state
fit-act input s ranges h = (kept-act last_moment IsInRange FitBeside keeps-steps input s ranges (h, tt)).0

pub fit-state_after : (inputs : List Input) (s : State) → AllByRecursion IsInRange inputs → IsFit s
    → IsFit (state_after s inputs)
fit-state_after [] s ranges h = h
fit-state_after (input ∷ inputs) s ranges h =
    fit-state_after inputs (step s input).state ranges.1 (fit-step s input ranges.0 h)

pub fit-fold : (limits : Limits) (inputs : List Input) → AllByRecursion IsInRange inputs
    → IsFit (fold limits inputs)
fit-fold limits inputs ranges = fit-state_after inputs (empty limits) ranges (fit-empty limits)

-- What is due and what an input does change no start, count no call, and an input moves no time: only calls that are
-- made do so.
use Rattle.std.proofs.Common.{◌≡◌, ℕ, zero, suc, ◌==◌, List, [], ◌∷◌, ◌++◌, map, codes, Bool, true, false, Option, Some, None, refl}
use Rattle.kinds.specs.ErrorObject.{error_object}
use Rattle.kinds.specs.RunSteps.{is_recorded}
use Rattle.kinds.specs.Windows as windows
use Rattle.kinds.specs.declared.cell.StartEntry.{StartEntry}
use Rattle.kinds.specs.declared.event.EventIn.{EventIn}
use Rattle.kinds.specs.declared.function.App.{App}
use Rattle.kinds.specs.declared.input.Input.{Input}
use Rattle.kinds.specs.declared.input.Input.TheVariants.{Events, Register, Reply, CallFailed, Tick, Cancel, Reopened}
use Rattle.kinds.specs.declared.store.Item.{Item}
use Rattle.kinds.specs.declared.window.Window.{Window}
use Rattle.functions.specs.declared.entry.FunctionEntry.{FunctionEntry}
use Rattle.run_model.specs.Advance.{Advanced, Timed, sleep_end, wait_end, invocation_end, window_end, rule_end, call_limit, due_by, fire, fire_by, fired, make_found, timed_out, without_invocation, without_sleep, without_window}
use Rattle.run_model.specs.Events.{add_event, end_wait, event_with}
use Rattle.run_model.specs.Fit.{item_of}
use Rattle.run_model.specs.Laws.{IsIn}
use Rattle.run_model.specs.Machine.{act, requeue_all, requeue_found, with_functions}
use Rattle.run_model.specs.Making.{queue}
use Rattle.run_model.specs.Recording.{change_run, wake_step}
use Rattle.run_model.specs.Replies.{want}
use Rattle.run_model.specs.Requests.{remember}
use Rattle.run_model.specs.State.{State, Run, Issue, function_at, live_run}
use Rattle.run_model.proofs.Kept.{Keeps, freely, kept-discover}
use Rattle.run_model.proofs.KeptEvents.{kept-cancel_found, kept-on_events}
use Rattle.run_model.proofs.KeptReplies.{KeepsCalls, dropping, kept-fail_call, kept-on_call_failed, kept-on_reply}
use Rattle.run_model.proofs.KeptSteps.{IsThere, is-due}
use Rattle.run_model.proofs.Members.{in-found}

abbrev has_version : ℕ → FunctionEntry → Bool
has_version version f = version == f.version

-- ## Before calls are made

-- A property that the making of calls may change: what is due keeps it, and what an input does.
module _ (P : List Item → State → Type 0) (keeps : KeepsCalls P) where
  still-make_found : (found : Option FunctionEntry) (w : Window) (s : State)
      → function_at (windows.version_of w) s ≡ found → IsIn w s.windows → P [] s
      → P [] (make_found found w (without_window (windows.number_of w) s))
  still-make_found None w s e there h = (keeps.runs []).windows_go (windows.number_of w) s h
  still-make_found (Some f) w s e there h =
      (keeps.runs []).fires f w s
      (in-found (has_version (windows.version_of w)) (s.functions ++ s.retired) f e) there h

  still-fire : (e : Timed) (s : State) → IsThere s e → P [] s → P [] (fire e s)
  still-fire (sleep_end e) s there h =
      kept-discover (P []) (keeps.runs []) (wake_step e.run e.hash (codes "null") (without_sleep e.number s))
      ((keeps.runs []).sleep_ends e s there h)
  still-fire (wait_end e) s there h =
      kept-discover (P []) (keeps.runs []) (end_wait (codes "{\"data\":null}") e s)
      ((keeps.runs []).wait_ends e (codes "{\"data\":null}") s there h)
  still-fire (invocation_end e) s there h =
      kept-discover (P []) (keeps.runs []) (wake_step e.run e.hash timed_out (without_invocation e.number s))
      ((keeps.runs []).invocation_ends e s there h)
  still-fire (window_end w) s there h =
      still-make_found (function_at (windows.version_of w) s) w s refl there h
  still-fire (rule_end e) s there h = (keeps.runs []).rule_ends e s there h
  still-fire (call_limit i) s there h = kept-fail_call P keeps i (error_object (codes "call limit")) s there h

  still-fire_by : ((m : ℕ) (s : State) → P [] s → P [] (record s { moment = m })) → (n t : ℕ) (a : Advanced)
      → P [] a.state → P [] (fire_by n t a).state
  unfolding fire_by
  still-fire_by moves zero t a h = h
  still-fire_by moves (suc n) t a h =
      (elim (due_by t a.state) as (λ o. due_by t a.state ≡ o → P [] (elim o as (λ _. Advanced)
      [ None ↦ a | Some next ↦ fire_by n t (fired next a) ]).state) [
        | None ↦ λ e. h
        | Some next ↦ λ e. still-fire_by moves n t (fired next a)
            (still-fire next.entry (record a.state { moment = next.due }) (is-due t a.state next e).1
            (moves next.due a.state h))
      ]) refl

  still-requeue_found : (i : Item) (is : List Item) (found : Option Run) (s : State) → live_run i.run s ≡ found
      → P (i ∷ is) s → P is (requeue_found i found s)
  still-requeue_found i is None s e h = keeps.drops i is s e h
  still-requeue_found i is (Some r) s e h =
      (elim (is_recorded i.target r.steps) as (λ b. is_recorded i.target r.steps ≡ b
      → P is (elim b as (λ _. State)
      [ true ↦ change_run r.number want s | false ↦ queue (record i { due = s.moment }) s ])) [
        | true ↦ λ done. keeps.calls_off i is r s e done h
        | false ↦ λ new. keeps.requeues i is r s e new h
      ]) refl

  still-requeue_all : (is : List Issue) (s : State) → P (map item_of is) s → P [] (requeue_all is s)
  still-requeue_all [] s h = h
  still-requeue_all (i ∷ is) s h =
      still-requeue_all is (requeue_found i.item (live_run i.item.run s) s)
      (still-requeue_found i.item (map item_of is) (live_run i.item.run s) s refl h)

  still-act : ((app : App) (s : State) → P [] s → P [] (with_functions app s)) → (input : Input) (s : State)
      → P [] s → P [] (act input s).state
  unfolding act
  still-act registers (Events at events) s h =
      kept-on_events (P []) (keeps.runs []) events (record { state = s; numbers = [] }) h
  still-act registers (Register at app) s h = registers app s h
  still-act registers (Reply at call reply) s h = kept-on_reply P keeps call reply s h
  still-act registers (CallFailed at call) s h = kept-on_call_failed P keeps call s h
  still-act registers (Tick at) s h = h
  still-act registers (Cancel at run) s h = kept-cancel_found (P []) (keeps.runs []) run (live_run run s) s refl h
  still-act registers (Reopened at) s h =
      kept-discover (P []) (keeps.runs []) (requeue_all s.issues (record s { issues = [] }))
      (still-requeue_all s.issues (record s { issues = [] }) (keeps.reopens s h))

-- ## What stays

-- what a state has of starts, calls and time
pub record Clock : Type 0 where
  pub moment : ℕ
  pub calls : ℕ
  pub starts : List StartEntry

abbrev pub clock : State → Clock
clock s = record { moment = s.moment; calls = s.calls; starts = s.starts }

module _ (Q : Clock → Type 0) where
  abbrev Still : State → Type 0
  Still s = Q (clock s)

  still-accepted : (event : EventIn) (id : Option (List ℕ)) (s : State) → Still s
      → Still (add_event (event_with event s) (remember id s))
  still-accepted event None s h = h
  still-accepted event (Some id) s h = h

  keeps-still : Keeps Still
  keeps-still = freely Still (record {
    accepts = λ event id s new h. still-accepted event id s h;
    starts = λ f event parent s there given h. h;
    fills = λ f r value event s may full h. h;
    fires = λ f w s there stands h. h;
    joins = λ f r value event s may full h. h;
    windows_go = λ number s h. h;
    rules = λ r event c s there e h. h;
    finds_out = λ r s there h. h;
    wants = λ r s live h. h;
    plans = λ r name s live new h. h;
    sleeps = λ r name t s live new h. h;
    waits = λ r name event t cond s live new h. h;
    pends = λ r name s live new h. h;
    invokes = λ r name child t s there h. h;
    ends = λ r status s live h. h;
  }) (record {
    records = λ run name result s h. h;
    sleeps_go = λ test s h. h;
    waits_go = λ test s h. h;
    invocations_go = λ test s h. h;
    rules_go = λ test s h. h;
  })

  still-calls : KeepsCalls (λ is s. Still s)
  still-calls = dropping (λ is s. Still s) (record {
    runs = λ is. keeps-still;
    closes = λ i s there h. h;
    reopens = λ s h. h;
    drops = λ i is s h. h;
    retries = λ i is a r s live new h. h;
    requeues = λ i is r s live new h. h;
  })

  pub clock-acted : (input : Input) (s : State) → Q (clock s) → Q (clock (act input s).state)
  clock-acted input s h = still-act (λ is s. Still s) still-calls (λ app t k. k) input s h

-- as they were at first, whatever the moment
abbrev IsAs : ℕ → List StartEntry → Clock → Type 0
IsAs calls starts c = (c.calls ≡ calls) × (c.starts ≡ starts)

pub clock-fired : (n t : ℕ) (a : Advanced)
    → ((fire_by n t a).state.calls ≡ a.state.calls) × ((fire_by n t a).state.starts ≡ a.state.starts)
clock-fired n t a =
    let Q : Clock → Type 0 = IsAs a.state.calls a.state.starts in
    still-fire_by (λ is s. Q (clock s)) (still-calls Q) (λ m s h. h) n t a (refl, refl)

-- A property of states in the midst of a step, and the ways in which what is kept of runs, events and windows
-- changes. Each word of the definition keeps it: here those of making and of recording.
use Rattle.std.proofs.Common.{◌≡◌, ℕ, ◌+◌, ◌≤◌, ◌==◌, Bool, true, false, not, ◌&&◌, cond, List, [], ◌∷◌, ◌++◌, filter, codes, Option, Some, None, IfSome, refl, sym, subst, arith, eq-eqb, eqb-true}
use Rattle.std.specs.List.{AllByRecursion, list_any}
use Rattle.kinds.specs.RunSteps.{Noting, adds, known, full, is_pending, keep_step, note_pending, note_plan, pend_step}
use Rattle.kinds.specs.Seen.{find_seen}
use Rattle.kinds.specs.Windows as windows
use Rattle.kinds.specs.Windows.{after_event, is_full}
use Rattle.kinds.specs.declared.event.Event.{Event}
use Rattle.kinds.specs.declared.event.EventIn.{EventIn}
use Rattle.kinds.specs.declared.function.CancelEntry.{CancelEntry}
use Rattle.kinds.specs.declared.reply.Time.{Time}
use Rattle.kinds.specs.declared.store.Parent.{Parent}
use Rattle.kinds.specs.declared.store.Pending.TheVariants as pending
use Rattle.kinds.specs.declared.store.Rule.{Rule}
use Rattle.kinds.specs.declared.store.RunStatus.{RunStatus}
use Rattle.kinds.specs.declared.window.Window.{Window}
use Rattle.kinds.specs.declared.window.WindowRule.{WindowRule}
use Rattle.functions.specs.declared.entry.FunctionEntry.{FunctionEntry}
use Rattle.run_model.specs.Advance.{timed_out, without_invocation, without_rule, without_sleep, without_window}
use Rattle.run_model.specs.Ends.{end_run, first_text, is_invocation_of, without_invocation_of}
use Rattle.run_model.specs.Events.{add_event, end_wait, event_with, has_wait, window_of, window_rule_of, with_window, without_wait}
use Rattle.run_model.specs.Laws.{IsIn}
use Rattle.run_model.specs.Making.{add_rule, add_rules, discover, discover_all, discover_one, first_of, has_discovery, make_run, queue_new, run_with, step_target, text_or_none}
use Rattle.run_model.specs.Recording.{Discovery, at_once, at_the_end, change_run, discovered, is_pending_in, record_result, wake_step}
use Rattle.run_model.specs.Replies.{add_invocation, add_sleep, add_wait, invoke_found, invoked_event, pend, plan_named, want, with_steps}
use Rattle.run_model.specs.Requests.{remember}
use Rattle.run_model.specs.State.{State, Run, Sleep, Waiting, Invocation, live_run, text_of}
use Rattle.run_model.proofs.LiveRuns.{IsOf, of-changed, of-more}
use Rattle.run_model.proofs.Members.{each-in, in-last}
use Rattle.run_model.proofs.SettlingLists.{found-any, found-passes}

-- ## What the changes speak of

-- current or not
abbrev pub IsFunction : FunctionEntry → State → Type 0
IsFunction f s = IsIn f (s.functions ++ s.retired)

abbrev pub run_from : FunctionEntry → List ℕ → Option Parent → State → Run
run_from f events parent s = run_with f events (text_or_none (text_of (first_of events) s)) parent s

-- a run is there, and has no rule and no item yet
abbrev pub started : FunctionEntry → List ℕ → Option Parent → State → State
started f events parent s =
    record s { runs = s.runs + 1; live = s.live ++ run_from f events parent s ∷ [] }

-- a function's window after an event
abbrev pub window_after : FunctionEntry → WindowRule → List ℕ → ℕ → State → Window
window_after f r value event s =
    after_event r f.version value event s.moment (s.entries + 1) (window_of f.version value s)

-- an event joins a function's window, which stays where it isn't full
abbrev pub with_offer : FunctionEntry → WindowRule → List ℕ → ℕ → State → State
with_offer f r value event s =
    with_window r (window_of f.version value s) (window_after f r value event s) s

-- a name was new, and there was room for it
abbrev pub Adds : Noting → Type 0
Adds (adds steps) = Unit {0}
Adds known = ⊥
Adds full = ⊥

abbrev pub IsLive : Run → State → Type 0
IsLive r s = live_run r.number s ≡ Some r

-- an event may be offered to a function with a window
pub record MayJoin (f : FunctionEntry) (r : WindowRule) (event : ℕ) (s : State) : Type 0 where
  pub there : IsFunction f s
  pub rule : window_rule_of f.function ≡ Some r
  pub given : event ≤ s.events

-- ## The changes

-- all but those that record a step or end a rule, in their least parts
pub record Changes (P : State → Type 0) : Type 0 where
  -- an event takes its number, and its id is remembered where it is new
  pub accepts : (event : EventIn) (id : Option (List ℕ)) (s : State)
      → IfSome id (λ id. find_seen id s.moment s.seen ≡ None)
      → P s → P (add_event (event_with event s) (remember id s))
  -- a run is made of an event, of a window that is full, and of one that is over
  pub starts : (f : FunctionEntry) (event : ℕ) (parent : Option Parent) (s : State)
      → IsFunction f s → event ≤ s.events → P s → P (started f (event ∷ []) parent s)
  pub fills : (f : FunctionEntry) (r : WindowRule) (value : List ℕ) (event : ℕ) (s : State)
      → MayJoin f r event s → is_full r (window_after f r value event s) ≡ true → P s
      → P (started f (windows.events_of (window_after f r value event s)) None (with_offer f r value event s))
  pub fires : (f : FunctionEntry) (w : Window) (s : State) → IsFunction f s → IsIn w s.windows → P s
      → P (started f (windows.events_of w) None (without_window (windows.number_of w) s))
  -- a window takes an event and stays, or goes
  pub joins : (f : FunctionEntry) (r : WindowRule) (value : List ℕ) (event : ℕ) (s : State)
      → MayJoin f r event s → is_full r (window_after f r value event s) ≡ false → P s
      → P (with_offer f r value event s)
  pub windows_go : (number : ℕ) (s : State) → P s → P (without_window number s)
  -- a run has a rule more, or an item that finds out what comes next
  pub rules : (r : Run) (event : List ℕ) (c : CancelEntry) (s : State) → IsIn r s.live → event ≡ first_text r s
      → P s → P (add_rule r (first_of r.events) event c s)
  pub finds_out : (r : Run) (s : State) → IsIn r s.live → P s → P (queue_new r step_target s)
  -- a run is wanted, and a new name is planned or pending
  pub wants : (r : Run) (s : State) → IsLive r s → P s → P (change_run r.number want s)
  pub plans : (r : Run) (name : List ℕ) (s : State) → IsLive r s → Adds (note_plan name r.steps)
      → P s → P (plan_named r name s)
  pub sleeps : (r : Run) (name : List ℕ) (t : Time) (s : State) → IsLive r s
      → Adds (note_pending name pending.Sleep r.steps) → P s → P (add_sleep r name t s)
  pub waits : (r : Run) (name event : List ℕ) (t : Time) (cond : Option (List ℕ)) (s : State) → IsLive r s
      → Adds (note_pending name pending.Wait r.steps) → P s → P (add_wait r name event t cond s)
  pub pends : (r : Run) (name : List ℕ) (s : State) → IsLive r s
      → Adds (note_pending name pending.Invocation r.steps) → P s → P (pend pending.Invocation name r s)
  pub invokes : (r : Run) (name : List ℕ) (child : ℕ) (t : Option Time) (s : State)
      → list_any (λ (q : Run). r.number == q.number) s.live ≡ true → P s → P (add_invocation r name child t s)
  -- a run ends
  pub ends : (r : Run) (status : RunStatus) (s : State) → IsLive r s → P s → P (end_run r status s)

-- the parent of a run that ends doesn't wait for it
abbrev pub IsUntold : Run → RunStatus → State → Type 0
IsUntold r status s = (p : Parent) (q : Run) → r.parent ≡ Some p → live_run p.run (end_run r status s) ≡ Some q
    → is_pending p.hash q.steps ≡ false

-- A run ends, and with it what its parent records, where that waits for it.
pub record Ending (P : State → Type 0) (r : Run) (status : RunStatus) (s : State) : Type 0 where
  pub ends : IsUntold r status s → P (end_run r status s)
  pub tells : (p : Parent) (q : Run) (result : List ℕ) → r.parent ≡ Some p
      → live_run p.run (end_run r status s) ≡ Some q → is_pending p.hash q.steps ≡ true
      → P (record_result p.run p.hash result (without_invocation_of p (end_run r status s)))

-- a run has something recorded since, and nothing finds out what comes next
abbrev pub IsMissed : Run → State → Type 0
IsMissed r s = (r.wanted && not (has_discovery s r.number)) ≡ true

-- each change, with the premises that hold where it is made
pub record Keeps (P : State → Type 0) : Type 0 where
  -- an event takes its number, and its id is remembered where it is new
  pub accepts : (event : EventIn) (id : Option (List ℕ)) (s : State)
      → IfSome id (λ id. find_seen id s.moment s.seen ≡ None)
      → P s → P (add_event (event_with event s) (remember id s))
  -- a run is made of an event, of a window that is full, and of one that is over
  pub starts : (f : FunctionEntry) (event : ℕ) (s : State)
      → IsFunction f s → event ≤ s.events → P s → P (make_run f (event ∷ []) None s)
  pub fills : (f : FunctionEntry) (r : WindowRule) (value : List ℕ) (event : ℕ) (s : State)
      → MayJoin f r event s → is_full r (window_after f r value event s) ≡ true → P s
      → P (make_run f (windows.events_of (window_after f r value event s)) None (with_offer f r value event s))
  pub fires : (f : FunctionEntry) (w : Window) (s : State) → IsFunction f s → IsIn w s.windows → P s
      → P (make_run f (windows.events_of w) None (without_window (windows.number_of w) s))
  -- a window takes an event and stays, or goes
  pub joins : (f : FunctionEntry) (r : WindowRule) (value : List ℕ) (event : ℕ) (s : State)
      → MayJoin f r event s → is_full r (window_after f r value event s) ≡ false → P s
      → P (with_offer f r value event s)
  pub windows_go : (number : ℕ) (s : State) → P s → P (without_window number s)
  -- a run gets an item that finds out what comes next, where it lacks one
  pub finds_out : (r : Run) (s : State) → IsIn r s.live → IsMissed r s → P s → P (queue_new r step_target s)
  -- a run is wanted, and a new name is planned or pending
  pub wants : (r : Run) (s : State) → IsLive r s → P s → P (change_run r.number want s)
  pub plans : (r : Run) (name : List ℕ) (s : State) → IsLive r s → Adds (note_plan name r.steps)
      → P s → P (plan_named r name s)
  pub sleeps : (r : Run) (name : List ℕ) (t : Time) (s : State) → IsLive r s
      → Adds (note_pending name pending.Sleep r.steps) → P s → P (add_sleep r name t s)
  pub waits : (r : Run) (name event : List ℕ) (t : Time) (cond : Option (List ℕ)) (s : State) → IsLive r s
      → Adds (note_pending name pending.Wait r.steps) → P s → P (add_wait r name event t cond s)
  pub invokes : (f : FunctionEntry) (r : Run) (name : List ℕ) (payload : Option (List ℕ)) (t : Option Time)
      (s : State) → IsFunction f s → IsLive r s → Adds (note_pending name pending.Invocation r.steps)
      → P s → P (invoke_found (Some f) r name payload t s)
  -- a run ends
  pub ends : (r : Run) (status : RunStatus) (s : State) → IsLive r s → P s → Ending P r status s
  -- a step is recorded: one with a new result, and one that an end wakes
  pub results : (r : Run) (name result : List ℕ) (s : State) → IsLive r s
      → Adds (keep_step name result r.steps) → P s → P (record_result r.number name result s)
  pub sleep_ends : (e : Sleep) (s : State) → IsIn e s.sleeps → P s
      → P (wake_step e.run e.hash (codes "null") (without_sleep e.number s))
  pub wait_ends : (w : Waiting) (result : List ℕ) (s : State) → IsIn w s.waits → P s → P (end_wait result w s)
  pub invocation_ends : (e : Invocation) (s : State) → IsIn e s.invocations → P s
      → P (wake_step e.run e.hash timed_out (without_invocation e.number s))
  -- a rule is over
  pub rule_ends : (e : Rule) (s : State) → IsIn e s.rules → P s → P (without_rule e.number s)

-- enough for the others: a step is recorded, wherever, and some of what waits goes, whatever
pub record Goes (P : State → Type 0) : Type 0 where
  pub records : (run : ℕ) (name result : List ℕ) (s : State) → P s → P (record_result run name result s)
  pub sleeps_go : (test : Sleep → Bool) (s : State) → P s → P (record s { sleeps = filter test s.sleeps })
  pub waits_go : (test : Waiting → Bool) (s : State) → P s → P (record s { waits = filter test s.waits })
  pub invocations_go : (test : Invocation → Bool) (s : State)
      → P s → P (record s { invocations = filter test s.invocations })
  pub rules_go : (test : Rule → Bool) (s : State) → P s → P (record s { rules = filter test s.rules })

pub kept-woken : (P : State → Type 0) (b : Bool) (s t : State) → P s → P t
    → P (elim b as (λ _. State) [ true ↦ t | false ↦ s ])
kept-woken P true s t h k = k
kept-woken P false s t h k = h

pub kept-wake_step : (P : State → Type 0) → Goes P → (run : ℕ) (name result : List ℕ) (s : State) → P s
    → P (wake_step run name result s)
kept-wake_step P keeps run name result s h =
    kept-woken P (is_pending_in name (live_run run s)) s (record_result run name result s) h
    (keeps.records run name result s h)

-- ## Runs that have not ended

-- a run that is found under a number has it
pub own-number : (number : ℕ) (r : Run) (s : State) → live_run number s ≡ Some r → IsLive r s
own-number number r s e =
    subst (λ n. live_run n s ≡ Some r)
    (eqb-true number r.number (found-passes (λ (other : Run). number == other.number) s.live r e)) e

pub kept-choice : (P : State → Type 0) (b : Bool) (s t : State) → P s → P t → P (cond b s t)
kept-choice P true s t h k = h
kept-choice P false s t h k = k

-- ## Finding out what comes next

abbrev pub AreThere : List Run → State → Type 0
AreThere rs s = AllByRecursion (λ r. IsIn r s.live) rs

module _ (P : State → Type 0) (keeps : Keeps P) where
  pub kept-discover_one : (r : Run) (s : State) → IsIn r s.live → P s → P (discover_one r s)
  kept-discover_one r s there h =
      (elim (r.wanted && not (has_discovery s r.number))
      as (λ b. (r.wanted && not (has_discovery s r.number)) ≡ b → P (cond b (queue_new r step_target s) s))
      [ true ↦ λ missed. keeps.finds_out r s there missed h | false ↦ λ e. h ]) refl

  pub kept-discover_all : (rs : List Run) (s : State) → AreThere rs s → P s → P (discover_all rs s)
  kept-discover_all [] s there h = h
  kept-discover_all (r ∷ rs) s there h = kept-discover_all rs (discover_one r s)
      (kept-choice (AreThere rs) (r.wanted && not (has_discovery s r.number)) (queue_new r step_target s) s
      there.1 there.1) (kept-discover_one r s there.0 h)

  pub kept-discover : (s : State) → P s → P (discover s)
  unfolding discover
  kept-discover s h = kept-discover_all s.live s (each-in s.live) h

  pub kept-discovered : (d : Discovery) (s : State) → P s → P (discovered d s)
  kept-discovered at_once s h = kept-discover s h
  kept-discovered at_the_end s h = h

-- ## Making a run

-- what makes a run, once it is there
pub record Makes (P : State → Type 0) : Type 0 where
  pub rules : (r : Run) (event : List ℕ) (c : CancelEntry) (s : State) → IsIn r s.live → event ≡ first_text r s
      → P s → P (add_rule r (first_of r.events) event c s)
  pub finds_out : (r : Run) (s : State) → IsIn r s.live → P s → P (queue_new r step_target s)

pub makes-of : (P : State → Type 0) → Changes P → Makes P
makes-of P changes = record { rules = changes.rules; finds_out = changes.finds_out }

module _ (P : State → Type 0) (keeps : Makes P) where
  -- its rules take numbers, and then its first item
  pub kept-made : (r : Run) (event : List ℕ) (cs : List CancelEntry) (s : State) → IsIn r s.live
      → event ≡ first_text r s → P s → P (queue_new r step_target (add_rules r (first_of r.events) event cs s))
  kept-made r event [] s there e h = keeps.finds_out r s there h
  kept-made r event (c ∷ cs) s there e h = kept-made r event cs (add_rule r (first_of r.events) event c s)
      there e (keeps.rules r event c s there e h)

  pub kept-make_run : (f : FunctionEntry) (events : List ℕ) (parent : Option Parent) (s : State)
      → P (started f events parent s) → P (make_run f events parent s)
  unfolding make_run
  kept-make_run f events parent s h =
      kept-made (run_from f events parent s) (text_or_none (text_of (first_of events) s)) f.function.cancels
      (started f events parent s) (in-last (run_from f events parent s) s.live) refl h

-- ## Runs that a new one joins

rules-live : (r : Run) (first : ℕ) (event : List ℕ) (cs : List CancelEntry) (s : State)
    → (add_rules r first event cs s).live ≡ s.live
rules-live r first event [] s = refl
rules-live r first event (c ∷ cs) s = rules-live r first event cs (add_rule r first event c s)

pub made-live : (f : FunctionEntry) (events : List ℕ) (parent : Option Parent) (s : State)
    → (make_run f events parent s).live ≡ s.live ++ run_from f events parent s ∷ []
unfolding make_run
made-live f events parent s =
    rules-live (run_from f events parent s) (first_of events) (text_or_none (text_of (first_of events) s))
    f.function.cancels (started f events parent s)

-- a run that waits for another hasn't ended where that one is made
still-live : (r : Run) (f : FunctionEntry) (events : List ℕ) (parent : Option Parent) (name : List ℕ) (s t : State)
    → t.live ≡ (pend pending.Invocation name r s).live → IsLive r s
    → IsOf (make_run f events parent t).live r.number
still-live r f events parent name s t same live =
    let own : IsOf s.live r.number =
    found-any (λ (q : Run). r.number == q.number) (λ (q : Run). r.number == q.number) s.live r live
    (eq-eqb r.number r.number refl) in
    let pended : IsOf t.live r.number = subst (λ rs. IsOf rs r.number) (sym same)
    (of-changed r.number r.number (λ q. with_steps (pend_step name pending.Invocation q.steps) q) s.live
    (λ q. refl) own) in
    subst (λ rs. IsOf rs r.number) (sym (made-live f events parent t))
    (of-more r.number t.live (run_from f events parent t) pended)

-- ## From their least parts

kept-invoked : (P : State → Type 0) → Changes P → (f : FunctionEntry) (r : Run) (name : List ℕ)
    (payload : Option (List ℕ)) (t : Option Time) (s : State) → IsFunction f s → IsLive r s
    → Adds (note_pending name pending.Invocation r.steps) → P s → P (invoke_found (Some f) r name payload t s)
kept-invoked P keeps f r name payload t s there live new h =
    let parent : Option Parent = Some (record { run = r.number; hash = name }) in
    let pended : State = pend pending.Invocation name r s in
    let event : Event = event_with (invoked_event payload) s in
    let given : State = add_event event pended in
    keeps.invokes r name (s.runs + 1) t (make_run f (event.number ∷ []) parent given)
    (still-live r f (event.number ∷ []) parent name s given refl live)
    (kept-make_run P (makes-of P keeps) f (event.number ∷ []) parent given
    (keeps.starts f event.number parent given there (omega arith)
    (keeps.accepts (invoked_event payload) None pended tt (keeps.pends r name s live new h))))

pub freely : (P : State → Type 0) → Changes P → Goes P → Keeps P
freely P changes keeps = record {
  accepts = changes.accepts;
  starts = λ f event s there given h. kept-make_run P (makes-of P changes) f (event ∷ []) None s
      (changes.starts f event None s there given h);
  fills = λ f r value event s may full h.
      kept-make_run P (makes-of P changes) f (windows.events_of (window_after f r value event s)) None
      (with_offer f r value event s) (changes.fills f r value event s may full h);
  fires = λ f w s there stands h. kept-make_run P (makes-of P changes) f (windows.events_of w) None
      (without_window (windows.number_of w) s) (changes.fires f w s there stands h);
  joins = changes.joins;
  windows_go = changes.windows_go;
  finds_out = λ r s there missed h. changes.finds_out r s there h;
  wants = changes.wants;
  plans = changes.plans;
  sleeps = changes.sleeps;
  waits = changes.waits;
  invokes = kept-invoked P changes;
  ends = λ r status s live h. record {
    ends = λ untold. changes.ends r status s live h;
    tells = λ p q result parent there waits.
        keeps.records p.run p.hash result (without_invocation_of p (end_run r status s))
        (keeps.invocations_go (λ i. not (is_invocation_of p i)) (end_run r status s)
        (changes.ends r status s live h));
  };
  results = λ r name result s live new h. keeps.records r.number name result s h;
  sleep_ends = λ e s there h. kept-wake_step P keeps e.run e.hash (codes "null") (without_sleep e.number s)
      (keeps.sleeps_go (λ (other : Sleep). not (e.number == other.number)) s h);
  wait_ends = λ w result s there h. kept-wake_step P keeps w.wait.run w.hash result (without_wait w.wait.number s)
      (keeps.waits_go (λ v. not (has_wait w.wait.number v)) s h);
  invocation_ends = λ e s there h. kept-wake_step P keeps e.run e.hash timed_out (without_invocation e.number s)
      (keeps.invocations_go (λ (other : Invocation). not (e.number == other.number)) s h);
  rule_ends = λ e s there h. keeps.rules_go (λ (other : Rule). not (e.number == other.number)) s h;
}

-- ## Two properties at once

pub ending-both : (P Q : State → Type 0) (r : Run) (status : RunStatus) (s : State) → Ending P r status s
    → Ending Q r status s → Ending (λ s. P s × Q s) r status s
ending-both P Q r status s p q = record {
  ends = λ untold. (p.ends untold, q.ends untold);
  tells = λ o other result parent live waits.
      (p.tells o other result parent live waits, q.tells o other result parent live waits);
}

pub keeps-both : (P Q : State → Type 0) → Keeps P → Keeps Q → Keeps (λ s. P s × Q s)
keeps-both P Q p q = record {
  accepts = λ event id s new h. (p.accepts event id s new h.0, q.accepts event id s new h.1);
  starts = λ f event s there given h. (p.starts f event s there given h.0, q.starts f event s there given h.1);
  fills = λ f r value event s may full h.
      (p.fills f r value event s may full h.0, q.fills f r value event s may full h.1);
  fires = λ f w s there stands h. (p.fires f w s there stands h.0, q.fires f w s there stands h.1);
  joins = λ f r value event s may full h.
      (p.joins f r value event s may full h.0, q.joins f r value event s may full h.1);
  windows_go = λ number s h. (p.windows_go number s h.0, q.windows_go number s h.1);
  finds_out = λ r s there missed h. (p.finds_out r s there missed h.0, q.finds_out r s there missed h.1);
  wants = λ r s live h. (p.wants r s live h.0, q.wants r s live h.1);
  plans = λ r name s live new h. (p.plans r name s live new h.0, q.plans r name s live new h.1);
  sleeps = λ r name t s live new h. (p.sleeps r name t s live new h.0, q.sleeps r name t s live new h.1);
  waits = λ r name event t cond s live new h.
      (p.waits r name event t cond s live new h.0, q.waits r name event t cond s live new h.1);
  invokes = λ f r name payload t s there live new h.
      (p.invokes f r name payload t s there live new h.0, q.invokes f r name payload t s there live new h.1);
  ends = λ r status s live h.
      ending-both P Q r status s (p.ends r status s live h.0) (q.ends r status s live h.1);
  results = λ r name result s live new h.
      (p.results r name result s live new h.0, q.results r name result s live new h.1);
  sleep_ends = λ e s there h. (p.sleep_ends e s there h.0, q.sleep_ends e s there h.1);
  wait_ends = λ w result s there h. (p.wait_ends w result s there h.0, q.wait_ends w result s there h.1);
  invocation_ends = λ e s there h. (p.invocation_ends e s there h.0, q.invocation_ends e s there h.1);
  rule_ends = λ e s there h. (p.rule_ends e s there h.0, q.rule_ends e s there h.1);
}

-- What is due, the calls that are made, and each input keep what each change keeps: so does a step.
use Rattle.std.proofs.Common.{◌≡◌, ℕ, zero, suc, ◌≤◌, ◌==◌, Bool, true, false, cond, List, [], ◌∷◌, ◌++◌, map, codes, length, min, max, nat_le, Option, Some, None, IfSome, refl, subst, arith}
use Rattle.std.specs.List.{AllByRecursion}
use Rattle.kinds.specs.ErrorObject.{error_object}
use Rattle.kinds.specs.Inputs.{reading}
use Rattle.kinds.specs.Moments.{last_moment}
use Rattle.kinds.specs.RunSteps.{is_recorded}
use Rattle.kinds.specs.Windows as windows
use Rattle.kinds.specs.declared.function.App.{App}
use Rattle.kinds.specs.declared.input.Input.{Input}
use Rattle.kinds.specs.declared.input.Input.TheVariants.{Events, Register, Reply, CallFailed, Tick, Cancel, Reopened}
use Rattle.kinds.specs.declared.store.Item.{Item}
use Rattle.kinds.specs.declared.window.Window.{Window}
use Rattle.functions.specs.declared.entry.FunctionEntry.{FunctionEntry}
use Rattle.run_model.specs.Advance.{Advanced, Next, Timed, sleep_end, wait_end, invocation_end, window_end, rule_end, call_limit, advance, comes_before, due_by, due_of, earlier, fire, fire_by, fired, least, make_found, most, timed, timed_out, with_due, within, without_invocation, without_sleep, without_window}
use Rattle.run_model.specs.Events.{end_wait}
use Rattle.run_model.specs.Fit.{item_of}
use Rattle.run_model.specs.Laws.{IsIn}
use Rattle.run_model.specs.Machine.{act, count_input, reopen, requeue_all, requeue_found, step, with_functions}
use Rattle.run_model.specs.Making.{queue}
use Rattle.run_model.specs.Recording.{change_run, wake_step}
use Rattle.run_model.specs.Replies.{want}
use Rattle.run_model.specs.Settle.{Settled, issue, issue_found, issue_of, item_at, next_issued, settle, settle_by}
use Rattle.run_model.specs.State.{State, Run, Issue, at_moment, function_at, live_run, moment_at, tidied}
use Rattle.run_model.proofs.Kept.{kept-discover}
use Rattle.run_model.proofs.KeptEvents.{kept-cancel_found, kept-on_events}
use Rattle.run_model.proofs.KeptReplies.{KeepsCalls, kept-fail_call, kept-on_call_failed, kept-on_reply}
use Rattle.run_model.proofs.Members.{all-map, each-in, in-found}
use Rattle.run_model.proofs.SettlingLists.{all-append, same-some}

-- ## The changes

-- all that is due by a moment has happened
abbrev pub all_fired : ℕ → State → State
all_fired t s = (fire_by most t (record { state = s; hangs = [] })).state

-- moments are at most a bound, and inputs are such as is asked
pub record KeepsSteps (bound : ℕ) (A : Input → Type 0) (P : List Item → State → Type 0) : Type 0 where
  pub calls : KeepsCalls P
  -- an input is counted, and time goes on
  pub counts : (s : State) → P [] s → P [] (count_input s)
  pub moves : (t : ℕ) (next : Next) (s : State) → t ≤ bound → due_by t s ≡ Some next → P [] s
      → P [] (record s { moment = next.due })
  pub arrives : (t : ℕ) (s : State) → t ≤ bound → s.moment ≤ t → P [] s → P [] (all_fired t s)
      → P [] (at_moment t (all_fired t s))
  -- a call is made
  pub issues : (number : ℕ) (i : Item) (s : State) → next_issued s ≡ Some number → item_at number s ≡ Some i
      → P [] s → P [] (issue i s)
  pub registers : (at : ℕ) (app : App) (s : State) → A (Register at app) → P [] s → P [] (with_functions app s)
  pub tidies : (s : State) → P [] s → P [] (tidied s)

-- what an input does, once time has gone on to its moment
pub record KeepsActs (A : Input → Type 0) (P : List Item → State → Type 0) : Type 0 where
  pub calls : KeepsCalls P
  pub issues : (number : ℕ) (i : Item) (s : State) → next_issued s ≡ Some number → item_at number s ≡ Some i
      → P [] s → P [] (issue i s)
  pub registers : (at : ℕ) (app : App) (s : State) → A (Register at app) → P [] s → P [] (with_functions app s)
  pub tidies : (s : State) → P [] s → P [] (tidied s)

pub acts-of : (bound : ℕ) (A : Input → Type 0) (P : List Item → State → Type 0) → KeepsSteps bound A P
    → KeepsActs A P
acts-of bound A P keeps = record {
  calls = keeps.calls;
  issues = keeps.issues;
  registers = keeps.registers;
  tidies = keeps.tidies;
}

-- ## What is due is there

abbrev pub IsThere : State → Timed → Type 0
IsThere s (sleep_end e) = IsIn e s.sleeps
IsThere s (wait_end e) = IsIn e s.waits
IsThere s (invocation_end e) = IsIn e s.invocations
IsThere s (window_end w) = IsIn w s.windows
IsThere s (rule_end e) = IsIn e s.rules
IsThere s (call_limit i) = IsIn i s.issues

all-there : (s : State) → AllByRecursion (IsThere s) (timed s)
unfolding timed
all-there s =
    let There : Timed → Type 0 = IsThere s in
    let a : List Timed = map sleep_end s.sleeps in
    let b : List Timed = map wait_end s.waits in
    let c : List Timed = map invocation_end s.invocations in
    let d : List Timed = map window_end s.windows in
    let e : List Timed = map rule_end s.rules in
    all-append There (a ++ b ++ c ++ d ++ e) (map call_limit s.issues)
    (all-append There (a ++ b ++ c ++ d) e
    (all-append There (a ++ b ++ c) d
    (all-append There (a ++ b) c
    (all-append There a b (all-map There sleep_end s.sleeps (each-in s.sleeps))
    (all-map There wait_end s.waits (each-in s.waits)))
    (all-map There invocation_end s.invocations (each-in s.invocations)))
    (all-map There window_end s.windows (each-in s.windows)))
    (all-map There rule_end s.rules (each-in s.rules)))
    (all-map There call_limit s.issues (each-in s.issues))

-- what holds of each holds of the least
module _ (Q : Timed → Type 0) where
  abbrev OfNext : Option Next → Type 0
  OfNext found = IfSome found (λ next. Q next.entry)

  of-earlier : (a : Next) (found : Option Next) → Q a.entry → OfNext found → OfNext (earlier a found)
  of-earlier a None h k = h
  of-earlier a (Some b) h k =
      elim (comes_before b a) as (λ c. OfNext (cond c (Some b) (Some a))) [ true ↦ k | false ↦ h ]

  of-with_due : (e : Timed) (due : Option ℕ) (found : Option Next) → Q e → OfNext found
      → OfNext (with_due e due found)
  of-with_due e None found h k = k
  of-with_due e (Some due) found h k = of-earlier (record { due = due; entry = e }) found h k

  of-least : (es : List Timed) → AllByRecursion Q es → OfNext (least es)
  unfolding least
  of-least [] h = tt
  of-least (e ∷ es) h = of-with_due e (due_of e) (least es) h.0 (of-least es h.1)

-- what is due by a moment is there, and due by it
within-some : (Q : Timed → Type 0) (t : ℕ) (found : Option Next) (next : Next) → OfNext Q found
    → within t found ≡ Some next → (next.due ≤ t) × Q next.entry
within-some Q t None next h e = absurd (cc)
within-some Q t (Some found) next h e =
    (elim (nat_le found.due t) as (λ b. nat_le found.due t ≡ b → cond b (Some found) None ≡ Some next
    → (next.due ≤ t) × Q next.entry) [
      | true ↦ λ low k. subst (λ (n : Next). (n.due ≤ t) × Q n.entry) (same-some found next k)
          (grind (arith, low), h)
      | false ↦ λ low k. absurd (let no : None ≡ Some next = k in cc)
    ]) refl e

pub is-due : (t : ℕ) (s : State) (next : Next) → due_by t s ≡ Some next → (next.due ≤ t) × IsThere s next.entry
is-due t s next e =
    within-some (IsThere s) t (least (timed s)) next (of-least (IsThere s) (timed s) (all-there s)) e

abbrev has_version : ℕ → FunctionEntry → Bool
has_version version f = version == f.version

-- an input's moment isn't before the state's
pub goes-on : (a b : ℕ) → a ≤ max a b
goes-on a b = grind arith

module _ (A : Input → Type 0) (P : List Item → State → Type 0) (keeps : KeepsActs A P) where
  -- ## Calls

  pub acted-issue_of : (number : ℕ) (run : Option Run) (i : Item) (a : Settled) → next_issued a.state ≡ Some number
      → item_at number a.state ≡ Some i → P [] a.state → P [] (issue_of run i a).state
  acted-issue_of number None i a e there h = keeps.issues number i a.state e there h
  acted-issue_of number (Some r) i a e there h = keeps.issues number i a.state e there h

  pub acted-issue_found : (number : ℕ) (found : Option Item) (a : Settled) → next_issued a.state ≡ Some number
      → item_at number a.state ≡ found → P [] a.state → P [] (issue_found found a).state
  acted-issue_found number None a e there h = h
  acted-issue_found number (Some i) a e there h =
      acted-issue_of number (live_run i.run a.state) i a e there h

  pub acted-settle_by : (n : ℕ) (a : Settled) → P [] a.state → P [] (settle_by n a).state
  unfolding settle_by
  acted-settle_by zero a h = h
  acted-settle_by (suc n) a h =
      (elim (next_issued a.state) as (λ o. next_issued a.state ≡ o → P [] (elim o as (λ _. Settled)
      [ None ↦ a | Some number ↦ settle_by n (issue_found (item_at number a.state) a) ]).state) [
        | None ↦ λ e. h
        | Some number ↦ λ e. acted-settle_by n (issue_found (item_at number a.state) a)
            (acted-issue_found number (item_at number a.state) a e refl h)
      ]) refl

  -- ## Reopening

  pub acted-requeue_found : (i : Item) (is : List Item) (found : Option Run) (s : State) → live_run i.run s ≡ found
      → P (i ∷ is) s → P is (requeue_found i found s)
  acted-requeue_found i is None s e h = keeps.calls.drops i is s e h
  acted-requeue_found i is (Some r) s e h =
      (elim (is_recorded i.target r.steps) as (λ b. is_recorded i.target r.steps ≡ b
      → P is (elim b as (λ _. State)
      [ true ↦ change_run r.number want s | false ↦ queue (record i { due = s.moment }) s ])) [
        | true ↦ λ done. keeps.calls.calls_off i is r s e done h
        | false ↦ λ new. keeps.calls.requeues i is r s e new h
      ]) refl

  pub acted-requeue_all : (is : List Issue) (s : State) → P (map item_of is) s → P [] (requeue_all is s)
  acted-requeue_all [] s h = h
  acted-requeue_all (i ∷ is) s h =
      acted-requeue_all is (requeue_found i.item (live_run i.item.run s) s)
      (acted-requeue_found i.item (map item_of is) (live_run i.item.run s) s refl h)

  pub acted-reopen : (s : State) → P [] s → P [] (reopen s)
  acted-reopen s h =
      kept-discover (P []) (keeps.calls.runs []) (requeue_all s.issues (record s { issues = [] }))
      (acted-requeue_all s.issues (record s { issues = [] }) (keeps.calls.reopens s h))

  -- ## An input

  pub acted : (input : Input) (s : State) → A input → P [] s → P [] (act input s).state
  unfolding act
  acted (Events at events) s asked h =
      kept-on_events (P []) (keeps.calls.runs []) events (record { state = s; numbers = [] }) h
  acted (Register at app) s asked h = keeps.registers at app s asked h
  acted (Reply at call reply) s asked h = kept-on_reply P keeps.calls call reply s h
  acted (CallFailed at call) s asked h = kept-on_call_failed P keeps.calls call s h
  acted (Tick at) s asked h = h
  acted (Cancel at run) s asked h =
      kept-cancel_found (P []) (keeps.calls.runs []) run (live_run run s) s refl h
  acted (Reopened at) s asked h = acted-reopen s h

  -- what is issued after an input, and what then stays
  pub acted-settled : (s : State) → P [] s → P [] (tidied (settle (record { state = s; outs = [] })).state)
  acted-settled s h =
      let a : Settled = record { state = s; outs = [] } in
      keeps.tidies (settle a).state (acted-settle_by (length s.items) a h)

module _ (bound : ℕ) (A : Input → Type 0) (P : List Item → State → Type 0) (keeps : KeepsSteps bound A P) where
  -- ## What is due

  pub kept-make_found : (found : Option FunctionEntry) (w : Window) (s : State)
      → function_at (windows.version_of w) s ≡ found → IsIn w s.windows → P [] s
      → P [] (make_found found w (without_window (windows.number_of w) s))
  kept-make_found None w s e there h = (keeps.calls.runs []).windows_go (windows.number_of w) s h
  kept-make_found (Some f) w s e there h =
      (keeps.calls.runs []).fires f w s
      (in-found (has_version (windows.version_of w)) (s.functions ++ s.retired) f e) there h

  pub kept-fire : (e : Timed) (s : State) → IsThere s e → P [] s → P [] (fire e s)
  kept-fire (sleep_end e) s there h =
      kept-discover (P []) (keeps.calls.runs [])
      (wake_step e.run e.hash (codes "null") (without_sleep e.number s))
      ((keeps.calls.runs []).sleep_ends e s there h)
  kept-fire (wait_end e) s there h =
      kept-discover (P []) (keeps.calls.runs []) (end_wait (codes "{\"data\":null}") e s)
      ((keeps.calls.runs []).wait_ends e (codes "{\"data\":null}") s there h)
  kept-fire (invocation_end e) s there h =
      kept-discover (P []) (keeps.calls.runs [])
      (wake_step e.run e.hash timed_out (without_invocation e.number s))
      ((keeps.calls.runs []).invocation_ends e s there h)
  kept-fire (window_end w) s there h =
      kept-make_found (function_at (windows.version_of w) s) w s refl there h
  kept-fire (rule_end e) s there h = (keeps.calls.runs []).rule_ends e s there h
  kept-fire (call_limit i) s there h =
      kept-fail_call P keeps.calls i (error_object (codes "call limit")) s there h

  pub kept-fire_by : (n t : ℕ) (a : Advanced) → t ≤ bound → P [] a.state → P [] (fire_by n t a).state
  unfolding fire_by
  kept-fire_by zero t a low h = h
  kept-fire_by (suc n) t a low h =
      (elim (due_by t a.state) as (λ o. due_by t a.state ≡ o → P [] (elim o as (λ _. Advanced)
      [ None ↦ a | Some next ↦ fire_by n t (fired next a) ]).state) [
        | None ↦ λ e. h
        | Some next ↦ λ e.
            let due : (next.due ≤ t) × IsThere a.state next.entry = is-due t a.state next e in
            kept-fire_by n t (fired next a) low
            (kept-fire next.entry (record a.state { moment = next.due }) due.1
            (keeps.moves t next a.state low e h))
      ]) refl

  pub kept-advance : (t : ℕ) (s : State) → t ≤ bound → s.moment ≤ t → P [] s → P [] (advance t s).state
  unfolding advance
  kept-advance t s low goes_on h =
      keeps.arrives t s low goes_on h (kept-fire_by most t (record { state = s; hangs = [] }) low h)

  -- ## A step

  pub kept-settle_by : (n : ℕ) (a : Settled) → P [] a.state → P [] (settle_by n a).state
  kept-settle_by n a h = acted-settle_by A P (acts-of bound A P keeps) n a h

  pub kept-reopen : (s : State) → P [] s → P [] (reopen s)
  kept-reopen s h = acted-reopen A P (acts-of bound A P keeps) s h

  pub kept-act : (input : Input) (s : State) → A input → P [] s → P [] (act input s).state
  kept-act input s asked h = acted A P (acts-of bound A P keeps) input s asked h

  pub kept-step : (s : State) (input : Input) → moment_at (reading input) s ≤ bound → A input → P [] s
      → P [] (step s input).state
  unfolding step
  kept-step s input low asked h =
      let a : Advanced = advance (moment_at (reading input) s) (count_input s) in
      acted-settled A P (acts-of bound A P keeps) (act input a.state).state
      (kept-act input a.state asked
      (kept-advance (moment_at (reading input) s) (count_input s) low
      (goes-on s.moment (min (reading input) last_moment)) (keeps.counts s h)))

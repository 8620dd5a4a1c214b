-- What is due, the calls that are made, and each input, as changes: what each change keeps is kept by a step, and so holds
-- in each state that is reached.
use Rattle.std.proofs.Common.{◌≡◌, ℕ, zero, suc, ◌<◌, ◌≤◌, ◌==◌, Bool, true, false, List, [], ◌∷◌, ◌++◌, map, codes, length, min, Option, Some, None, refl, arith}
use Rattle.kinds.specs.ErrorObject.{error_object}
use Rattle.kinds.specs.Inputs.{reading}
use Rattle.kinds.specs.Moments.{last_moment}
use Rattle.kinds.specs.Queue.{has_number}
use Rattle.kinds.specs.RunSteps.{is_recorded}
use Rattle.kinds.specs.Windows as windows
use Rattle.kinds.specs.declared.input.Input.{Input}
use Rattle.kinds.specs.declared.input.Input.TheVariants.{Events, Register, Reply, CallFailed, Tick, Cancel, Reopened}
use Rattle.kinds.specs.declared.limits.Limits.{Limits}
use Rattle.kinds.specs.declared.store.Item.{Item}
use Rattle.kinds.specs.declared.window.Window.{Window}
use Rattle.functions.specs.declared.entry.FunctionEntry.{FunctionEntry}
use Rattle.run_model.specs.Advance.{Advanced, Timed, sleep_end, wait_end, invocation_end, window_end, rule_end, call_limit, advance, due_by, fire, fire_by, fired, make_found, most, timed_out, without_invocation, without_sleep, without_window}
use Rattle.run_model.specs.Events.{end_wait}
use Rattle.run_model.specs.Fit.{item_of}
use Rattle.run_model.specs.Laws.{IsIn}
use Rattle.run_model.specs.Machine.{act, count_input, fold, reopen, requeue_all, requeue_found, state_after, step}
use Rattle.run_model.specs.Making.{queue}
use Rattle.run_model.specs.Recording.{change_run, wake_step}
use Rattle.run_model.specs.Replies.{want}
use Rattle.run_model.specs.Settle.{Settled, issue_found, issue_of, item_at, next_issued, settle, settle_by}
use Rattle.run_model.specs.State.{State, Run, Issue, empty, function_at, live_run, moment_at, tidied}
use Rattle.run_model.proofs.Apart.{pairs-unmap}
use Rattle.run_model.proofs.GoingOn.{Going, going-empty, going-step, going-steps}
use Rattle.run_model.proofs.Kept.{IsFunction, started}
use Rattle.run_model.proofs.KeptSteps.{IsThere, acted-issue_found, acts-of, goes-on, is-due, kept-act, kept-advance, kept-fire}
use Rattle.run_model.proofs.Members.{in-all, in-found}
use Rattle.run_model.proofs.Rising.{call_of}
use Rattle.soundness.proofs.Carried.{Any, Core, HaveTexts, core, carried-cancel_found, carried-discover, carried-end_wait, carried-made, carried-on_events, carried-wake_step}
use Rattle.soundness.proofs.CarriedReplies.{CallsRise, CarriesSteps, carried-called_off, carried-fail_call, carried-on_call_failed, carried-on_reply, found-done}

abbrev Anything : Input → Type 0
Anything input = Unit {0}

abbrev has_version : ℕ → FunctionEntry → Bool
has_version version f = version == f.version

calls-rise : (s : State) → Going [] s → CallsRise s.issues
calls-rise s going = pairs-unmap (λ n later. n < later) call_of s.issues going.0.0.1.1.0.0

module _ (K : List Item → Core → Type 0) (keeps : CarriesSteps Any K) where
  abbrev P : List Item → State → Type 0
  P is s = K is (core s)

  -- ## What is due

  carried-make_found : (found : Option FunctionEntry) (w : Window) (s : State)
      → function_at (windows.version_of w) s ≡ found → IsIn w s.windows → P [] s
      → P [] (make_found found w (without_window (windows.number_of w) s))
  carried-make_found None w s e there h = keeps.changes.windows_go [] (windows.number_of w) s tt h
  carried-make_found (Some f) w s e there h =
      let own : IsFunction f s =
      in-found (has_version (windows.version_of w)) (s.functions ++ s.retired) f e in
      carried-made K keeps.changes [] f (windows.events_of w) None (without_window (windows.number_of w) s)
      (λ i its. keeps.changes.windows_go [] (windows.number_of w)
      (queue i (started f (windows.events_of w) None s)) tt
      (keeps.changes.makes [] f (windows.events_of w) None i s own
      (λ texts. in-all (λ (v : Window). HaveTexts s.texts (windows.events_of v)) w s.windows there texts) its tt h))

  carried-fire : (e : Timed) (s : State) → Going [] s → IsThere s e → P [] s → P [] (fire e s)
  carried-fire (sleep_end e) s going there h =
      carried-discover K keeps.changes
      (wake_step e.run e.hash (codes "null") (without_sleep e.number s))
      (carried-wake_step K keeps.changes [] e.run e.hash (codes "null") (without_sleep e.number s) h)
  carried-fire (wait_end e) s going there h =
      carried-discover K keeps.changes (end_wait (codes "{\"data\":null}") e s)
      (carried-end_wait K keeps.changes [] (codes "{\"data\":null}") e s h)
  carried-fire (invocation_end e) s going there h =
      carried-discover K keeps.changes
      (wake_step e.run e.hash timed_out (without_invocation e.number s))
      (carried-wake_step K keeps.changes [] e.run e.hash timed_out (without_invocation e.number s) h)
  carried-fire (window_end w) s going there h =
      carried-make_found (function_at (windows.version_of w) s) w s refl there h
  carried-fire (rule_end e) s going there h = h
  carried-fire (call_limit i) s going there h =
      carried-fail_call K keeps i (error_object (codes "call limit")) s (calls-rise s going) there h

  carried-fire_by : (n t : ℕ) (a : Advanced) → Going [] a.state → P [] a.state → P [] (fire_by n t a).state
  unfolding fire_by
  carried-fire_by zero t a going h = h
  carried-fire_by (suc n) t a going h =
      (elim (due_by t a.state) as (λ o. due_by t a.state ≡ o → P [] (elim o as (λ _. Advanced)
      [ None ↦ a | Some next ↦ fire_by n t (fired next a) ]).state) [
        | None ↦ λ e. h
        | Some next ↦ λ e.
            let due : (next.due ≤ t) × IsThere a.state next.entry = is-due t a.state next e in
            carried-fire_by n t (fired next a)
            (kept-fire t Anything Going (going-steps t) next.entry (record a.state { moment = next.due }) due.1 going)
            (carried-fire next.entry (record a.state { moment = next.due }) going due.1 h)
      ]) refl

  pub carried-advance : (t : ℕ) (s : State) → Going [] s → P [] s → P [] (advance t s).state
  unfolding advance
  carried-advance t s going h = carried-fire_by most t (record { state = s; hangs = [] }) going h

  -- ## Calls

  carried-issue_of : (run : Option Run) (i : Item) (a : Settled) → Going [] a.state → IsIn i a.state.items
      → P [] a.state → P [] (issue_of run i a).state
  carried-issue_of None i a going there h = keeps.issues i a.state going.0.1.queued there tt h
  carried-issue_of (Some r) i a going there h = keeps.issues i a.state going.0.1.queued there tt h

  carried-issue_found : (number : ℕ) (found : Option Item) (a : Settled) → Going [] a.state
      → item_at number a.state ≡ found → P [] a.state → P [] (issue_found found a).state
  carried-issue_found number None a going e h = h
  carried-issue_found number (Some i) a going e h =
      carried-issue_of (live_run i.run a.state) i a going (in-found (has_number number) a.state.items i e) h

  carried-settle_by : (n : ℕ) (a : Settled) → Going [] a.state → P [] a.state → P [] (settle_by n a).state
  unfolding settle_by
  carried-settle_by zero a going h = h
  carried-settle_by (suc n) a going h =
      (elim (next_issued a.state) as (λ o. next_issued a.state ≡ o → P [] (elim o as (λ _. Settled)
      [ None ↦ a | Some number ↦ settle_by n (issue_found (item_at number a.state) a) ]).state) [
        | None ↦ λ e. h
        | Some number ↦ λ e. carried-settle_by n (issue_found (item_at number a.state) a)
            (acted-issue_found Anything Going (acts-of 0 Anything Going (going-steps 0)) number
            (item_at number a.state) a e refl going)
            (carried-issue_found number (item_at number a.state) a going refl h)
      ]) refl

  -- ## Reopening

  carried-requeue_found : (i : Item) (is : List Item) (found : Option Run) (s : State) → live_run i.run s ≡ found
      → P (i ∷ is) s → P is (requeue_found i found s)
  carried-requeue_found i is None s e h = keeps.drops i is s (found-done i None s e tt) tt h
  carried-requeue_found i is (Some r) s e h =
      (elim (is_recorded i.target r.steps) as (λ b. is_recorded i.target r.steps ≡ b
      → P is (elim b as (λ _. State)
      [ true ↦ change_run r.number want s | false ↦ queue (record i { due = s.moment }) s ])) [
        | true ↦ λ done. carried-called_off K keeps i is r s e done h
        | false ↦ λ new. keeps.queues i (record i { due = s.moment }) is r s (refl, refl) (λ none. none) e new tt h
      ]) refl

  carried-requeue_all : (is : List Issue) (s : State) → P (map item_of is) s → P [] (requeue_all is s)
  carried-requeue_all [] s h = h
  carried-requeue_all (i ∷ is) s h =
      carried-requeue_all is (requeue_found i.item (live_run i.item.run s) s)
      (carried-requeue_found i.item (map item_of is) (live_run i.item.run s) s refl h)

  carried-reopen : (s : State) → P [] s → P [] (reopen s)
  carried-reopen s h =
      carried-discover K keeps.changes (requeue_all s.issues (record s { issues = [] }))
      (carried-requeue_all s.issues (record s { issues = [] }) (keeps.reopens s tt h))

  -- ## A step

  pub carried-act : (input : Input) (s : State) → Going [] s → P [] s → P [] (act input s).state
  unfolding act
  carried-act (Events at events) s going h =
      carried-on_events K keeps.changes events (record { state = s; numbers = [] }) h
  carried-act (Register at app) s going h = keeps.registers app s tt h
  carried-act (Reply at call reply) s going h = carried-on_reply K keeps call reply s (calls-rise s going) h
  carried-act (CallFailed at call) s going h = carried-on_call_failed K keeps call s (calls-rise s going) h
  carried-act (Tick at) s going h = h
  carried-act (Cancel at run) s going h =
      carried-cancel_found K keeps.changes run (live_run run s) s refl h
  carried-act (Reopened at) s going h = carried-reopen s h

  pub carried-tidied : (s : State) → P [] s → P [] (tidied s)
  unfolding tidied
  carried-tidied s h = keeps.tidies s tt h

  carried-settled : (s : State) → Going [] s → P [] s → P [] (tidied (settle (record { state = s; outs = [] })).state)
  carried-settled s going h =
      let a : Settled = record { state = s; outs = [] } in
      carried-tidied (settle a).state (carried-settle_by (length s.items) a going h)

  carried-step : (s : State) (input : Input) → Going [] s → P [] s → P [] (step s input).state
  unfolding step
  carried-step s input going h =
      let t : ℕ = moment_at (reading input) s in
      let a : Advanced = advance t (count_input s) in
      let on : Going [] a.state = kept-advance t Anything Going (going-steps t) t (count_input s) (omega arith)
      (goes-on s.moment (min (reading input) last_moment)) going in
      carried-settled (act input a.state).state
      (kept-act t Anything Going (going-steps t) input a.state tt on)
      (carried-act input a.state on (carried-advance t (count_input s) going h))

  carried-after : (inputs : List Input) (s : State) → Going [] s → P [] s → P [] (state_after s inputs)
  carried-after [] s going h = h
  carried-after (input ∷ inputs) s going h =
      carried-after inputs (step s input).state (going-step s input going) (carried-step s input going h)

  -- in each state that is reached
  pub carried-fold : (limits : Limits) (inputs : List Input) → P [] (empty limits) → P [] (fold limits inputs)
  carried-fold limits inputs h = carried-after inputs (empty limits) (going-empty limits) h

pub going-after : (inputs : List Input) (s : State) → Going [] s → Going [] (state_after s inputs)
going-after [] s going = going
going-after (input ∷ inputs) s going =
    going-after inputs (step s input).state (going-step s input going)

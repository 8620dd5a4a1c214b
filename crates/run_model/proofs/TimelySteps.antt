-- Each change leaves nothing overdue and no run dated after the moment, or so many entry numbers were given as a
-- machine can't count: so it is through each step.
use Rattle.std.proofs.Common.{◌≡◌, ℕ, ◌⊎◌, inl, inr, ◌+◌, ◌<◌, ◌≤◌, ◌==◌, ◌^◌, Bool, true, false, not, cond, List, [], ◌∷◌, ◌++◌, map, filter, Option, Some, None, IfSome, is_some, refl, sym, subst, arith}
use Rattle.std.specs.List.{AllByRecursion}
use Rattle.std.specs.Option.{option_map}
use Rattle.kinds.specs.Inputs.{reading}
use Rattle.kinds.specs.Moments.{last_moment}
use Rattle.kinds.specs.RunSteps.{pend_step}
use Rattle.kinds.specs.Windows as windows
use Rattle.kinds.specs.Windows.{after_event, capped, is_full, is_of, joined, opened}
use Rattle.kinds.specs.declared.event.EventIn.{EventIn}
use Rattle.kinds.specs.declared.function.CancelEntry.{CancelEntry}
use Rattle.kinds.specs.declared.input.Input.{Input}
use Rattle.kinds.specs.declared.limits.Limits.{Limits}
use Rattle.kinds.specs.declared.reply.Time.{Time}
use Rattle.kinds.specs.declared.reply.Time.TheVariants as time
use Rattle.kinds.specs.declared.store.Item.{Item}
use Rattle.kinds.specs.declared.store.Parent.{Parent}
use Rattle.kinds.specs.declared.store.Pending.{Pending}
use Rattle.kinds.specs.declared.store.Pending.TheVariants as pending
use Rattle.kinds.specs.declared.store.Rule.{Rule}
use Rattle.kinds.specs.declared.store.RunStatus.{RunStatus}
use Rattle.kinds.specs.declared.window.Window.{Window}
use Rattle.kinds.specs.declared.window.Window.TheVariants as window
use Rattle.kinds.specs.declared.window.WindowRule.{WindowRule}
use Rattle.kinds.specs.declared.window.WindowRule.TheVariants as rule
use Rattle.functions.specs.declared.entry.FunctionEntry.{FunctionEntry}
use Rattle.lists.proofs.Elements.{all-filter, all-last, all-weaker}
use Rattle.run_model.specs.Advance.{Next, due_by, most, without_window}
use Rattle.run_model.specs.Ends.{end_run, run_number}
use Rattle.run_model.specs.Events.{add_event, event_with, window_of}
use Rattle.run_model.specs.Fit.{IsFit, IsInRange, item_of}
use Rattle.run_model.specs.Machine.{count_input, fold, state_after, step, with_functions}
use Rattle.run_model.specs.Making.{add_rule, first_of, new_rule, queue}
use Rattle.run_model.specs.Recording.{change_run, changed, record_in}
use Rattle.run_model.specs.Replies.{add_invocation, add_sleep, add_wait, again, close, due_at, new_sleep, pend, wait_with, want, with_plan, with_steps}
use Rattle.run_model.specs.Requests.{remember}
use Rattle.run_model.specs.Settle.{called, issue, issued}
use Rattle.run_model.specs.Sound.{AreTimely, Suits, all_runs}
use Rattle.run_model.specs.State.{State, Run, Issue, Invocation, Sleep, Waiting, at_moment, empty, has_open_call, tidied}
use Rattle.run_model.proofs.FitRuns.{all-changed, all-inserted, fit-invocations, fit-record_result, fit-rules, fit-sleeps, fit-waits}
use Rattle.run_model.proofs.FitSteps.{FitBeside, fit-changes, fit-empty, fit-drops, keeps-steps, moment-within}
use Rattle.run_model.proofs.FitWindows.{IsBefore, all-inserted_in, is-before, replaced, with_after}
use Rattle.run_model.proofs.Kept.{Keeps, IsLive, MayJoin, keeps-both, run_from, started, window_after, with_offer, freely}
use Rattle.run_model.proofs.KeptReplies.{KeepsCalls, dropping}
use Rattle.run_model.proofs.KeptSteps.{KeepsSteps, all_fired, is-due, kept-fire_by, kept-step}
use Rattle.run_model.proofs.Members.{in-all, in-found}
use Rattle.run_model.proofs.SettlingLists.{all-append}
use Rattle.run_model.proofs.TimedCounts.{AreFew, few-drops, is-through, keeps-few, length-last}
use Rattle.run_model.proofs.Timely.{AreBy, Late, due-later, late-arrived, late-moved, late-of, timed-late}

-- ## Moments

-- what is due at a time is no sooner than the moment
due-from : (t : Time) (m : ℕ) → m ≤ due_at t m
due-from (time.Span span) m = omega arith
due-from (time.At at) m = grind arith

due-from_some : (t : Option Time) (m : ℕ) → IfSome (option_map (λ t. due_at t m) t) (λ due. m ≤ due)
due-from_some None m = tt
due-from_some (Some t) m = due-from t m

timeout-from : (timeout : Option ℕ) (m : ℕ) → IfSome (option_map (λ timeout. m + timeout) timeout) (λ due. m ≤ due)
timeout-from None m = tt
timeout-from (Some timeout) m = omega arith

capped-from : (m : ℕ) (bound : Option ℕ) (due : ℕ) → m ≤ due → IfSome bound (λ most. m ≤ most)
    → m ≤ capped bound due
capped-from m None due low h = low
capped-from m (Some most) due low h = grind (arith, low, h)

-- ## Windows

opened-late : (r : WindowRule) (version : ℕ) (value : List ℕ) (event t number : ℕ)
    → t ≤ windows.due_of (opened r version value event t number)
opened-late (rule.Debounce d) version value event t number =
    capped-from t (option_map (λ timeout. t + timeout) d.timeout) (t + d.period) (omega arith)
    (timeout-from d.timeout t)
opened-late (rule.Batch b) version value event t number = omega arith

-- a debounce that isn't overdue doesn't become so: its timeout isn't over
joined-late : (r : WindowRule) (event t : ℕ) (w : Window) → Suits w r → t ≤ windows.due_of w
    → t ≤ windows.due_of (joined r event t w)
joined-late (rule.Debounce d) event t (window.Debounce number version value last first due) suits late =
    capped-from t (option_map (λ timeout. first + timeout) d.timeout) (t + d.period) (omega arith)
    (by_timeout d.timeout suits)
  where
    by_timeout : (timeout : Option ℕ) → IfSome timeout (λ timeout. due ≤ first + timeout)
        → IfSome (option_map (λ timeout. first + timeout) timeout) (λ most. t ≤ most)
    by_timeout None h = tt
    by_timeout (Some timeout) h = omega (arith, late, h)
joined-late (rule.Debounce d) event t (window.Batch number version value es due) suits late = late
joined-late (rule.Batch b) event t (window.Debounce number version value last first due) suits late = late
joined-late (rule.Batch b) event t (window.Batch number version value es due) suits late = late

-- ## Parts that change

late-live : (live : List Run) (s : State) → AllByRecursion (λ (r : Run). r.moment ≤ s.moment) live → Late s
    → Late (record s { live = live })
late-live live s by h = record { dues = h.dues; live_by = by; closing_by = h.closing_by }

late-changed : (number : ℕ) (f : Run → Run) (s : State) → ((r : Run) → (f r).moment ≡ r.moment) → Late s
    → Late (change_run number f s)
late-changed number f s same h =
    late-live (changed number f s.live) s
    (all-changed (λ (r : Run). r.moment ≤ s.moment) number f s.live
    (λ r (k : r.moment ≤ s.moment). subst (λ m. m ≤ s.moment) (sym (same r)) k) h.live_by) h

late-started : (f : FunctionEntry) (events : List ℕ) (parent : Option Parent) (s : State) → Late s
    → Late (started f events parent s)
late-started f events parent s h =
    late-live (s.live ++ run_from f events parent s ∷ []) s
    (all-last (λ (r : Run). r.moment ≤ s.moment) s.live (run_from f events parent s) h.live_by (omega arith)) h

late-windows : (ws : List Window) (s : State) → AllByRecursion (λ w. s.moment ≤ windows.due_of w) ws → Late s
    → Late (record s { windows = ws })
late-windows ws s late h =
    late-of (record s { windows = ws }) h.dues.late_sleeps h.dues.late_waits h.dues.late_invocations late
    h.dues.late_rules h.dues.late_issues h.live_by h.closing_by

late-left : (test : Window → Bool) (s : State) → Late s → Late (record s { windows = filter test s.windows })
late-left test s h = late-windows (filter test s.windows) s
    (all-filter (λ w. s.moment ≤ windows.due_of w) test s.windows h.dues.late_windows) h

late-sleeps : (sleeps : List Sleep) (s : State) → AllByRecursion (λ (e : Sleep). s.moment ≤ e.due) sleeps → Late s
    → Late (record s { sleeps = sleeps })
late-sleeps sleeps s late h =
    late-of (record s { sleeps = sleeps }) late h.dues.late_waits h.dues.late_invocations
    h.dues.late_windows h.dues.late_rules h.dues.late_issues h.live_by h.closing_by

late-waits : (waits : List Waiting) (s : State) → AllByRecursion (λ (e : Waiting). s.moment ≤ e.wait.due) waits
    → Late s → Late (record s { waits = waits })
late-waits waits s late h =
    late-of (record s { waits = waits }) h.dues.late_sleeps late h.dues.late_invocations
    h.dues.late_windows h.dues.late_rules h.dues.late_issues h.live_by h.closing_by

late-invocations : (invocations : List Invocation) (s : State)
    → AllByRecursion (λ (e : Invocation). IfSome e.due (λ due. s.moment ≤ due)) invocations → Late s
    → Late (record s { invocations = invocations })
late-invocations invocations s late h =
    late-of (record s { invocations = invocations }) h.dues.late_sleeps h.dues.late_waits late
    h.dues.late_windows h.dues.late_rules h.dues.late_issues h.live_by h.closing_by

late-rules : (rules : List Rule) (s : State)
    → AllByRecursion (λ (e : Rule). IfSome e.due (λ due. s.moment ≤ due)) rules → Late s
    → Late (record s { rules = rules })
late-rules rules s late h =
    late-of (record s { rules = rules }) h.dues.late_sleeps h.dues.late_waits h.dues.late_invocations
    h.dues.late_windows late h.dues.late_issues h.live_by h.closing_by

late-issues : (issues : List Issue) (s : State) → AllByRecursion (λ (i : Issue). s.moment ≤ i.due) issues → Late s
    → Late (record s { issues = issues })
late-issues issues s late h =
    late-of (record s { issues = issues }) h.dues.late_sleeps h.dues.late_waits h.dues.late_invocations
    h.dues.late_windows h.dues.late_rules late h.live_by h.closing_by

-- ## Changes

late-sleeps_left : (test : Sleep → Bool) (s : State) → Late s → Late (record s { sleeps = filter test s.sleeps })
late-sleeps_left test s h = late-sleeps (filter test s.sleeps) s
    (all-filter (λ (e : Sleep). s.moment ≤ e.due) test s.sleeps h.dues.late_sleeps) h

late-waits_left : (test : Waiting → Bool) (s : State) → Late s → Late (record s { waits = filter test s.waits })
late-waits_left test s h = late-waits (filter test s.waits) s
    (all-filter (λ (e : Waiting). s.moment ≤ e.wait.due) test s.waits h.dues.late_waits) h

late-invocations_left : (test : Invocation → Bool) (s : State) → Late s
    → Late (record s { invocations = filter test s.invocations })
late-invocations_left test s h = late-invocations (filter test s.invocations) s
    (all-filter (λ (e : Invocation). IfSome e.due (λ due. s.moment ≤ due)) test s.invocations
    h.dues.late_invocations) h

late-rules_left : (test : Rule → Bool) (s : State) → Late s → Late (record s { rules = filter test s.rules })
late-rules_left test s h = late-rules (filter test s.rules) s
    (all-filter (λ (e : Rule). IfSome e.due (λ due. s.moment ≤ due)) test s.rules h.dues.late_rules) h

late-issues_left : (test : Issue → Bool) (s : State) → Late s → Late (record s { issues = filter test s.issues })
late-issues_left test s h = late-issues (filter test s.issues) s
    (all-filter (λ (i : Issue). s.moment ≤ i.due) test s.issues h.dues.late_issues) h

late-rule : (r : Run) (event : List ℕ) (c : CancelEntry) (s : State) → Late s
    → Late (add_rule r (first_of r.events) event c s)
late-rule r event c s h =
    let added : Rule = new_rule r (first_of r.events) event s c in
    late-rules (s.rules ++ added ∷ []) s
    (all-last (λ (e : Rule). IfSome e.due (λ due. s.moment ≤ due)) s.rules added h.dues.late_rules
    (timeout-from c.timeout s.moment)) h

late-pend : (kind : Pending) (name : List ℕ) (r : Run) (s : State) → Late s → Late (pend kind name r s)
late-pend kind name r s h =
    late-changed r.number (λ q. with_steps (pend_step name kind q.steps) q) s (λ q. refl) h

late-sleep : (r : Run) (name : List ℕ) (t : Time) (s : State) → Late s → Late (add_sleep r name t s)
late-sleep r name t s h =
    late-sleeps (s.sleeps ++ new_sleep r name t s ∷ []) (pend pending.Sleep name r s)
    (all-last (λ (e : Sleep). s.moment ≤ e.due) s.sleeps (new_sleep r name t s) h.dues.late_sleeps
    (due-from t s.moment)) (late-pend pending.Sleep name r s h)

late-wait : (r : Run) (name event : List ℕ) (t : Time) (cond : Option (List ℕ)) (s : State) → Late s
    → Late (add_wait r name event t cond s)
late-wait r name event t cond s h =
    late-waits (s.waits ++ wait_with r name event t cond s ∷ []) (pend pending.Wait name r s)
    (all-last (λ (e : Waiting). s.moment ≤ e.wait.due) s.waits (wait_with r name event t cond s)
    h.dues.late_waits (due-from t s.moment)) (late-pend pending.Wait name r s h)

late-invocation : (r : Run) (name : List ℕ) (child : ℕ) (t : Option Time) (s : State) → Late s
    → Late (add_invocation r name child t s)
late-invocation r name child t s h =
    let added : Invocation = record {
      number = s.entries + 1;
      run = r.number;
      hash = name;
      child = child;
      due = option_map (λ t. due_at t s.moment) t;
    } in
    late-invocations (s.invocations ++ added ∷ []) s
    (all-last (λ (e : Invocation). IfSome e.due (λ due. s.moment ≤ due)) s.invocations added
    h.dues.late_invocations (due-from_some t s.moment)) h

late-ended : (r : Run) (status : RunStatus) (s : State) → IsLive r s → Late s → Late (end_run r status s)
late-ended r status s live h =
    let own : r.moment ≤ s.moment =
    in-all (λ (q : Run). q.moment ≤ s.moment) r s.live
    (in-found (λ (other : Run). r.number == other.number) s.live r live) h.live_by in
    record {
      dues = record {
        late_sleeps = all-filter (λ (e : Sleep). s.moment ≤ e.due) (λ (e : Sleep). not (r.number == e.run)) s.sleeps
            h.dues.late_sleeps;
        late_waits = all-filter (λ (e : Waiting). s.moment ≤ e.wait.due)
            (λ (e : Waiting). not (r.number == e.wait.run)) s.waits h.dues.late_waits;
        late_invocations = all-filter (λ (e : Invocation). IfSome e.due (λ due. s.moment ≤ due))
            (λ (e : Invocation). not (r.number == e.run)) s.invocations h.dues.late_invocations;
        late_windows = h.dues.late_windows;
        late_rules = all-filter (λ (e : Rule). IfSome e.due (λ due. s.moment ≤ due))
            (λ (e : Rule). not (r.number == e.run)) s.rules h.dues.late_rules;
        late_issues = h.dues.late_issues;
      };
      live_by = all-filter (λ (q : Run). q.moment ≤ s.moment) (λ (q : Run). not (r.number == q.number)) s.live
          h.live_by;
      closing_by = all-inserted (λ (q : Run). q.moment ≤ s.moment) run_number r s.closing own h.closing_by;
    }

-- ## Unless the numbers end

abbrev IsHigh : State → Type 0
IsHigh s = most ≤ s.entries

abbrev pub LateOrHigh : State → Type 0
LateOrHigh s = Late s ⊎ IsHigh s

either : {A B C D : Type 0} → (A → C) → (B → D) → A ⊎ B → C ⊎ D
either f g (inl a) = inl (f a)
either f g (inr b) = inr (g b)

higher : (entries : ℕ) → most ≤ entries → most ≤ entries + 1
higher entries h = omega (arith, h)

or-accepted : (event : EventIn) (id : Option (List ℕ)) (s : State) → LateOrHigh s
    → LateOrHigh (add_event (event_with event s) (remember id s))
or-accepted event None s h = h
or-accepted event (Some id) s h = h

high-full : (there : Bool) (w : Window) (s : State) → IsHigh s → IsHigh (with_after true there w s)
high-full true w s h = h
high-full false w s h = h

high-stays : (there : Bool) (w : Window) (s : State) → IsHigh s → IsHigh (with_after false there w s)
high-stays true w s h = h
high-stays false w s h = higher s.entries h

or-filled : (f : FunctionEntry) (r : WindowRule) (value : List ℕ) (event : ℕ) (s : State)
    → is_full r (window_after f r value event s) ≡ true → LateOrHigh s
    → LateOrHigh (started f (windows.events_of (window_after f r value event s)) None (with_offer f r value event s))
or-filled f r value event s e h =
    let w : Window = window_after f r value event s in
    let there : Bool = is_some (window_of f.version value s) in
    either (late-started f (windows.events_of w) None (with_offer f r value event s)) (λ k. k)
    (subst (λ b. LateOrHigh (with_after b there w s)) (sym e)
    (either (late-left (λ v. not (is_of (windows.version_of w) (windows.value_of w) v)) s) (high-full there w s) h))

after-late : (f : FunctionEntry) (r : WindowRule) (value : List ℕ) (event : ℕ) (s : State) (before : Option Window)
    → window_of f.version value s ≡ before
    → ((w : Window) → before ≡ Some w → IsBefore s.events s.entries s.versions f r w) → Late s
    → s.moment ≤ windows.due_of (after_event r f.version value event s.moment (s.entries + 1) before)
after-late f r value event s None e known h = opened-late r f.version value event s.moment (s.entries + 1)
after-late f r value event s (Some w) e known h =
    joined-late r event s.moment w (known w refl).room
    (in-all (λ w. s.moment ≤ windows.due_of w) w s.windows (in-found (is_of f.version value) s.windows w e)
    h.dues.late_windows)

or-joined : (f : FunctionEntry) (r : WindowRule) (value : List ℕ) (event : ℕ) (s : State) → MayJoin f r event s
    → is_full r (window_after f r value event s) ≡ false → IsFit s → LateOrHigh s
    → LateOrHigh (with_offer f r value event s)
or-joined f r value event s may e fits h =
    let w : Window = window_after f r value event s in
    let before : Option Window = window_of f.version value s in
    let test : Window → Bool = λ v. not (is_of (windows.version_of w) (windows.value_of w) v) in
    subst (λ b. LateOrHigh (with_after b (is_some before) w s)) (sym e)
    (either (λ (k : Late s). late-windows (replaced w s) s
    (all-inserted_in (λ v. s.moment ≤ windows.due_of v) w (filter test s.windows)
    (after-late f r value event s before refl (is-before f r value event s may fits) k)
    (all-filter (λ v. s.moment ≤ windows.due_of v) test s.windows k.dues.late_windows)) k)
    (high-stays (is_some before) w s) h)

abbrev FitAndLate : State → Type 0
FitAndLate s = IsFit s × LateOrHigh s

keeps-late : Keeps FitAndLate
keeps-late = freely FitAndLate (record {
  accepts = λ event id s new h. (fit-changes.accepts event id s new h.0, or-accepted event id s h.1);
  starts = λ f event parent s there given h. (
    fit-changes.starts f event parent s there given h.0,
    either (late-started f (event ∷ []) parent s) (λ k. k) h.1,
  );
  fills = λ f r value event s may full h.
      (fit-changes.fills f r value event s may full h.0, or-filled f r value event s full h.1);
  fires = λ f w s there stands h. (
    fit-changes.fires f w s there stands h.0,
    either (λ (k : Late s). late-started f (windows.events_of w) None
        (without_window (windows.number_of w) s)
        (late-left (λ v. not (windows.has_number (windows.number_of w) v)) s k)) (λ k. k) h.1,
  );
  joins = λ f r value event s may full h.
      (fit-changes.joins f r value event s may full h.0, or-joined f r value event s may full h.0 h.1);
  windows_go = λ number s h. (
    fit-changes.windows_go number s h.0,
    either (late-left (λ v. not (windows.has_number number v)) s) (λ k. k) h.1,
  );
  rules = λ r event c s there e h.
      (fit-changes.rules r event c s there e h.0, either (late-rule r event c s) (higher s.entries) h.1);
  finds_out = λ r s there h. (fit-changes.finds_out r s there h.0, either (λ k. k) (higher s.entries) h.1);
  wants = λ r s live h.
      (fit-changes.wants r s live h.0, either (late-changed r.number want s (λ q. refl)) (λ k. k) h.1);
  plans = λ r name s live new h. (
    fit-changes.plans r name s live new h.0,
    either (late-changed r.number (with_plan name) s (λ q. refl)) (higher s.entries) h.1,
  );
  sleeps = λ r name t s live new h.
      (fit-changes.sleeps r name t s live new h.0, either (late-sleep r name t s) (higher s.entries) h.1);
  waits = λ r name event t cond s live new h. (
    fit-changes.waits r name event t cond s live new h.0,
    either (late-wait r name event t cond s) (higher s.entries) h.1,
  );
  pends = λ r name s live new h.
      (fit-changes.pends r name s live new h.0, either (late-pend pending.Invocation name r s) (λ k. k) h.1);
  invokes = λ r name child t s there h. (
    fit-changes.invokes r name child t s there h.0,
    either (late-invocation r name child t s) (higher s.entries) h.1,
  );
  ends = λ r status s live h.
      (fit-changes.ends r status s live h.0, either (late-ended r status s live) (λ k. k) h.1);
}) (record {
  records = λ run name result s h. (
    fit-record_result run name result s h.0,
    either (late-changed run (record_in name result) s (λ q. refl)) (λ k. k) h.1,
  );
  sleeps_go = λ test s h. (fit-sleeps test s h.0, either (late-sleeps_left test s) (λ k. k) h.1);
  waits_go = λ test s h. (fit-waits test s h.0, either (late-waits_left test s) (λ k. k) h.1);
  invocations_go = λ test s h.
      (fit-invocations test s h.0, either (late-invocations_left test s) (λ k. k) h.1);
  rules_go = λ test s h. (fit-rules test s h.0, either (late-rules_left test s) (λ k. k) h.1);
})

-- ## Steps

module _ (t : ℕ) where
  by-accepted : (event : EventIn) (id : Option (List ℕ)) (s : State) → s.moment ≤ t
      → (add_event (event_with event s) (remember id s)).moment ≤ t
  by-accepted event None s h = h
  by-accepted event (Some id) s h = h

  by-tidied : (s : State) → s.moment ≤ t → (tidied s).moment ≤ t
  unfolding tidied
  by-tidied s h = h

  keeps-by : Keeps (λ s. s.moment ≤ t)
  keeps-by = freely (λ s. s.moment ≤ t) (record {
    accepts = λ event id s new h. by-accepted event id s h;
    starts = λ f event parent s there given h. h;
    fills = λ f r value event s may full h. h;
    fires = λ f w s there stands h. h;
    joins = λ f r value event s may full h. h;
    windows_go = λ number s h. h;
    rules = λ r event c s there e h. h;
    finds_out = λ r s there h. h;
    wants = λ r s live h. h;
    plans = λ r name s live new h. h;
    sleeps = λ r name t s live new h. h;
    waits = λ r name event t cond s live new h. h;
    pends = λ r name s live new h. h;
    invokes = λ r name child t s there h. h;
    ends = λ r status s live h. h;
  }) (record {
    records = λ run name result s h. h;
    sleeps_go = λ test s h. h;
    waits_go = λ test s h. h;
    invocations_go = λ test s h. h;
    rules_go = λ test s h. h;
  })

  by-steps : KeepsSteps t (λ input. Unit {0}) (λ is s. s.moment ≤ t)
  by-steps = record {
    calls = dropping (λ is s. s.moment ≤ t) (record {
      runs = λ is. keeps-by;
      closes = λ i s there h. h;
      reopens = λ s h. h;
      drops = λ i is s h. h;
      retries = λ i is a r s live new h. h;
      requeues = λ i is r s live new h. h;
    });
    counts = λ s h. h;
    moves = λ u next s low e h. omega (arith, low, (is-due u s next e).0);
    arrives = λ u s low on before h. low;
    issues = λ number i s next there h. h;
    registers = λ at app s asked h. h;
    tidies = λ s h. by-tidied s h;
  }

-- what has happened by a moment has
fired-by : (t : ℕ) (s : State) → s.moment ≤ t → (all_fired t s).moment ≤ t
fired-by t s on =
    kept-fire_by t (λ input. Unit {0}) (λ is u. u.moment ≤ t) (by-steps t) most t
    (record { state = s; hangs = [] }) (omega arith) on

-- in the midst of a step: with these items aside it is fit, nothing is overdue or the numbers end, and there is no
-- more that falls due than the numbers that were given
abbrev pub TimelyBeside : List Item → State → Type 0
TimelyBeside is s = FitBeside is s × (FitAndLate s × AreFew 0 s)

pack : (is : List Item) (s : State) → FitBeside is s → LateOrHigh s → AreFew 0 s → TimelyBeside is s
pack is s fits late few = (fits, ((fits.0, late), few))

pub timely-calls : KeepsCalls TimelyBeside
timely-calls = dropping TimelyBeside (record {
  runs = λ is. keeps-both (FitBeside is) (λ s. FitAndLate s × AreFew 0 s) (fit-drops.runs is)
      (keeps-both FitAndLate (AreFew 0) keeps-late (keeps-few 0));
  closes = λ i s there h. pack (i.item ∷ []) (close i.call s) (fit-drops.closes i s there h.0)
      (either (late-issues_left (λ (other : Issue). not (i.call == other.call)) s) (λ k. k) h.1.0.1)
      ((few-drops 0).closes i s there h.1.1);
  reopens = λ s h. pack (map item_of s.issues) (record s { issues = [] }) (fit-drops.reopens s h.0)
      (either (λ (k : Late s). late-issues [] s tt k) (λ k. k) h.1.0.1) ((few-drops 0).reopens s h.1.1);
  drops = λ i is s h. pack is s (fit-drops.drops i is s h.0) h.1.0.1 h.1.1;
  retries = λ i is a r s live new h.
      pack is (queue (again i a s) s) (fit-drops.retries i is a r s live new h.0) h.1.0.1 h.1.1;
  requeues = λ i is r s live new h.
      pack is (queue (record i { due = s.moment }) s) (fit-drops.requeues i is r s live new h.0) h.1.0.1 h.1.1;
})

or-moved : (t : ℕ) (next : Next) (s : State) → due_by t s ≡ Some next → LateOrHigh s
    → LateOrHigh (record s { moment = next.due })
or-moved t next s e h =
    either (λ (k : Late s). record {
      dues = late-moved t next s e;
      live_by = later next.due s.live (due-later t next s k e) k.live_by;
      closing_by = later next.due s.closing (due-later t next s k e) k.closing_by;
    }) (λ k. k) h
  where
    later : (m : ℕ) (rs : List Run) → s.moment ≤ m → AreBy s.moment rs → AreBy m rs
    later m rs on by = all-weaker (λ (r : Run). r.moment ≤ s.moment) (λ (r : Run). r.moment ≤ m) rs
        (λ r (low : r.moment ≤ s.moment). omega (arith, low, on)) by

or-arrived : (t : ℕ) (u : State) → u.moment ≤ t → (due_by t u ≡ None) ⊎ (most ≤ u.entries) → LateOrHigh u
    → LateOrHigh (at_moment t u)
or-arrived t u on (inr many) h = inr many
or-arrived t u on (inl none) (inr many) = inr many
or-arrived t u on (inl none) (inl k) = inl (record {
  dues = late-arrived t u none;
  live_by = later u.live k.live_by;
  closing_by = later u.closing k.closing_by;
})
  where
    later : (rs : List Run) → AreBy u.moment rs → AreBy t rs
    later rs by = all-weaker (λ (r : Run). r.moment ≤ u.moment) (λ (r : Run). r.moment ≤ t) rs
        (λ r (low : r.moment ≤ u.moment). omega (arith, low, on)) by

or-issued : (i : Item) (s : State) → LateOrHigh s → LateOrHigh (issue i s)
or-issued i s h =
    either (λ (k : Late s). late-changed i.run (called i.target) (record s { issues = s.issues ++ issued i s ∷ [] })
    (λ q. refl)
    (late-issues (s.issues ++ issued i s ∷ []) s
    (all-last (λ (j : Issue). s.moment ≤ j.due) s.issues (issued i s) k.dues.late_issues (omega arith)) k))
    (higher s.entries) h

few-issued : (i : Item) (s : State) → AreFew 0 s → AreFew 0 (issue i s)
few-issued i s h = let more = length-last s.issues (issued i s) in omega (arith, h, more)

or-tidied : (s : State) → LateOrHigh s → LateOrHigh (tidied s)
unfolding tidied
or-tidied s h =
    either (λ (k : Late s). record {
      dues = k.dues;
      live_by = k.live_by;
      closing_by = all-filter (λ (r : Run). r.moment ≤ s.moment)
          (λ (r : Run). has_open_call s.issues r.number) s.closing k.closing_by;
    }) (λ k. k) h

few-tidied : (s : State) → AreFew 0 s → AreFew 0 (tidied s)
unfolding tidied
few-tidied s h = h

pub timely-steps : KeepsSteps last_moment IsInRange TimelyBeside
timely-steps = record {
  calls = timely-calls;
  counts = λ s h. pack [] (count_input s) (keeps-steps.counts s h.0) h.1.0.1 h.1.1;
  moves = λ t next s low e h. pack [] (record s { moment = next.due }) (keeps-steps.moves t next s low e h.0)
      (or-moved t next s e h.1.0.1) h.1.1;
  arrives = λ t s low on before h.
      pack [] (at_moment t (all_fired t s)) (keeps-steps.arrives t s low on before.0 h.0)
      (or-arrived t (all_fired t s) (fired-by t s on) (is-through t s before.1.1) h.1.0.1) h.1.1;
  issues = λ number i s next there h.
      pack [] (issue i s) (keeps-steps.issues number i s next there h.0) (or-issued i s h.1.0.1)
      (few-issued i s h.1.1);
  registers = λ at app s ranges h.
      pack [] (with_functions app s) (keeps-steps.registers at app s ranges h.0) h.1.0.1 h.1.1;
  tidies = λ s h.
      pack [] (tidied s) (keeps-steps.tidies s h.0) (or-tidied s h.1.0.1) (few-tidied s h.1.1);
}

-- ## Histories

timely-after : (inputs : List Input) (s : State) → AllByRecursion IsInRange inputs → TimelyBeside [] s
    → TimelyBeside [] (state_after s inputs)
timely-after [] s ranges h = h
timely-after (input ∷ inputs) s ranges h =
    timely-after inputs (step s input).state ranges.1
    (kept-step last_moment IsInRange TimelyBeside timely-steps s input (moment-within (reading input) s h.0.0)
    ranges.0 h)

late-empty : (limits : Limits) → Late (empty limits)
late-empty limits = late-of (empty limits) tt tt tt tt tt tt tt tt

late-fold : (limits : Limits) (inputs : List Input) → AllByRecursion IsInRange inputs
    → (fold limits inputs).entries < 2 ^ 64 → Late (fold limits inputs)
late-fold limits inputs ranges few =
    low (timely-after inputs (empty limits) ranges
    (pack [] (empty limits) (fit-empty limits, tt) (inl (late-empty limits)) (omega arith))).1.0.1
  where
    low : LateOrHigh (fold limits inputs) → Late (fold limits inputs)
    low (inl h) = h
    low (inr many) = absurd (omega (arith, few, many))

pub timely-fold : (limits : Limits) (inputs : List Input) → AllByRecursion IsInRange inputs
    → (fold limits inputs).entries < 2 ^ 64 → AreTimely (fold limits inputs)
timely-fold limits inputs ranges few =
    timed-late (fold limits inputs).moment (fold limits inputs) (late-fold limits inputs ranges few).dues

pub dated-fold : (limits : Limits) (inputs : List Input) → AllByRecursion IsInRange inputs
    → (fold limits inputs).entries < 2 ^ 64
    → AllByRecursion (λ (r : Run). r.moment ≤ (fold limits inputs).moment) (all_runs (fold limits inputs))
dated-fold limits inputs ranges few =
    let s : State = fold limits inputs in
    let h : Late s = late-fold limits inputs ranges few in
    all-append (λ (r : Run). r.moment ≤ s.moment) s.live s.closing h.live_by h.closing_by

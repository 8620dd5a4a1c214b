-- What has happened isn't after the moment, and runs and windows have events: at each change, and so through each step.
use Rattle.std.proofs.Common.{◌≡◌, ℕ, ◌+◌, ◌<◌, ◌≤◌, ◌==◌, Bool, true, false, not, cond, List, [], ◌∷◌, ◌++◌, filter, length, min, take, drop, ◌-◌, Option, Some, None, IfSome, refl, sym, subst, arith, take-append-drop}
use Rattle.std.specs.List.{AllByRecursion}
use Rattle.kinds.specs.Inputs.{reading}
use Rattle.kinds.specs.Moments.{last_moment}
use Rattle.kinds.specs.Windows as windows
use Rattle.kinds.specs.Windows.{after_event, insert_window, is_full, is_of, joined, opened, others, standing}
use Rattle.kinds.specs.declared.event.EventIn.{EventIn}
use Rattle.kinds.specs.declared.input.Input.{Input}
use Rattle.kinds.specs.declared.limits.Limits.{Limits}
use Rattle.kinds.specs.declared.seen.SeenEntry.{SeenEntry}
use Rattle.kinds.specs.declared.store.Parent.{Parent}
use Rattle.kinds.specs.declared.store.RunStatus.{RunStatus}
use Rattle.kinds.specs.declared.window.Window.{Window}
use Rattle.kinds.specs.declared.window.Window.TheVariants as window
use Rattle.kinds.specs.declared.window.WindowRule.{WindowRule}
use Rattle.kinds.specs.declared.window.WindowRule.TheVariants as rule
use Rattle.functions.specs.declared.entry.FunctionEntry.{FunctionEntry}
use Rattle.lists.proofs.Elements.{all-filter, all-last, all-weaker}
use Rattle.run_model.specs.Advance.{without_window}
use Rattle.run_model.specs.Ends.{end_run, ended_run, run_number}
use Rattle.run_model.specs.Events.{add_event, event_with, window_of}
use Rattle.run_model.specs.Machine.{fold, state_after, step}
use Rattle.run_model.specs.Recording.{change_run, record_in}
use Rattle.run_model.specs.Replies.{want, with_plan}
use Rattle.run_model.specs.Requests.{remember}
use Rattle.run_model.specs.Settle.{called}
use Rattle.run_model.specs.Sound.{HasEvents, IsBegun, IsDated, IsSeen}
use Rattle.run_model.specs.State.{State, Run, EndedRun, empty, has_open_call, last_or, moment_at, tidied}
use Rattle.run_model.proofs.FitRuns.{all-changed, all-inserted}
use Rattle.run_model.proofs.FitWindows.{all-inserted_in}
use Rattle.run_model.proofs.Kept.{IsLive, Keeps, freely, run_from, started, window_after, with_offer}
use Rattle.run_model.proofs.KeptReplies.{dropping}
use Rattle.run_model.proofs.KeptSteps.{KeepsSteps, goes-on, is-due, kept-step}
use Rattle.run_model.proofs.Members.{all-found, in-all, in-found}
use Rattle.run_model.proofs.SeenOnce.{HasSeen, moment-fold, moment-step, seen-empty, seen-fold, seen-step}
use Rattle.run_model.proofs.SettlingLists.{all-append}
use Rattle.run_model.proofs.TimedCounts.{length-last}

-- ## By a moment

pub record IsRunBy (t : ℕ) (r : Run) : Type 0 where
  pub dated : r.moment ≤ t
  pub named : 0 < length r.events

pub record IsWindowBy (t : ℕ) (w : Window) : Type 0 where
  pub begun : IsBegun t w
  pub named : 0 < length (windows.events_of w)

pub record AreBy (t : ℕ) (live closing : List Run) (ws : List Window) (ended : List EndedRun) : Type 0 where
  pub live_by : AllByRecursion (IsRunBy t) live
  pub closing_by : AllByRecursion (IsRunBy t) closing
  pub windows_by : AllByRecursion (IsWindowBy t) ws
  pub ended_by : AllByRecursion (λ (e : EndedRun). e.moment ≤ t) ended

begun-later : (t u : ℕ) (w : Window) → t ≤ u → IsBegun t w → IsBegun u w
begun-later t u (window.Debounce number version value event first due) low h = omega (arith, low, h)
begun-later t u (window.Batch number version value events due) low h = tt

by-later : (t u : ℕ) (live closing : List Run) (ws : List Window) (ended : List EndedRun) → t ≤ u
    → AreBy t live closing ws ended → AreBy u live closing ws ended
by-later t u live closing ws ended low h = record {
  live_by = runs live h.live_by;
  closing_by = runs closing h.closing_by;
  windows_by = all-weaker (IsWindowBy t) (IsWindowBy u) ws
      (λ w k. record { begun = begun-later t u w low k.begun; named = k.named }) h.windows_by;
  ended_by = all-weaker (λ (e : EndedRun). e.moment ≤ t) (λ (e : EndedRun). e.moment ≤ u) ended
      (λ e (k : e.moment ≤ t). omega (arith, low, k)) h.ended_by;
}
  where
    runs : (rs : List Run) → AllByRecursion (IsRunBy t) rs → AllByRecursion (IsRunBy u) rs
    runs rs k = all-weaker (IsRunBy t) (IsRunBy u) rs
        (λ r (d : IsRunBy t r). record { dated = omega (arith, low, d.dated); named = d.named }) k

-- ## Windows

opened-by : (t : ℕ) (r : WindowRule) (version : ℕ) (value : List ℕ) (event m number : ℕ) → m ≤ t
    → IsWindowBy t (opened r version value event m number)
opened-by t (rule.Debounce d) version value event m number low = record { begun = low; named = omega arith }
opened-by t (rule.Batch b) version value event m number low = record { begun = tt; named = omega arith }

joined-by : (t : ℕ) (r : WindowRule) (event m : ℕ) (w : Window) → IsWindowBy t w
    → IsWindowBy t (joined r event m w)
joined-by t (rule.Debounce d) event m (window.Debounce number version value last first due) h =
    record { begun = h.begun; named = omega arith }
joined-by t (rule.Debounce d) event m (window.Batch number version value events due) h = h
joined-by t (rule.Batch b) event m (window.Debounce number version value last first due) h = h
joined-by t (rule.Batch b) event m (window.Batch number version value events due) h =
    record { begun = tt; named = let more = length-last events event in omega (arith, more) }

after-by : (t : ℕ) (r : WindowRule) (version : ℕ) (value : List ℕ) (event m number : ℕ) (before : Option Window)
    → m ≤ t → IfSome before (IsWindowBy t) → IsWindowBy t (after_event r version value event m number before)
after-by t r version value event m number None low h = opened-by t r version value event m number low
after-by t r version value event m number (Some w) low h = joined-by t r event m w h

pub all-standing : (P : Window → Type 0) (r : WindowRule) (w : Window) (ws : List Window) → P w
    → AllByRecursion P ws → AllByRecursion P (standing r w ws)
all-standing P r w ws own h =
    let left : List Window = others (windows.version_of w) (windows.value_of w) ws in
    let fewer : AllByRecursion P left =
    all-filter P (λ v. not (is_of (windows.version_of w) (windows.value_of w) v)) ws h in
    elim (is_full r w) as (λ b. AllByRecursion P (cond b left (insert_window w left)))
    [ true ↦ fewer | false ↦ all-inserted_in P w left own fewer ]

-- ## The changes

module _ (t : ℕ) where
  abbrev pub By : State → Type 0
  By s = (s.moment ≤ t) × AreBy t s.live s.closing s.windows s.ended

  window-by : (f : FunctionEntry) (r : WindowRule) (value : List ℕ) (event : ℕ) (s : State) → By s
      → IsWindowBy t (window_after f r value event s)
  window-by f r value event s h =
      after-by t r f.version value event s.moment (s.entries + 1) (window_of f.version value s) h.0
      (all-found (IsWindowBy t) (is_of f.version value) s.windows h.1.windows_by)

  by-started : (f : FunctionEntry) (events : List ℕ) (parent : Option Parent) (s : State) → 0 < length events
      → By s → By (started f events parent s)
  by-started f events parent s some h = (
    h.0,
    record {
      live_by = all-last (IsRunBy t) s.live (run_from f events parent s) h.1.live_by
          (record { dated = h.0; named = some });
      closing_by = h.1.closing_by;
      windows_by = h.1.windows_by;
      ended_by = h.1.ended_by;
    },
  )

  by-offered : (f : FunctionEntry) (r : WindowRule) (value : List ℕ) (event : ℕ) (s : State) → By s
      → By (with_offer f r value event s)
  by-offered f r value event s h = (
    h.0,
    record {
      live_by = h.1.live_by;
      closing_by = h.1.closing_by;
      windows_by = all-standing (IsWindowBy t) r (window_after f r value event s) s.windows
          (window-by f r value event s h)
          h.1.windows_by;
      ended_by = h.1.ended_by;
    },
  )

  by-windows_left : (test : Window → Bool) (s : State) → By s → By (record s { windows = filter test s.windows })
  by-windows_left test s h = (
    h.0,
    record {
      live_by = h.1.live_by;
      closing_by = h.1.closing_by;
      windows_by = all-filter (IsWindowBy t) test s.windows h.1.windows_by;
      ended_by = h.1.ended_by;
    },
  )

  by-changed : (number : ℕ) (f : Run → Run) (s : State) → ((r : Run) → IsRunBy t r → IsRunBy t (f r)) → By s
      → By (change_run number f s)
  by-changed number f s keeps h = (
    h.0,
    record {
      live_by = all-changed (IsRunBy t) number f s.live keeps h.1.live_by;
      closing_by = h.1.closing_by;
      windows_by = h.1.windows_by;
      ended_by = h.1.ended_by;
    },
  )

  by-ended : (r : Run) (status : RunStatus) (s : State) → IsLive r s → By s → By (end_run r status s)
  by-ended r status s live h =
      let own : IsRunBy t r = in-all (IsRunBy t) r s.live
      (in-found (λ (q : Run). r.number == q.number) s.live r live) h.1.live_by in (
        h.0,
        record {
          live_by = all-filter (IsRunBy t) (λ (q : Run). not (r.number == q.number)) s.live h.1.live_by;
          closing_by = all-inserted (IsRunBy t) run_number r s.closing own h.1.closing_by;
          windows_by = h.1.windows_by;
          ended_by = all-last (λ (e : EndedRun). e.moment ≤ t) s.ended (ended_run r status s) h.1.ended_by
              own.dated;
        },
      )

  by-accepted : (event : EventIn) (id : Option (List ℕ)) (s : State) → By s
      → By (add_event (event_with event s) (remember id s))
  by-accepted event None s h = h
  by-accepted event (Some id) s h = h

  run-same : (r now : Run) → now.moment ≡ r.moment → now.events ≡ r.events → IsRunBy t r → IsRunBy t now
  run-same r now same named h = record {
    dated = subst (λ m. m ≤ t) (sym same) h.dated;
    named = subst (λ (es : List ℕ). 0 < length es) (sym named) h.named;
  }

  pub keeps-by : Keeps By
  keeps-by = freely By (record {
    accepts = λ event id s new h. by-accepted event id s h;
    starts = λ f event parent s there given h. by-started f (event ∷ []) parent s (omega arith) h;
    fills = λ f r value event s may full h.
        by-started f (windows.events_of (window_after f r value event s)) None (with_offer f r value event s)
        (window-by f r value event s h).named (by-offered f r value event s h);
    fires = λ f w s there stands h.
        by-started f (windows.events_of w) None (without_window (windows.number_of w) s)
        (in-all (IsWindowBy t) w s.windows stands h.1.windows_by).named
        (by-windows_left (λ v. not (windows.has_number (windows.number_of w) v)) s h);
    joins = λ f r value event s may full h. by-offered f r value event s h;
    windows_go = λ number s h. by-windows_left (λ v. not (windows.has_number number v)) s h;
    rules = λ r event c s there e h. h;
    finds_out = λ r s there h. h;
    wants = λ r s live h. by-changed r.number want s (λ q k. run-same q (want q) refl refl k) h;
    plans = λ r name s live new h.
        by-changed r.number (with_plan name) s (λ q k. run-same q (with_plan name q) refl refl k) h;
    sleeps = λ r name t s live new h.
        by-changed r.number _ s (λ q k. run-same q _ refl refl k) h;
    waits = λ r name event t given s live new h.
        by-changed r.number _ s (λ q k. run-same q _ refl refl k) h;
    pends = λ r name s live new h.
        by-changed r.number _ s (λ q k. run-same q _ refl refl k) h;
    invokes = λ r name child t s there h. h;
    ends = λ r status s live h. by-ended r status s live h;
  }) (record {
    records = λ run name result s h.
        by-changed run (record_in name result) s (λ q k. run-same q (record_in name result q) refl refl k) h;
    sleeps_go = λ test s h. h;
    waits_go = λ test s h. h;
    invocations_go = λ test s h. h;
    rules_go = λ test s h. h;
  })

  fewer-ended : (test : EndedRun → Bool) (most : ℕ) (es : List EndedRun)
      → AllByRecursion (λ (e : EndedRun). e.moment ≤ t) es
      → AllByRecursion (λ (e : EndedRun). e.moment ≤ t) (last_or test most es)
  fewer-ended test most es h =
      let n : ℕ = length es - most in
      let P : EndedRun → Type 0 = λ (e : EndedRun). e.moment ≤ t in
      let whole : AllByRecursion P (take n es ++ drop n es) =
      subst (λ xs. AllByRecursion P xs) (sym (take-append-drop n es)) h in
      all-append P (filter test (take n es)) (drop n es)
      (all-filter P test (take n es) (all-before P (take n es) (drop n es) whole))
      (all-behind P (take n es) (drop n es) whole)
    where
      all-before : (P : EndedRun → Type 0) (xs ys : List EndedRun) → AllByRecursion P (xs ++ ys)
          → AllByRecursion P xs
      all-before P [] ys k = tt
      all-before P (x ∷ xs) ys k = (k.0, all-before P xs ys k.1)

      all-behind : (P : EndedRun → Type 0) (xs ys : List EndedRun) → AllByRecursion P (xs ++ ys)
          → AllByRecursion P ys
      all-behind P [] ys k = k
      all-behind P (x ∷ xs) ys k = all-behind P xs ys k.1

  by-tidied : (s : State) → By s → By (tidied s)
  unfolding tidied
  by-tidied s h = (
    h.0,
    record {
      live_by = h.1.live_by;
      closing_by = all-filter (IsRunBy t) (λ (r : Run). has_open_call s.issues r.number) s.closing h.1.closing_by;
      windows_by = h.1.windows_by;
      ended_by = fewer-ended (λ (e : EndedRun). has_open_call s.issues e.run) 1000 s.ended h.1.ended_by;
    },
  )

  pub by-steps : KeepsSteps t (λ input. Unit {0}) (λ is s. By s)
  by-steps = record {
    calls = dropping (λ is s. By s) (record {
      runs = λ is. keeps-by;
      closes = λ i s there h. h;
      reopens = λ s h. h;
      drops = λ i is s h. h;
      retries = λ i is a r s live new h. h;
      requeues = λ i is r s live new h. h;
    });
    counts = λ s h. h;
    moves = λ u next s low e h. (omega (arith, low, (is-due u s next e).0), h.1);
    arrives = λ u s low on before h. (low, h.1);
    issues = λ number i s next there h.
        by-changed i.run (called i.target) s (λ q k. run-same q (called i.target q) refl refl k) h;
    registers = λ at app s asked h. h;
    tidies = by-tidied;
  }

-- ## Steps

abbrev AreDated : State → Type 0
AreDated s = AreBy s.moment s.live s.closing s.windows s.ended

dated-step : (s : State) (input : Input) → HasSeen s → AreDated s → AreDated (step s input).state
dated-step s input seen h =
    let t : ℕ = moment_at (reading input) s in
    let on : s.moment ≤ t = goes-on s.moment (min (reading input) last_moment) in
    let after : State = (step s input).state in
    subst (λ m. AreBy m after.live after.closing after.windows after.ended) (sym (moment-step s input seen))
    (kept-step t (λ input. Unit {0}) (λ is s. By t s) (by-steps t) s input (omega arith) tt
    (on, by-later s.moment t s.live s.closing s.windows s.ended on h)).1

dated-after : (inputs : List Input) (s : State) → HasSeen s → AreDated s → AreDated (state_after s inputs)
dated-after [] s seen h = h
dated-after (input ∷ inputs) s seen h =
    dated-after inputs (step s input).state (seen-step s input seen) (dated-step s input seen h)

pub by-empty : (limits : Limits) → By last_moment (empty limits)
by-empty limits = (omega arith, record { live_by = tt; closing_by = tt; windows_by = tt; ended_by = tt })

are-dated : (limits : Limits) (inputs : List Input) → AreDated (fold limits inputs)
are-dated limits inputs = dated-after inputs (empty limits) (seen-empty limits)
    (record { live_by = tt; closing_by = tt; windows_by = tt; ended_by = tt })

pub all-dated : (limits : Limits) (inputs : List Input) → IsDated (fold limits inputs)
all-dated limits inputs =
    let s : State = fold limits inputs in
    let h : AreDated s = are-dated limits inputs in
    record {
      moment = moment-fold limits inputs;
      seen = all-weaker (IsSeen s) (λ (e : SeenEntry). e.moment ≤ s.moment) s.seen (λ e k. k.dated)
          (seen-fold limits inputs).entries;
      runs = all-append (λ (r : Run). r.moment ≤ s.moment) s.live s.closing (runs s s.live h.live_by)
          (runs s s.closing h.closing_by);
      windows = all-weaker (IsWindowBy s.moment) (IsBegun s.moment) s.windows (λ w k. k.begun) h.windows_by;
      ended = h.ended_by;
    }
  where
    runs : (s : State) (rs : List Run) → AllByRecursion (IsRunBy s.moment) rs
        → AllByRecursion (λ (r : Run). r.moment ≤ s.moment) rs
    runs s rs k = all-weaker (IsRunBy s.moment) (λ (r : Run). r.moment ≤ s.moment) rs (λ r d. d.dated) k

pub all-named : (limits : Limits) (inputs : List Input) → HasEvents (fold limits inputs)
all-named limits inputs =
    let s : State = fold limits inputs in
    let h : AreDated s = are-dated limits inputs in
    record {
      runs = all-append (λ (r : Run). 0 < length r.events) s.live s.closing (runs s s.live h.live_by)
          (runs s s.closing h.closing_by);
      windows = all-weaker (IsWindowBy s.moment) (λ w. 0 < length (windows.events_of w)) s.windows
          (λ w k. k.named) h.windows_by;
    }
  where
    runs : (s : State) (rs : List Run) → AllByRecursion (IsRunBy s.moment) rs
        → AllByRecursion (λ (r : Run). 0 < length r.events) rs
    runs s rs k = all-weaker (IsRunBy s.moment) (λ (r : Run). 0 < length r.events) rs (λ r d. d.named) k

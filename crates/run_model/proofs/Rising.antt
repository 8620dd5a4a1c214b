-- Numbers that are given one after the other rise in their lists, at each change and so through each step.
use Rattle.std.proofs.Common.{◌≡◌, ℕ, ◌+◌, ◌<◌, ◌≤◌, ◌==◌, Bool, true, false, not, cond, List, [], ◌∷◌, ◌++◌, map, filter, Option, Some, None, refl, sym, subst, arith}
use Rattle.std.specs.Option.{option_map}
use Rattle.kinds.specs.RunSteps.{pend_step}
use Rattle.kinds.specs.Windows as windows
use Rattle.kinds.specs.declared.event.EventIn.{EventIn}
use Rattle.kinds.specs.declared.function.CancelEntry.{CancelEntry}
use Rattle.kinds.specs.declared.limits.Limits.{Limits}
use Rattle.kinds.specs.declared.reply.Time.{Time}
use Rattle.kinds.specs.declared.store.Item.{Item}
use Rattle.kinds.specs.declared.store.Parent.{Parent}
use Rattle.kinds.specs.declared.store.Pending.{Pending}
use Rattle.kinds.specs.declared.store.Pending.TheVariants as pending
use Rattle.kinds.specs.declared.store.Rule.{Rule}
use Rattle.kinds.specs.declared.store.RunStatus.{RunStatus}
use Rattle.kinds.specs.declared.window.WindowRule.{WindowRule}
use Rattle.functions.specs.declared.entry.FunctionEntry.{FunctionEntry}
use Rattle.lists.proofs.Elements.{all-filter, all-last, all-weaker}
use Rattle.run_model.specs.Advance.{without_window}
use Rattle.run_model.specs.Events.{add_event, event_with, takes_number, window_of}
use Rattle.run_model.specs.Ends.{end_run}
use Rattle.run_model.specs.Making.{add_rule, first_of, new_rule}
use Rattle.run_model.specs.Recording.{change_run, record_in}
use Rattle.run_model.specs.Replies.{add_invocation, add_sleep, add_wait, due_at, new_sleep, pend, wait_with, want, with_plan, with_steps}
use Rattle.run_model.specs.Requests.{remember}
use Rattle.run_model.specs.Settle.{called, issue, issued}
use Rattle.run_model.specs.Sound.{RiseTo}
use Rattle.run_model.specs.State.{State, Run, Issue, EventText, Sleep, Waiting, Invocation, empty, is_named, tidied, without_closed}
use Rattle.run_model.proofs.Apart.{all-unmap, pairs-last, pairs-map, pairs-unmap}
use Rattle.run_model.proofs.FitWindows.{pairs-filter}
use Rattle.run_model.proofs.Kept.{Goes, Keeps, freely, run_from, started, window_after, with_offer}
use Rattle.run_model.proofs.KeptReplies.{Drops}
use Rattle.run_model.proofs.Limits.{map-last}
use Rattle.run_model.proofs.Members.{all-map}
use Rattle.run_model.proofs.RunsOnce.{numbers-changed}

-- ## Numbers

abbrev pub call_of : Issue → ℕ
call_of i = i.call

abbrev pub text_number : EventText → ℕ
text_number e = e.number

abbrev pub sleep_number : Sleep → ℕ
sleep_number e = e.number

abbrev pub wait_number : Waiting → ℕ
wait_number e = e.wait.number

abbrev pub invocation_number : Invocation → ℕ
invocation_number e = e.number

abbrev pub rule_number : Rule → ℕ
rule_number e = e.number

abbrev pub run_number : Run → ℕ
run_number r = r.number

pub rise-more : (count : ℕ) (ns : List ℕ) → RiseTo count ns → RiseTo (count + 1) ns
rise-more count ns h = (
  h.0,
  all-weaker (λ n. n ≤ count) (λ n. n ≤ count + 1) ns (λ n (low : n ≤ count). omega (arith, low)) h.1,
)

module _ {X : Type 0} (part : X → ℕ) where
  rise-last : (count : ℕ) (xs : List X) (x : X) → part x ≡ count + 1 → RiseTo count (map part xs)
      → RiseTo (count + 1) (map part (xs ++ x ∷ []))
  rise-last count xs x e h =
      subst (λ ns. RiseTo (count + 1) ns) (sym (map-last part xs x)) (
        pairs-last (λ n later. n < later) (map part xs) (part x) h.0
            (all-weaker (λ n. n ≤ count) (λ n. n < part x) (map part xs)
            (λ n (low : n ≤ count). omega (arith, low, e)) h.1),
        all-last (λ n. n ≤ count + 1) (map part xs) (part x) (rise-more count (map part xs) h).1
            (omega (arith, e)),
      )

  pub rise-filter : (count : ℕ) (test : X → Bool) (xs : List X) → RiseTo count (map part xs)
      → RiseTo count (map part (filter test xs))
  rise-filter count test xs h = (
    pairs-map (λ n later. n < later) part (filter test xs)
        (pairs-filter (λ x later. part x < part later) test xs (pairs-unmap (λ n later. n < later) part xs h.0)),
    all-map (λ n. n ≤ count) part (filter test xs)
        (all-filter (λ x. part x ≤ count) test xs (all-unmap (λ n. n ≤ count) part xs h.1)),
  )

-- ## Lists of a state

-- those of one count
pub record RiseTogether (entries : ℕ) (sleeps : List Sleep) (waits : List Waiting) (invocations : List Invocation)
    (rules : List Rule) : Type 0 where
  pub sleeps_rise : RiseTo entries (map sleep_number sleeps)
  pub waits_rise : RiseTo entries (map wait_number waits)
  pub invocations_rise : RiseTo entries (map invocation_number invocations)
  pub rules_rise : RiseTo entries (map rule_number rules)

together-more : (entries : ℕ) (a : List Sleep) (b : List Waiting) (c : List Invocation) (d : List Rule)
    → RiseTogether entries a b c d → RiseTogether (entries + 1) a b c d
together-more entries a b c d h = record {
  sleeps_rise = rise-more entries (map sleep_number a) h.sleeps_rise;
  waits_rise = rise-more entries (map wait_number b) h.waits_rise;
  invocations_rise = rise-more entries (map invocation_number c) h.invocations_rise;
  rules_rise = rise-more entries (map rule_number d) h.rules_rise;
}

together-choice : (more : Bool) (entries : ℕ) (a : List Sleep) (b : List Waiting) (c : List Invocation)
    (d : List Rule) → RiseTogether entries a b c d → RiseTogether (cond more (entries + 1) entries) a b c d
together-choice true entries a b c d h = together-more entries a b c d h
together-choice false entries a b c d h = h

abbrev pub Rise : State → Type 0
Rise s = RiseTogether s.entries s.sleeps s.waits s.invocations s.rules
    × (RiseTo s.runs (map run_number s.live)
    × (RiseTo s.calls (map call_of s.issues) × RiseTo s.events (map text_number s.texts)))

-- ## The changes

rise-accepted : (event : EventIn) (id : Option (List ℕ)) (s : State) → Rise s
    → Rise (add_event (event_with event s) (remember id s))
rise-accepted event None s h = (
  h.0,
  (
    h.1.0,
    (
      h.1.1.0,
      rise-last text_number s.events s.texts
          (record { number = s.events + 1; text = (event_with event s).text }) refl h.1.1.1,
    ),
  ),
)
rise-accepted event (Some id) s h = (
  h.0,
  (
    h.1.0,
    (
      h.1.1.0,
      rise-last text_number s.events s.texts
          (record { number = s.events + 1; text = (event_with event s).text }) refl h.1.1.1,
    ),
  ),
)

rise-started : (f : FunctionEntry) (events : List ℕ) (parent : Option Parent) (s : State) → Rise s
    → Rise (started f events parent s)
rise-started f events parent s h =
    (h.0, (rise-last run_number s.runs s.live (run_from f events parent s) refl h.1.0, h.1.1))

rise-offered : (f : FunctionEntry) (r : WindowRule) (value : List ℕ) (event : ℕ) (s : State) → Rise s
    → Rise (with_offer f r value event s)
rise-offered f r value event s h = (
  together-choice (takes_number r (window_of f.version value s) (window_after f r value event s)) s.entries
      s.sleeps s.waits s.invocations s.rules h.0,
  h.1,
)

rise-entries : (s : State) → Rise s → Rise (record s { entries = s.entries + 1 })
rise-entries s h = (together-more s.entries s.sleeps s.waits s.invocations s.rules h.0, h.1)

rise-changed : (number : ℕ) (f : Run → Run) (s : State) → ((r : Run) → (f r).number ≡ r.number) → Rise s
    → Rise (change_run number f s)
rise-changed number f s same h =
    (h.0, (subst (λ ns. RiseTo s.runs ns) (sym (numbers-changed number f s.live same)) h.1.0, h.1.1))

rise-pended : (kind : Pending) (name : List ℕ) (r : Run) (s : State) → Rise s → Rise (pend kind name r s)
rise-pended kind name r s h =
    rise-changed r.number (λ q. with_steps (pend_step name kind q.steps) q) s (λ q. refl) h

rise-sleep : (r : Run) (name : List ℕ) (t : Time) (s : State) → Rise s → Rise (add_sleep r name t s)
rise-sleep r name t s h =
    let k : Rise (pend pending.Sleep name r s) = rise-pended pending.Sleep name r s h in
    let more = together-more s.entries s.sleeps s.waits s.invocations s.rules h.0 in (
      record {
        sleeps_rise =
            rise-last sleep_number s.entries s.sleeps (new_sleep r name t s) refl h.0.sleeps_rise;
        waits_rise = more.waits_rise;
        invocations_rise = more.invocations_rise;
        rules_rise = more.rules_rise;
      },
      k.1,
    )

rise-wait : (r : Run) (name event : List ℕ) (t : Time) (cond : Option (List ℕ)) (s : State) → Rise s
    → Rise (add_wait r name event t cond s)
rise-wait r name event t cond s h =
    let k : Rise (pend pending.Wait name r s) = rise-pended pending.Wait name r s h in
    let more = together-more s.entries s.sleeps s.waits s.invocations s.rules h.0 in (
      record {
        sleeps_rise = more.sleeps_rise;
        waits_rise =
            rise-last wait_number s.entries s.waits (wait_with r name event t cond s) refl h.0.waits_rise;
        invocations_rise = more.invocations_rise;
        rules_rise = more.rules_rise;
      },
      k.1,
    )

rise-rule : (r : Run) (event : List ℕ) (c : CancelEntry) (s : State) → Rise s
    → Rise (add_rule r (first_of r.events) event c s)
rise-rule r event c s h =
    let more = together-more s.entries s.sleeps s.waits s.invocations s.rules h.0 in (
      record {
        sleeps_rise = more.sleeps_rise;
        waits_rise = more.waits_rise;
        invocations_rise = more.invocations_rise;
        rules_rise = rise-last rule_number s.entries s.rules (new_rule r (first_of r.events) event s c) refl
            h.0.rules_rise;
      },
      h.1,
    )

abbrev pub invoked : Run → List ℕ → ℕ → Option Time → State → Invocation
invoked r name child t s = record {
  number = s.entries + 1;
  run = r.number;
  hash = name;
  child = child;
  due = option_map (λ t. due_at t s.moment) t;
}

rise-invocation : (r : Run) (name : List ℕ) (child : ℕ) (t : Option Time) (s : State) → Rise s
    → Rise (add_invocation r name child t s)
rise-invocation r name child t s h =
    let more = together-more s.entries s.sleeps s.waits s.invocations s.rules h.0 in (
      record {
        sleeps_rise = more.sleeps_rise;
        waits_rise = more.waits_rise;
        invocations_rise = rise-last invocation_number s.entries s.invocations (invoked r name child t s) refl
            h.0.invocations_rise;
        rules_rise = more.rules_rise;
      },
      h.1,
    )

module _ (entries : ℕ) (a : List Sleep) (b : List Waiting) (c : List Invocation) (d : List Rule)
    (h : RiseTogether entries a b c d) where
  fewer-sleeps : (test : Sleep → Bool) → RiseTogether entries (filter test a) b c d
  fewer-sleeps test = record {
    sleeps_rise = rise-filter sleep_number entries test a h.sleeps_rise;
    waits_rise = h.waits_rise;
    invocations_rise = h.invocations_rise;
    rules_rise = h.rules_rise;
  }

  fewer-waits : (test : Waiting → Bool) → RiseTogether entries a (filter test b) c d
  fewer-waits test = record {
    sleeps_rise = h.sleeps_rise;
    waits_rise = rise-filter wait_number entries test b h.waits_rise;
    invocations_rise = h.invocations_rise;
    rules_rise = h.rules_rise;
  }

  fewer-invocations : (test : Invocation → Bool) → RiseTogether entries a b (filter test c) d
  fewer-invocations test = record {
    sleeps_rise = h.sleeps_rise;
    waits_rise = h.waits_rise;
    invocations_rise = rise-filter invocation_number entries test c h.invocations_rise;
    rules_rise = h.rules_rise;
  }

  fewer-rules : (test : Rule → Bool) → RiseTogether entries a b c (filter test d)
  fewer-rules test = record {
    sleeps_rise = h.sleeps_rise;
    waits_rise = h.waits_rise;
    invocations_rise = h.invocations_rise;
    rules_rise = rise-filter rule_number entries test d h.rules_rise;
  }

pub rise-ended : (r : Run) (status : RunStatus) (s : State) → Rise s → Rise (end_run r status s)
rise-ended r status s h = (
  record {
    sleeps_rise = rise-filter sleep_number s.entries (λ (e : Sleep). not (r.number == e.run)) s.sleeps
        h.0.sleeps_rise;
    waits_rise = rise-filter wait_number s.entries (λ (e : Waiting). not (r.number == e.wait.run)) s.waits
        h.0.waits_rise;
    invocations_rise = rise-filter invocation_number s.entries (λ (e : Invocation). not (r.number == e.run))
        s.invocations h.0.invocations_rise;
    rules_rise = rise-filter rule_number s.entries (λ (e : Rule). not (r.number == e.run)) s.rules
        h.0.rules_rise;
  },
  (rise-filter run_number s.runs (λ (other : Run). not (r.number == other.number)) s.live h.1.0, h.1.1),
)

pub rise-goes : Goes Rise
rise-goes = record {
  records = λ run name result s h. rise-changed run (record_in name result) s (λ q. refl) h;
  sleeps_go = λ test s h. (fewer-sleeps s.entries s.sleeps s.waits s.invocations s.rules h.0 test, h.1);
  waits_go = λ test s h. (fewer-waits s.entries s.sleeps s.waits s.invocations s.rules h.0 test, h.1);
  invocations_go = λ test s h.
      (fewer-invocations s.entries s.sleeps s.waits s.invocations s.rules h.0 test, h.1);
  rules_go = λ test s h. (fewer-rules s.entries s.sleeps s.waits s.invocations s.rules h.0 test, h.1);
}

pub keeps-rise : Keeps Rise
keeps-rise = freely Rise (record {
  accepts = λ event id s new h. rise-accepted event id s h;
  starts = λ f event parent s there given h. rise-started f (event ∷ []) parent s h;
  fills = λ f r value event s may full h.
      rise-started f (windows.events_of (window_after f r value event s)) None (with_offer f r value event s)
      (rise-offered f r value event s h);
  fires = λ f w s there stands h.
      rise-started f (windows.events_of w) None (without_window (windows.number_of w) s) h;
  joins = λ f r value event s may full h. rise-offered f r value event s h;
  windows_go = λ number s h. h;
  rules = λ r event c s there e h. rise-rule r event c s h;
  finds_out = λ r s there h. rise-entries s h;
  wants = λ r s live h. rise-changed r.number want s (λ q. refl) h;
  plans = λ r name s live new h. rise-entries (change_run r.number (with_plan name) s)
      (rise-changed r.number (with_plan name) s (λ q. refl) h);
  sleeps = λ r name t s live new h. rise-sleep r name t s h;
  waits = λ r name event t cond s live new h. rise-wait r name event t cond s h;
  pends = λ r name s live new h. rise-pended pending.Invocation name r s h;
  invokes = λ r name child t s there h. rise-invocation r name child t s h;
  ends = λ r status s live h. rise-ended r status s h;
}) rise-goes

-- ## Calls

pub rise-issues : (test : Issue → Bool) (s : State) → Rise s → Rise (record s { issues = filter test s.issues })
rise-issues test s h = (h.0, (h.1.0, (rise-filter call_of s.calls test s.issues h.1.1.0, h.1.1.1)))

pub rise-drops : Drops (λ is s. Rise s)
rise-drops = record {
  runs = λ is. keeps-rise;
  closes = λ i s there h. rise-issues (λ (other : Issue). not (i.call == other.call)) s h;
  reopens = λ s h. (h.0, (h.1.0, ((tt, tt), h.1.1.1)));
  drops = λ i is s h. h;
  retries = λ i is a r s live new h. h;
  requeues = λ i is r s live new h. h;
}

pub rise-issue : (i : Item) (s : State) → Rise s → Rise (issue i s)
rise-issue i s h =
    let k : Rise (change_run i.run (called i.target) s) = rise-changed i.run (called i.target) s (λ q. refl) h in (
      together-more s.entries s.sleeps s.waits s.invocations s.rules h.0,
      (
        k.1.0,
        (rise-last call_of s.calls s.issues (issued i s) refl h.1.1.0, h.1.1.1),
      ),
    )

pub rise-tidied : (s : State) → Rise s → Rise (tidied s)
unfolding tidied
rise-tidied s h =
    (h.0, (h.1.0, (h.1.1.0, rise-filter text_number s.events (is_named (without_closed s)) s.texts h.1.1.1)))

pub rise-empty : (limits : Limits) → Rise (empty limits)
rise-empty limits = (
  record { sleeps_rise = (tt, tt); waits_rise = (tt, tt); invocations_rise = (tt, tt); rules_rise = (tt, tt) },
  ((tt, tt), ((tt, tt), (tt, tt))),
)

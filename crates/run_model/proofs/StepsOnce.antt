-- No name of a run is recorded twice, none that is recorded waits, and no run has too many names: at each change, and
-- so through each step.
use Rattle.std.proofs.Common.{◌≡◌, ◌≢◌, ℕ, inl, inr, ◌+◌, ◌≤◌, ◌==◌, Bool, true, false, not, ◌||◌, cond, List, [], ◌∷◌, find, length, codes, Option, Some, None, is_some, refl, sym, ap, ◌∙◌, subst, nat_le, bytes_eq, arith, eq-eqb}
use Rattle.std.specs.BTreeMap.{insert_entry, is_at}
use Rattle.std.specs.BTreeSet.{insert_key}
use Rattle.std.specs.Cmp.Lexicographic.{slice_cmp}
use Rattle.std.specs.List.{AllByRecursion, list_any}
use Rattle.std.specs.Map.{lookup, remove_entry}
use Rattle.std.specs.Ordering.{match_ordering, nat_cmp}
use Rattle.std.specs.Set.{remove_key}
use Rattle.std.specs.declared.cmp.Ordering.{Ordering}
use Rattle.std.specs.declared.cmp.Ordering.TheVariants.{Less, Equal, Greater}
use Rattle.kinds.specs.Inputs.{reading}
use Rattle.kinds.specs.RunSteps.{RunSteps, adds, full, has_name, is_known, is_pending, is_planned, is_recorded, keep_step, known, most_names, names, note_pending, note_plan, pend_step, plan_step, record_step, with_room}
use Rattle.kinds.specs.Windows as windows
use Rattle.kinds.specs.declared.event.EventIn.{EventIn}
use Rattle.kinds.specs.declared.input.Input.{Input}
use Rattle.kinds.specs.declared.limits.Limits.{Limits}
use Rattle.kinds.specs.declared.store.Parent.{Parent}
use Rattle.kinds.specs.declared.store.Pending.{Pending}
use Rattle.kinds.specs.declared.store.Pending.TheVariants as pending
use Rattle.kinds.specs.declared.store.RunStatus.{RunStatus}
use Rattle.kinds.specs.declared.store.StepEntry.{StepEntry}
use Rattle.functions.specs.declared.entry.FunctionEntry.{FunctionEntry}
use Rattle.lists.proofs.Elements.{all-both, all-filter, all-last, all-weaker}
use Rattle.lists.proofs.Texts.{bytes_same, bytes_self}
use Rattle.run_model.specs.Advance.{timed_out, without_invocation, without_sleep, without_window}
use Rattle.run_model.specs.Ends.{end_run, is_invocation_of, run_number, without_invocation_of}
use Rattle.run_model.specs.Events.{add_event, event_with, has_wait, without_wait}
use Rattle.run_model.specs.Laws.{IsIn}
use Rattle.run_model.specs.Machine.{fold, state_after, step}
use Rattle.run_model.specs.Making.{make_run}
use Rattle.run_model.specs.Recording.{change_run, is_pending_in, record_in, record_result, result_for, wake_step}
use Rattle.run_model.specs.Replies.{invoked_event, pend, want, with_plan, with_steps}
use Rattle.run_model.specs.Requests.{remember}
use Rattle.run_model.specs.Settle.{called}
use Rattle.run_model.specs.Sound.{AreApart, RecordsOnce, all_runs}
use Rattle.run_model.specs.State.{State, Run, Sleep, Invocation, empty, has_open_call, live_run, moment_at, tidied}
use Rattle.run_model.proofs.Apart.{none-all, pairs-last}
use Rattle.run_model.proofs.Awaiting.{adds-new}
use Rattle.run_model.proofs.FitEvents.{find-last}
use Rattle.run_model.proofs.FitRuns.{all-inserted}
use Rattle.run_model.proofs.GoingOn.{all-changed_by, same-run}
use Rattle.run_model.proofs.Kept.{Adds, Ending, IsLive, Keeps, kept-make_run, run_from, started, window_after, with_offer}
use Rattle.run_model.proofs.KeptReplies.{dropping}
use Rattle.run_model.proofs.KeptSteps.{KeepsSteps, kept-step}
use Rattle.run_model.proofs.Members.{all-in, each-in, in-all, in-found}
use Rattle.run_model.proofs.Rising.{Rise, keeps-rise, rise-drops, rise-ended, rise-goes, rise-empty, rise-issue, rise-tidied}
use Rattle.run_model.proofs.SettlingLists.{all-append}
use Rattle.run_model.proofs.TimedCounts.{length-last}
use Rattle.run_model.proofs.WaitingNames.{AreSorted, Names, found-inserted, found-removed, sorted-inserted, sorted-removed, under}

-- ## How many names

key-one : (test : List ℕ → Bool) (ks : List (List ℕ)) → list_any test ks ≡ true
    → length (remove_key test ks) + 1 ≡ length ks
key-one test [] h = absurd (cc)
key-one test (k ∷ ks) h = by_test (test k) h (key-one test ks)
  where
    by_test : (b : Bool) → (b || list_any test ks) ≡ true
        → (list_any test ks ≡ true → length (remove_key test ks) + 1 ≡ length ks)
        → length (cond b ks (k ∷ remove_key test ks)) + 1 ≡ length (k ∷ ks)
    by_test true e more = omega arith
    by_test false e more = let n = more e in omega (arith, n)

key-most : (test : List ℕ → Bool) (ks : List (List ℕ)) → length (remove_key test ks) ≤ length ks
key-most test [] = omega arith
key-most test (k ∷ ks) = by_test (test k) (key-most test ks)
  where
    by_test : (b : Bool) → length (remove_key test ks) ≤ length ks
        → length (cond b ks (k ∷ remove_key test ks)) ≤ length (k ∷ ks)
    by_test true n = omega arith
    by_test false n = omega (arith, n)

entry-one : (test : List ℕ → Bool) (ps : Names) → is_some (lookup test ps) ≡ true
    → length (remove_entry test ps) + 1 ≡ length ps
entry-one test [] h = absurd (cc)
entry-one test (p ∷ ps) h = by_test (test p.0) h (entry-one test ps)
  where
    by_test : (b : Bool) → is_some (cond b (Some p.1) (lookup test ps)) ≡ true
        → (is_some (lookup test ps) ≡ true → length (remove_entry test ps) + 1 ≡ length ps)
        → length (cond b ps (p ∷ remove_entry test ps)) + 1 ≡ length (p ∷ ps)
    by_test true e more = omega arith
    by_test false e more = let n = more e in omega (arith, n)

entry-most : (test : List ℕ → Bool) (ps : Names) → length (remove_entry test ps) ≤ length ps
entry-most test [] = omega arith
entry-most test (p ∷ ps) = by_test (test p.0) (entry-most test ps)
  where
    by_test : (b : Bool) → length (remove_entry test ps) ≤ length ps
        → length (cond b ps (p ∷ remove_entry test ps)) ≤ length (p ∷ ps)
    by_test true n = omega arith
    by_test false n = omega (arith, n)

key-more : (name : List ℕ) (ks : List (List ℕ)) → length (insert_key (slice_cmp nat_cmp) ks name) ≤ length ks + 1
key-more name [] = omega arith
key-more name (k ∷ ks) = by_order (slice_cmp nat_cmp name k) (key-more name ks)
  where
    by_order : (o : Ordering) → length (insert_key (slice_cmp nat_cmp) ks name) ≤ length ks + 1
        → length (match_ordering o (name ∷ k ∷ ks) (k ∷ ks) (k ∷ insert_key (slice_cmp nat_cmp) ks name))
        ≤ length (k ∷ ks) + 1
    by_order Less n = omega arith
    by_order Equal n = omega arith
    by_order Greater n = omega (arith, n)

entry-more : (name : List ℕ) (kind : Pending) (ps : Names)
    → length (insert_entry (slice_cmp nat_cmp) ps name kind) ≤ length ps + 1
entry-more name kind [] = omega arith
entry-more name kind (p ∷ ps) = by_order (slice_cmp nat_cmp name p.0) (entry-more name kind ps)
  where
    by_order : (o : Ordering) → length (insert_entry (slice_cmp nat_cmp) ps name kind) ≤ length ps + 1
        → length (match_ordering o ((name, kind) ∷ p ∷ ps) ((p.0, kind) ∷ ps)
        (p ∷ insert_entry (slice_cmp nat_cmp) ps name kind)) ≤ length (p ∷ ps) + 1
    by_order Less n = omega arith
    by_order Equal n = omega arith
    by_order Greater n = omega (arith, n)

-- ## The steps of a run

abbrev HasRoom : RunSteps → Type 0
HasRoom t = names t ≤ most_names

record AreOrderly (t : RunSteps) : Type 0 where
  sorted : AreSorted t.pending
  apart : AreApart (λ (e : StepEntry). e.hash) t.recorded
  one : (name : List ℕ) → is_pending name t ≡ true → is_recorded name t ≡ false
  room : HasRoom t

not-under : (name : List ℕ) (ps : Names) → is_some (under name ps) ≡ true → under name ps ≡ None → ⊥
not-under name ps e none = let no : is_some (under name ps) ≡ false = ap is_some none in cc

has-room : (next t : RunSteps) → Adds (with_room next t) → names t + 1 ≤ most_names
has-room next t h = by_test (nat_le most_names (names t)) refl h
  where
    by_test : (b : Bool) → nat_le most_names (names t) ≡ b → Adds (cond b full (adds next))
        → names t + 1 ≤ most_names
    by_test true e k = absurd k
    by_test false e k = grind (arith, e)

-- a name is recorded, where it is new or was planned or pending
orderly-recorded : (name result : List ℕ) (t : RunSteps) → is_recorded name t ≡ false
    → HasRoom (record_step name result t) → AreOrderly t → AreOrderly (record_step name result t)
orderly-recorded name result t new room h = record {
  sorted = sorted-removed (is_at (slice_cmp nat_cmp name)) t.pending h.sorted;
  apart = pairs-last (λ (e later : StepEntry). e.hash ≢ later.hash) t.recorded entry h.apart
      (all-weaker (λ e. has_name name e ≡ false) (λ (e : StepEntry). e.hash ≢ name) t.recorded
      (λ e differs same.
      let own : bytes_eq name e.hash ≡ true = subst (λ n. bytes_eq name n ≡ true) (sym same) (bytes_self name) in cc)
      (none-all (has_name name) t.recorded (none-found (find (has_name name) t.recorded) new)));
  one = λ q waits. other q (bytes_eq q name) refl waits;
  room = room;
}
  where
    entry : StepEntry
    entry = record { hash = name; result = result }

    none-found : (o : Option StepEntry) → is_some o ≡ false → o ≡ None
    none-found None e = refl
    none-found (Some x) e = absurd (cc)

    after : (q : List ℕ) (b : Bool) → bytes_eq q name ≡ b
        → is_pending q (record_step name result t) ≡ is_some (cond b None (under q t.pending))
    after q b e = ap is_some (found-removed q name t.pending h.sorted
        ∙ ap (λ c. cond c None (under q t.pending)) e)

    other : (q : List ℕ) (b : Bool) → bytes_eq q name ≡ b → is_pending q (record_step name result t) ≡ true
        → is_recorded q (record_step name result t) ≡ false
    other q true e waits = let no : is_pending q (record_step name result t) ≡ false = after q true e in absurd (cc)
    other q false e waits =
        let k : is_recorded q t ≡ false = h.one q (sym (after q false e) ∙ waits) in
        ap is_some (find-last (has_name q) t.recorded (record { hash = name; result = result })
        (λ same. let own : bytes_eq q name ≡ true = same in cc)) ∙ k

-- what was pending leaves its room
room-pending : (name result : List ℕ) (t : RunSteps) → is_pending name t ≡ true → HasRoom t
    → HasRoom (record_step name result t)
room-pending name result t waits room =
    let a = length-last t.recorded (record { hash = name; result = result }) in
    let b = key-most (is_at (slice_cmp nat_cmp name)) t.planned in
    let c = entry-one (is_at (slice_cmp nat_cmp name)) t.pending waits in
    omega (arith, a, b, c, room)

-- what was planned leaves its, and for what is new there is some
room-new : (name result : List ℕ) (t : RunSteps) → Adds (keep_step name result t) → HasRoom t
    → HasRoom (record_step name result t)
room-new name result t new room =
    by_tests (is_recorded name t || is_pending name t) (is_planned name t) refl new
  where
    by_tests : (a b : Bool) → is_planned name t ≡ b
        → Adds (cond a known (cond b (adds (record_step name result t)) (with_room (record_step name result t) t)))
        → HasRoom (record_step name result t)
    by_tests true b e k = absurd k
    by_tests false true e k =
        let x = length-last t.recorded (record { hash = name; result = result }) in
        let y = key-one (is_at (slice_cmp nat_cmp name)) t.planned e in
        let z = entry-most (is_at (slice_cmp nat_cmp name)) t.pending in
        omega (arith, x, y, z, room)
    by_tests false false e k =
        let x = length-last t.recorded (record { hash = name; result = result }) in
        let y = key-most (is_at (slice_cmp nat_cmp name)) t.planned in
        let z = entry-most (is_at (slice_cmp nat_cmp name)) t.pending in
        let w = has-room (record_step name result t) t k in
        omega (arith, x, y, z, w)

-- whatever the result
other-result : (name result other : List ℕ) (t : RunSteps) → Adds (keep_step name result t)
    → Adds (keep_step name other t)
other-result name result other t new =
    by_tests (is_recorded name t || is_pending name t) (is_planned name t) (nat_le most_names (names t)) new
  where
    by_tests : (a b c : Bool)
        → Adds (cond a known (cond b (adds (record_step name result t))
        (cond c full (adds (record_step name result t)))))
        → Adds (cond a known (cond b (adds (record_step name other t)) (cond c full (adds (record_step name other t)))))
    by_tests true b c k = absurd k
    by_tests false true c k = tt
    by_tests false false true k = absurd k
    by_tests false false false k = tt

unrecorded-new : (name result : List ℕ) (t : RunSteps) → Adds (keep_step name result t)
    → is_recorded name t ≡ false
unrecorded-new name result t new = by_tests (is_recorded name t) (is_pending name t) (is_planned name t) refl new
  where
    by_tests : (a c b : Bool) → is_recorded name t ≡ a
        → Adds (cond (a || c) known (cond b (adds (record_step name result t))
        (with_room (record_step name result t) t)))
        → is_recorded name t ≡ false
    by_tests true c b e k = absurd k
    by_tests false c b e k = e

orderly-planned : (name : List ℕ) (t : RunSteps) → Adds (note_plan name t) → AreOrderly t
    → AreOrderly (plan_step name t)
orderly-planned name t new h = record { sorted = h.sorted; apart = h.apart; one = h.one; room = more new }
  where
    more : Adds (note_plan name t) → HasRoom (plan_step name t)
    more k = by_test (is_known name t) k
      where
        by_test : (b : Bool) → Adds (cond b known (with_room (plan_step name t) t)) → HasRoom (plan_step name t)
        by_test true k = absurd k
        by_test false k =
            let x = key-more name t.planned in
            let y = has-room (plan_step name t) t k in
            omega (arith, x, y)

orderly-pended : (name : List ℕ) (kind : Pending) (t : RunSteps) → Adds (note_pending name kind t)
    → is_recorded name t ≡ false → AreOrderly t → AreOrderly (pend_step name kind t)
orderly-pended name kind t new unrecorded h = record {
  sorted = sorted-inserted name kind t.pending h.sorted;
  apart = h.apart;
  one = λ q waits. by_name q (bytes_eq q name) refl waits;
  room = by_test (is_known name t) new;
}
  where
    by_name : (q : List ℕ) (b : Bool) → bytes_eq q name ≡ b → is_pending q (pend_step name kind t) ≡ true
        → is_recorded q t ≡ false
    by_name q true e waits = subst (λ n. is_recorded n t ≡ false) (sym (bytes_same q name e)) unrecorded
    by_name q false e waits = h.one q
        (sym (ap is_some (found-inserted q name kind t.pending ∙ ap (λ c. cond c (Some kind) (under q t.pending)) e))
        ∙ waits)

    by_test : (b : Bool) → Adds (cond b known (with_room (pend_step name kind t) t))
        → HasRoom (pend_step name kind t)
    by_test true k = absurd k
    by_test false k =
        let x = entry-more name kind t.pending in
        let y = has-room (pend_step name kind t) t k in
        omega (arith, x, y)

-- ## Runs

abbrev Orderly : Run → Type 0
Orderly r = AreOrderly r.steps

abbrev Roomy : Run → Type 0
Roomy r = HasRoom r.steps

record RunsOrderly (live closing : List Run) : Type 0 where
  orderly : AllByRecursion Orderly live
  roomy : AllByRecursion Roomy closing

abbrev InOrder : State → Type 0
InOrder s = RunsOrderly s.live s.closing

abbrev Both : State → Type 0
Both s = Rise s × InOrder s

-- one run changes: the one that is found
order-one : (number : ℕ) (r : Run) (f : Run → Run) (s : State) → Rise s → live_run number s ≡ Some r
    → (Orderly r → Orderly (f r)) → InOrder s → InOrder (change_run number f s)
order-one number r f s rise live keeps h = record {
  orderly = all-changed_by (λ q. Orderly q × IsIn q s.live) Orderly number f s.live
      (λ q own k. subst (λ x. Orderly x → Orderly (f x))
      (same-run number r q s rise live k.1 (sym own)) keeps k.0)
      (λ q other k. k.0)
      (all-both Orderly (λ q. IsIn q s.live) (λ q. Orderly q × IsIn q s.live) s.live (λ q k there. (k, there)) h.orderly
      (each-in s.live));
  roomy = h.roomy;
}

order-quiet : (number : ℕ) (f : Run → Run) (s : State) → ((r : Run) → (f r).steps ≡ r.steps) → InOrder s
    → InOrder (change_run number f s)
order-quiet number f s quiet h = record {
  orderly = all-changed_by Orderly Orderly number f s.live
      (λ q own k. subst (λ t. AreOrderly t) (sym (quiet q)) k) (λ q other k. k) h.orderly;
  roomy = h.roomy;
}

order-none : (number : ℕ) (f : Run → Run) (s : State) → live_run number s ≡ None → InOrder s
    → InOrder (change_run number f s)
order-none number f s none h = record {
  orderly = all-changed_by (λ q. Orderly q × ((number == q.number) ≡ false)) Orderly number f s.live
      (λ q own k. absurd (let yes : (number == q.number) ≡ true = eq-eqb number q.number own in let no = k.1 in cc))
      (λ q other k. k.0)
      (all-both Orderly (λ (q : Run). (number == q.number) ≡ false) (λ q. Orderly q × ((number == q.number) ≡ false))
      s.live (λ q k differs. (k, differs)) h.orderly (none-all (λ (q : Run). number == q.number) s.live none));
  roomy = h.roomy;
}

order-started : (f : FunctionEntry) (events : List ℕ) (parent : Option Parent) (s : State) → InOrder s
    → InOrder (started f events parent s)
order-started f events parent s h = record {
  orderly = all-last Orderly s.live (run_from f events parent s) h.orderly (record {
    sorted = tt;
    apart = tt;
    one = λ name waits. refl;
    room = omega arith;
  });
  roomy = h.roomy;
}

order-made : (f : FunctionEntry) (events : List ℕ) (parent : Option Parent) (s : State) → InOrder s
    → InOrder (make_run f events parent s)
order-made f events parent s h =
    kept-make_run InOrder
    (record { rules = λ r event c t there same k. k; finds_out = λ r t there k. k }) f events parent s
    (order-started f events parent s h)

order-pended : (kind : Pending) (name : List ℕ) (r : Run) (s : State) → Rise s → IsLive r s
    → Adds (note_pending name kind r.steps) → InOrder s → InOrder (pend kind name r s)
order-pended kind name r s rise live new h =
    order-one r.number r (λ q. with_steps (pend_step name kind q.steps) q) s rise live
    (λ k. orderly-pended name kind r.steps new (adds-new name kind r new).0 k) h

-- a result for the run that is found
order-recorded : (run : ℕ) (name result : List ℕ) (r : Run) (s : State) → Rise s → live_run run s ≡ Some r
    → is_pending name r.steps ≡ true → InOrder s → InOrder (record_result run name result s)
order-recorded run name result r s rise live waits h =
    order-one run r (record_in name result) s rise live
    (λ k. orderly-recorded name (result_for result r) r.steps (k.one name waits)
    (room-pending name (result_for result r) r.steps waits k.room) k) h

order-woken : (run : ℕ) (name result : List ℕ) (s : State) → Rise s → InOrder s
    → InOrder (wake_step run name result s)
order-woken run name result s rise h = by_found (live_run run s) refl
  where
    by_test : (r : Run) (b : Bool) → is_pending name r.steps ≡ b → live_run run s ≡ Some r
        → InOrder (elim b as (λ _. State) [ true ↦ record_result run name result s | false ↦ s ])
    by_test r true e live = order-recorded run name result r s rise live e h
    by_test r false e live = h

    by_found : (o : Option Run) → live_run run s ≡ o
        → InOrder (elim (is_pending_in name o) as (λ _. State) [ true ↦ record_result run name result s | false ↦ s ])
    by_found None e = h
    by_found (Some r) e = by_test r (is_pending name r.steps) refl e

order-ended : (r : Run) (status : RunStatus) (s : State) → IsLive r s → InOrder s → InOrder (end_run r status s)
order-ended r status s live h = record {
  orderly = all-filter Orderly (λ (q : Run). not (r.number == q.number)) s.live h.orderly;
  roomy = all-inserted Roomy run_number r s.closing
      (in-all Orderly r s.live (in-found (λ (q : Run). r.number == q.number) s.live r live) h.orderly).room h.roomy;
}

ending-order : (r : Run) (status : RunStatus) (s : State) → IsLive r s → Both s → Ending Both r status s
ending-order r status s live h =
    let rises : Ending Rise r status s = keeps-rise.ends r status s live h.0 in
    let ended : InOrder (end_run r status s) = order-ended r status s live h.1 in
    record {
      ends = λ untold. (rise-ended r status s h.0, ended);
      tells = λ p q result parent there waits. (
        rises.tells p q result parent there waits,
        order-recorded p.run p.hash result q (without_invocation_of p (end_run r status s))
            (rise-goes.invocations_go (λ i. not (is_invocation_of p i)) (end_run r status s)
            (rise-ended r status s h.0)) there waits
            ended,
      );
    }

-- ## The changes

order-accepted : (event : EventIn) (id : Option (List ℕ)) (s : State) → InOrder s
    → InOrder (add_event (event_with event s) (remember id s))
order-accepted event None s h = h
order-accepted event (Some id) s h = h

keeps-order : Keeps Both
keeps-order = record {
  accepts = λ event id s new h. (keeps-rise.accepts event id s new h.0, order-accepted event id s h.1);
  starts = λ f event s there given h.
      (keeps-rise.starts f event s there given h.0, order-made f (event ∷ []) None s h.1);
  fills = λ f r value event s may full h. (
    keeps-rise.fills f r value event s may full h.0,
    order-made f (windows.events_of (window_after f r value event s)) None (with_offer f r value event s) h.1,
  );
  fires = λ f w s there stands h. (
    keeps-rise.fires f w s there stands h.0,
    order-made f (windows.events_of w) None (without_window (windows.number_of w) s) h.1,
  );
  joins = λ f r value event s may full h. (keeps-rise.joins f r value event s may full h.0, h.1);
  windows_go = λ number s h. h;
  finds_out = λ r s there missed h. (keeps-rise.finds_out r s there missed h.0, h.1);
  wants = λ r s live h. (keeps-rise.wants r s live h.0, order-quiet r.number want s (λ q. refl) h.1);
  plans = λ r name s live new h. (
    keeps-rise.plans r name s live new h.0,
    order-one r.number r (with_plan name) s h.0 live (λ k. orderly-planned name r.steps new k) h.1,
  );
  sleeps = λ r name t s live new h.
      (keeps-rise.sleeps r name t s live new h.0, order-pended pending.Sleep name r s h.0 live new h.1);
  waits = λ r name event t given s live new h. (
    keeps-rise.waits r name event t given s live new h.0,
    order-pended pending.Wait name r s h.0 live new h.1,
  );
  invokes = λ f r name payload t s there live new h. (
    keeps-rise.invokes f r name payload t s there live new h.0,
    order-made f ((event_with (invoked_event payload) s).number ∷ [])
        (Some (record { run = r.number; hash = name }))
        (add_event (event_with (invoked_event payload) s) (pend pending.Invocation name r s))
        (order-pended pending.Invocation name r s h.0 live new h.1),
  );
  ends = λ r status s live h. ending-order r status s live h;
  results = λ r name result s live new h. (
    keeps-rise.results r name result s live new h.0,
    order-one r.number r (record_in name result) s h.0 live
        (λ k. orderly-recorded name (result_for result r) r.steps (unrecorded-new name result r.steps new)
        (room-new name (result_for result r) r.steps (other-result name result (result_for result r) r.steps new)
        k.room)
        k) h.1,
  );
  sleep_ends = λ e s there h. (
    keeps-rise.sleep_ends e s there h.0,
    order-woken e.run e.hash (codes "null") (without_sleep e.number s)
        (rise-goes.sleeps_go (λ (o : Sleep). not (e.number == o.number)) s h.0) h.1,
  );
  wait_ends = λ w result s there h. (
    keeps-rise.wait_ends w result s there h.0,
    order-woken w.wait.run w.hash result (without_wait w.wait.number s)
        (rise-goes.waits_go (λ v. not (has_wait w.wait.number v)) s h.0) h.1,
  );
  invocation_ends = λ e s there h. (
    keeps-rise.invocation_ends e s there h.0,
    order-woken e.run e.hash timed_out (without_invocation e.number s)
        (rise-goes.invocations_go (λ (o : Invocation). not (e.number == o.number)) s h.0) h.1,
  );
  rule_ends = λ e s there h. (keeps-rise.rule_ends e s there h.0, h.1);
}

-- ## Steps

order-tidied : (s : State) → InOrder s → InOrder (tidied s)
unfolding tidied
order-tidied s h = record {
  orderly = h.orderly;
  roomy = all-filter Roomy (λ (r : Run). has_open_call s.issues r.number) s.closing h.roomy;
}

order-steps : (bound : ℕ) → KeepsSteps bound (λ input. Unit {0}) (λ is s. Both s)
order-steps bound = record {
  calls = dropping (λ is s. Both s) (record {
    runs = λ is. keeps-order;
    closes = λ i s there h. (rise-drops.closes i s there h.0, h.1);
    reopens = λ s h. (rise-drops.reopens s h.0, h.1);
    drops = λ i is s h. h;
    retries = λ i is a r s live new h. h;
    requeues = λ i is r s live new h. h;
  });
  counts = λ s h. h;
  moves = λ t next s low e h. h;
  arrives = λ t s low on before h. h;
  issues = λ number i s next there h.
      (rise-issue i s h.0, order-quiet i.run (called i.target) s (λ q. refl) h.1);
  registers = λ at app s asked h. h;
  tidies = λ s h. (rise-tidied s h.0, order-tidied s h.1);
}

order-step : (s : State) (input : Input) → Both s → Both (step s input).state
order-step s input h =
    let bound : ℕ = moment_at (reading input) s in
    kept-step bound (λ input. Unit {0}) (λ is s. Both s) (order-steps bound) s input (omega arith) tt h

order-after : (inputs : List Input) (s : State) → Both s → Both (state_after s inputs)
order-after [] s h = h
order-after (input ∷ inputs) s h = order-after inputs (step s input).state (order-step s input h)

order-fold : (limits : Limits) (inputs : List Input) → Both (fold limits inputs)
order-fold limits inputs =
    order-after inputs (empty limits) (rise-empty limits, record { orderly = tt; roomy = tt })

-- ## What follows

found-in : (p : StepEntry → Bool) (e : StepEntry) (es : List StepEntry) → IsIn e es → p e ≡ true
    → is_some (find p es) ≡ true
found-in p e [] there k = absurd there
found-in p e (x ∷ es) (inl same) k = rw (subst (λ y. p y ≡ true) (sym same) k) refl
found-in p e (x ∷ es) (inr there) k =
    elim (p x) as (λ b. is_some (cond b (Some x) (find p es)) ≡ true)
    [ true ↦ refl | false ↦ found-in p e es there k ]

records-once : (r : Run) → Orderly r → RecordsOnce r
records-once r h = record {
  apart = h.apart;
  over = all-in (λ (e : StepEntry). is_pending e.hash r.steps ≡ false) r.steps.recorded
      (λ e there. by_test e there (is_pending e.hash r.steps) refl);
}
  where
    by_test : (e : StepEntry) → IsIn e r.steps.recorded → (b : Bool) → is_pending e.hash r.steps ≡ b → b ≡ false
    by_test e there true k =
        let no : is_recorded e.hash r.steps ≡ false = h.one e.hash k in
        let yes : is_recorded e.hash r.steps ≡ true =
        found-in (has_name e.hash) e r.steps.recorded there (bytes_self e.hash) in
        absurd (cc)
    by_test e there false k = refl

pub once-recorded : (limits : Limits) (inputs : List Input) → AllByRecursion RecordsOnce (fold limits inputs).live
once-recorded limits inputs =
    all-weaker Orderly RecordsOnce (fold limits inputs).live (λ r k. records-once r k)
    (order-fold limits inputs).1.orderly

pub room-fold : (limits : Limits) (inputs : List Input)
    → AllByRecursion (λ (r : Run). names r.steps ≤ most_names) (all_runs (fold limits inputs))
room-fold limits inputs =
    let s : State = fold limits inputs in
    let h : InOrder s = (order-fold limits inputs).1 in
    all-append Roomy s.live s.closing (all-weaker Orderly Roomy s.live (λ r k. k.room) h.orderly) h.roomy

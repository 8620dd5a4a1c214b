-- The parts after operations: names, what waits, and what follows for those behind them.
use Rattle.std.proofs.Common.{◌≡◌, ℕ, ◌+◌, ◌<◌, ◌≤◌, ◌==◌, Bool, true, false, not, cond, ◌&&◌, ◌||◌, List, [], ◌∷◌, ◌++◌, Option, Some, None, Result, Ok, Err, IfOk, option_map, nat_le, refl, sym, ap, ◌∙◌, arith, subst, eqb-true}
use Rattle.std.specs.List.{AllByRecursion, list_any}
use Rattle.kinds.specs.RunSteps.{Noting, adds, known, full, keep_step, note_pending, note_plan}
use Rattle.kinds.specs.declared.reply.Op.{Op}
use Rattle.kinds.specs.declared.reply.Op.TheVariants as op
use Rattle.kinds.specs.declared.reply.Time.{Time}
use Rattle.kinds.specs.declared.store.Item.{Item}
use Rattle.kinds.specs.declared.store.Pending.{Pending}
use Rattle.kinds.specs.declared.store.Pending.TheVariants as pending
use Rattle.awaited.specs.declared.entries.Sleep.{Sleep}
use Rattle.lists.proofs.Elements.{all-last, all-weaker}
use Rattle.runs.specs.Changes.{changed, if_new, keep_in, naming_in, naming_of, pend_in, plan_in, with_pending, with_plan}
use Rattle.runs.specs.Runs.{RunLists}
use Rattle.runs.specs.declared.naming.Naming.{Naming}
use Rattle.runs.specs.declared.naming.Naming.TheVariants.{New, Known, Full}
use Rattle.run_model.specs.Fit.{IsFit, IsRunFit, IsWaitFit}
use Rattle.run_model.specs.Ends.{fail_run}
use Rattle.run_model.specs.Making.{is_item_of, step_target}
use Rattle.run_model.specs.Recording.{change_run, data_result, error_result, record_result}
use Rattle.run_model.specs.Replies.{Taking, add_sleep, add_wait, begun, invoke, is_final, noted, on_error, plan_named, take_found, take_named, take_operation, take_operations}
use Rattle.run_model.specs.Replies as replies
use Rattle.run_model.specs.State.{State, Run, Issue, Waiting, live_run, text_of}
use Rattle.run_model.proofs.FitCounts.{fit-conditions, fit-entries, fit-live, fit-times}
use Rattle.run_model.proofs.FitRuns.{all-changed, bucket-found, first-given}
use Rattle.run_model.proofs.Members.{in-all, in-found}
use Rattle.run_model.proofs.SettlingLists.{find-map, found-passes}
use Rattle.machine.specs.Held.{AreWantsNoted, Becomes, IsHeld, is_left}
use Rattle.machine.specs.Numbers.{has_number}
use Rattle.machine.specs.Operations.{at_run, early_by, early_taken, effect_of, first_at, is_again, new_wait, note_of, plan_at, sleep_at, slept, stops, taken_again, taken_by, taken_of, too_many_steps, wait_at, waited}
use Rattle.machine.specs.View.{state_of}
use Rattle.machine.specs.Words.{fail_at, queue_at, retries_at}
use Rattle.machine.specs.declared.counts.Counts.{Counts}
use Rattle.machine.specs.declared.operations.Taken.{Taken}
use Rattle.machine.specs.declared.operations.Taken.TheVariants.{GoesOn, Again, Stops}
use Rattle.machine.specs.declared.parts.Parts.{Parts}
use Rattle.machine.proofs.Changed.{KeepsNames, all-changed-by, ends-changed, events-changed, order-changed, versions-changed}
use Rattle.machine.proofs.HeldRecording.{as-lists}
use Rattle.machine.proofs.HeldWords.{becomes-same, becomes-then}

-- ## A run's names

-- a change of names alone
record Marks (f : Run → Run) : Type 0 where
  pub names : KeepsNames f
  pub wanted : (r : Run) → (f r).wanted ≡ r.wanted
  pub fits : (runs events versions : ℕ) (r : Run) → IsRunFit runs events versions r
      → IsRunFit runs events versions (f r)

marks-plan : (name : List ℕ) → Marks (with_plan name)
marks-plan name = record {
  names = record { number = λ r. refl; events = λ r. refl; version = λ r. refl };
  wanted = λ r. refl;
  fits = λ runs events versions r k. record {
    number = k.number;
    version = k.version;
    named = k.named;
    moment = k.moment;
    shift = k.shift;
    start = k.start;
  };
}

marks-pending : (name : List ℕ) (kind : Pending) → Marks (with_pending name kind)
marks-pending name kind = record {
  names = record { number = λ r. refl; events = λ r. refl; version = λ r. refl };
  wanted = λ r. refl;
  fits = λ runs events versions r k. record {
    number = k.number;
    version = k.version;
    named = k.named;
    moment = k.moment;
    shift = k.shift;
    start = k.start;
  };
}

left-marked : (f : Run → Run) → Marks f → (items : List Item) (issues : List Issue) (r : Run)
    → is_left items issues (f r) ≡ is_left items issues r
left-marked f marks items issues r =
    ap (λ b. b && not (has (f r).number)) (marks.wanted r)
    ∙ ap (λ n. r.wanted && not (has n)) (marks.names.number r)
  where
    has : ℕ → Bool
    has n = list_any (is_item_of n step_target) items
        || list_any (λ (i : Issue). is_item_of n step_target i.item) issues

wants-marked : (run : ℕ) (f : Run → Run) (live : List Run) (items : List Item) (issues : List Issue)
    (wanting : List ℕ) → Marks f → AreWantsNoted live items issues wanting
    → AreWantsNoted (changed run f live) items issues wanting
wants-marked run f live items issues wanting marks h = record {
  ordered = order-changed run f marks.names live h.ordered;
  noted = all-changed-by
      (λ r. is_left items issues r ≡ true → has_number wanting r.number ≡ true)
      (λ r. is_left items issues r ≡ true → has_number wanting r.number ≡ true)
      run f live (λ r noted. by_test r noted (run == r.number)) h.noted;
}
  where
    by_test : (r : Run) → (is_left items issues r ≡ true → has_number wanting r.number ≡ true) → (b : Bool)
        → is_left items issues (cond b (f r) r) ≡ true → has_number wanting (cond b (f r) r).number ≡ true
    by_test r noted true left =
        ap (has_number wanting) (marks.names.number r) ∙ noted (sym (left-marked f marks items issues r) ∙ left)
    by_test r noted false left = noted left

held-marked : (m : Parts) (run : ℕ) (f : Run → Run) → Marks f → IsHeld m
    → Becomes (change_run run f (state_of m)) m
    (record m { runs = record { live = changed run f m.runs.live; closing = m.runs.closing } })
held-marked m run f marks h = record {
  state = refl;
  held = record {
    fit = fit-live (changed run f m.runs.live) (state_of m)
        (all-changed (IsRunFit m.counts.runs m.counts.events m.counts.versions) run f m.runs.live
        (λ r k. marks.fits m.counts.runs m.counts.events m.counts.versions r k) h.fit.live_fit) h.fit;
    wants = wants-marked run f m.runs.live m.admission.items m.admission.issues m.wanting marks h.wants;
    events = events-changed run f marks.names m.runs.live m.runs.closing m.windows m.texts.texts m.texts.counted
        m.loose.events h.events;
    versions = versions-changed run f marks.names m.runs.live m.runs.closing m.windows m.versions.retired
        m.loose.versions h.versions;
    ends = ends-changed run f marks.names m.counts.runs m.runs.live m.runs.closing m.ended m.admission.issues
        m.loose.runs h.ends;
    clock = h.clock;
  };
  clock = refl;
}

held-noted : (m : Parts) (run : ℕ) (f : Run → Run) (n : Naming) (rs : RunLists) → Marks f
    → rs.live ≡ if_new n (changed run f m.runs.live) m.runs.live → rs.closing ≡ m.runs.closing → IsHeld m
    → Becomes (if_new n (change_run run f (state_of m)) (state_of m)) m (record m { runs = rs })
held-noted m run f n rs marks live closing h =
    subst (λ (l : RunLists). Becomes (if_new n (change_run run f (state_of m)) (state_of m)) m (record m { runs = l }))
    (sym (as-lists rs (if_new n (changed run f m.runs.live) m.runs.live) m.runs.closing live closing)) (by_name n)
  where
    by_name : (n : Naming) → Becomes (if_new n (change_run run f (state_of m)) (state_of m)) m
        (record m { runs = record { live = if_new n (changed run f m.runs.live) m.runs.live; closing = m.runs.closing } })
    by_name New = held-marked m run f marks h
    by_name Known = becomes-same m h
    by_name Full = becomes-same m h

pub held-note_plan : (m : Parts) (run : ℕ) (name : List ℕ) (n : Naming) (rs : RunLists)
    → rs.live ≡ if_new n (changed run (with_plan name) m.runs.live) m.runs.live → rs.closing ≡ m.runs.closing
    → IsHeld m
    → Becomes (if_new n (change_run run (with_plan name) (state_of m)) (state_of m)) m (record m { runs = rs })
held-note_plan m run name n rs live closing h = held-noted m run (with_plan name) n rs (marks-plan name) live closing h

pub held-pend : (m : Parts) (run : ℕ) (name : List ℕ) (kind : Pending) (n : Naming) (rs : RunLists)
    → rs.live ≡ if_new n (changed run (with_pending name kind) m.runs.live) m.runs.live
    → rs.closing ≡ m.runs.closing → IsHeld m
    → Becomes (if_new n (change_run run (with_pending name kind) (state_of m)) (state_of m)) m (record m { runs = rs })
held-pend m run name kind n rs live closing h =
    held-noted m run (with_pending name kind) n rs (marks-pending name kind) live closing h

-- ## What waits

pub below-next : {X : Type 0} (number : X → ℕ) (entries : ℕ) (xs : List X) → AllByRecursion (λ x. number x ≤ entries) xs
    → AllByRecursion (λ x. number x < entries + 1) xs
below-next number entries xs h =
    all-weaker (λ x. number x ≤ entries) (λ x. number x < entries + 1) xs
    (λ x (low : number x ≤ entries). omega (arith, low)) h

pub sleeps-below : (m : Parts) (n : ℕ) → n ≡ m.counts.entries + 1 → IsHeld m
    → AllByRecursion (λ (e : Sleep). e.number < n) m.sleeps
sleeps-below m n same h =
    subst (λ k. AllByRecursion (λ (e : Sleep). e.number < k) m.sleeps) (sym same)
    (below-next (λ (e : Sleep). e.number) m.counts.entries m.sleeps h.fit.times_fit.sleep_numbers)

fit-slept : (run : ℕ) (name : List ℕ) (t : Time) (s : State) → IsFit s → IsFit (slept run name t s)
fit-slept run name t s h =
    let fits : IsFit (record s { entries = s.entries + 1 }) = fit-entries s h in
    fit-times (slept run name t s).sleeps s.invocations (record s { entries = s.entries + 1 })
    (record {
      sleep_numbers = all-last (λ (e : Sleep). e.number ≤ s.entries + 1) s.sleeps _ fits.times_fit.sleep_numbers
          (omega arith);
      invocation_numbers = fits.times_fit.invocation_numbers;
    }) fits

pub held-slept : (m : Parts) (run : ℕ) (name : List ℕ) (t : Time) (counts : Counts) (sleeps : List Sleep)
    → counts ≡ record m.counts { entries = m.counts.entries + 1 }
    → sleeps ≡ (slept run name t (state_of m)).sleeps → IsHeld m
    → Becomes (slept run name t (state_of m)) m (record m { counts = counts; sleeps = sleeps })
held-slept m run name t counts sleeps counted added h =
    subst (λ (c : Counts). Becomes (slept run name t (state_of m)) m (record m { counts = c; sleeps = sleeps }))
    (sym counted)
    (subst (λ (es : List Sleep). Becomes (slept run name t (state_of m)) m
    (record m { counts = record m.counts { entries = m.counts.entries + 1 }; sleeps = es })) (sym added)
    (record {
      state = refl;
      held = record {
        fit = fit-slept run name t (state_of m) h.fit;
        wants = h.wants;
        events = h.events;
        versions = h.versions;
        ends = h.ends;
        clock = h.clock;
      };
      clock = refl;
    }))

pub waits-below : (m : Parts) (n : ℕ) → n ≡ m.counts.entries + 1 → IsHeld m
    → AllByRecursion (λ (w : Waiting). w.wait.number < n) m.waits
waits-below m n same h =
    subst (λ k. AllByRecursion (λ (w : Waiting). w.wait.number < k) m.waits) (sym same)
    (all-weaker (IsWaitFit m.counts.events m.counts.entries m.texts.texts)
    (λ (w : Waiting). w.wait.number < m.counts.entries + 1) m.waits
    (λ w (k : IsWaitFit m.counts.events m.counts.entries m.texts.texts w). omega (arith, k.number))
    h.fit.conditions_fit.each_wait)

first-at : (run : ℕ) (found : Option Run) (s : State) → live_run run s ≡ found → IsFit s → first_at found ≤ s.events
first-at run None s e h = omega arith
first-at run (Some r) s e h =
    first-given s.events r.events
    (in-all (IsRunFit s.runs s.events s.versions) r s.live
    (in-found (λ (q : Run). run == q.number) s.live r e) h.live_fit).named

fit-waited : (run : ℕ) (name event : List ℕ) (t : Time) (cond : Option (List ℕ)) (s : State) → IsFit s
    → IsFit (waited run name event t cond s)
fit-waited run name event t cond s h =
    let fits : IsFit (record s { entries = s.entries + 1 }) = fit-entries s h in
    fit-conditions (waited run name event t cond s).waits s.rules (record s { entries = s.entries + 1 })
    (record {
      each_wait = all-last (IsWaitFit s.events (s.entries + 1) s.texts) s.waits _ fits.conditions_fit.each_wait
          (record {
            number = omega arith;
            first = first-at run (live_run run s) s refl h;
            bucket = bucket-found cond (text_of (first_at (live_run run s)) s);
          });
      each_rule = fits.conditions_fit.each_rule;
    }) fits

pub held-waited : (m : Parts) (run : ℕ) (name event : List ℕ) (t : Time) (cond : Option (List ℕ)) (counts : Counts)
    (waits : List Waiting) → counts ≡ record m.counts { entries = m.counts.entries + 1 }
    → waits ≡ (waited run name event t cond (state_of m)).waits → IsHeld m
    → Becomes (waited run name event t cond (state_of m)) m (record m { counts = counts; waits = waits })
held-waited m run name event t cond counts waits counted added h =
    let s = waited run name event t cond (state_of m) in
    subst (λ (c : Counts). Becomes s m (record m { counts = c; waits = waits })) (sym counted)
    (subst (λ (ws : List Waiting). Becomes s m
    (record m { counts = record m.counts { entries = m.counts.entries + 1 }; waits = ws })) (sym added)
    (record {
      state = refl;
      held = record {
        fit = fit-waited run name event t cond (state_of m) h.fit;
        wants = h.wants;
        events = h.events;
        versions = h.versions;
        ends = h.ends;
        clock = h.clock;
      };
      clock = refl;
    }))

-- ## A name, then what it makes

own-run : (run : ℕ) (r : Run) (s : State) → live_run run s ≡ Some r → run ≡ r.number
own-run run r s e = eqb-true run r.number (found-passes (λ (q : Run). run == q.number) s.live r e)

-- what follows on a run that was changed is what the run's own number makes
pub then-at : (m between new : Parts) (run : ℕ) (note : Run → Noting) (f : Run → Run) (word : ℕ → State → State)
    (effect : Run → State → State) (found : Option Run) (n : Naming) → live_run run (state_of m) ≡ found
    → ((r : Run) → live_run r.number (state_of m) ≡ Some r → naming_of (note r) ≡ New
    → word r.number (change_run r.number f (state_of m)) ≡ effect r (state_of m))
    → n ≡ naming_in note found → n ≡ New
    → Becomes (if_new n (change_run run f (state_of m)) (state_of m)) m between
    → Becomes (word run (state_of between)) between new → Becomes (at_run effect found (state_of m)) m new
then-at m between new run note f word effect None n e same named is first then =
    let clash : Known ≡ New = sym named ∙ is in cc
then-at m between new run note f word effect (Some r) n e same named is first then =
    let at : run ≡ r.number = own-run run r (state_of m) e in
    let here : live_run r.number (state_of m) ≡ Some r = subst (λ k. live_run k (state_of m) ≡ Some r) at e in
    subst (λ s. Becomes s m new)
    (ap (λ k. word k (change_run k f (state_of m))) at ∙ same r here (sym named ∙ is))
    (becomes-then (word run) (change_run run f (state_of m)) m between new
    (subst (λ k. Becomes (if_new k (change_run run f (state_of m)) (state_of m)) m between) is first) then)

same-number : (run : ℕ) (f : Run → Run) (q : Run) → (f q).number ≡ q.number → (b : Bool)
    → (run == (cond b (f q) q).number) ≡ (run == q.number)
same-number run f q same true = ap (λ n. run == n) same
same-number run f q same false = refl

-- a run that changes is found changed
changed-found : (run : ℕ) (f : Run → Run) (r : Run) (s : State) → ((q : Run) → (f q).number ≡ q.number)
    → live_run run s ≡ Some r → live_run run (change_run run f s) ≡ Some (f r)
changed-found run f r s same found =
    find-map (λ (q : Run). run == q.number) (λ (q : Run). cond (run == q.number) (f q) q) s.live
    (λ q. same-number run f q (same q) (run == q.number))
    ∙ ap (option_map (λ (q : Run). cond (run == q.number) (f q) q)) found
    ∙ ap (λ b. Some (cond b (f r) r)) (found-passes (λ (q : Run). run == q.number) s.live r found)

module _ (m between new : Parts) (run : ℕ) (name : List ℕ) (n : Naming) where
  pub plan-then : n ≡ naming_in (plan_in name) (live_run run (state_of m)) → n ≡ New
      → Becomes (if_new n (change_run run (with_plan name) (state_of m)) (state_of m)) m between
      → Becomes (queue_at (live_run run (state_of between)) name (state_of between)) between new
      → Becomes (plan_at (live_run run (state_of m)) name (state_of m)) m new
  plan-then named is first then =
      then-at m between new run (plan_in name) (with_plan name) (λ k s. queue_at (live_run k s) name s)
      (λ r. plan_named r name) (live_run run (state_of m)) n refl
      (λ r here fresh. ap (λ o. queue_at o name (change_run r.number (with_plan name) (state_of m)))
      (changed-found r.number (with_plan name) r (state_of m) (λ q. refl) here)) named is first then

  pub sleep-then : (t : Time) → n ≡ naming_in (pend_in name pending.Sleep) (live_run run (state_of m)) → n ≡ New
      → Becomes (if_new n (change_run run (with_pending name pending.Sleep) (state_of m)) (state_of m)) m between
      → Becomes (slept run name t (state_of between)) between new
      → Becomes (sleep_at (live_run run (state_of m)) name t (state_of m)) m new
  sleep-then t named is first then =
      then-at m between new run (pend_in name pending.Sleep) (with_pending name pending.Sleep)
      (λ k s. slept k name t s) (λ r. add_sleep r name t) (live_run run (state_of m)) n refl
      (λ r here fresh. refl) named is first then

  pub wait-then : (event : List ℕ) (t : Time) (cond : Option (List ℕ))
      → n ≡ naming_in (pend_in name pending.Wait) (live_run run (state_of m)) → n ≡ New
      → Becomes (if_new n (change_run run (with_pending name pending.Wait) (state_of m)) (state_of m)) m between
      → Becomes (waited run name event t cond (state_of between)) between new
      → Becomes (wait_at (live_run run (state_of m)) name event t cond (state_of m)) m new
  wait-then event t cond named is first then =
      then-at m between new run (pend_in name pending.Wait) (with_pending name pending.Wait)
      (λ k s. waited k name event t cond s) (λ r. add_wait r name event t cond) (live_run run (state_of m)) n refl
      (λ r here fresh.
      let s = change_run r.number (with_pending name pending.Wait) (state_of m) in
      ap (λ o. record s {
        entries = m.counts.entries + 1;
        waits = m.waits ++ (record { wait = new_wait o r.number event t cond s; hash = name }) ∷ [];
      }) (changed-found r.number (with_pending name pending.Wait) r (state_of m) (λ q. refl) here))
      named is first then

-- nothing is made where the name isn't new
pub still-at : (m new : Parts) (n : Naming) (a b : State) → (n ≡ New → ⊥)
    → Becomes (if_new n a (state_of m)) m new → Becomes (if_new n b (state_of m)) m new
still-at m new New a b other h = absurd (other refl)
still-at m new Known a b other h = h
still-at m new Full a b other h = h

-- what a run's number makes is what the run does
pub own-at : (m new : Parts) (run : ℕ) (note : Run → Noting) (word : ℕ → State → State)
    (effect : Run → State → State) (found : Option Run) (n : Naming) → live_run run (state_of m) ≡ found
    → ((r : Run) → word r.number (state_of m) ≡ effect r (state_of m)) → n ≡ naming_in note found
    → Becomes (if_new n (word run (state_of m)) (state_of m)) m new
    → Becomes (if_new n (at_run effect found (state_of m)) (state_of m)) m new
own-at m new run note word effect None n e same named h =
    still-at m new n (word run (state_of m)) (state_of m)
    (λ is. let clash : Known ≡ New = sym named ∙ is in cc) h
own-at m new run note word effect (Some r) n e same named h =
    subst (λ s. Becomes (if_new n s (state_of m)) m new)
    (ap (λ k. word k (state_of m)) (own-run run r (state_of m) e) ∙ same r) h

-- ## A result that a step reports

naming-same : (f g : Run → Noting) (found : Option Run) → ((q : Run) → f q ≡ g q)
    → naming_in f found ≡ naming_in g found
naming-same f g None same = refl
naming-same f g (Some r) same = ap naming_of (same r)

if-ok-both : {A E : Type 0} (r : Result A E) (P R Q : A → Type 0) → ((a : A) → P a → R a → Q a) → IfOk r P
    → IfOk r R → IfOk r Q
if-ok-both (Ok a) P R Q f p q = f a p q
if-ok-both (Err e) P R Q f p q = tt

module _ {E : Type 0} (m new : Parts) (run : ℕ) (o : Op) (name text wanted : List ℕ) (r : Result Naming E)
    (same : text ≡ wanted) (notes : (q : Run) → note_of o q ≡ keep_in name wanted q)
    (makes : (q : Run) (s : State) → effect_of o q s ≡ record_result q.number name wanted s)
    (named : IfOk r (λ n. n ≡ naming_in (keep_in name text) (live_run run (state_of m)))) where
  pub kept-named : IfOk r (λ n. n ≡ naming_in (note_of o) (live_run run (state_of m)))
  kept-named =
      if-ok-both r _ _ _
      (λ n is also. is
      ∙ naming-same (keep_in name text) (note_of o) (live_run run (state_of m))
      (λ q. ap (λ t. keep_in name t q) same ∙ sym (notes q))) named named

  pub kept-now : IfOk r (λ n. Becomes (if_new n (record_result run name text (state_of m)) (state_of m)) m new)
      → IfOk r (λ n. Becomes (if_new n (at_run (effect_of o) (live_run run (state_of m)) (state_of m)) (state_of m))
      m new)
  kept-now became =
      if-ok-both r _ _ _
      (λ n is became. own-at m new run (keep_in name text) (λ k s. record_result k name text s) (effect_of o)
      (live_run run (state_of m)) n refl
      (λ q. ap (λ t. record_result q.number name t (state_of m)) same ∙ sym (makes q (state_of m))) is became)
      named became

-- ## One operation

abbrev paused : State → Bool → Taking
paused s again = record { state = s; again = again; stopped = false }

-- what becomes of an operation's name, and what follows
abbrev pub going_by : Naming → Taken
going_by New = GoesOn
going_by Known = GoesOn
going_by Full = Stops

abbrev pub state_by : Naming → (next same failed : State) → State
state_by New next same failed = next
state_by Known next same failed = same
state_by Full next same failed = failed

-- a name gives so much
pub record Gives (t : Taking) (n : Naming) (next same failed : State) : Type 0 where
  pub taken : going_by n ≡ taken_of t
  pub state : t.state ≡ state_by n next same failed

gives-noted : (noting : Noting) (r : Run) (effect : State → State) (s : State)
    → Gives (noted noting r effect (begun s)) (naming_of noting) (effect s) s (fail_run r too_many_steps s)
gives-noted (adds steps) r effect s = record { taken = refl; state = refl }
gives-noted known r effect s = record { taken = refl; state = refl }
gives-noted full r effect s = record { taken = refl; state = refl }

is-last : (b : Bool) (name : List ℕ) (found : Option Run) → early_by b name found ≡ None → b ≡ true
is-last true name found h = refl
is-last false name found h = cc

take-noted : (i : Item) (no_retry : Bool) (r : Run) (o : Op) (s : State)
    → early_taken i no_retry o (Some r) s ≡ None
    → take_named i no_retry r o (begun s) ≡ noted (note_of o r) r (effect_of o r) (begun s)
take-noted i no_retry r (op.StepRun name value) s h = refl
take-noted i no_retry r (op.StepError name error) s h =
    ap (λ b. on_error b r name error (begun s)) (is-last (is_final i no_retry r s) name (Some r) h)
take-noted i no_retry r (op.StepPlanned name) s h = refl
take-noted i no_retry r (op.Sleep name t) s h = refl
take-noted i no_retry r (op.WaitForEvent name event t cond) s h = refl
take-noted i no_retry r (op.InvokeFunction name id payload t) s h = refl

gives-found : (i : Item) (no_retry : Bool) (o : Op) (found : Option Run) (s : State)
    → early_taken i no_retry o found s ≡ None
    → Gives (take_found i no_retry o found (begun s)) (naming_in (note_of o) found) (at_run (effect_of o) found s) s
    (fail_at found too_many_steps s)
gives-found i no_retry o None s h = record { taken = refl; state = refl }
gives-found i no_retry o (Some r) s h =
    subst (λ t. Gives t (naming_of (note_of o r)) (effect_of o r s) s (fail_run r too_many_steps s))
    (sym (take-noted i no_retry r o s h)) (gives-noted (note_of o r) r (effect_of o r) s)

pub gives-named : (i : Item) (no_retry : Bool) (o : Op) (s : State) (n : Naming)
    → None ≡ early_taken i no_retry o (live_run i.run s) s → n ≡ naming_in (note_of o) (live_run i.run s)
    → Gives (take_operation i no_retry o (begun s)) n (at_run (effect_of o) (live_run i.run s) s) s
    (fail_at (live_run i.run s) too_many_steps s)
gives-named i no_retry o s n late named =
    subst (λ k. Gives (take_operation i no_retry o (begun s)) k (at_run (effect_of o) (live_run i.run s) s) s
    (fail_at (live_run i.run s) too_many_steps s)) (sym named)
    (gives-found i no_retry o (live_run i.run s) s (sym late))

pub operation-new : (m new : Parts) (i : Item) (no_retry : Bool) (o : Op) (n : Naming) → n ≡ New
    → None ≡ early_taken i no_retry o (live_run i.run (state_of m)) (state_of m)
    → n ≡ naming_in (note_of o) (live_run i.run (state_of m))
    → Becomes (if_new n (at_run (effect_of o) (live_run i.run (state_of m)) (state_of m)) (state_of m)) m new
    → (GoesOn ≡ taken_of (take_operation i no_retry o (begun (state_of m))))
    × Becomes (take_operation i no_retry o (begun (state_of m))).state m new
operation-new m new i no_retry o New is late named h =
    let g = gives-named i no_retry o (state_of m) New late named in
    (g.taken, subst (λ s. Becomes s m new) (sym g.state) h)
operation-new m new i no_retry o Known is late named h = cc
operation-new m new i no_retry o Full is late named h = cc

pub operation-known : (m new : Parts) (i : Item) (no_retry : Bool) (o : Op) (n : Naming) → n ≡ Known
    → None ≡ early_taken i no_retry o (live_run i.run (state_of m)) (state_of m)
    → n ≡ naming_in (note_of o) (live_run i.run (state_of m))
    → Becomes (if_new n (at_run (effect_of o) (live_run i.run (state_of m)) (state_of m)) (state_of m)) m new
    → (GoesOn ≡ taken_of (take_operation i no_retry o (begun (state_of m))))
    × Becomes (take_operation i no_retry o (begun (state_of m))).state m new
operation-known m new i no_retry o New is late named h = cc
operation-known m new i no_retry o Known is late named h =
    let g = gives-named i no_retry o (state_of m) Known late named in
    (g.taken, subst (λ s. Becomes s m new) (sym g.state) h)
operation-known m new i no_retry o Full is late named h = cc

-- the run fails then
pub operation-full : (m l new : Parts) (i : Item) (no_retry : Bool) (o : Op) (n : Naming) → n ≡ Full
    → None ≡ early_taken i no_retry o (live_run i.run (state_of m)) (state_of m)
    → n ≡ naming_in (note_of o) (live_run i.run (state_of m))
    → Becomes (if_new n (at_run (effect_of o) (live_run i.run (state_of m)) (state_of m)) (state_of m)) m l
    → Becomes (fail_at (live_run i.run (state_of l)) too_many_steps (state_of l)) l new
    → (Stops ≡ taken_of (take_operation i no_retry o (begun (state_of m))))
    × Becomes (take_operation i no_retry o (begun (state_of m))).state m new
operation-full m l new i no_retry o New is late named h k = cc
operation-full m l new i no_retry o Known is late named h k = cc
operation-full m l new i no_retry o Full is late named h k =
    let g = gives-named i no_retry o (state_of m) Full late named in (
      g.taken,
      subst (λ s. Becomes s m new) (sym g.state)
          (becomes-then (λ s. fail_at (live_run i.run s) too_many_steps s) (state_of m) m l new h k),
    )

-- an error that isn't the last changes nothing
record IsEarly (t : Taking) (taken : Taken) (s : State) : Type 0 where
  pub told : taken ≡ taken_of t
  pub state : t.state ≡ s

early-by : (b : Bool) (r : Run) (name error : List ℕ) (s : State) (taken : Taken)
    → Some taken ≡ early_by b name (Some r) → IsEarly (on_error b r name error (begun s)) taken s
early-by true r name error s taken h = cc
early-by false r name error s taken h = record { told = cc; state = refl }

early-none : (b : Bool) (name : List ℕ) (s : State) (taken : Taken) → Some taken ≡ early_by b name None
    → IsEarly (begun s) taken s
early-none true name s taken h = cc
early-none false name s taken h = record { told = cc; state = refl }

early-found : (i : Item) (no_retry : Bool) (o : Op) (found : Option Run) (s : State) (taken : Taken)
    → Some taken ≡ early_taken i no_retry o found s → IsEarly (take_found i no_retry o found (begun s)) taken s
early-found i no_retry (op.StepError name error) None s taken h =
    early-none (nat_le (retries_at None s) i.attempt || no_retry) name s taken h
early-found i no_retry (op.StepError name error) (Some r) s taken h =
    early-by (is_final i no_retry r s) r name error s taken h
early-found i no_retry (op.StepRun name value) found s taken h = cc
early-found i no_retry (op.StepPlanned name) found s taken h = cc
early-found i no_retry (op.Sleep name t) found s taken h = cc
early-found i no_retry (op.WaitForEvent name event t cond) found s taken h = cc
early-found i no_retry (op.InvokeFunction name id payload t) found s taken h = cc

pub is-early : (m : Parts) (i : Item) (no_retry : Bool) (o : Op) (taken : Taken) → IsHeld m
    → Some taken ≡ early_taken i no_retry o (live_run i.run (state_of m)) (state_of m)
    → (taken ≡ taken_of (take_operation i no_retry o (begun (state_of m))))
    × Becomes (take_operation i no_retry o (begun (state_of m))).state m m
is-early m i no_retry o taken h early =
    let is = early-found i no_retry o (live_run i.run (state_of m)) (state_of m) taken early in
    (is.told, subst (λ s. Becomes s m m) (sym is.state) (becomes-same m h))

-- ## Operations one after the other

abbrev with_again : Bool → Taking → Taking
with_again b t = record t { again = b || t.again }

or-false : (b : Bool) → b ≡ (b || false)
or-false true = refl
or-false false = refl

noted-again : (noting : Noting) (r : Run) (effect : State → State) (s : State) (b : Bool)
    → noted noting r effect (paused s b) ≡ with_again b (noted noting r effect (begun s))
noted-again (adds steps) r effect s b = ap (paused (effect s)) (or-false b)
noted-again known r effect s b = ap (paused s) (or-false b)
noted-again full r effect s b = ap (λ c. record (replies.stops r (begun s)) { again = c }) (or-false b)

error-again : (final : Bool) (r : Run) (name error : List ℕ) (s : State) (b : Bool)
    → on_error final r name error (paused s b) ≡ with_again b (on_error final r name error (begun s))
error-again true r name error s b =
    noted-again (keep_step name (error_result error) r.steps) r (record_result r.number name (error_result error)) s b
error-again false r name error s b = refl

named-again : (i : Item) (no_retry : Bool) (r : Run) (o : Op) (s : State) (b : Bool)
    → take_named i no_retry r o (paused s b) ≡ with_again b (take_named i no_retry r o (begun s))
named-again i no_retry r (op.StepRun name value) s b =
    noted-again (keep_step name (data_result value) r.steps) r (record_result r.number name (data_result value)) s b
named-again i no_retry r (op.StepError name error) s b = error-again (is_final i no_retry r s) r name error s b
named-again i no_retry r (op.StepPlanned name) s b =
    noted-again (note_plan name r.steps) r (plan_named r name) s b
named-again i no_retry r (op.Sleep name t) s b =
    noted-again (note_pending name pending.Sleep r.steps) r (add_sleep r name t) s b
named-again i no_retry r (op.WaitForEvent name event t cond) s b =
    noted-again (note_pending name pending.Wait r.steps) r (add_wait r name event t cond) s b
named-again i no_retry r (op.InvokeFunction name id payload t) s b =
    noted-again (note_pending name pending.Invocation r.steps) r (invoke r name id payload t) s b

found-again : (i : Item) (no_retry : Bool) (o : Op) (found : Option Run) (s : State) (b : Bool)
    → take_found i no_retry o found (paused s b) ≡ with_again b (take_found i no_retry o found (begun s))
found-again i no_retry o None s b = ap (paused s) (or-false b)
found-again i no_retry o (Some r) s b = named-again i no_retry r o s b

chosen : {X : Type 0} (b : Bool) (x y : X) → b ≡ true → elim b as (λ _. X) [ true ↦ x | false ↦ y ] ≡ x
chosen true x y h = refl
chosen false x y h = cc

none-further : (i : Item) (no_retry : Bool) (os : List Op) (t : Taking) → t.stopped ≡ true
    → take_operations i no_retry os t ≡ t
unfolding take_operations
none-further i no_retry [] t h = refl
none-further i no_retry (o ∷ os) t h =
    ap (take_operations i no_retry os) (chosen t.stopped t (take_found i no_retry o (live_run i.run t.state) t) h)
    ∙ none-further i no_retry os t h

pub not-stops : (t : Taken) → stops t ≡ false → t ≡ Stops → ⊥
not-stops t h is = let clash : true ≡ false = sym (ap stops is) ∙ h in absurd (cc)

pub stops-is : (t : Taken) → stops t ≡ true → t ≡ Stops
stops-is Stops h = refl
stops-is GoesOn h = cc
stops-is Again h = cc

-- what is left of the operations makes of the parts now what all make of those at first
pub record IsTaking (i : Item) (no_retry : Bool) (all rest : List Op) (old new : Parts) (again : Bool)
    : Type 0 where
  pub same : take_operations i no_retry rest (paused (state_of new) again)
      ≡ take_operations i no_retry all (begun (state_of old))
  pub held : IsHeld new
  pub clock : new.admission.moment ≡ old.admission.moment

pub taking-first : (i : Item) (no_retry : Bool) (all : List Op) (m : Parts) → IsHeld m
    → IsTaking i no_retry all all m m false
taking-first i no_retry all m h = record { same = refl; held = h; clock = refl }

going : (stopped again : Bool) (t : Taken) → t ≡ taken_by stopped again → (t ≡ Stops → ⊥)
    → (stopped ≡ false) × (is_again t ≡ again)
going true again t is other = absurd (other is)
going false true t is other = (refl, ap is_again is)
going false false t is other = (refl, ap is_again is)

module _ (i : Item) (no_retry : Bool) (all rest more : List Op) (o : Op) (old l new : Parts) (again : Bool)
    (taken : Taken) where
  abbrev pub begun_here : Taking
  begun_here = take_operation i no_retry o (begun (state_of l))

  one-further : rest ≡ o ∷ more → IsTaking i no_retry all rest old l again
      → take_operations i no_retry more (with_again again begun_here)
      ≡ take_operations i no_retry all (begun (state_of old))
  unfolding take_operations
  one-further first h =
      ap (take_operations i no_retry more) (sym (found-again i no_retry o (live_run i.run (state_of l)) (state_of l) again))
      ∙ ap (λ os. take_operations i no_retry os (paused (state_of l) again)) (sym first) ∙ h.same

  pub taking-on : rest ≡ o ∷ more → IsTaking i no_retry all rest old l again
      → taken ≡ taken_of begun_here → Becomes begun_here.state l new → (taken ≡ Stops → ⊥)
      → IsTaking i no_retry all more old new (again || is_again taken)
  taking-on first h is became other =
      let goes = going begun_here.stopped begun_here.again taken is other in
      record {
        same = ap (λ s. take_operations i no_retry more (paused s (again || is_again taken))) became.state
            ∙ ap (λ b. take_operations i no_retry more (paused begun_here.state (again || b))) goes.1
            ∙ ap (λ b. take_operations i no_retry more
            (record { state = begun_here.state; again = again || begun_here.again; stopped = b })) (sym goes.0)
            ∙ one-further first h;
        held = became.held;
        clock = became.clock ∙ h.clock;
      }

  stopped-by : (stopped again : Bool) → Stops ≡ taken_by stopped again → stopped ≡ true
  stopped-by true b is = refl
  stopped-by false true is = cc
  stopped-by false false is = cc

  pub taking-stops : rest ≡ o ∷ more → IsTaking i no_retry all rest old l again
      → taken ≡ taken_of begun_here → Becomes begun_here.state l new → taken ≡ Stops
      → (Stops ≡ taken_of (take_operations i no_retry all (begun (state_of old))))
      × Becomes (take_operations i no_retry all (begun (state_of old))).state old new
  taking-stops first h is became halts =
      let stopped = stopped-by begun_here.stopped begun_here.again (sym halts ∙ is) in
      let whole = sym (none-further i no_retry more (with_again again begun_here) stopped) ∙ one-further first h in (
        ap (λ b. taken_by b (again || begun_here.again)) (sym stopped) ∙ ap taken_of whole,
        record {
          state = became.state ∙ ap (λ (t : Taking). t.state) whole;
          held = became.held;
          clock = became.clock ∙ h.clock;
        },
      )

pub taking-done : (i : Item) (no_retry : Bool) (all rest : List Op) (old l : Parts) (again : Bool) → rest ≡ []
    → IsTaking i no_retry all rest old l again
    → (taken_again again ≡ taken_of (take_operations i no_retry all (begun (state_of old))))
    × Becomes (take_operations i no_retry all (begun (state_of old))).state old l
unfolding take_operations
taking-done i no_retry all rest old l again none h =
    let whole = ap (λ os. take_operations i no_retry os (paused (state_of l) again)) (sym none) ∙ h.same in (
      ap taken_of whole,
      record { state = ap (λ (t : Taking). t.state) whole; held = h.held; clock = h.clock },
    )

-- where the call's answer is the whole's
pub if-stops : {E : Type 0} (r : Result Taken E) (t : Taken) → Stops ≡ t → IfOk r (λ x. x ≡ Stops) → IfOk r (λ x. x ≡ t)
if-stops (Ok taken) t e h = h ∙ e
if-stops (Err fault) t e h = tt

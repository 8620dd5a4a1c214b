-- What waits is pending, and what is pending waits, once: at each change, and so through each step.
use Rattle.std.proofs.Common.{◌≡◌, ℕ, ◌⊎◌, inl, inr, ◌+◌, ◌<◌, ◌≤◌, ◌==◌, Bool, true, false, not, ◌||◌, cond, List, [], ◌∷◌, ◌++◌, filter, find, codes, Option, Some, None, IfSome, is_some, option_map, refl, sym, ap, ap₂, ◌∙◌, subst, bytes_eq, arith, eq-eqb, eqb-true}
use Rattle.std.specs.BTreeMap.{is_at}
use Rattle.std.specs.Cmp.Lexicographic.{slice_cmp}
use Rattle.std.specs.List.{AllByRecursion}
use Rattle.std.specs.Option.{option_and_then}
use Rattle.std.specs.Ordering.{nat_cmp}
use Rattle.kinds.specs.Inputs.{reading}
use Rattle.kinds.specs.RunSteps.{has_name, is_pending, is_planned, is_recorded, known, note_pending, pend_step, pending_of, with_room}
use Rattle.kinds.specs.Windows as windows
use Rattle.kinds.specs.declared.event.Event.{Event}
use Rattle.kinds.specs.declared.event.EventIn.{EventIn}
use Rattle.kinds.specs.declared.input.Input.{Input}
use Rattle.kinds.specs.declared.limits.Limits.{Limits}
use Rattle.kinds.specs.declared.reply.Time.{Time}
use Rattle.kinds.specs.declared.store.Parent.{Parent}
use Rattle.kinds.specs.declared.store.Pending.{Pending}
use Rattle.kinds.specs.declared.store.Pending.TheVariants as pending
use Rattle.kinds.specs.declared.store.RunStatus.{RunStatus}
use Rattle.kinds.specs.declared.store.StepEntry.{StepEntry}
use Rattle.functions.specs.declared.entry.FunctionEntry.{FunctionEntry}
use Rattle.lists.proofs.Elements.{all-filter, all-last, all-weaker}
use Rattle.lists.proofs.Texts.{bytes_same, bytes_self}
use Rattle.run_model.specs.Advance.{timed_out, without_invocation, without_sleep, without_window}
use Rattle.run_model.specs.Ends.{end_run, without_invocation_of}
use Rattle.run_model.specs.Events.{add_event, end_wait, event_with, without_wait}
use Rattle.run_model.specs.Laws.{IsIn}
use Rattle.run_model.specs.Machine.{fold, state_after, step}
use Rattle.run_model.specs.Making.{make_run}
use Rattle.run_model.specs.Recording.{change_run, changed, is_pending_in, record_in, record_result, result_for, wake_step}
use Rattle.run_model.specs.Replies.{add_sleep, add_wait, invoke_found, invoked_event, is_new_result, new_sleep, pend, wait_with, want, with_plan, with_steps}
use Rattle.run_model.specs.Requests.{remember}
use Rattle.run_model.specs.Settle.{called}
use Rattle.run_model.specs.Sound.{is_step}
use Rattle.run_model.specs.State.{State, Run, Sleep, Waiting, Invocation, empty, live_run, moment_at, tidied}
use Rattle.run_model.proofs.Apart.{all-unmap, pairs-unmap}
use Rattle.run_model.proofs.FitEvents.{find-last, found-left}
use Rattle.run_model.proofs.FitRuns.{all-changed}
use Rattle.run_model.proofs.Kept.{Adds, Ending, IsLive, Keeps, ending-both, kept-make_run, run_from, window_after, with_offer}
use Rattle.run_model.proofs.KeptReplies.{Drops, adds-result, dropping}
use Rattle.run_model.proofs.KeptSteps.{KeepsSteps, kept-step}
use Rattle.run_model.proofs.Members.{all-map, in-all, in-found}
use Rattle.run_model.proofs.Rising.{Rise, invocation_number, invoked, keeps-rise, rise-drops, rise-empty, rise-issue, rise-tidied, sleep_number, wait_number}
use Rattle.run_model.proofs.SettlingLists.{found-passes}
use Rattle.run_model.proofs.Unrecorded.{change, found-changed}
use Rattle.run_model.proofs.WaitingCounts.{Counts, Sets, counted, counted-in, counted-last, counted-without, counts-cleared, counts-gone, counts-left, counts-more, counts-same, is-said, one_if, said, sets-changed, waits-left, waits-more, waits-same, waits_in}
use Rattle.run_model.proofs.WaitingNames.{AreSorted, found-inserted, found-removed, sorted-inserted, sorted-removed, under}

-- ## What holds

abbrev pub sleep_run : Sleep → ℕ
sleep_run e = e.run

abbrev pub sleep_hash : Sleep → List ℕ
sleep_hash e = e.hash

abbrev pub wait_run : Waiting → ℕ
wait_run e = e.wait.run

abbrev pub wait_hash : Waiting → List ℕ
wait_hash e = e.hash

abbrev pub invocation_run : Invocation → ℕ
invocation_run e = e.run

abbrev pub invocation_hash : Invocation → List ℕ
invocation_hash e = e.hash

abbrev pub Sorted : Run → Type 0
Sorted r = AreSorted r.steps.pending

-- a name of an invocation waits for it, or is over
abbrev pub Told : List ℕ → Run → Type 0
Told hash r = (pending_of hash r.steps ≡ Some pending.Invocation)
    ⊎ ((is_recorded hash r.steps ≡ true) × (pending_of hash r.steps ≡ None))

-- so it is with the name of an invoked run's parent, where that has not ended
abbrev pub HasTold : ℕ → List Run → Option Parent → Type 0
HasTold runs live parent =
    IfSome parent (λ p. (p.run ≤ runs) × IfSome (find (λ (q : Run). p.run == q.number) live) (Told p.hash))

abbrev pub IsTold : ℕ → List Run → Run → Type 0
IsTold runs live r = HasTold runs live r.parent

pub record Stand (runs : ℕ) (live : List Run) (sleeps : List Sleep) (waits : List Waiting)
    (invocations : List Invocation) : Type 0 where
  pub sorted : AllByRecursion Sorted live
  pub sleeps_wait : Counts sleep_run sleep_hash pending.Sleep sleeps live
  pub waits_wait : Counts wait_run wait_hash pending.Wait waits live
  pub invocations_wait : Counts invocation_run invocation_hash pending.Invocation invocations live
  pub told : AllByRecursion (IsTold runs live) live

abbrev pub Stands : State → Type 0
Stands s = Stand s.runs s.live s.sleeps s.waits s.invocations

-- ## Runs that change

of-mapped : (Q : Run → Type 0) (g : Run → Run) (found : Option Run)
    → ((r : Run) → found ≡ Some r → Q r → Q (g r)) → IfSome found Q → IfSome (option_map g found) Q
of-mapped Q g None keeps h = h
of-mapped Q g (Some r) keeps h = keeps r refl h

-- a run keeps its number and its parent
abbrev Stays : (Run → Run) → Type 0
Stays f = (r : Run) → ((f r).number ≡ r.number) × ((f r).parent ≡ r.parent)

told-changed : (runs number : ℕ) (f : Run → Run) (live : List Run) → Stays f
    → ((r : Run) → find (λ (q : Run). number == q.number) live ≡ Some r
    → (hash : List ℕ) → Told hash r → Told hash (f r))
    → AllByRecursion (IsTold runs live) live
    → AllByRecursion (IsTold runs (changed number f live)) (changed number f live)
told-changed runs number f live stays keeps h =
    all-map (IsTold runs (changed number f live)) (change number f) live
    (all-weaker (IsTold runs live) (λ r. IsTold runs (changed number f live) (change number f r)) live
    (λ r k. subst (HasTold runs (changed number f live))
    (sym (parent r)) (of_parent r.parent k)) h)
  where
    parent : (r : Run) → (change number f r).parent ≡ r.parent
    parent r = elim (number == r.number) as (λ b. (cond b (f r) r).parent ≡ r.parent)
        [ true ↦ (stays r).1 | false ↦ refl ]

    by_test : (p : Parent) (r : Run) (b : Bool) → (number == r.number) ≡ b
        → find (λ (q : Run). p.run == q.number) live ≡ Some r → Told p.hash r → Told p.hash (cond b (f r) r)
    by_test p r true e found k =
        let own : p.run ≡ number =
        eqb-true p.run r.number (found-passes (λ (q : Run). p.run == q.number) live r found)
        ∙ sym (eqb-true number r.number e) in
        keeps r (subst (λ n. find (λ (q : Run). n == q.number) live ≡ Some r) own found) p.hash k
    by_test p r false e found k = k

    of_parent : (o : Option Parent) → HasTold runs live o → HasTold runs (changed number f live) o
    of_parent None k = tt
    of_parent (Some p) k = (
      k.0,
      subst (λ found. IfSome found (Told p.hash))
          (sym (found-changed p.run number f live (λ r. (stays r).0)))
          (of-mapped (Told p.hash) (change number f) (find (λ (q : Run). p.run == q.number) live)
          (λ r found told. by_test p r (number == r.number) refl found told) k.1),
    )

-- steps wait for the same, and the same are recorded
abbrev Quiet : (Run → Run) → Type 0
Quiet f = (r : Run) → (f r).steps ≡ r.steps

stand-quiet : (number : ℕ) (f : Run → Run) (s : State) → Stays f
    → ((r : Run) → (f r).steps.pending ≡ r.steps.pending) → ((r : Run) → (f r).steps.recorded ≡ r.steps.recorded)
    → Stands s → Stands (change_run number f s)
stand-quiet number f s stays quiet same h = record {
  sorted = all-changed Sorted number f s.live (λ r k. subst (λ ps. AreSorted ps) (sym (quiet r)) k) h.sorted;
  sleeps_wait = λ run name. h.sleeps_wait run name ∙ ap (said pending.Sleep) (sym (waits run name));
  waits_wait = λ run name. h.waits_wait run name ∙ ap (said pending.Wait) (sym (waits run name));
  invocations_wait = λ run name.
      h.invocations_wait run name ∙ ap (said pending.Invocation) (sym (waits run name));
  told = told-changed s.runs number f s.live stays (λ r found hash k. still r hash k) h.told;
}
  where
    waits : (run : ℕ) (name : List ℕ)
        → waits_in run name (changed number f s.live) ≡ waits_in run name s.live
    waits run name = waits-same run name number f s.live (λ r. (stays r).0) quiet

    still : (r : Run) (hash : List ℕ) → Told hash r → Told hash (f r)
    still r hash (inl k) = inl (ap (under hash) (quiet r) ∙ k)
    still r hash (inr k) = inr (
      ap (λ es. is_some (find (has_name hash) es)) (same r) ∙ k.0,
      ap (under hash) (quiet r) ∙ k.1,
    )

-- ## A name comes

abbrev pub pends : Pending → List ℕ → Run → Run
pends kind name r = with_steps (pend_step name kind r.steps) r

-- what is new was neither recorded nor pending
pub adds-new : (name : List ℕ) (kind : Pending) (r : Run) → Adds (note_pending name kind r.steps)
    → (is_recorded name r.steps ≡ false) × (is_pending name r.steps ≡ false)
adds-new name kind r h =
    by_tests (is_recorded name r.steps) (is_planned name r.steps) (is_pending name r.steps) refl refl h
  where
    by_tests : (a b c : Bool) → is_recorded name r.steps ≡ a → is_pending name r.steps ≡ c
        → Adds (cond (a || b || c) known (with_room (pend_step name kind r.steps) r.steps))
        → (is_recorded name r.steps ≡ false) × (is_pending name r.steps ≡ false)
    by_tests true b c e g k = absurd k
    by_tests false true c e g k = absurd k
    by_tests false false true e g k = absurd k
    by_tests false false false e g k = (e, g)

pub not-pending : (name : List ℕ) (r : Run) → is_pending name r.steps ≡ false → pending_of name r.steps ≡ None
not-pending name r e = by_found (pending_of name r.steps) refl e
  where
    by_found : (o : Option Pending) → pending_of name r.steps ≡ o → is_some o ≡ false
        → pending_of name r.steps ≡ None
    by_found None k e = k
    by_found (Some kind) k e = absurd (cc)

waits-live : (name : List ℕ) (r : Run) (s : State) → IsLive r s
    → waits_in r.number name s.live ≡ pending_of name r.steps
waits-live name r s live = ap (option_and_then (λ (q : Run). pending_of name q.steps)) live

some-live : (r q : Run) (s : State) → IsLive r s → live_run r.number s ≡ Some q → r ≡ q
some-live r q s live found = let same = sym live ∙ found in cc

none-live : (r : Run) (s : State) → IsLive r s → live_run r.number s ≡ None → ⊥
none-live r s live none = let no = sym live ∙ none in cc

sets-pended : (kind : Pending) (name : List ℕ) (r : Run) (s : State) → IsLive r s
    → Sets r.number name (Some kind) s.live (changed r.number (pends kind name) s.live)
sets-pended kind name r s live =
    sets-changed r.number name (Some kind) (pends kind name) s.live (λ q. refl)
    (λ q found hash. found-inserted hash name kind q.steps.pending)
    (λ none. absurd (none-live r s live none))

-- the name is none that an invocation waits for
told-pended : (kind : Pending) (name hash : List ℕ) (r : Run) → Adds (note_pending name kind r.steps)
    → Told hash r → Told hash (pends kind name r)
told-pended kind name hash r new h =
    by_test (bytes_eq hash name) refl h
  where
    after : (b : Bool) → bytes_eq hash name ≡ b
        → pending_of hash (pends kind name r).steps ≡ cond b (Some kind) (pending_of hash r.steps)
    after b e = found-inserted hash name kind r.steps.pending
        ∙ ap (λ c. cond c (Some kind) (pending_of hash r.steps)) e

    over : hash ≡ name → Told hash r → ⊥
    over same (inl k) =
        let none : pending_of hash r.steps ≡ None =
        subst (λ n. pending_of n r.steps ≡ None) (sym same) (not-pending name r (adds-new name kind r new).1) in
        let no = sym k ∙ none in cc
    over same (inr k) =
        let none : is_recorded hash r.steps ≡ false =
        subst (λ n. is_recorded n r.steps ≡ false) (sym same) (adds-new name kind r new).0 in
        let no = sym k.0 ∙ none in cc

    stays : bytes_eq hash name ≡ false → Told hash r → Told hash (pends kind name r)
    stays e (inl k) = inl (after false e ∙ k)
    stays e (inr k) = inr (k.0, after false e ∙ k.1)

    by_test : (b : Bool) → bytes_eq hash name ≡ b → Told hash r → Told hash (pends kind name r)
    by_test true e k = absurd (over (bytes_same hash name e) k)
    by_test false e k = stays e k

module _ (kind : Pending) (name : List ℕ) (r : Run) (s : State) (live : IsLive r s)
    (new : Adds (note_pending name kind r.steps)) (h : Stands s) where
  pended : List Run
  pended = changed r.number (pends kind name) s.live

  none-before : waits_in r.number name s.live ≡ None
  none-before = waits-live name r s live ∙ not-pending name r (adds-new name kind r new).1

  sorted-pended : AllByRecursion Sorted pended
  unfolding pended
  sorted-pended = all-changed Sorted r.number (pends kind name) s.live
      (λ q k. sorted-inserted name kind q.steps.pending k) h.sorted

  all-told : AllByRecursion (IsTold s.runs pended) pended
  unfolding pended
  all-told = told-changed s.runs r.number (pends kind name) s.live (λ q. (refl, refl))
      (λ q found hash k. subst (λ x. Told hash (pends kind name x)) (some-live r q s live found)
      (told-pended kind name hash r new (subst (λ x. Told hash x) (sym (some-live r q s live found)) k))) h.told

  -- entries of another kind stay as they are
  others : {X : Type 0} (run_of : X → ℕ) (hash_of : X → List ℕ) (other : Pending) (xs : List X)
      → said other (Some kind) ≡ 0 → Counts run_of hash_of other xs s.live → Counts run_of hash_of other xs pended
  unfolding pended
  others run_of hash_of other xs apart k =
      counts-same run_of hash_of other s.live (changed r.number (pends kind name) s.live) r.number name (Some kind) xs
      (sets-pended kind name r s live) (apart ∙ ap (said other) (sym none-before)) k

stand-sleep : (r : Run) (name : List ℕ) (t : Time) (s : State) → IsLive r s
    → Adds (note_pending name pending.Sleep r.steps) → Stands s → Stands (add_sleep r name t s)
unfolding pended
stand-sleep r name t s live new h = record {
  sorted = sorted-pended pending.Sleep name r s live new h;
  sleeps_wait = counts-more sleep_run sleep_hash pending.Sleep s.live
      (changed r.number (pends pending.Sleep name) s.live) (new_sleep r name t s) s.sleeps
      (sets-pended pending.Sleep name r s live) (none-before pending.Sleep name r s live new h) h.sleeps_wait;
  waits_wait = others pending.Sleep name r s live new h wait_run wait_hash pending.Wait s.waits refl h.waits_wait;
  invocations_wait = others pending.Sleep name r s live new h invocation_run invocation_hash pending.Invocation
      s.invocations refl h.invocations_wait;
  told = all-told pending.Sleep name r s live new h;
}

stand-wait : (r : Run) (name event : List ℕ) (t : Time) (given : Option (List ℕ)) (s : State) → IsLive r s
    → Adds (note_pending name pending.Wait r.steps) → Stands s → Stands (add_wait r name event t given s)
unfolding pended
stand-wait r name event t given s live new h = record {
  sorted = sorted-pended pending.Wait name r s live new h;
  sleeps_wait = others pending.Wait name r s live new h sleep_run sleep_hash pending.Sleep s.sleeps refl
      h.sleeps_wait;
  waits_wait = counts-more wait_run wait_hash pending.Wait s.live
      (changed r.number (pends pending.Wait name) s.live) (wait_with r name event t given s) s.waits
      (sets-pended pending.Wait name r s live) (none-before pending.Wait name r s live new h) h.waits_wait;
  invocations_wait = others pending.Wait name r s live new h invocation_run invocation_hash pending.Invocation
      s.invocations refl h.invocations_wait;
  told = all-told pending.Wait name r s live new h;
}

-- with the invocation that is to come
pub stand-pended : (r : Run) (name : List ℕ) (e : Invocation) (s : State) → IsLive r s
    → Adds (note_pending name pending.Invocation r.steps) → e.run ≡ r.number → e.hash ≡ name → Stands s
    → Stand s.runs (changed r.number (pends pending.Invocation name) s.live) s.sleeps s.waits
    (s.invocations ++ e ∷ [])
unfolding pended
stand-pended r name e s live new own named h = record {
  sorted = sorted-pended pending.Invocation name r s live new h;
  sleeps_wait = others pending.Invocation name r s live new h sleep_run sleep_hash pending.Sleep s.sleeps refl
      h.sleeps_wait;
  waits_wait = others pending.Invocation name r s live new h wait_run wait_hash pending.Wait s.waits refl
      h.waits_wait;
  invocations_wait = counts-more invocation_run invocation_hash pending.Invocation s.live
      (changed r.number (pends pending.Invocation name) s.live) e s.invocations
      (subst (λ n. Sets n e.hash (Some pending.Invocation) s.live
      (changed r.number (pends pending.Invocation name) s.live))
      (sym own)
      (subst (λ n. Sets r.number n (Some pending.Invocation) s.live
      (changed r.number (pends pending.Invocation name) s.live))
      (sym named) (sets-pended pending.Invocation name r s live)))
      (subst (λ n. waits_in n e.hash s.live ≡ None) (sym own)
      (subst (λ n. waits_in r.number n s.live ≡ None) (sym named)
      (none-before pending.Invocation name r s live new h))) h.invocations_wait;
  told = all-told pending.Invocation name r s live new h;
}

-- ## A run comes

told-more : (runs : ℕ) (live : List Run) (r : Run) (parent : Option Parent) → r.number ≡ runs + 1
    → HasTold runs live parent → HasTold (runs + 1) (live ++ r ∷ []) parent
told-more runs live r None numbered h = tt
told-more runs live r (Some p) numbered h =
    let low : p.run ≤ runs = h.0 in (
      omega (arith, low),
      subst (λ found. IfSome found (Told p.hash))
          (sym (find-last (λ (q : Run). p.run == q.number) live r
          (λ same. let e = eqb-true p.run r.number same in omega (arith, low, numbered, e)))) h.1,
    )

stand-started : (f : FunctionEntry) (events : List ℕ) (parent : Option Parent) (s : State)
    (invocations : List Invocation) → HasTold s.runs s.live parent
    → Stand s.runs s.live s.sleeps s.waits invocations
    → Stand (s.runs + 1) (s.live ++ run_from f events parent s ∷ []) s.sleeps s.waits invocations
stand-started f events parent s invocations has h = record {
  sorted = all-last Sorted s.live (run_from f events parent s) h.sorted tt;
  sleeps_wait = λ run name. h.sleeps_wait run name ∙ ap (said pending.Sleep) (sym (waits run name));
  waits_wait = λ run name. h.waits_wait run name ∙ ap (said pending.Wait) (sym (waits run name));
  invocations_wait = λ run name.
      h.invocations_wait run name ∙ ap (said pending.Invocation) (sym (waits run name));
  told = all-last (IsTold (s.runs + 1) (s.live ++ run_from f events parent s ∷ [])) s.live (run_from f events parent s)
      (all-weaker (IsTold s.runs s.live) (IsTold (s.runs + 1) (s.live ++ run_from f events parent s ∷ [])) s.live
      (λ r k. told-more s.runs s.live (run_from f events parent s) r.parent refl k) h.told)
      (told-more s.runs s.live (run_from f events parent s) parent refl has);
}
  where
    waits : (run : ℕ) (name : List ℕ)
        → waits_in run name (s.live ++ run_from f events parent s ∷ []) ≡ waits_in run name s.live
    waits run name = waits-more run name s.live (run_from f events parent s) refl

-- its rules and its item change nothing here
stand-made : (f : FunctionEntry) (events : List ℕ) (parent : Option Parent) (s : State) (e : Invocation)
    → HasTold s.runs s.live parent → Stand s.runs s.live s.sleeps s.waits (s.invocations ++ e ∷ [])
    → Stand (make_run f events parent s).runs (make_run f events parent s).live (make_run f events parent s).sleeps
    (make_run f events parent s).waits ((make_run f events parent s).invocations ++ e ∷ [])
stand-made f events parent s e has h =
    kept-make_run (λ (t : State). Stand t.runs t.live t.sleeps t.waits (t.invocations ++ e ∷ []))
    (record { rules = λ r event c t there same k. k; finds_out = λ r t there k. k }) f events parent s
    (stand-started f events parent s (s.invocations ++ e ∷ []) has h)

stands-made : (f : FunctionEntry) (events : List ℕ) (s : State) → Stands s → Stands (make_run f events None s)
stands-made f events s h =
    kept-make_run Stands
    (record { rules = λ r event c t there same k. k; finds_out = λ r t there k. k }) f events None s
    (stand-started f events None s s.invocations tt h)

-- one invocation of a name in another's place
swapped : (xs : List Invocation) (x y : Invocation) (live : List Run) → x.run ≡ y.run → x.hash ≡ y.hash
    → Counts invocation_run invocation_hash pending.Invocation (xs ++ x ∷ []) live
    → Counts invocation_run invocation_hash pending.Invocation (xs ++ y ∷ []) live
swapped xs x y live own named h run name =
    counted-last invocation_run invocation_hash run name xs y
    ∙ ap (λ n. counted invocation_run invocation_hash run name xs + n) (alike x.run y.run x.hash y.hash own named)
    ∙ sym (counted-last invocation_run invocation_hash run name xs x) ∙ h run name
  where
    alike : (a b : ℕ) (m n : List ℕ) → a ≡ b → m ≡ n → one_if (is_step run name b n) ≡ one_if (is_step run name a m)
    alike a b m n e g = ap₂ (λ x y. one_if (is_step run name x y)) (sym e) (sym g)

stand-invoked : (f : FunctionEntry) (r : Run) (name : List ℕ) (payload : Option (List ℕ)) (t : Option Time)
    (s : State) → IsLive r s → r.number ≤ s.runs → Adds (note_pending name pending.Invocation r.steps) → Stands s
    → Stands (invoke_found (Some f) r name payload t s)
stand-invoked f r name payload t s live given new h =
    let e : Invocation = invoked r name 0 None s in
    let parent : Option Parent = Some (record { run = r.number; hash = name }) in
    let event : Event = event_with (invoked_event payload) s in
    let before : State = add_event event (pend pending.Invocation name r s) in
    let made : State = make_run f (event.number ∷ []) parent before in
    let has : HasTold s.runs before.live parent = (given, waiting) in
    let k = stand-made f (event.number ∷ []) parent before e has (stand-pended r name e s live new refl refl h) in
    record {
      sorted = k.sorted;
      sleeps_wait = k.sleeps_wait;
      waits_wait = k.waits_wait;
      invocations_wait =
          swapped made.invocations e (invoked r name (s.runs + 1) t made) made.live refl refl k.invocations_wait;
      told = k.told;
    }
  where
    waiting : IfSome
        (find (λ (q : Run). r.number == q.number) (changed r.number (pends pending.Invocation name) s.live))
        (Told name)
    waiting = subst (λ found. IfSome found (Told name))
        (sym (found-changed r.number r.number (pends pending.Invocation name) s.live (λ q. refl)
        ∙ ap (option_map (change r.number (pends pending.Invocation name))) live))
        (rw (eq-eqb r.number r.number refl)
        (inl (found-inserted name name pending.Invocation r.steps.pending ∙ rw (bytes_self name) refl)))

-- ## A step is recorded

pub found-more : (p : StepEntry → Bool) (es : List StepEntry) (e : StepEntry) → is_some (find p es) ≡ true
    → is_some (find p (es ++ e ∷ [])) ≡ true
found-more p [] e h = absurd (cc)
found-more p (x ∷ es) e h =
    (elim (p x) as (λ b. is_some (cond b (Some x) (find p es)) ≡ true
    → is_some (cond b (Some x) (find p (es ++ e ∷ []))) ≡ true)
    [ true ↦ λ k. refl | false ↦ λ k. found-more p es e k ]) h

pub found-some : (p : StepEntry → Bool) (es : List StepEntry) (e : StepEntry) → p e ≡ true
    → is_some (find p (es ++ e ∷ [])) ≡ true
found-some p [] e h = rw h refl
found-some p (x ∷ es) e h =
    elim (p x) as (λ b. is_some (cond b (Some x) (find p (es ++ e ∷ []))) ≡ true)
    [ true ↦ refl | false ↦ found-some p es e h ]

sets-recorded : (run : ℕ) (name result : List ℕ) (live : List Run) → AllByRecursion Sorted live
    → Sets run name None live (changed run (record_in name result) live)
sets-recorded run name result live sorted =
    sets-changed run name None (record_in name result) live (λ q. refl)
    (λ q found hash. found-removed hash name q.steps.pending
    (in-all Sorted q live (in-found (λ (x : Run). run == x.number) live q found) sorted)) (λ none. refl)

all-recorded : (run : ℕ) (name result : List ℕ) (live : List Run) → AllByRecursion Sorted live
    → AllByRecursion Sorted (changed run (record_in name result) live)
all-recorded run name result live h =
    all-changed Sorted run (record_in name result) live
    (λ q k. sorted-removed (is_at (slice_cmp nat_cmp name)) q.steps.pending k) h

told-recorded : (runs run : ℕ) (name result : List ℕ) (live : List Run) → AllByRecursion Sorted live
    → AllByRecursion (IsTold runs live) live
    → AllByRecursion (IsTold runs (changed run (record_in name result) live)) (changed run (record_in name result) live)
told-recorded runs run name result live sorted h =
    told-changed runs run (record_in name result) live (λ q. (refl, refl))
    (λ q found hash k. of_run q hash
    (in-all Sorted q live (in-found (λ (x : Run). run == x.number) live q found) sorted) k) h
  where
    after : (q : Run) (hash : List ℕ) (b : Bool) → Sorted q → bytes_eq hash name ≡ b
        → pending_of hash (record_in name result q).steps ≡ cond b None (pending_of hash q.steps)
    after q hash b k e = found-removed hash name q.steps.pending k
        ∙ ap (λ c. cond c None (pending_of hash q.steps)) e

    recorded_last : (q : Run) (hash : List ℕ) → bytes_eq hash name ≡ true
        → is_recorded hash (record_in name result q).steps ≡ true
    recorded_last q hash e = found-some (has_name hash) q.steps.recorded
        (record { hash = name; result = result_for result q }) e

    still : (q : Run) (hash : List ℕ) → is_recorded hash q.steps ≡ true
        → is_recorded hash (record_in name result q).steps ≡ true
    still q hash e = found-more (has_name hash) q.steps.recorded
        (record { hash = name; result = result_for result q }) e

    other : (q : Run) (hash : List ℕ) → Sorted q → bytes_eq hash name ≡ false → Told hash q
        → Told hash (record_in name result q)
    other q hash sorted e (inl k) = inl (after q hash false sorted e ∙ k)
    other q hash sorted e (inr k) = inr (still q hash k.0, after q hash false sorted e ∙ k.1)

    by_test : (q : Run) (hash : List ℕ) (b : Bool) → bytes_eq hash name ≡ b → Sorted q → Told hash q
        → Told hash (record_in name result q)
    by_test q hash true e sorted k = inr (recorded_last q hash e, after q hash true sorted e)
    by_test q hash false e sorted k = other q hash sorted e k

    of_run : (q : Run) (hash : List ℕ) → Sorted q → Told hash q → Told hash (record_in name result q)
    of_run q hash sorted k = by_test q hash (bytes_eq hash name) refl sorted k

-- a result for a name that waits for nothing
stand-result : (run : ℕ) (name result : List ℕ) (s : State) → waits_in run name s.live ≡ None → Stands s
    → Stands (record_result run name result s)
stand-result run name result s none h = record {
  sorted = all-recorded run name result s.live h.sorted;
  sleeps_wait = counts-same sleep_run sleep_hash pending.Sleep s.live after run name None s.sleeps sets
      (ap (said pending.Sleep) (sym none)) h.sleeps_wait;
  waits_wait = counts-same wait_run wait_hash pending.Wait s.live after run name None s.waits sets
      (ap (said pending.Wait) (sym none)) h.waits_wait;
  invocations_wait = counts-same invocation_run invocation_hash pending.Invocation s.live after run name None
      s.invocations sets (ap (said pending.Invocation) (sym none)) h.invocations_wait;
  told = told-recorded s.runs run name result s.live h.sorted h.told;
}
  where
    after : List Run
    after = changed run (record_in name result) s.live

    sets : Sets run name None s.live (changed run (record_in name result) s.live)
    sets = sets-recorded run name result s.live h.sorted

-- what a name waits for, where an entry of it is there
pub waits-entry : {X : Type 0} (run_of : X → ℕ) (hash_of : X → List ℕ) (kind : Pending) (x : X) (xs : List X)
    (live : List Run) → IsIn x xs → Counts run_of hash_of kind xs live
    → waits_in (run_of x) (hash_of x) live ≡ Some kind
waits-entry run_of hash_of kind x xs live there h =
    is-said kind (waits_in (run_of x) (hash_of x) live)
    (subst (λ n. 1 ≤ n) (h (run_of x) (hash_of x)) (counted-in run_of hash_of x xs there))

pub is-pending_in : (kind : Pending) (run : ℕ) (name : List ℕ) (live : List Run) → waits_in run name live ≡ Some kind
    → is_pending_in name (find (λ (r : Run). run == r.number) live) ≡ true
is-pending_in kind run name live h = by_found (find (λ (r : Run). run == r.number) live) h
  where
    by_found : (o : Option Run) → option_and_then (λ (r : Run). pending_of name r.steps) o ≡ Some kind
        → is_pending_in name o ≡ true
    by_found None e = absurd (cc)
    by_found (Some r) e = ap is_some e

-- so it is recorded
pub woken : (kind : Pending) (run : ℕ) (name result : List ℕ) (s : State) → waits_in run name s.live ≡ Some kind
    → wake_step run name result s ≡ record_result run name result s
woken kind run name result s h = rw (is-pending_in kind run name s.live h, wake_step) refl

stand-sleep_ends : (e : Sleep) (s : State) → IsIn e s.sleeps → Rise s → Stands s
    → Stands (wake_step e.run e.hash (codes "null") (without_sleep e.number s))
stand-sleep_ends e s there rise h =
    let waits : waits_in e.run e.hash s.live ≡ Some pending.Sleep =
    waits-entry sleep_run sleep_hash pending.Sleep e s.sleeps s.live there h.sleeps_wait in
    let after : List Run = changed e.run (record_in e.hash (codes "null")) s.live in
    let sets : Sets e.run e.hash None s.live after =
    sets-recorded e.run e.hash (codes "null") s.live h.sorted in
    subst Stands (sym (woken pending.Sleep e.run e.hash (codes "null") (without_sleep e.number s) waits)) (record {
      sorted = all-recorded e.run e.hash (codes "null") s.live h.sorted;
      sleeps_wait = counts-gone sleep_run sleep_hash pending.Sleep s.live after e
          (filter (λ (o : Sleep). not (e.number == o.number)) s.sleeps) s.sleeps sets waits
          (λ run name. counted-without sleep_run sleep_hash sleep_number e run name s.sleeps there
          (pairs-unmap (λ n later. n < later) sleep_number s.sleeps rise.0.sleeps_rise.0)) h.sleeps_wait;
      waits_wait = counts-same wait_run wait_hash pending.Wait s.live after e.run e.hash None s.waits sets
          (ap (said pending.Wait) (sym waits)) h.waits_wait;
      invocations_wait = counts-same invocation_run invocation_hash pending.Invocation s.live after e.run e.hash None
          s.invocations sets (ap (said pending.Invocation) (sym waits)) h.invocations_wait;
      told = told-recorded s.runs e.run e.hash (codes "null") s.live h.sorted h.told;
    })

stand-wait_ends : (e : Waiting) (result : List ℕ) (s : State) → IsIn e s.waits → Rise s → Stands s
    → Stands (end_wait result e s)
stand-wait_ends e result s there rise h =
    let waits : waits_in e.wait.run e.hash s.live ≡ Some pending.Wait =
    waits-entry wait_run wait_hash pending.Wait e s.waits s.live there h.waits_wait in
    let after : List Run = changed e.wait.run (record_in e.hash result) s.live in
    let sets : Sets e.wait.run e.hash None s.live after =
    sets-recorded e.wait.run e.hash result s.live h.sorted in
    subst Stands (sym (woken pending.Wait e.wait.run e.hash result (without_wait e.wait.number s) waits)) (record {
      sorted = all-recorded e.wait.run e.hash result s.live h.sorted;
      sleeps_wait = counts-same sleep_run sleep_hash pending.Sleep s.live after e.wait.run e.hash None s.sleeps sets
          (ap (said pending.Sleep) (sym waits)) h.sleeps_wait;
      waits_wait = counts-gone wait_run wait_hash pending.Wait s.live after e
          (filter (λ (o : Waiting). not (e.wait.number == o.wait.number)) s.waits) s.waits sets waits
          (λ run name. counted-without wait_run wait_hash wait_number e run name s.waits there
          (pairs-unmap (λ n later. n < later) wait_number s.waits rise.0.waits_rise.0)) h.waits_wait;
      invocations_wait = counts-same invocation_run invocation_hash pending.Invocation s.live after e.wait.run e.hash
          None s.invocations sets (ap (said pending.Invocation) (sym waits)) h.invocations_wait;
      told = told-recorded s.runs e.wait.run e.hash result s.live h.sorted h.told;
    })

stand-invocation_ends : (e : Invocation) (s : State) → IsIn e s.invocations → Rise s → Stands s
    → Stands (wake_step e.run e.hash timed_out (without_invocation e.number s))
stand-invocation_ends e s there rise h =
    let waits : waits_in e.run e.hash s.live ≡ Some pending.Invocation =
    waits-entry invocation_run invocation_hash pending.Invocation e s.invocations s.live there
    h.invocations_wait in
    let after : List Run = changed e.run (record_in e.hash timed_out) s.live in
    let sets : Sets e.run e.hash None s.live after = sets-recorded e.run e.hash timed_out s.live h.sorted in
    subst Stands (sym (woken pending.Invocation e.run e.hash timed_out (without_invocation e.number s) waits)) (record {
      sorted = all-recorded e.run e.hash timed_out s.live h.sorted;
      sleeps_wait = counts-same sleep_run sleep_hash pending.Sleep s.live after e.run e.hash None s.sleeps sets
          (ap (said pending.Sleep) (sym waits)) h.sleeps_wait;
      waits_wait = counts-same wait_run wait_hash pending.Wait s.live after e.run e.hash None s.waits sets
          (ap (said pending.Wait) (sym waits)) h.waits_wait;
      invocations_wait = counts-gone invocation_run invocation_hash pending.Invocation s.live after e
          (filter (λ (o : Invocation). not (e.number == o.number)) s.invocations) s.invocations sets waits
          (λ run name. counted-without invocation_run invocation_hash invocation_number e run name s.invocations there
          (pairs-unmap (λ n later. n < later) invocation_number s.invocations rise.0.invocations_rise.0))
          h.invocations_wait;
      told = told-recorded s.runs e.run e.hash timed_out s.live h.sorted h.told;
    })

-- ## A run ends

told-left : (number runs : ℕ) (live : List Run) (parent : Option Parent) → HasTold runs live parent
    → HasTold runs (filter (λ (r : Run). not (number == r.number)) live) parent
told-left number runs live None h = tt
told-left number runs live (Some p) h = (
  h.0,
  found-left (Told p.hash) (λ (x : Run). p.run == x.number) (λ (r : Run). not (number == r.number))
      (not (number == p.run)) live
      (λ (x : Run) same. ap (λ n. not (number == n)) (sym (eqb-true p.run x.number same))) h.1,
)

stand-ended : (r : Run) (status : RunStatus) (s : State) → Stands s → Stands (end_run r status s)
stand-ended r status s h = record {
  sorted = all-filter Sorted (λ (q : Run). not (r.number == q.number)) s.live h.sorted;
  sleeps_wait = counts-left sleep_run sleep_hash pending.Sleep s.live left r.number s.sleeps
      (λ run name. waits-left r.number run name s.live) h.sleeps_wait;
  waits_wait = counts-left wait_run wait_hash pending.Wait s.live left r.number s.waits
      (λ run name. waits-left r.number run name s.live) h.waits_wait;
  invocations_wait = counts-left invocation_run invocation_hash pending.Invocation s.live left r.number s.invocations
      (λ run name. waits-left r.number run name s.live) h.invocations_wait;
  told = all-filter (IsTold s.runs left) (λ (q : Run). not (r.number == q.number)) s.live
      (all-weaker (IsTold s.runs s.live) (IsTold s.runs left) s.live
      (λ q k. told-left r.number s.runs s.live q.parent k) h.told);
}
  where
    left : List Run
    left = filter (λ (q : Run). not (r.number == q.number)) s.live

-- the parent's name waits for the run that ends
told-some : (p : Parent) (q : Run) (runs : ℕ) (live : List Run) → HasTold runs live (Some p)
    → find (λ (x : Run). p.run == x.number) live ≡ Some q → is_pending p.hash q.steps ≡ true
    → waits_in p.run p.hash live ≡ Some pending.Invocation
told-some p q runs live h found waits =
    ap (option_and_then (λ (x : Run). pending_of p.hash x.steps)) found
    ∙ of_run (subst (λ o. IfSome o (Told p.hash)) found h.1)
  where
    of_run : Told p.hash q → pending_of p.hash q.steps ≡ Some pending.Invocation
    of_run (inl k) = k
    of_run (inr k) = let no : is_pending p.hash q.steps ≡ false = ap is_some k.1 in absurd (cc)

stand-told : (p : Parent) (result : List ℕ) (s : State) → waits_in p.run p.hash s.live ≡ Some pending.Invocation
    → Stands s → Stands (record_result p.run p.hash result (without_invocation_of p s))
stand-told p result s waits h = record {
  sorted = all-recorded p.run p.hash result s.live h.sorted;
  sleeps_wait = counts-same sleep_run sleep_hash pending.Sleep s.live after p.run p.hash None s.sleeps sets
      (ap (said pending.Sleep) (sym waits)) h.sleeps_wait;
  waits_wait = counts-same wait_run wait_hash pending.Wait s.live after p.run p.hash None s.waits sets
      (ap (said pending.Wait) (sym waits)) h.waits_wait;
  invocations_wait = counts-cleared invocation_run invocation_hash pending.Invocation s.live after p.run p.hash
      s.invocations sets h.invocations_wait;
  told = told-recorded s.runs p.run p.hash result s.live h.sorted h.told;
}
  where
    after : List Run
    after = changed p.run (record_in p.hash result) s.live

    sets : Sets p.run p.hash None s.live (changed p.run (record_in p.hash result) s.live)
    sets = sets-recorded p.run p.hash result s.live h.sorted

ending-stand : (r : Run) (status : RunStatus) (s : State) → IsLive r s → Stands s → Ending Stands r status s
ending-stand r status s live h = record {
  ends = λ untold. stand-ended r status s h;
  tells = λ p q result parent there waits.
      stand-told p result (end_run r status s)
      (told-some p q s.runs (end_run r status s).live
      (told-left r.number s.runs s.live (Some p)
      (subst (λ o. HasTold s.runs s.live o) parent
      (in-all (IsTold s.runs s.live) r s.live (in-found (λ (x : Run). r.number == x.number) s.live r live) h.told)))
      there waits) (stand-ended r status s h);
}

-- ## The changes

abbrev pub Awaits : State → Type 0
Awaits s = Rise s × Stands s

stand-accepted : (event : EventIn) (id : Option (List ℕ)) (s : State) → Stands s
    → Stands (add_event (event_with event s) (remember id s))
stand-accepted event None s h = h
stand-accepted event (Some id) s h = h

is-given : (r : Run) (s : State) → IsLive r s → Rise s → r.number ≤ s.runs
is-given r s live rise = in-all (λ (q : Run). q.number ≤ s.runs) r s.live
    (in-found (λ (x : Run). r.number == x.number) s.live r live)
    (all-unmap (λ n. n ≤ s.runs) (λ (q : Run). q.number) s.live rise.1.0.1)

pub new-result : (name : List ℕ) (r : Run) → is_new_result name r.steps ≡ true → is_pending name r.steps ≡ false
new-result name r h = by_tests (is_recorded name r.steps) (is_pending name r.steps) refl h
  where
    by_tests : (a b : Bool) → is_pending name r.steps ≡ b → not (a || b) ≡ true → is_pending name r.steps ≡ false
    by_tests true b e k = absurd (cc)
    by_tests false true e k = absurd (cc)
    by_tests false false e k = e

pub keeps-awaits : Keeps Awaits
keeps-awaits = record {
  accepts = λ event id s new h. (keeps-rise.accepts event id s new h.0, stand-accepted event id s h.1);
  starts = λ f event s there given h. (keeps-rise.starts f event s there given h.0, stands-made f (event ∷ []) s h.1);
  fills = λ f r value event s may full h. (
    keeps-rise.fills f r value event s may full h.0,
    stands-made f (windows.events_of (window_after f r value event s)) (with_offer f r value event s) h.1,
  );
  fires = λ f w s there stands h. (
    keeps-rise.fires f w s there stands h.0,
    stands-made f (windows.events_of w) (without_window (windows.number_of w) s) h.1,
  );
  joins = λ f r value event s may full h. (keeps-rise.joins f r value event s may full h.0, h.1);
  windows_go = λ number s h. h;
  finds_out = λ r s there missed h. (keeps-rise.finds_out r s there missed h.0, h.1);
  wants = λ r s live h. (
    keeps-rise.wants r s live h.0,
    stand-quiet r.number want s (λ q. (refl, refl)) (λ q. refl) (λ q. refl) h.1,
  );
  plans = λ r name s live new h. (
    keeps-rise.plans r name s live new h.0,
    stand-quiet r.number (with_plan name) s (λ q. (refl, refl)) (λ q. refl) (λ q. refl) h.1,
  );
  sleeps = λ r name t s live new h.
      (keeps-rise.sleeps r name t s live new h.0, stand-sleep r name t s live new h.1);
  waits = λ r name event t given s live new h.
      (keeps-rise.waits r name event t given s live new h.0, stand-wait r name event t given s live new h.1);
  invokes = λ f r name payload t s there live new h. (
    keeps-rise.invokes f r name payload t s there live new h.0,
    stand-invoked f r name payload t s live (is-given r s live h.0) new h.1,
  );
  ends = λ r status s live h.
      ending-both Rise Stands r status s (keeps-rise.ends r status s live h.0) (ending-stand r status s live h.1);
  results = λ r name result s live new h. (
    keeps-rise.results r name result s live new h.0,
    stand-result r.number name result s
        (waits-live name r s live ∙ not-pending name r (new-result name r (adds-result name result r new))) h.1,
  );
  sleep_ends = λ e s there h. (keeps-rise.sleep_ends e s there h.0, stand-sleep_ends e s there h.0 h.1);
  wait_ends = λ w result s there h.
      (keeps-rise.wait_ends w result s there h.0, stand-wait_ends w result s there h.0 h.1);
  invocation_ends = λ e s there h.
      (keeps-rise.invocation_ends e s there h.0, stand-invocation_ends e s there h.0 h.1);
  rule_ends = λ e s there h. (keeps-rise.rule_ends e s there h.0, h.1);
}

awaits-drops : Drops (λ is s. Awaits s)
awaits-drops = record {
  runs = λ is. keeps-awaits;
  closes = λ i s there h. (rise-drops.closes i s there h.0, h.1);
  reopens = λ s h. (rise-drops.reopens s h.0, h.1);
  drops = λ i is s h. h;
  retries = λ i is a r s live new h. h;
  requeues = λ i is r s live new h. h;
}

stand-tidied : (s : State) → Stands s → Stands (tidied s)
unfolding tidied
stand-tidied s h = h

pub awaits-steps : (bound : ℕ) → KeepsSteps bound (λ input. Unit {0}) (λ is s. Awaits s)
awaits-steps bound = record {
  calls = dropping (λ is s. Awaits s) awaits-drops;
  counts = λ s h. h;
  moves = λ t next s low e h. h;
  arrives = λ t s low on before h. h;
  issues = λ number i s next there h. (
    rise-issue i s h.0,
    stand-quiet i.run (called i.target) s (λ q. (refl, refl)) (λ q. refl) (λ q. refl) h.1,
  );
  registers = λ at app s asked h. h;
  tidies = λ s h. (rise-tidied s h.0, stand-tidied s h.1);
}

-- ## Histories

awaits-step : (s : State) (input : Input) → Awaits s → Awaits (step s input).state
awaits-step s input h =
    let bound : ℕ = moment_at (reading input) s in
    kept-step bound (λ input. Unit {0}) (λ is s. Awaits s) (awaits-steps bound) s input (omega arith) tt h

awaits-after : (inputs : List Input) (s : State) → Awaits s → Awaits (state_after s inputs)
awaits-after [] s h = h
awaits-after (input ∷ inputs) s h = awaits-after inputs (step s input).state (awaits-step s input h)

pub awaits-empty : (limits : Limits) → Awaits (empty limits)
awaits-empty limits = (
  rise-empty limits,
  record {
    sorted = tt;
    sleeps_wait = λ run name. refl;
    waits_wait = λ run name. refl;
    invocations_wait = λ run name. refl;
    told = tt;
  },
)

pub awaits-fold : (limits : Limits) (inputs : List Input) → Awaits (fold limits inputs)
awaits-fold limits inputs = awaits-after inputs (empty limits) (awaits-empty limits)

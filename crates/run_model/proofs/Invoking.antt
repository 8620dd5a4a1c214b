-- The step of an invoked run's parent is over, or waits for it, and the child of each invocation is there: at each
-- change, and so through each step.
use Rattle.std.proofs.Common.{◌≡◌, ℕ, ◌⊎◌, inl, inr, ◌+◌, ◌≤◌, ◌==◌, Bool, true, false, not, ◌&&◌, ◌||◌, cond, List, [], ◌∷◌, ◌++◌, filter, find, codes, Option, Some, None, IfSome, is_some, option_map, refl, sym, ap, ◌∙◌, subst, bytes_eq, arith, eq-eqb, eqb-true}
use Rattle.std.specs.List.{AllByRecursion, list_any}
use Rattle.std.specs.Option.{option_and_then}
use Rattle.kinds.specs.Inputs.{reading}
use Rattle.kinds.specs.RunSteps.{has_name, is_pending, is_recorded, note_pending, pend_step, pending_of}
use Rattle.kinds.specs.Windows as windows
use Rattle.kinds.specs.declared.event.Event.{Event}
use Rattle.kinds.specs.declared.event.EventIn.{EventIn}
use Rattle.kinds.specs.declared.input.Input.{Input}
use Rattle.kinds.specs.declared.limits.Limits.{Limits}
use Rattle.kinds.specs.declared.reply.Time.{Time}
use Rattle.kinds.specs.declared.store.Parent.{Parent}
use Rattle.kinds.specs.declared.store.Pending.{Pending}
use Rattle.kinds.specs.declared.store.Pending.TheVariants as pending
use Rattle.kinds.specs.declared.store.RunStatus.{RunStatus}
use Rattle.functions.specs.declared.entry.FunctionEntry.{FunctionEntry}
use Rattle.lists.proofs.Elements.{all-both, all-filter, all-last, all-weaker, filter-passes}
use Rattle.lists.proofs.Texts.{bytes_same, bytes_self}
use Rattle.run_model.specs.Advance.{timed_out, without_invocation, without_sleep, without_window}
use Rattle.run_model.specs.Ends.{end_run, is_invocation_of, without_invocation_of}
use Rattle.run_model.specs.Events.{add_event, event_with, without_wait}
use Rattle.run_model.specs.Laws.{IsIn}
use Rattle.run_model.specs.Machine.{fold, state_after, step}
use Rattle.run_model.specs.Making.{make_run}
use Rattle.run_model.specs.Recording.{changed, is_pending_in, record_in, record_result, result_for, wake_step}
use Rattle.run_model.specs.Replies.{invoke_found, invoked_event, pend, want, with_plan, with_steps}
use Rattle.run_model.specs.Requests.{remember}
use Rattle.run_model.specs.Settle.{called}
use Rattle.run_model.specs.Sound.{Invokes, IsAwaited, is_child, is_for, is_parent_of}
use Rattle.run_model.specs.State.{State, Run, Invocation, empty, live_run, moment_at, tidied}
use Rattle.run_model.proofs.Awaiting.{Awaits, HasTold, Stands, awaits-empty, awaits-steps, found-more, found-some, invocation_hash, invocation_run, keeps-awaits, stand-pended, waits-entry, woken}
use Rattle.run_model.proofs.FitEvents.{find-last, none-left}
use Rattle.run_model.proofs.FitWindows.{not-true}
use Rattle.run_model.proofs.GoingOn.{Has, in-kept, in-map, same-one}
use Rattle.run_model.proofs.Kept.{Adds, Ending, IsLive, IsUntold, Keeps, kept-make_run, kept-woken, made-live, run_from, window_after, with_offer}
use Rattle.run_model.proofs.KeptReplies.{dropping}
use Rattle.run_model.proofs.KeptSteps.{KeepsSteps, kept-step}
use Rattle.run_model.proofs.Members.{all-in, all-map, any-in, in-all, in-filter, in-found, in-front, in-last}
use Rattle.run_model.proofs.Rising.{Rise, invocation_number, invoked, run_number}
use Rattle.run_model.proofs.SettlingLists.{find-filter, found-passes, or-left, or-right}
use Rattle.run_model.proofs.Unrecorded.{change, change-number, found-changed}
use Rattle.run_model.proofs.WaitingCounts.{both-true}

-- ## What holds

abbrev is_child_of : Invocation → Run → Bool
is_child_of i r = (i.child == r.number) && is_parent_of i r.parent

-- the step is recorded, or it is over in some way, or an invocation of the child waits
abbrev IsHeld : (ℕ → ℕ → List ℕ → Type 0) → ℕ → Parent → List Invocation → Run → Type 0
IsHeld Over child p is q =
    (is_recorded p.hash q.steps ≡ true) ⊎ (Over child p.run p.hash ⊎ Has (is_for child p) is)

abbrev HasHeld : (ℕ → ℕ → List ℕ → Type 0) → List Run → List Invocation → ℕ → Option Parent → Type 0
HasHeld Over live is child parent =
    IfSome parent (λ p. IfSome (find (λ (q : Run). p.run == q.number) live) (IsHeld Over child p is))

record AreInvoked (Over : ℕ → ℕ → List ℕ → Type 0) (live : List Run) (is : List Invocation) : Type 0 where
  parents : AllByRecursion (λ (r : Run). HasHeld Over live is r.number r.parent) live
  children : AllByRecursion (λ i. Has (is_child_of i) live) is

abbrev NoneOver : ℕ → ℕ → List ℕ → Type 0
NoneOver child run hash = ⊥

abbrev Invoked : State → Type 0
Invoked s = AreInvoked NoneOver s.live s.invocations

of-parts : (p : Parent) (i : Invocation) → is_invocation_of p i ≡ true → (p.run ≡ i.run) × (p.hash ≡ i.hash)
of-parts p i h =
    let k : ((p.run == i.run) ≡ true) × (bytes_eq p.hash i.hash ≡ true) =
    both-true (p.run == i.run) (bytes_eq p.hash i.hash) h in
    (eqb-true p.run i.run k.0, bytes_same p.hash i.hash k.1)

for-parts : (child : ℕ) (p : Parent) (i : Invocation) → is_for child p i ≡ true
    → (p.run ≡ i.run) × (p.hash ≡ i.hash)
for-parts child p i h = of-parts p i (both-true (child == i.child) (is_invocation_of p i) h).1

-- ## Runs that change

-- a run keeps its number, its parent and what it recorded
record Grows (f : Run → Run) : Type 0 where
  number : (r : Run) → (f r).number ≡ r.number
  parent : (r : Run) → (f r).parent ≡ r.parent
  recorded : (r : Run) (hash : List ℕ) → is_recorded hash r.steps ≡ true → is_recorded hash (f r).steps ≡ true

module _ (Over OverNow : ℕ → ℕ → List ℕ → Type 0) (number : ℕ) (f : Run → Run) (live : List Run)
    (before now : List Invocation) (grows : Grows f)
    (ends : (child run : ℕ) (hash : List ℕ) (q : Run) → find (λ (x : Run). run == x.number) live ≡ Some q
    → Over child run hash
    → (is_recorded hash (change number f q).steps ≡ true) ⊎ OverNow child run hash)
    (left : (i : Invocation) → IsIn i before
    → IsIn i now ⊎ ((q : Run) → find (λ (x : Run). i.run == x.number) live ≡ Some q
    → is_recorded i.hash (change number f q).steps ≡ true))
    (back : (i : Invocation) → IsIn i now → IsIn i before) where
  change-recorded : (q : Run) (hash : List ℕ) → is_recorded hash q.steps ≡ true
      → is_recorded hash (change number f q).steps ≡ true
  change-recorded q hash h =
      elim (number == q.number) as (λ b. is_recorded hash (cond b (f q) q).steps ≡ true)
      [ true ↦ grows.recorded q hash h | false ↦ h ]

  change-parent : (q : Run) → (change number f q).parent ≡ q.parent
  change-parent q = elim (number == q.number) as (λ b. (cond b (f q) q).parent ≡ q.parent)
      [ true ↦ grows.parent q | false ↦ refl ]

  held-changed : (child : ℕ) (p : Parent) (q : Run) → find (λ (x : Run). p.run == x.number) live ≡ Some q
      → IsHeld Over child p before q → IsHeld OverNow child p now (change number f q)
  held-changed child p q e (inl k) = inl (change-recorded q p.hash k)
  held-changed child p q e (inr (inl k)) = of_end (ends child p.run p.hash q e k)
    where
      of_end : (is_recorded p.hash (change number f q).steps ≡ true) ⊎ OverNow child p.run p.hash
          → IsHeld OverNow child p now (change number f q)
      of_end (inl m) = inl m
      of_end (inr m) = inr (inl m)
  held-changed child p q e (inr (inr k)) = of_left (left k.0 k.1.0)
    where
      same : (p.run ≡ k.0.run) × (p.hash ≡ k.0.hash)
      same = for-parts child p k.0 k.1.1

      of_left : IsIn k.0 now ⊎ ((x : Run) → find (λ (y : Run). k.0.run == y.number) live ≡ Some x
          → is_recorded k.0.hash (change number f x).steps ≡ true)
          → IsHeld OverNow child p now (change number f q)
      of_left (inl there) = inr (inr (k.0, (there, k.1.1)))
      of_left (inr over) =
          inl (subst (λ n. is_recorded n (change number f q).steps ≡ true) (sym same.1)
          (over q (subst (λ n. find (λ (y : Run). n == y.number) live ≡ Some q) same.0 e)))

  found-held : (child : ℕ) (p : Parent) (o : Option Run) → find (λ (x : Run). p.run == x.number) live ≡ o
      → IfSome o (IsHeld Over child p before) → IfSome (option_map (change number f) o) (IsHeld OverNow child p now)
  found-held child p None e h = tt
  found-held child p (Some q) e h = held-changed child p q e h

  has-changed : (child : ℕ) (parent : Option Parent) → HasHeld Over live before child parent
      → HasHeld OverNow (changed number f live) now child parent
  has-changed child None h = tt
  has-changed child (Some p) h =
      subst (λ found. IfSome found (IsHeld OverNow child p now))
      (sym (found-changed p.run number f live (λ r. grows.number r)))
      (found-held child p (find (λ (x : Run). p.run == x.number) live) refl h)

  child-changed : (i : Invocation) → Has (is_child_of i) live → Has (is_child_of i) (changed number f live)
  child-changed i k = (
    change number f k.0,
    (
      in-map (change number f) k.0 live k.1.0,
      subst (λ n. ((i.child == n) && is_parent_of i (change number f k.0).parent) ≡ true)
          (sym (change-number number f (λ r. grows.number r) k.0))
          (subst (λ par. ((i.child == k.0.number) && is_parent_of i par) ≡ true) (sym (change-parent k.0)) k.1.1),
    ),
  )

  invoked-changed : AreInvoked Over live before → AreInvoked OverNow (changed number f live) now
  invoked-changed h = record {
    parents = all-map (λ (r : Run). HasHeld OverNow (changed number f live) now r.number r.parent)
        (change number f) live
        (all-weaker (λ (r : Run). HasHeld Over live before r.number r.parent)
        (λ (r : Run).
        HasHeld OverNow (changed number f live) now (change number f r).number (change number f r).parent) live
        (λ r k. subst (λ n. HasHeld OverNow (changed number f live) now n (change number f r).parent)
        (sym (change-number number f (λ q. grows.number q) r))
        (subst (λ par. HasHeld OverNow (changed number f live) now r.number par) (sym (change-parent r))
        (has-changed r.number r.parent k))) h.parents);
    children = all-in (λ i. Has (is_child_of i) (changed number f live)) now
        (λ i there. child-changed i (in-all (λ j. Has (is_child_of j) live) i before (back i there) h.children));
  }

grows-same : (f : Run → Run) → ((r : Run) → (f r).number ≡ r.number) → ((r : Run) → (f r).parent ≡ r.parent)
    → ((r : Run) → (f r).steps.recorded ≡ r.steps.recorded) → Grows f
grows-same f number parent recorded = record {
  number = number;
  parent = parent;
  recorded = λ r hash h. ap (λ es. is_some (find (has_name hash) es)) (recorded r) ∙ h;
}

grows-recorded : (name result : List ℕ) → Grows (record_in name result)
grows-recorded name result = record {
  number = λ r. refl;
  parent = λ r. refl;
  recorded = λ r hash h. found-more (has_name hash) r.steps.recorded
      (record { hash = name; result = result_for result r }) h;
}

-- nothing is over, and the same wait
invoked-same : (Over : ℕ → ℕ → List ℕ → Type 0) (number : ℕ) (f : Run → Run) (live : List Run) (is : List Invocation)
    → Grows f → AreInvoked Over live is → AreInvoked Over (changed number f live) is
invoked-same Over number f live is grows h =
    invoked-changed Over Over number f live is is grows (λ child run hash q e k. inr k) (λ i there. inl there)
    (λ i there. there) h

-- what was over, or went, is recorded
recorded-now : (name result : List ℕ) (run : ℕ) (hash : List ℕ) (at : ℕ) (live : List Run) (q : Run) → at ≡ run
    → name ≡ hash → find (λ (x : Run). at == x.number) live ≡ Some q
    → is_recorded hash (change run (record_in name result) q).steps ≡ true
recorded-now name result run hash at live q own named e =
    let found : (run == q.number) ≡ true =
    subst (λ n. (n == q.number) ≡ true) own (found-passes (λ (x : Run). at == x.number) live q e) in
    rw found (found-some (has_name hash) q.steps.recorded (record { hash = name; result = result_for result q })
    (subst (λ n. bytes_eq hash n ≡ true) (sym named) (bytes_self hash)))

-- ## A run ends

module _ (OverNow : ℕ → ℕ → List ℕ → Type 0) (r : Run) (live : List Run) (before now : List Invocation)
    (one : (q : Run) → IsIn q live → r.number ≡ q.number → q ≡ r)
    (left : (child : ℕ) (p : Parent) (i : Invocation) → IsIn i before → is_for child p i ≡ true
    → IsIn i now ⊎ (((r.number == i.run) ≡ true) ⊎ OverNow child p.run p.hash))
    (back : (i : Invocation) → IsIn i now → IsIn i before × (is_child_of i r ≡ false)) where
  others : List Run
  others = filter (λ (q : Run). not (r.number == q.number)) live

  held-left : (child : ℕ) (p : Parent) (q : Run) → (r.number == p.run) ≡ false
      → IsHeld NoneOver child p before q → IsHeld OverNow child p now q
  held-left child p q other (inl k) = inl k
  held-left child p q other (inr (inl k)) = absurd k
  held-left child p q other (inr (inr k)) = of_left (left child p k.0 k.1.0 k.1.1)
    where
      of_left : IsIn k.0 now ⊎ (((r.number == k.0.run) ≡ true) ⊎ OverNow child p.run p.hash)
          → IsHeld OverNow child p now q
      of_left (inl there) = inr (inr (k.0, (there, k.1.1)))
      of_left (inr (inl own)) =
          let no : (r.number == k.0.run) ≡ false =
          subst (λ n. (r.number == n) ≡ false) (for-parts child p k.0 k.1.1).0 other in
          absurd (let yes = own in cc)
      of_left (inr (inr over)) = inr (inl over)

  weaker-left : (child : ℕ) (p : Parent) (o : Option Run) → (r.number == p.run) ≡ false
      → IfSome o (IsHeld NoneOver child p before) → IfSome o (IsHeld OverNow child p now)
  weaker-left child p None other h = tt
  weaker-left child p (Some q) other h = held-left child p q other h

  alike : (p : Parent) (b : Bool) → (r.number == p.run) ≡ b → (x : Run) → (p.run == x.number) ≡ true
      → not (r.number == x.number) ≡ not b
  alike p b e x same = ap not (ap (λ n. r.number == n) (sym (eqb-true p.run x.number same)) ∙ e)

  has-left : (child : ℕ) (parent : Option Parent) → HasHeld NoneOver live before child parent
      → HasHeld OverNow others now child parent
  unfolding others
  has-left child None h = tt
  has-left child (Some p) h = by_test (r.number == p.run) refl
    where
      by_test : (b : Bool) → (r.number == p.run) ≡ b → IfSome (find (λ (x : Run). p.run == x.number)
          (filter (λ (q : Run). not (r.number == q.number)) live)) (IsHeld OverNow child p now)
      by_test true e = subst (λ o. IfSome o (IsHeld OverNow child p now))
          (sym (none-left (λ (x : Run). p.run == x.number) (λ (q : Run). not (r.number == q.number)) live
          (alike p true e))) tt
      by_test false e = subst (λ o. IfSome o (IsHeld OverNow child p now))
          (sym (find-filter (λ (x : Run). p.run == x.number) (λ (q : Run). not (r.number == q.number)) live
          (alike p false e)))
          (weaker-left child p (find (λ (x : Run). p.run == x.number) live) e h)

  child-left : (i : Invocation) → is_child_of i r ≡ false → Has (is_child_of i) live → Has (is_child_of i) others
  unfolding others
  child-left i none k = by_test (r.number == k.0.number) refl
    where
      by_test : (b : Bool) → (r.number == k.0.number) ≡ b
          → Has (is_child_of i) (filter (λ (q : Run). not (r.number == q.number)) live)
      by_test true e =
          let yes : is_child_of i r ≡ true =
          subst (λ x. is_child_of i x ≡ true) (one k.0 k.1.0 (eqb-true r.number k.0.number e)) k.1.1 in
          absurd (let no = none in cc)
      by_test false e =
          (k.0, (in-kept (λ (q : Run). not (r.number == q.number)) k.0 live k.1.0 (ap not e), k.1.1))

  invoked-ended : AreInvoked NoneOver live before → AreInvoked OverNow others now
  unfolding others
  invoked-ended h = record {
    parents = all-filter (λ (q : Run). HasHeld OverNow others now q.number q.parent)
        (λ (q : Run). not (r.number == q.number)) live
        (all-weaker (λ (q : Run). HasHeld NoneOver live before q.number q.parent)
        (λ (q : Run). HasHeld OverNow others now q.number q.parent) live
        (λ q k. has-left q.number q.parent k) h.parents);
    children = all-in (λ i. Has (is_child_of i) others) now
        (λ i there. child-left i (back i there).1
        (in-all (λ j. Has (is_child_of j) live) i before (back i there).0 h.children));
  }

in-passes : {X : Type 0} (test : X → Bool) (x : X) (xs : List X) → IsIn x (filter test xs) → test x ≡ true
in-passes test x xs there = in-all (λ y. test y ≡ true) x (filter test xs) there (filter-passes test xs)

only-one : (r : Run) (s : State) → IsLive r s → Rise s → (q : Run) → IsIn q s.live → r.number ≡ q.number → q ≡ r
only-one r s live rise q there same =
    same-one run_number q r s.live there (in-found (λ (x : Run). r.number == x.number) s.live r live) rise.1.0.0
    (sym same)

-- where its parent doesn't wait for it, no invocation has it as its child
ended-untold : (r : Run) (status : RunStatus) (s : State) → IsLive r s → Awaits s → IsUntold r status s → Invoked s
    → Invoked (end_run r status s)
unfolding others
ended-untold r status s live awaits untold h =
    invoked-ended NoneOver r s.live s.invocations (filter test s.invocations) (only-one r s live awaits.0)
    (λ child p i there own. of_test i there (r.number == i.run) refl)
    (λ i there. (in-filter test i s.invocations there, childless i there (is_child_of i r) refl)) h
  where
    test : Invocation → Bool
    test i = not (r.number == i.run)

    of_test : (i : Invocation) → IsIn i s.invocations → (b : Bool) → (r.number == i.run) ≡ b
        → IsIn i (filter (λ (e : Invocation). not (r.number == e.run)) s.invocations)
        ⊎ (((r.number == i.run) ≡ true) ⊎ ⊥)
    of_test i there true e = inr (inl e)
    of_test i there false e =
        inl (in-kept (λ (e : Invocation). not (r.number == e.run)) i s.invocations there (ap not e))

    waiting : (i : Invocation) (o : Option Run) → live_run i.run s ≡ o
        → option_and_then (λ (x : Run). pending_of i.hash x.steps) o ≡ Some pending.Invocation
        → (q : Run) × ((o ≡ Some q) × (is_pending i.hash q.steps ≡ true))
    waiting i None e k = absurd (cc)
    waiting i (Some q) e k = (q, (refl, ap is_some k))

    of_parent : (i : Invocation) (par : Option Parent) → r.parent ≡ par → is_parent_of i par ≡ true
        → IsIn i s.invocations → (r.number == i.run) ≡ false → ⊥
    of_parent i None e own there other = let no : false ≡ true = own in cc
    of_parent i (Some p) e own there other =
        let same : (p.run ≡ i.run) × (p.hash ≡ i.hash) = of-parts p i own in
        let k = waiting i (live_run i.run s) refl
        (waits-entry invocation_run invocation_hash pending.Invocation i s.invocations s.live there
        awaits.1.invocations_wait) in
        let found : live_run p.run (end_run r status s) ≡ Some k.0 =
        subst (λ n. live_run n (end_run r status s) ≡ Some k.0) (sym same.0)
        (find-filter (λ (x : Run). i.run == x.number) (λ (q : Run). not (r.number == q.number)) s.live
        (λ (x : Run) own. ap not (subst (λ n. (r.number == n) ≡ false) (eqb-true i.run x.number own) other))
        ∙ k.1.0) in
        let no : is_pending p.hash k.0.steps ≡ false = untold p k.0 e found in
        let yes : is_pending p.hash k.0.steps ≡ true =
        subst (λ n. is_pending n k.0.steps ≡ true) (sym same.1) k.1.1 in
        cc

    childless : (i : Invocation) → IsIn i (filter (λ (e : Invocation). not (r.number == e.run)) s.invocations)
        → (b : Bool) → is_child_of i r ≡ b → b ≡ false
    childless i there true e = absurd (of_parent i r.parent refl
        (both-true (i.child == r.number) (is_parent_of i r.parent) e).1
        (in-filter (λ (e : Invocation). not (r.number == e.run)) i s.invocations there)
        (not-true (r.number == i.run)
        (in-passes (λ (e : Invocation). not (r.number == e.run)) i s.invocations there)))
    childless i there false e = refl

-- and where it waits, that is over
abbrev OverOf : Parent → ℕ → ℕ → List ℕ → Type 0
OverOf p child run hash = (run ≡ p.run) × (hash ≡ p.hash)

ended-told : (r : Run) (p : Parent) (result : List ℕ) (status : RunStatus) (s : State) → IsLive r s → Rise s
    → r.parent ≡ Some p → Invoked s
    → Invoked (record_result p.run p.hash result (without_invocation_of p (end_run r status s)))
unfolding others
ended-told r p result status s live rise parent h =
    invoked-changed (OverOf p) NoneOver p.run (record_in p.hash result)
    (filter (λ (q : Run). not (r.number == q.number)) s.live) now now (grows-recorded p.hash result)
    (λ child run hash q e over. inl (recorded-now p.hash result p.run hash run
    (filter (λ (x : Run). not (r.number == x.number)) s.live) q over.0 (sym over.1) e))
    (λ i there. inl there) (λ i there. there)
    (invoked-ended (OverOf p) r s.live s.invocations now (only-one r s live rise)
    (λ child o i there own. of_tests child o i there own (r.number == i.run) (is_invocation_of p i) refl refl)
    (λ i there. (
      in-filter of_run i s.invocations (in-filter not_of i (filter of_run s.invocations) there),
      childless i (in-passes not_of i (filter of_run s.invocations) there),
    )) h)
  where
    of_run : Invocation → Bool
    of_run i = not (r.number == i.run)

    not_of : Invocation → Bool
    not_of i = not (is_invocation_of p i)

    now : List Invocation
    now = filter (λ i. not (is_invocation_of p i)) (filter (λ (e : Invocation). not (r.number == e.run)) s.invocations)

    of_tests : (child : ℕ) (o : Parent) (i : Invocation) → IsIn i s.invocations → is_for child o i ≡ true
        → (a b : Bool) → (r.number == i.run) ≡ a → is_invocation_of p i ≡ b
        → IsIn i (filter (λ i. not (is_invocation_of p i))
        (filter (λ (e : Invocation). not (r.number == e.run)) s.invocations))
        ⊎ (((r.number == i.run) ≡ true) ⊎ OverOf p child o.run o.hash)
    of_tests child o i there own true b ea eb = inr (inl ea)
    of_tests child o i there own false true ea eb =
        let mine : (o.run ≡ i.run) × (o.hash ≡ i.hash) = for-parts child o i own in
        let its : (p.run ≡ i.run) × (p.hash ≡ i.hash) = of-parts p i eb in
        inr (inr (mine.0 ∙ sym its.0, mine.1 ∙ sym its.1))
    of_tests child o i there own false false ea eb =
        inl (in-kept (λ i. not (is_invocation_of p i)) i
        (filter (λ (e : Invocation). not (r.number == e.run)) s.invocations)
        (in-kept (λ (e : Invocation). not (r.number == e.run)) i s.invocations there (ap not ea)) (ap not eb))

    childless : (i : Invocation) → not (is_invocation_of p i) ≡ true → is_child_of i r ≡ false
    childless i passes =
        subst (λ par. ((i.child == r.number) && is_parent_of i par) ≡ false) (sym parent)
        (by_test (i.child == r.number) (is_invocation_of p i) (not-true (is_invocation_of p i) passes))
      where
        by_test : (a b : Bool) → b ≡ false → (a && b) ≡ false
        by_test true b e = e
        by_test false b e = refl

-- ## A step is recorded

invoked-recorded : (run : ℕ) (name result : List ℕ) (s : State) → Invoked s
    → Invoked (record_result run name result s)
invoked-recorded run name result s h =
    invoked-same NoneOver run (record_in name result) s.live s.invocations (grows-recorded name result) h

invoked-woken : (run : ℕ) (name result : List ℕ) (s : State) → Invoked s → Invoked (wake_step run name result s)
invoked-woken run name result s h =
    kept-woken Invoked (is_pending_in name (live_run run s)) s (record_result run name result s) h
    (invoked-recorded run name result s h)

invoked-over : (e : Invocation) (result : List ℕ) (s : State) → IsIn e s.invocations → Awaits s → Invoked s
    → Invoked (wake_step e.run e.hash result (without_invocation e.number s))
invoked-over e result s there awaits h =
    subst Invoked (sym (woken pending.Invocation e.run e.hash result (without_invocation e.number s)
    (waits-entry invocation_run invocation_hash pending.Invocation e s.invocations s.live there
    awaits.1.invocations_wait)))
    (invoked-changed NoneOver NoneOver e.run (record_in e.hash result) s.live s.invocations
    (filter (λ (o : Invocation). not (e.number == o.number)) s.invocations) (grows-recorded e.hash result)
    (λ child run hash q found over. absurd over)
    (λ i own. by_test i own (e.number == i.number) refl)
    (λ i own. in-filter (λ (o : Invocation). not (e.number == o.number)) i s.invocations own) h)
  where
    by_test : (i : Invocation) → IsIn i s.invocations → (b : Bool) → (e.number == i.number) ≡ b
        → IsIn i (filter (λ (o : Invocation). not (e.number == o.number)) s.invocations)
        ⊎ ((q : Run) → find (λ (x : Run). i.run == x.number) s.live ≡ Some q
        → is_recorded i.hash (change e.run (record_in e.hash result) q).steps ≡ true)
    by_test i own true k =
        let same : e ≡ i = same-one invocation_number e i s.invocations there own awaits.0.0.invocations_rise.0
        (eqb-true e.number i.number k) in
        inr (λ q found. recorded-now e.hash result e.run i.hash i.run s.live q
        (sym (ap (λ (x : Invocation). x.run) same)) (ap (λ (x : Invocation). x.hash) same) found)
    by_test i own false k =
        inl (in-kept (λ (o : Invocation). not (e.number == o.number)) i s.invocations own (ap not k))

-- ## A run comes

more-held : (Over : ℕ → ℕ → List ℕ → Type 0) (runs : ℕ) (live : List Run) (r : Run) (is : List Invocation) (child : ℕ)
    (parent : Option Parent) → r.number ≡ runs + 1 → HasTold runs live parent → HasHeld Over live is child parent
    → HasHeld Over (live ++ r ∷ []) is child parent
more-held Over runs live r is child None numbered told h = tt
more-held Over runs live r is child (Some p) numbered told h =
    let low : p.run ≤ runs = told.0 in
    subst (λ found. IfSome found (IsHeld Over child p is))
    (sym (find-last (λ (q : Run). p.run == q.number) live r
    (λ same. let e = eqb-true p.run r.number same in omega (arith, low, numbered, e)))) h

invoked-started : (Over : ℕ → ℕ → List ℕ → Type 0) (f : FunctionEntry) (events : List ℕ) (parent : Option Parent)
    (s : State) → AllByRecursion (λ (r : Run). HasTold s.runs s.live r.parent) s.live
    → HasHeld Over (s.live ++ run_from f events parent s ∷ []) s.invocations (s.runs + 1) parent
    → AreInvoked Over s.live s.invocations
    → AreInvoked Over (s.live ++ run_from f events parent s ∷ []) s.invocations
invoked-started Over f events parent s told own h =
    let r : Run = run_from f events parent s in
    let after : List Run = s.live ++ r ∷ [] in
    record {
      parents = all-last (λ (q : Run). HasHeld Over after s.invocations q.number q.parent) s.live r
          (all-both (λ (q : Run). HasTold s.runs s.live q.parent)
          (λ (q : Run). HasHeld Over s.live s.invocations q.number q.parent)
          (λ (q : Run). HasHeld Over after s.invocations q.number q.parent) s.live
          (λ q t k. more-held Over s.runs s.live r s.invocations q.number q.parent refl t k) told h.parents) own;
      children = all-weaker (λ i. Has (is_child_of i) s.live) (λ i. Has (is_child_of i) after) s.invocations
          (λ i k. (k.0, (in-front k.0 s.live (r ∷ []) k.1.0, k.1.1))) h.children;
    }

invoked-made : (f : FunctionEntry) (events : List ℕ) (s : State) → Stands s → Invoked s
    → Invoked (make_run f events None s)
invoked-made f events s stands h =
    kept-make_run Invoked
    (record { rules = λ r event c t there same k. k; finds_out = λ r t there k. k }) f events None s
    (invoked-started NoneOver f events None s stands.told tt h)

-- what is over as soon as the invocation is there
abbrev OverNew : ℕ → ℕ → List ℕ → ℕ → ℕ → List ℕ → Type 0
OverNew number at name child run hash = (child ≡ number) × ((run ≡ at) × (hash ≡ name))

invoked-invoked : (f : FunctionEntry) (r : Run) (name : List ℕ) (payload : Option (List ℕ)) (t : Option Time)
    (s : State) → IsLive r s → Adds (note_pending name pending.Invocation r.steps) → Awaits s
    → AllByRecursion (λ (q : Run). HasTold s.runs (pend pending.Invocation name r s).live q.parent)
    (pend pending.Invocation name r s).live → Invoked s
    → Invoked (invoke_found (Some f) r name payload t s)
invoked-invoked f r name payload t s live new awaits told h =
    let Over : ℕ → ℕ → List ℕ → Type 0 = OverNew (s.runs + 1) r.number name in
    let parent : Option Parent = Some (record { run = r.number; hash = name }) in
    let event : Event = event_with (invoked_event payload) s in
    let before : State = add_event event (pend pending.Invocation name r s) in
    let made : State = make_run f (event.number ∷ []) parent before in
    let e : Invocation = invoked r name (s.runs + 1) t made in
    let k : AreInvoked Over made.live made.invocations =
    kept-make_run (λ (u : State). AreInvoked Over u.live u.invocations)
    (record { rules = λ q event c u there same m. m; finds_out = λ q u there m. m }) f (event.number ∷ []) parent before
    (invoked-started Over f (event.number ∷ []) parent before told
    (any-found Over before (run_from f (event.number ∷ []) parent before))
    (invoked-changed NoneOver Over r.number (λ q. with_steps (pend_step name pending.Invocation q.steps) q) s.live
    s.invocations s.invocations (grows-same _ (λ q. refl) (λ q. refl) (λ q. refl))
    (λ child run hash q found over. absurd over)
    (λ i there. inl there) (λ i there. there) h)) in
    record {
      parents = all-weaker (λ (q : Run). HasHeld Over made.live made.invocations q.number q.parent)
          (λ (q : Run). HasHeld NoneOver made.live (made.invocations ++ e ∷ []) q.number q.parent) made.live
          (λ q m. has-added made e q.number q.parent refl refl refl m) k.parents;
      children = all-last (λ i. Has (is_child_of i) made.live) made.invocations e k.children (
        run_from f (event.number ∷ []) parent before,
        (
          subst (λ rs. IsIn (run_from f (event.number ∷ []) parent before) rs)
              (sym (made-live f (event.number ∷ []) parent before))
              (in-last (run_from f (event.number ∷ []) parent before) before.live),
          own-child (s.runs + 1) r.number name,
        ),
      );
    }
  where
    own-child : (n at : ℕ) (hash : List ℕ) → ((n == n) && ((at == at) && bytes_eq hash hash)) ≡ true
    own-child n at hash = rw (eq-eqb n n refl, eq-eqb at at refl) (bytes_self hash)

    any-found : (Over : ℕ → ℕ → List ℕ → Type 0) (u : State) (q : Run)
        → HasHeld (OverNew (s.runs + 1) r.number name) (u.live ++ q ∷ []) u.invocations (s.runs + 1)
        (Some (record { run = r.number; hash = name }))
    any-found Over u q = of_found (find (λ (x : Run). r.number == x.number) (u.live ++ q ∷ []))
      where
        of_found : (o : Option Run)
            → IfSome o (IsHeld (OverNew (s.runs + 1) r.number name) (s.runs + 1)
            (record { run = r.number; hash = name }) u.invocations)
        of_found None = tt
        of_found (Some x) = inr (inl (refl, (refl, refl)))

    added : (u : State) (e : Invocation) (child : ℕ) (p : Parent) (o : Option Run) → e.child ≡ s.runs + 1
        → e.run ≡ r.number → e.hash ≡ name
        → IfSome o (IsHeld (OverNew (s.runs + 1) r.number name) child p u.invocations)
        → IfSome o (IsHeld NoneOver child p (u.invocations ++ e ∷ []))
    added u e child p None a b c m = tt
    added u e child p (Some q) a b c (inl m) = inl m
    added u e child p (Some q) a b c (inr (inl m)) = inr (inr (
      e,
      (
        in-last e u.invocations,
        subst (λ n. ((child == n) && is_invocation_of p e) ≡ true) (m.0 ∙ sym a)
            (subst (λ n. ((child == child) && ((p.run == n) && bytes_eq p.hash e.hash)) ≡ true) (m.1.0 ∙ sym b)
            (subst (λ n. ((child == child) && ((p.run == p.run) && bytes_eq p.hash n)) ≡ true) (m.1.1 ∙ sym c)
            (own-child child p.run p.hash))),
      ),
    ))
    added u e child p (Some q) a b c (inr (inr m)) =
        inr (inr (m.0, (in-front m.0 u.invocations (e ∷ []) m.1.0, m.1.1)))

    has-added : (u : State) (e : Invocation) (child : ℕ) (parent : Option Parent) → e.child ≡ s.runs + 1
        → e.run ≡ r.number → e.hash ≡ name
        → HasHeld (OverNew (s.runs + 1) r.number name) u.live u.invocations child parent
        → HasHeld NoneOver u.live (u.invocations ++ e ∷ []) child parent
    has-added u e child None a b c m = tt
    has-added u e child (Some p) a b c m = added u e child p (find (λ (x : Run). p.run == x.number) u.live) a b c m

-- ## The changes

abbrev All : State → Type 0
All s = Awaits s × Invoked s

invoked-accepted : (event : EventIn) (id : Option (List ℕ)) (s : State) → Invoked s
    → Invoked (add_event (event_with event s) (remember id s))
invoked-accepted event None s h = h
invoked-accepted event (Some id) s h = h

invoked-pended : (kind : Pending) (name : List ℕ) (r : Run) (s : State) → Invoked s → Invoked (pend kind name r s)
invoked-pended kind name r s h =
    invoked-same NoneOver r.number (λ q. with_steps (pend_step name kind q.steps) q) s.live s.invocations
    (grows-same _ (λ q. refl) (λ q. refl) (λ q. refl)) h

ending-invoked : (r : Run) (status : RunStatus) (s : State) → IsLive r s → All s → Ending All r status s
ending-invoked r status s live h =
    let k : Ending Awaits r status s = keeps-awaits.ends r status s live h.0 in
    record {
      ends = λ untold. (k.ends untold, ended-untold r status s live h.0 untold h.1);
      tells = λ p q result parent there waits. (
        k.tells p q result parent there waits,
        ended-told r p result status s live h.0.0 parent h.1,
      );
    }

keeps-invoked : Keeps All
keeps-invoked = record {
  accepts = λ event id s new h. (keeps-awaits.accepts event id s new h.0, invoked-accepted event id s h.1);
  starts = λ f event s there given h.
      (keeps-awaits.starts f event s there given h.0, invoked-made f (event ∷ []) s h.0.1 h.1);
  fills = λ f r value event s may full h. (
    keeps-awaits.fills f r value event s may full h.0,
    invoked-made f (windows.events_of (window_after f r value event s)) (with_offer f r value event s) h.0.1 h.1,
  );
  fires = λ f w s there stands h. (
    keeps-awaits.fires f w s there stands h.0,
    invoked-made f (windows.events_of w) (without_window (windows.number_of w) s) h.0.1 h.1,
  );
  joins = λ f r value event s may full h. (keeps-awaits.joins f r value event s may full h.0, h.1);
  windows_go = λ number s h. (keeps-awaits.windows_go number s h.0, h.1);
  finds_out = λ r s there missed h. (keeps-awaits.finds_out r s there missed h.0, h.1);
  wants = λ r s live h. (
    keeps-awaits.wants r s live h.0,
    invoked-same NoneOver r.number want s.live s.invocations
        (grows-same want (λ q. refl) (λ q. refl) (λ q. refl)) h.1,
  );
  plans = λ r name s live new h. (
    keeps-awaits.plans r name s live new h.0,
    invoked-same NoneOver r.number (with_plan name) s.live s.invocations
        (grows-same (with_plan name) (λ q. refl) (λ q. refl) (λ q. refl)) h.1,
  );
  sleeps = λ r name t s live new h.
      (keeps-awaits.sleeps r name t s live new h.0, invoked-pended pending.Sleep name r s h.1);
  waits = λ r name event t given s live new h.
      (keeps-awaits.waits r name event t given s live new h.0, invoked-pended pending.Wait name r s h.1);
  invokes = λ f r name payload t s there live new h. (
    keeps-awaits.invokes f r name payload t s there live new h.0,
    invoked-invoked f r name payload t s live new h.0
        (stand-pended r name (invoked r name 0 None s) s live new refl refl h.0.1).told h.1,
  );
  ends = λ r status s live h. ending-invoked r status s live h;
  results = λ r name result s live new h.
      (keeps-awaits.results r name result s live new h.0, invoked-recorded r.number name result s h.1);
  sleep_ends = λ e s there h. (
    keeps-awaits.sleep_ends e s there h.0,
    invoked-woken e.run e.hash (codes "null") (without_sleep e.number s) h.1,
  );
  wait_ends = λ w result s there h. (
    keeps-awaits.wait_ends w result s there h.0,
    invoked-woken w.wait.run w.hash result (without_wait w.wait.number s) h.1,
  );
  invocation_ends = λ e s there h.
      (keeps-awaits.invocation_ends e s there h.0, invoked-over e timed_out s there h.0 h.1);
  rule_ends = λ e s there h. (keeps-awaits.rule_ends e s there h.0, h.1);
}

-- ## Steps

invoked-tidied : (s : State) → Invoked s → Invoked (tidied s)
unfolding tidied
invoked-tidied s h = h

invoked-steps : (bound : ℕ) → KeepsSteps bound (λ input. Unit {0}) (λ is s. All s)
invoked-steps bound =
    let k : KeepsSteps bound (λ input. Unit {0}) (λ is s. Awaits s) = awaits-steps bound in
    record {
      calls = dropping (λ is s. All s) (record {
        runs = λ is. keeps-invoked;
        closes = λ i s there h. (k.calls.closes i s there h.0, h.1);
        reopens = λ s h. (k.calls.reopens s h.0, h.1);
        drops = λ i is s h. h;
        retries = λ i is a r s live new h. h;
        requeues = λ i is r s live new h. h;
      });
      counts = λ s h. h;
      moves = λ t next s low e h. h;
      arrives = λ t s low on before h. h;
      issues = λ number i s next there h. (
        k.issues number i s next there h.0,
        invoked-same NoneOver i.run (called i.target) s.live s.invocations
            (grows-same (called i.target) (λ q. refl) (λ q. refl) (λ q. refl)) h.1,
      );
      registers = λ at app s asked h. h;
      tidies = λ s h. (k.tidies s h.0, invoked-tidied s h.1);
    }

invoked-step : (s : State) (input : Input) → All s → All (step s input).state
invoked-step s input h =
    let bound : ℕ = moment_at (reading input) s in
    kept-step bound (λ input. Unit {0}) (λ is s. All s) (invoked-steps bound) s input (omega arith) tt h

invoked-after : (inputs : List Input) (s : State) → All s → All (state_after s inputs)
invoked-after [] s h = h
invoked-after (input ∷ inputs) s h = invoked-after inputs (step s input).state (invoked-step s input h)

-- ## What follows

pub invoked-fold : (limits : Limits) (inputs : List Input) → Invokes (fold limits inputs)
invoked-fold limits inputs =
    let s : State = fold limits inputs in
    let h : Invoked s =
    (invoked-after inputs (empty limits) (awaits-empty limits, record { parents = tt; children = tt })).1 in
    record {
      awaited = all-weaker (λ (r : Run). HasHeld NoneOver s.live s.invocations r.number r.parent)
          (λ (r : Run). IfSome r.parent (IsAwaited s r)) s.live (λ r k. of_parent s r r.parent k) h.parents;
      children = all-weaker (λ i. Has (is_child_of i) s.live) (λ i. is_child s i ≡ true) s.invocations
          (λ i k. any-in (is_child_of i) k.0 s.live k.1.0 k.1.1) h.children;
    }
  where
    of_found : (s : State) (r : Run) (p : Parent) (o : Option Run)
        → IfSome o (IsHeld NoneOver r.number p s.invocations)
        → IfSome o (λ parent.
        (is_recorded p.hash parent.steps || list_any (is_for r.number p) s.invocations) ≡ true)
    of_found s r p None k = tt
    of_found s r p (Some q) (inl k) =
        or-left (is_recorded p.hash q.steps) (list_any (is_for r.number p) s.invocations) k
    of_found s r p (Some q) (inr (inl k)) = absurd k
    of_found s r p (Some q) (inr (inr k)) =
        or-right (is_recorded p.hash q.steps) (list_any (is_for r.number p) s.invocations)
        (any-in (is_for r.number p) k.0 s.invocations k.1.0 k.1.1)

    of_parent : (s : State) (r : Run) (o : Option Parent) → HasHeld NoneOver s.live s.invocations r.number o
        → IfSome o (IsAwaited s r)
    of_parent s r None k = tt
    of_parent s r (Some p) k = of_found s r p (live_run p.run s) k

-- Each planned name of a run is called once, and each name that is called was planned or is recorded: at each change, and
-- so through each step.
use Rattle.std.proofs.Common.{◌≡◌, ℕ, inl, inr, ◌+◌, ◌≤◌, Bool, true, false, not, ◌&&◌, ◌||◌, List, [], ◌∷◌, ◌++◌, map, length, Option, Some, None, IfSome, refl, ◌∙◌, subst, bytes_eq, arith}
use Rattle.std.specs.BTreeMap.{is_at}
use Rattle.std.specs.Cmp.Lexicographic.{slice_cmp}
use Rattle.std.specs.List.{AllByRecursion, list_any}
use Rattle.std.specs.Ordering.{nat_cmp}
use Rattle.kinds.specs.Queue.{without_number}
use Rattle.kinds.specs.RunSteps.{is_planned, is_recorded}
use Rattle.kinds.specs.declared.input.Input.{Input}
use Rattle.kinds.specs.declared.limits.Limits.{Limits}
use Rattle.kinds.specs.declared.reply.Op.{Op}
use Rattle.kinds.specs.declared.store.Item.{Item}
use Rattle.lists.proofs.Texts.{bytes_self}
use Rattle.run_model.specs.Fit.{item_of}
use Rattle.run_model.specs.Laws.{IsIn}
use Rattle.run_model.specs.Machine.{fold}
use Rattle.run_model.specs.Making.{new_item, step_target}
use Rattle.run_model.specs.Recording.{change_run}
use Rattle.run_model.specs.Replies.{Taking, begun, is_outcome_of, lacks_target, take_operation, take_operations, want, with_plan}
use Rattle.run_model.specs.Settle.{called, issued}
use Rattle.run_model.specs.Sound.{CallsPlanned, IfLive, IsCalledOnce, is_aimed, items_for}
use Rattle.run_model.specs.State.{State, Run, Issue, empty, live_run}
use Rattle.run_model.proofs.AwaitingOnce.{live-own}
use Rattle.run_model.proofs.GoingOn.{Going, going-empty}
use Rattle.run_model.proofs.Kept.{own-number, run_from}
use Rattle.run_model.proofs.Members.{all-in, any-in, in-all}
use Rattle.run_model.proofs.Rising.{Rise}
use Rattle.run_model.proofs.WaitingCounts.{counted-in}
use Rattle.run_model.proofs.WaitingNames.{at-bytes}
use Rattle.soundness.proofs.Carried.{Any, Core, Carries, beside-changes, core}
use Rattle.soundness.proofs.CarriedReplies.{CarriesSteps, beside-steps, carried-take_operation}
use Rattle.soundness.proofs.CarriedSteps.{going-after, carried-fold}
use Rattle.soundness.proofs.CountedCalls.{counted-both, issue_run, issue_target, item_run, item_target, opened, queued, queued-opened}
use Rattle.soundness.proofs.PlannedCalls.{AreCalled, IsCalled, IsOther, called-beside, called-ended, called-pended, called-planned, called-quiet, called-recorded, called-started}
use Rattle.soundness.proofs.PlannedItems.{called-again, called-closed, called-dropped, called-issued, called-reopened}
use Rattle.soundness.proofs.RunNumbers.{HasNumbers, numbers-empty, numbers-steps}
use Rattle.soundness.proofs.StepNames.{AreNamed, apart-name}
use Rattle.soundness.proofs.ToldTargets.{Halts, IsPlannedOr, Settles, halts-operation, settles-operations, settles-told}

abbrev K : List Item → Core → Type 0
K is c = AreCalled is c.live c.items c.issues

-- ## The changes

planned-changes : Carries HasNumbers K
planned-changes = record {
  accepts = λ is event s next numbers h. h;
  makes = λ is f events parent i s there texts own numbers h.
      let r : Run = run_from f events parent s in
      called-beside is (s.live ++ r ∷ []) s.items s.issues
      (called-started is s.live s.items s.issues h s.runs r numbers refl refl) i own.0.1;
  joins = λ is f r value event s there text numbers h. h;
  windows_go = λ is number s numbers h. h;
  finds_out = λ r s there none numbers h.
      called-beside [] s.live s.items s.issues h (new_item r step_target s) refl;
  wants = λ is number s numbers h.
      called-quiet is s.live s.items s.issues h number want (λ q. refl) (λ q. refl);
  plans = λ i r name s live new own numbers h.
      called-planned (i ∷ []) s.live s.items s.issues h r name
      (new_item r name (change_run r.number (with_plan name) s)) (own-number i.run r s live) new
      (apart-name name own) (refl, refl);
  pends = λ i kind r name s live new own numbers h.
      called-pended (i ∷ []) s.live s.items s.issues h r name kind (own-number i.run r s live) new;
  results = λ i r name result s live own numbers h.
      called-recorded (i ∷ []) s.live s.items s.issues h r.number name result;
  wakes = λ is run r name result s live waits numbers h.
      called-recorded is s.live s.items s.issues h run name result;
  ends = λ is r status s live numbers h. called-ended is s.live s.items s.issues h r.number;
}

-- with the numbers
abbrev Both : List Item → Core → Type 0
Both is c = HasNumbers is c × K is c

both-changes : Carries Any Both
both-changes = beside-changes HasNumbers K numbers-steps.changes planned-changes

-- ## A reply that tells of its step

-- the step of an item that is aside was planned, or is recorded
aside-planned : (i : Item) (is : List Item) (s : State) → IsOther i.target → K (i ∷ is) (core s)
    → IfSome (live_run i.run s) (IsPlannedOr i.target)
aside-planned i is s own h = of_found (live_run i.run s) (h.called i.run i.target own)
  where
    some : 1 ≤ opened i.run i.target s.issues + queued i.run i.target (i ∷ is)
    some = let n = counted-in item_run item_target i (i ∷ is) (inl refl) in omega (arith, n)

    by_test : (r : Run) (p : Bool) → is_planned i.target r.steps ≡ p
        → IsCalled i.run i.target s.items s.issues (i ∷ is) r → IsPlannedOr i.target r
    by_test r true e k = inr (e, (k.once e).1)
    by_test r false e k = inl ((k.none e).1 some)

    of_found : (o : Option Run) → IfSome o (IsCalled i.run i.target s.items s.issues (i ∷ is))
        → IfSome o (IsPlannedOr i.target)
    of_found None k = tt
    of_found (Some r) k = by_test r (is_planned i.target r.steps) refl k

module _ (i : Item) (no_retry : Bool) (own : IsOther i.target) where
  settles-all : (os : List Op) (t : Taking) → AreNamed os
      → list_any (is_outcome_of i.target) os ≡ true → Both (i ∷ []) (core t.state) → Halts i no_retry t
      → Settles i no_retry (take_operations i no_retry os t)
  unfolding take_operations
  settles-all [] t named told h halts = absurd (cc)
  settles-all (o ∷ os) t named told h halts =
      by_test (is_outcome_of i.target o) refl told
      (λ k. settles-all os (take_operation i no_retry o t) named.1 k
      (carried-take_operation Both both-changes i no_retry o t named.0 h)
      (halts-operation i no_retry o t h.0.aside.0 halts))
    where
      by_test : (b : Bool) → is_outcome_of i.target o ≡ b → (b || list_any (is_outcome_of i.target) os) ≡ true
          → (list_any (is_outcome_of i.target) os ≡ true
          → Settles i no_retry (take_operations i no_retry os (take_operation i no_retry o t)))
          → Settles i no_retry (take_operations i no_retry os (take_operation i no_retry o t))
      by_test true e k more = settles-operations i no_retry os (take_operation i no_retry o t)
          (settles-told i no_retry o t e h.0.aside.0 (aside-planned i [] t.state own h.1) halts)
      by_test false e k more = more k

told-of : (i : Item) (ops : List Op) → lacks_target i ops ≡ false → IsOther i.target
    → list_any (is_outcome_of i.target) ops ≡ true
told-of i ops has own = by_tests (bytes_eq i.target step_target) (list_any (is_outcome_of i.target) ops) own has
  where
    by_tests : (a b : Bool) → a ≡ false → (not a && not b) ≡ false → b ≡ true
    by_tests true b e k = absurd (cc)
    by_tests false true e k = refl
    by_tests false false e k = absurd (cc)

planned-left : (i : Item) (no_retry : Bool) (ops : List Op) (s : State) → lacks_target i ops ≡ false
    → AreNamed ops → (take_operations i no_retry ops (begun s)).again ≡ false
    → Both (i ∷ []) (core s) → K (i ∷ []) (core (take_operations i no_retry ops (begun s)).state)
    → K [] (core (take_operations i no_retry ops (begun s)).state)
planned-left i no_retry ops s has named over before h =
    let t : State = (take_operations i no_retry ops (begun s)).state in
    called-dropped t.live t.items t.issues i [] h
    (λ own. done (settles-all i no_retry own ops (begun s) named (told-of i ops has own) before (λ halted. absurd (cc))))
  where
    done : Settles i no_retry (take_operations i no_retry ops (begun s))
        → IfSome (live_run i.run (take_operations i no_retry ops (begun s)).state)
        (λ r. is_recorded i.target r.steps ≡ true)
    done (inl k) = absurd (cc)
    done (inr k) = k.1

-- ## Steps

planned-steps : CarriesSteps HasNumbers K
planned-steps = record {
  changes = planned-changes;
  closes = λ i s rise there numbers h. called-closed s.live s.items i s.issues there rise h;
  reopens = λ s numbers h. called-reopened s.live s.items s.issues h;
  drops = λ i is s done numbers h. called-dropped s.live s.items s.issues i is h (λ own. done);
  leaves = λ i no_retry ops s has named over numbers_before before numbers h.
      planned-left i no_retry ops s has named over (numbers_before, before) h;
  queues = λ i j is r s its start live new numbers h. called-again s.live s.items s.issues i is h j r its live new;
  issues = λ i s apart there numbers h.
      called-quiet [] s.live (without_number i.number s.items) (s.issues ++ issued i s ∷ [])
      (called-issued s.live s.items i (issued i s) s.issues there apart (refl, refl) h) i.run
      (called i.target) (λ q. refl) (λ q. refl);
  registers = λ app s numbers h. h;
  tidies = λ s numbers h. h;
}

-- ## What follows

-- a name that isn't planned has no item, and its calls are of a recorded step
aimed : (s : State) → K [] (core s) → (i : Item)
    → 1 ≤ queued i.run i.target s.items + opened i.run i.target s.issues → IfLive s i.run (λ r. is_aimed r i ≡ true)
aimed s h i some = by_name (bytes_eq i.target step_target) refl
  where
    by_test : (r : Run) (p : Bool) → is_planned i.target r.steps ≡ p → IsCalled i.run i.target s.items s.issues [] r
        → (p || is_recorded i.target r.steps) ≡ true
    by_test r true e k = refl
    by_test r false e k =
        let none : queued i.run i.target s.items ≡ 0 = (k.none e).0 in (k.none e).1 (omega (arith, some, none))

    of_found : (o : Option Run) → IfSome o (IsCalled i.run i.target s.items s.issues [])
        → IfSome o (λ r. (is_planned i.target r.steps || is_recorded i.target r.steps) ≡ true)
    of_found None k = tt
    of_found (Some r) k = by_test r (is_planned i.target r.steps) refl k

    any-live : (o : Option Run) → IfSome o (λ (r : Run). true ≡ true)
    any-live None = tt
    any-live (Some r) = refl

    by_name : (b : Bool) → bytes_eq i.target step_target ≡ b
        → IfSome (live_run i.run s) (λ r. (b || is_planned i.target r.steps || is_recorded i.target r.steps) ≡ true)
    by_name true e = any-live (live_run i.run s)
    by_name false e = of_found (live_run i.run s) (h.called i.run i.target e)

called-once : (s : State) → Rise s → K [] (core s) → (r : Run) → IsIn r s.live → (name : List ℕ)
    → IsIn name r.steps.planned → IsCalledOnce s r name
called-once s rise h r there name planned =
    let own : IsOther name =
    in-all IsOther name r.steps.planned planned (in-all _ r s.live there h.ordered).1 in
    let k : IsCalled r.number name s.items s.issues [] r =
    subst (λ o. IfSome o (IsCalled r.number name s.items s.issues [])) (live-own r s there rise)
    (h.called r.number name own) in
    let is : is_planned name r.steps ≡ true =
    any-in (is_at (slice_cmp nat_cmp name)) name r.steps.planned planned (at-bytes name name ∙ bytes_self name) in
    let one = k.once is in
    let a : length (items_for s r.number name)
    ≡ queued r.number name s.items + queued r.number name (map item_of s.issues) =
    counted-both item_run item_target r.number name s.items (map item_of s.issues) in
    let b = queued-opened r.number name s.issues in
    let c : queued r.number name s.items + (opened r.number name s.issues + queued r.number name []) ≡ 1 = one.0 in
    (omega (arith, a, b, c), one.1)

pub planned-fold : (limits : Limits) (inputs : List Input) → CallsPlanned (fold limits inputs)
planned-fold limits inputs =
    let s : State = fold limits inputs in
    let going : Going [] s = going-after inputs (empty limits) (going-empty limits) in
    let h : K [] (core s) =
    (carried-fold Both (beside-steps HasNumbers K numbers-steps planned-steps) limits inputs
    (numbers-empty, record { ordered = tt; called = λ run name own. tt })).1 in
    record {
      planned = all-in (λ (r : Run). AllByRecursion (IsCalledOnce s r) r.steps.planned) s.live
          (λ r there. all-in (IsCalledOnce s r) r.steps.planned
          (λ name planned. called-once s going.0.0 h r there name planned));
      items = all-in (λ (i : Item). IfLive s i.run (λ r. is_aimed r i ≡ true)) s.items (λ i there.
          let some = counted-in item_run item_target i s.items there in
          aimed s h i (omega (arith, some)));
      issues = all-in (λ (i : Issue). IfLive s i.item.run (λ r. is_aimed r i.item ≡ true)) s.issues (λ i there.
          let some = counted-in issue_run issue_target i s.issues there in
          aimed s h i.item (omega (arith, some)));
    }

-- No queued item is for a step that its run recorded: no name that is recorded or waits is the target that finds out
-- what comes next, at each change and so in each state that is reached.
use Rattle.std.proofs.Common.{◌≡◌, ℕ, ◌==◌, Bool, true, false, not, cond, List, [], Some, IfSome, is_some, refl, sym, ap, ◌∙◌, subst, bytes_eq}
use Rattle.std.specs.BTreeMap.{is_at}
use Rattle.std.specs.Cmp.Lexicographic.{slice_cmp}
use Rattle.std.specs.List.{AllByRecursion}
use Rattle.std.specs.Ordering.{nat_cmp}
use Rattle.kinds.specs.RunSteps.{RunSteps, has_name, is_pending, is_recorded, pend_step, record_step}
use Rattle.kinds.specs.declared.input.Input.{Input}
use Rattle.kinds.specs.declared.limits.Limits.{Limits}
use Rattle.kinds.specs.declared.store.Item.{Item}
use Rattle.kinds.specs.declared.store.Pending.{Pending}
use Rattle.lists.proofs.Elements.{all-filter, all-last, all-weaker}
use Rattle.lists.proofs.Texts.{bytes_same}
use Rattle.run_model.specs.Machine.{fold}
use Rattle.run_model.specs.Making.{step_target}
use Rattle.run_model.specs.Recording.{changed, record_in, result_for}
use Rattle.run_model.specs.Replies.{want, with_plan}
use Rattle.run_model.specs.Settle.{called}
use Rattle.run_model.specs.Settled.{IsItemNew}
use Rattle.run_model.specs.Sound.{IsUnrecorded}
use Rattle.run_model.specs.State.{State, Run, live_run}
use Rattle.run_model.proofs.FitEvents.{find-last}
use Rattle.run_model.proofs.FitRuns.{all-changed}
use Rattle.run_model.proofs.Kept.{run_from}
use Rattle.run_model.proofs.Members.{all-found, in-all, in-found}
use Rattle.run_model.proofs.Unrecorded.{new-fold}
use Rattle.run_model.proofs.WaitingNames.{found-inserted, under}
use Rattle.soundness.proofs.Carried.{Any, Core, Carries, core, pended}
use Rattle.soundness.proofs.CarriedReplies.{CarriesSteps}
use Rattle.soundness.proofs.CarriedSteps.{carried-fold}
use Rattle.soundness.proofs.PlannedNames.{none-removed}
use Rattle.soundness.proofs.StepNames.{name-apart}

-- what finds out what comes next is neither recorded nor waits
record LacksTarget (t : RunSteps) : Type 0 where
  unrecorded : is_recorded step_target t ≡ false
  unwaited : is_pending step_target t ≡ false

abbrev RunLacks : Run → Type 0
RunLacks r = LacksTarget r.steps

abbrev AllLack : List Item → Core → Type 0
AllLack is c = AllByRecursion RunLacks c.live

-- ## Steps that change

lacks-recorded : (name result : List ℕ) (t : RunSteps) → bytes_eq step_target name ≡ false → LacksTarget t
    → LacksTarget (record_step name result t)
lacks-recorded name result t apart h = record {
  unrecorded = ap is_some (find-last (has_name step_target) t.recorded (record { hash = name; result = result })
      (λ same. let no : bytes_eq step_target name ≡ true = same in cc)) ∙ h.unrecorded;
  unwaited = none-removed (is_at (slice_cmp nat_cmp step_target)) (is_at (slice_cmp nat_cmp name)) t.pending
      h.unwaited;
}

lacks-pended : (name : List ℕ) (kind : Pending) (t : RunSteps) → bytes_eq step_target name ≡ false
    → LacksTarget t → LacksTarget (pend_step name kind t)
lacks-pended name kind t apart h = record {
  unrecorded = h.unrecorded;
  unwaited = ap is_some (found-inserted step_target name kind t.pending
      ∙ ap (λ b. cond b (Some kind) (under step_target t.pending)) apart) ∙ h.unwaited;
}

-- what waits is another name
waits-apart : (name : List ℕ) (t : RunSteps) → LacksTarget t → is_pending name t ≡ true
    → bytes_eq step_target name ≡ false
waits-apart name t h waits = by_test (bytes_eq step_target name) refl
  where
    by_test : (b : Bool) → bytes_eq step_target name ≡ b → b ≡ false
    by_test true e =
        let yes : is_pending step_target t ≡ true =
        subst (λ n. is_pending n t ≡ true) (sym (bytes_same step_target name e)) waits in
        let no : is_pending step_target t ≡ false = h.unwaited in
        absurd (cc)
    by_test false e = refl

-- ## The changes

lack-recorded : (run : ℕ) (name result : List ℕ) (live : List Run) → bytes_eq step_target name ≡ false
    → AllByRecursion RunLacks live → AllByRecursion RunLacks (changed run (record_in name result) live)
lack-recorded run name result live apart h =
    all-changed RunLacks run (record_in name result) live
    (λ q k. lacks-recorded name (result_for result q) q.steps apart k) h

lack-woken : (run : ℕ) (name result : List ℕ) (r : Run) (s : State) → live_run run s ≡ Some r
    → is_pending name r.steps ≡ true → AllByRecursion RunLacks s.live
    → AllByRecursion RunLacks (changed run (record_in name result) s.live)
lack-woken run name result r s live waits h =
    lack-recorded run name result s.live (waits-apart name r.steps
    (in-all RunLacks r s.live (in-found (λ (q : Run). run == q.number) s.live r live) h) waits) h

lack-changes : Carries Any AllLack
lack-changes = record {
  accepts = λ is event s next any h. h;
  makes = λ is f events parent i s there texts own any h.
      all-last RunLacks s.live (run_from f events parent s) h (record { unrecorded = refl; unwaited = refl });
  joins = λ is f r value event s there text any h. h;
  windows_go = λ is number s any h. h;
  finds_out = λ r s there none any h. h;
  wants = λ is number s any h. all-changed RunLacks number want s.live (λ q k. k) h;
  plans = λ i r name s live new own any h. all-changed RunLacks r.number (with_plan name) s.live
      (λ q k. record { unrecorded = k.unrecorded; unwaited = k.unwaited }) h;
  pends = λ i kind r name s live new own any h. all-changed RunLacks r.number (pended kind name) s.live
      (λ q k. lacks-pended name kind q.steps (name-apart name own) k) h;
  results = λ i r name result s live own any h.
      lack-recorded r.number name result s.live (name-apart name own) h;
  wakes = λ is run r name result s live waits any h. lack-woken run name result r s live waits h;
  ends = λ is r status s live any h. all-filter RunLacks (λ (q : Run). not (r.number == q.number)) s.live h;
}

lack-steps : CarriesSteps Any AllLack
lack-steps = record {
  changes = lack-changes;
  closes = λ i s rise there any h. h;
  reopens = λ s any h. h;
  drops = λ i is s done any h. h;
  leaves = λ i no_retry ops s has own over any_before before any h. h;
  queues = λ i j is r s its start live new any h. h;
  issues = λ i s apart there any h. all-changed RunLacks i.run (called i.target) s.live (λ q k. k) h;
  registers = λ app s any h. h;
  tidies = λ s any h. h;
}

-- ## What follows

lacks-fold : (limits : Limits) (inputs : List Input) → AllLack [] (core (fold limits inputs))
lacks-fold limits inputs = carried-fold AllLack lack-steps limits inputs tt

is-unrecorded : (s : State) (i : Item) → AllByRecursion RunLacks s.live → IsItemNew s.live i → IsUnrecorded s i
is-unrecorded s i lack new = by_test (bytes_eq i.target step_target) refl
  where
    by_test : (b : Bool) → bytes_eq i.target step_target ≡ b → IsUnrecorded s i
    by_test true e =
        subst (λ (target : List ℕ). IfSome (live_run i.run s) (λ r. is_recorded target r.steps ≡ false))
        (sym (bytes_same i.target step_target e))
        (all-found (λ (r : Run). is_recorded step_target r.steps ≡ false) (λ (r : Run). i.run == r.number) s.live
        (all-weaker RunLacks (λ (r : Run). is_recorded step_target r.steps ≡ false) s.live
        (λ r k. k.unrecorded) lack))
    by_test false e = new e

pub unrecorded-fold : (limits : Limits) (inputs : List Input)
    → AllByRecursion (IsUnrecorded (fold limits inputs)) (fold limits inputs).items
unrecorded-fold limits inputs =
    let s : State = fold limits inputs in
    all-weaker (IsItemNew s.live) (IsUnrecorded s) s.items (λ i k. is-unrecorded s i (lacks-fold limits inputs) k)
    (new-fold limits inputs)

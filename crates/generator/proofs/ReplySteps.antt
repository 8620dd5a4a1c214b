-- A reply of the generator to the first open call: its run records a step, and is called again, or it ends.
use Rattle.std.proofs.Common.{◌≡◌, ℕ, suc, ◌+◌, ◌^◌, ◌<◌, ◌≤◌, ◌==◌, Bool, true, false, cond, not, ◌&&◌, nat_lt, List, [], ◌∷◌, codes, find, length, length-append, Some, None, IfSome, option_map, refl, sym, ap, subst, ◌∙◌, eq-eqb, eqb-true, arith}
use Rattle.std.specs.Prelude.{decimal}
use Rattle.std.specs.List.{AllByRecursion, list_any}
use Rattle.std.specs.Str.{bytes_eq}
use Rattle.std.proofs.lemmas.Bool.Decides.{nat_tests}
use Rattle.std.proofs.lemmas.Fmt.{length-decimal-le}
use Rattle.kinds.specs.ErrorObject.{error_object}
use Rattle.kinds.specs.RunSteps.{RunSteps, adds, keep_step, no_steps, record_step}
use Rattle.kinds.specs.declared.reply.After.TheVariants as after
use Rattle.kinds.specs.declared.reply.Op.{Op}
use Rattle.kinds.specs.declared.reply.Op.TheVariants.{StepRun}
use Rattle.kinds.specs.declared.store.Item.{Item}
use Rattle.kinds.specs.declared.store.Pending.{Pending}
use Rattle.kinds.specs.declared.store.RunStatus.TheVariants.{Completed}
use Rattle.kinds.specs.declared.store.StepEntry.{StepEntry}
use Rattle.run_model.specs.Ends.{complete_run, end_run, tell_parent}
use Rattle.run_model.specs.Machine.{act}
use Rattle.run_model.specs.Making.{discover, step_target}
use Rattle.run_model.specs.Recording.{at_the_end, data_result, record_in, record_result}
use Rattle.run_model.specs.Replies.{after_found, after_run, begun, close, finished, goes_on, is_outcome_of, lacks_target, moved_nothing, noted, on_reply, reply_found, retry_run, take_found, take_operations, take_ops, take_outcome, take_reply}
use Rattle.run_model.specs.State.{State, Run, Issue, live_run, open_issue}
use Rattle.run_model.proofs.Members.{all-found}
use Rattle.run_model.proofs.SettlingLists.{find-map, found-passes}
use Rattle.generator.specs.Inputs.{end_reply, reply, reply_input, step, step_reply}
use Rattle.generator.specs.Session.{has_results, is_begun}
use Rattle.generator.proofs.Discoveries.{discovered-one, nothing-discovered}
use Rattle.generator.proofs.Outcomes.{end-outcome, step-outcome}
use Rattle.generator.proofs.Standing.{IsIssue, IsRun, Stands, credit, is_call_of, is_run, keeps-number, stands-closed, stands-ended, stands-queued, stands-recorded}
use Rattle.generator.proofs.Sums.{count, count-found, one_if}

-- ## The call and its run

pub first-found : (o : Issue) (is : List Issue) (s : State) → s.issues ≡ o ∷ is → open_issue o.call s ≡ Some o
first-found o is s e =
    ap (find (λ (i : Issue). o.call == i.call)) e
    ∙ ap (λ b. cond b (Some o) (find (λ (i : Issue). o.call == i.call) is)) (eq-eqb o.call o.call refl)

pub run-found : (n e r c : ℕ) (o : Issue) (is : List Issue) (s : State) → s.issues ≡ o ∷ is → Stands n e r c None s
    → (x : Run) × (live_run o.item.run s ≡ Some x)
run-found n e r c o is s first h =
    let before = h.balance o.item.run in
    let calls : count (is_call_of o.item.run) s.issues
    ≡ one_if (o.item.run == o.item.run) + count (is_call_of o.item.run) is =
    ap (count (is_call_of o.item.run)) first in
    let own : one_if (o.item.run == o.item.run) ≡ 1 = ap one_if (eq-eqb o.item.run o.item.run refl) in
    count-found (is_run o.item.run) s.live (omega (arith, before, calls, own))

-- ## The run ends

complete-plain : (x : Run) (output : List ℕ) (s : State) → x.parent ≡ None
    → complete_run x output s ≡ end_run x Completed s
complete-plain x output s e =
    ap (λ p. tell_parent at_the_end p (data_result output) (end_run x Completed s)) e

end-acts : (x : Run) (i : Item) (s : State) → x.parent ≡ None
    → reply_found (Some x) i end_reply s ≡ discover (end_run x Completed s)
end-acts x i s e =
    ap (λ o. discover (take_outcome x i o s)) end-outcome
    ∙ ap discover (complete-plain x (codes "null") s e)

-- ## The run records a step

abbrev steps : List StepEntry → List (List ℕ) → List (List ℕ × Pending) → RunSteps
steps a b c = record { recorded = a; planned = b; pending = c }

keep-new : (name result : List ℕ) (t : RunSteps) → t.recorded ≡ [] → t.planned ≡ [] → t.pending ≡ []
    → keep_step name result t ≡ adds (record_step name result t)
keep-new name result t a b c =
    let whole : t ≡ no_steps =
    ap (λ z. steps z t.planned t.pending) a ∙ ap (λ z. steps [] z t.pending) b ∙ ap (λ z. steps [] [] z) c in
    subst (λ u. keep_step name result u ≡ adds (record_step name result u)) (sym whole) refl

wanted-not-idle : (a b c : Bool) → (a && b && c && false) ≡ false
wanted-not-idle true true true = refl
wanted-not-idle true true false = refl
wanted-not-idle true false c = refl
wanted-not-idle false b c = refl

abbrev told : List ℕ → List Op
told value = StepRun step value ∷ []

module _ (x : Run) (i : Item) (value : List ℕ) (s : State) (found : live_run i.run s ≡ Some x)
    (new : x.steps.recorded ≡ []) (own : IsRun x) (aim : i.target ≡ step_target) where
  recorded : State
  recorded = record_result x.number step (data_result value) s

  taken : take_operations i false (told value) (begun s) ≡ goes_on (begun s) recorded
  unfolding take_operations recorded
  taken =
      ap (λ f. take_found i false (StepRun step value) f (begun s)) found
      ∙ ap (λ k. noted k x (record_result x.number step (data_result value)) (begun s))
      (keep-new step (data_result value) x.steps new own.planned own.pending)

  still-found : live_run i.run recorded ≡ Some (record_in step (data_result value) x)
  unfolding recorded
  still-found =
      let f : Run → Run = record_in step (data_result value) in
      let passes : is_run i.run x ≡ true = found-passes (is_run i.run) s.live x found in
      let same : x.number ≡ i.run = sym (eqb-true i.run x.number passes) in
      find-map (is_run i.run) (λ y. cond (is_run x.number y) (f y) y) s.live
      (λ y. ap (λ m. i.run == m) (keeps-number x.number f (λ z. refl) y))
      ∙ ap (option_map (λ y. cond (is_run x.number y) (f y) y)) found
      ∙ ap (λ b. Some (cond b (f x) x)) (eq-eqb x.number x.number refl)

  not-idle : after_run (record_in step (data_result value) x) i after.None recorded ≡ recorded
  not-idle =
      let y : Run = record_in step (data_result value) x in
      ap (λ b. elim b as (λ _. State)
      [ true ↦ retry_run y i after.None moved_nothing recorded | false ↦ recorded ])
      (wanted-not-idle (not (list_any (λ (j : Item). y.number == j.run) recorded.items))
      (not (list_any (λ (j : Issue). y.number == j.item.run) recorded.issues)) (length y.steps.pending == 0))

  has-target : lacks_target i (told value) ≡ false
  has-target = ap (λ t. not (bytes_eq t step_target) && not (list_any (is_outcome_of t) (told value))) aim

  ops-taken : take_ops x i (told value) false after.None s ≡ recorded
  ops-taken =
      ap (λ b. elim b as (λ _. State) [
        | true ↦ retry_run x i after.None (error_object (codes "target missing")) s
        | false ↦ finished i after.None (take_operations i false (told value) (begun s))
      ]) has-target
      ∙ ap (finished i after.None) taken
      ∙ ap (λ f. after_found f i after.None recorded) still-found
      ∙ not-idle

step-acts : (x : Run) (i : Item) (k : ℕ) (s : State) → live_run i.run s ≡ Some x → x.steps.recorded ≡ [] → IsRun x
    → i.target ≡ step_target → 0 < k → k < 2 ^ 64
    → reply_found (Some x) i (step_reply k) s ≡ discover (record_result x.number step (data_result (decimal k)) s)
unfolding recorded
step-acts x i k s found new own aim some most =
    ap (λ o. discover (take_outcome x i o s)) (step-outcome k some most)
    ∙ ap discover (ops-taken x i (decimal k) s found new own aim)

-- ## A reply

reply-acts : (at k : ℕ) (o : Issue) (is : List Issue) (b : Bool) (x : Run) (s : State) → s.issues ≡ o ∷ is
    → live_run o.item.run s ≡ Some x
    → (act (reply_input at o.call b k) s).state ≡ reply_found (Some x) o.item (reply b k) (close o.call s)
unfolding act on_reply
reply-acts at k o is b x s first found =
    ap (λ f. take_reply f (reply b k) s) (first-found o is s first)
    ∙ ap (λ f. reply_found f o.item (reply b k) (close o.call s)) found

-- what is there of each is there of what is found
own-found : {X : Type 0} (P : X → Type 0) (p : X → Bool) (xs : List X) (x : X) → AllByRecursion P xs
    → find p xs ≡ Some x → P x
own-found P p xs x h found = subst (λ o. IfSome o P) found (all-found P p xs h)

result-short : (k : ℕ) → k ≤ 100000 → length (data_result (decimal k)) ≤ 90
result-short k h =
    let d = length-decimal-le 6 k (omega arith) (omega arith) (omega arith) in
    simp length-append (omega (arith, d))

none-recorded : (es : List StepEntry) → nat_lt 0 (length es) ≡ false → es ≡ []
none-recorded [] h = refl
none-recorded (e ∷ es) h = absurd (let no : nat_lt 0 (suc (length es)) ≡ true = grind (arith, nat_tests) in cc)

module _ (n e r c at k : ℕ) (o : Issue) (is : List Issue) (x : Run) (s : State) (first : s.issues ≡ o ∷ is)
    (found : live_run o.item.run s ≡ Some x) (h : Stands n e r (c + 1) None s) where
  abbrev closed : State
  closed = close o.call s

  same-run : o.item.run ≡ x.number
  same-run = eqb-true o.item.run x.number (found-passes (is_run o.item.run) s.live x found)

  own : IsRun x
  own = own-found IsRun (is_run o.item.run) s.live x h.each_run found

  found-own : live_run x.number closed ≡ Some x
  found-own = subst (λ m. live_run m s ≡ Some x) same-run found

  now-aside : Stands n e (r + 1) (c + 1) (Some x.number) closed
  now-aside =
      subst (λ m. Stands n e (r + 1) (c + 1) (Some m) closed) same-run
      (stands-closed n e r (c + 1) o s (first-found o is s first) h)

  ends : nat_lt 0 (length x.steps.recorded) ≡ true
      → Stands n e (r + 1) c None (act (reply_input at o.call true k) s).state
  ends begun_now =
      let one_left : credit x ≡ 1 = ap (λ b. cond b 1 2) begun_now in
      let after_end = stands-ended n e (r + 1) c x Completed closed found-own one_left now-aside in
      subst (λ z. Stands n e (r + 1) c None z)
      (sym (reply-acts at k o is true x s first found ∙ end-acts x o.item closed own.parent
      ∙ nothing-discovered n e (r + 1) c (end_run x Completed closed) after_end)) after_end

  records : nat_lt 0 (length x.steps.recorded) ≡ false → 0 < k → k ≤ 100000
      → Stands n e (r + 1) c None (act (reply_input at o.call false k) s).state
  records fresh some few =
      let new : x.steps.recorded ≡ [] = none-recorded x.steps.recorded fresh in
      let result : List ℕ = data_result (decimal k) in
      let y : Run = record_in step result x in
      let aim : o.item.target ≡ step_target =
      (subst (AllByRecursion IsIssue) first h.each_issue).0.target in
      let short = result-short k few in
      let noted = stands-recorded n e (r + 1) c x step result closed found-own new short own now-aside in
      let s2 : State = record_result x.number step result closed in
      let found_now : live_run x.number s2 ≡ Some y =
      find-map (is_run x.number) (λ z. cond (is_run x.number z) (record_in step result z) z) closed.live
      (λ z. ap (λ m. x.number == m) (keeps-number x.number (record_in step result) (λ w. refl) z))
      ∙ ap (option_map (λ z. cond (is_run x.number z) (record_in step result z) z)) found-own
      ∙ ap (λ b. Some (cond b y x)) (eq-eqb x.number x.number refl) in
      let own_now : IsRun y = own-found IsRun (is_run x.number) s2.live y noted.each_run found_now in
      subst (λ z. Stands n e (r + 1) c None z)
      (sym (reply-acts at k o is false x s first found
      ∙ step-acts x o.item k closed found new own aim some (omega (arith, few))
      ∙ discovered-one n e (r + 1) c y s2 found_now refl noted))
      (stands-queued n e (r + 1) c y s2 own_now noted)

  replied : (b : Bool) → nat_lt 0 (length x.steps.recorded) ≡ b → 0 < k → k ≤ 100000
      → Stands n e (r + 1) c None (act (reply_input at o.call b k) s).state
  replied true e some few = ends e
  replied false e some few = records e some few

pub reply-acts-so : (n e r c at k : ℕ) (o : Issue) (is : List Issue) (s : State) → s.issues ≡ o ∷ is → 0 < k
    → k ≤ 100000 → Stands n e r (c + 1) None s
    → Stands n e (r + 1) c None (act (reply_input at o.call (has_results s o) k) s).state
reply-acts-so n e r c at k o is s first some few h =
    let run = run-found n e r (c + 1) o is s first h in
    let told : has_results s o ≡ nat_lt 0 (length run.0.steps.recorded) = ap is_begun run.1 in
    replied n e r c at k o is run.0 s first run.1 h (has_results s o) (sym told) some few

-- After the operations of a reply that tell of the step that was called, it is recorded, or the call is to be made again,
-- or its run has ended.
use Rattle.std.proofs.Common.{◌≡◌, ℕ, ◌⊎◌, inl, inr, ◌≤◌, ◌==◌, Bool, true, false, not, ◌||◌, cond, List, [], ◌∷◌, ◌++◌, filter, find, codes, Option, Some, None, IfSome, is_some, option_map, refl, sym, ap, ◌∙◌, subst, arith, eq-eqb, eqb-true}
use Rattle.kinds.specs.ErrorObject.{error_object}
use Rattle.kinds.specs.RunSteps.{Noting, adds, known, full, has_name, is_pending, is_planned, is_recorded, keep_step, note_pending, note_plan, record_step, with_room}
use Rattle.kinds.specs.declared.reply.Op.{Op}
use Rattle.kinds.specs.declared.reply.Op.TheVariants as op
use Rattle.kinds.specs.declared.store.Item.{Item}
use Rattle.kinds.specs.declared.store.Pending.TheVariants as pending
use Rattle.kinds.specs.declared.store.RunStatus.{RunStatus}
use Rattle.kinds.specs.declared.store.RunStatus.TheVariants.{Failed}
use Rattle.lists.proofs.Texts.{bytes_same, bytes_self}
use Rattle.run_model.specs.Ends.{end_run, fail_run}
use Rattle.run_model.specs.Laws.{Follows}
use Rattle.run_model.specs.Recording.{changed, data_result, error_result, record_in, record_result, result_for}
use Rattle.run_model.specs.Replies.{Taking, is_final, is_outcome_of, keep, noted, on_error, take_found, take_named, take_operation, take_operations}
use Rattle.run_model.specs.State.{State, Run, live_run}
use Rattle.run_model.proofs.Awaiting.{found-some}
use Rattle.run_model.proofs.FitEvents.{found-left}
use Rattle.run_model.proofs.KeptEvents.{ended-fail_run}
use Rattle.run_model.proofs.KeptReplies.{kept-take_operation}
use Rattle.run_model.proofs.KeptRuns.{Grows, Holds, Stays, keeps-runs}
use Rattle.run_model.proofs.Unrecorded.{change, found-changed}
use Rattle.soundness.proofs.CarriedReplies.{ended-done, found-done}
use Rattle.soundness.proofs.PlannedCalls.{found-more, of-mapped}

-- where it is planned it is not recorded and doesn't wait, and else it is recorded
abbrev pub IsPlannedOr : List ℕ → Run → Type 0
IsPlannedOr name r = (is_recorded name r.steps ≡ true)
    ⊎ ((is_planned name r.steps ≡ true) × ((is_recorded name r.steps ≡ false) × (is_pending name r.steps ≡ false)))

found-front : {X : Type 0} (p : X → Bool) (xs ys : List X) → is_some (find p xs) ≡ true
    → is_some (find p (xs ++ ys)) ≡ true
found-front p [] ys h = absurd (cc)
found-front p (x ∷ xs) ys h =
    (elim (p x) as (λ b. is_some (cond b (Some x) (find p xs)) ≡ true
    → is_some (cond b (Some x) (find p (xs ++ ys))) ≡ true)
    [ true ↦ λ k. refl | false ↦ λ k. found-front p xs ys k ]) h

module _ (i : Item) (no_retry : Bool) where
  -- ## The step is recorded, or the run has ended

  abbrev Recorded : Run → Type 0
  Recorded r = is_recorded i.target r.steps ≡ true

  abbrev pub Over : ℕ → List Run → Type 0
  Over count rs = (i.run ≤ count) × IfSome (find (λ (r : Run). i.run == r.number) rs) Recorded

  over-changed : (count number : ℕ) (f : Run → Run) (rs : List Run) → Grows f → Over count rs
      → Over count (changed number f rs)
  over-changed count number f rs grows h = (
    h.0,
    subst (λ o. IfSome o Recorded) (sym (found-changed i.run number f rs (λ r. (grows r).0)))
        (of-mapped Recorded Recorded (change number f) (find (λ (r : Run). i.run == r.number) rs)
        (λ r there k. elim (number == r.number) as (λ b. Recorded (cond b (f r) r)) [ true ↦ still r k | false ↦ k ]) h.1),
  )
    where
      still : (r : Run) → Recorded r → Recorded (f r)
      still r k =
          let more : Follows r.steps.recorded (f r).steps.recorded = (grows r).1 in
          subst (λ es. is_some (find (has_name i.target) es) ≡ true) (sym more.1)
          (found-front (has_name i.target) r.steps.recorded more.0 k)

  over-ended : (count number : ℕ) (rs : List Run) → Over count rs
      → Over count (filter (λ (r : Run). not (number == r.number)) rs)
  over-ended count number rs h = (
    h.0,
    found-left Recorded (λ (r : Run). i.run == r.number) (λ (r : Run). not (number == r.number))
        (not (number == i.run)) rs
        (λ r same. ap (λ n. not (number == n)) (sym (eqb-true i.run r.number same))) h.1,
  )

  over-stays : Stays Over
  over-stays = record {
    changes = over-changed;
    adds = λ count r rs next h. (
      omega (arith, h.0),
      found-more Recorded (λ (q : Run). i.run == q.number) rs r
          (λ own. let low = h.0 in let same = eqb-true i.run r.number own in
          absurd (omega (arith, low, next, same))) h.1,
    );
    ends = over-ended;
  }

  over-operation : (o : Op) (t : Taking) → Holds Over t.state → Holds Over (take_operation i no_retry o t).state
  over-operation o t h = kept-take_operation (Holds Over) (keeps-runs Over over-stays) i no_retry o t h

  -- ## What an operation does

  -- it is noted, or it is an error that isn't final
  by-named : (Q : Taking → Type 0) (r : Run) (o : Op) (t : Taking)
      → ((n : Noting) (effect : State → State) → Q (noted n r effect t))
      → ((name error : List ℕ) → Q (on_error false r name error t)) → Q (take_named i no_retry r o t)
  by-named Q r (op.StepRun name value) t notes fails = notes (keep_step name (data_result value) r.steps) _
  by-named Q r (op.StepError name error) t notes fails = by_final (is_final i no_retry r t.state)
    where
      by_final : (b : Bool) → Q (on_error b r name error t)
      by_final true = notes (keep_step name (error_result error) r.steps) _
      by_final false = fails name error
  by-named Q r (op.StepPlanned name) t notes fails = notes (note_plan name r.steps) _
  by-named Q r (op.Sleep name due) t notes fails = notes (note_pending name pending.Sleep r.steps) _
  by-named Q r (op.WaitForEvent name event due given) t notes fails =
      notes (note_pending name pending.Wait r.steps) _
  by-named Q r (op.InvokeFunction name id payload due) t notes fails =
      notes (note_pending name pending.Invocation r.steps) _

  -- ## The call is made again

  again-noted : (n : Noting) (r : Run) (effect : State → State) (t : Taking) → t.again ≡ true
      → (noted n r effect t).again ≡ true
  again-noted (adds steps) r effect t h = h
  again-noted known r effect t h = h
  again-noted full r effect t h = h

  again-named : (r : Run) (o : Op) (t : Taking) → t.again ≡ true → (take_named i no_retry r o t).again ≡ true
  again-named r o t h =
      by-named (λ u. u.again ≡ true) r o t (λ n effect. again-noted n r effect t h) (λ name error. rw h refl)

  again-found : (o : Op) (found : Option Run) (t : Taking) → t.again ≡ true
      → (take_found i no_retry o found t).again ≡ true
  again-found o None t h = h
  again-found o (Some r) t h = again-named r o t h

  again-operation : (o : Op) (t : Taking) → t.again ≡ true → (take_operation i no_retry o t).again ≡ true
  again-operation o t h =
      elim t.stopped as (λ b. (elim b as (λ _. Taking)
      [ true ↦ t | false ↦ take_found i no_retry o (live_run i.run t.state) t ]).again ≡ true)
      [ true ↦ h | false ↦ again-found o (live_run i.run t.state) t h ]

  -- ## Either

  abbrev pub Settles : Taking → Type 0
  Settles t = (t.again ≡ true) ⊎ Over t.state.runs t.state.live

  settles-operation : (o : Op) (t : Taking) → Settles t → Settles (take_operation i no_retry o t)
  settles-operation o t (inl h) = inl (again-operation o t h)
  settles-operation o t (inr h) = inr (over-operation o t h)

  pub settles-operations : (os : List Op) (t : Taking) → Settles t → Settles (take_operations i no_retry os t)
  unfolding take_operations
  settles-operations [] t h = h
  settles-operations (o ∷ os) t h =
      settles-operations os (take_operation i no_retry o t) (settles-operation o t h)

  -- ## A run that failed has ended

  abbrev pub Halts : Taking → Type 0
  Halts t = t.stopped ≡ true → Over t.state.runs t.state.live

  over-gone : (r : Run) (status : RunStatus) (s : State) → live_run i.run s ≡ Some r → i.run ≤ s.runs
      → Over s.runs (end_run r status s).live
  over-gone r status s live low = (low, ended-done i r status s live)

  over-failed : (r : Run) (error : List ℕ) (s : State) → live_run i.run s ≡ Some r → i.run ≤ s.runs
      → Holds Over (fail_run r error s)
  over-failed r error s live low =
      ended-fail_run (Holds Over) (keeps-runs Over over-stays) r error s (record {
        ends = λ untold. over-gone r Failed s live low;
        tells = λ p q result parent there waits.
            over-changed s.runs p.run (record_in p.hash result) (end_run r Failed s).live (λ x. (refl, (_, refl)))
            (over-gone r Failed s live low);
      })

  halts-noted : (n : Noting) (r : Run) (effect : State → State) (t : Taking) → t.stopped ≡ false
      → live_run i.run t.state ≡ Some r → i.run ≤ t.state.runs → Halts (noted n r effect t)
  halts-noted (adds steps) r effect t goes live low halted = absurd (cc)
  halts-noted known r effect t goes live low halted = absurd (cc)
  halts-noted full r effect t goes live low halted =
      over-failed r (error_object (codes "too many steps")) t.state live low

  halts-named : (r : Run) (o : Op) (t : Taking) → t.stopped ≡ false → live_run i.run t.state ≡ Some r
      → i.run ≤ t.state.runs → Halts (take_named i no_retry r o t)
  halts-named r o t goes live low =
      by-named Halts r o t (λ n effect. halts-noted n r effect t goes live low) (λ name error halted. absurd (cc))

  halts-found : (o : Op) (found : Option Run) (t : Taking) → t.stopped ≡ false → live_run i.run t.state ≡ found
      → i.run ≤ t.state.runs → Halts (take_found i no_retry o found t)
  halts-found o None t goes live low = λ halted. absurd (cc)
  halts-found o (Some r) t goes live low = halts-named r o t goes live low

  pub halts-operation : (o : Op) (t : Taking) → i.run ≤ t.state.runs → Halts t
      → Halts (take_operation i no_retry o t)
  halts-operation o t low h =
      (elim t.stopped as (λ b. t.stopped ≡ b → Halts (elim b as (λ _. Taking)
      [ true ↦ t | false ↦ take_found i no_retry o (live_run i.run t.state) t ])) [
        | true ↦ λ e. h
        | false ↦ λ e. halts-found o (live_run i.run t.state) t e refl low
      ]) refl

  -- ## An operation that tells of the step

  over-now : (r : Run) (t : Taking) → live_run i.run t.state ≡ Some r → i.run ≤ t.state.runs → Recorded r
      → Over t.state.runs t.state.live
  over-now r t live low done = (low, found-done i (Some r) t.state live done)

  over-recorded : (r : Run) (result : List ℕ) (s : State) → live_run i.run s ≡ Some r → i.run ≤ s.runs
      → Holds Over (record_result r.number i.target result s)
  over-recorded r result s live low = (
    low,
    subst (λ o. IfSome o Recorded)
        (sym (found-changed i.run r.number (record_in i.target result) s.live (λ q. refl)
        ∙ ap (option_map (change r.number (record_in i.target result))) live))
        (subst (λ b. Recorded (cond b (record_in i.target result r) r)) (sym (eq-eqb r.number r.number refl))
        (found-some (has_name i.target) r.steps.recorded
        (record { hash = i.target; result = result_for result r }) (bytes_self i.target))),
  )

  over-kept : (r : Run) (result : List ℕ) (t : Taking) → live_run i.run t.state ≡ Some r → i.run ≤ t.state.runs
      → IsPlannedOr i.target r → Holds Over (keep r i.target result t).state
  over-kept r result t live low (inl done) =
      by_test (is_recorded i.target r.steps) (is_pending i.target r.steps) (is_planned i.target r.steps) refl
    where
      by_test : (q w p : Bool) → is_recorded i.target r.steps ≡ q
          → Holds Over (noted (cond (q || w) known (cond p (adds (record_step i.target result r.steps))
          (with_room (record_step i.target result r.steps) r.steps))) r (record_result r.number i.target result)
          t).state
      by_test true w p e = over-now r t live low done
      by_test false w p e = absurd (cc)
  over-kept r result t live low (inr k) =
      by_test (is_recorded i.target r.steps) (is_pending i.target r.steps) (is_planned i.target r.steps) refl refl
      refl
    where
      by_test : (q w p : Bool) → is_recorded i.target r.steps ≡ q → is_pending i.target r.steps ≡ w
          → is_planned i.target r.steps ≡ p
          → Holds Over (noted (cond (q || w) known (cond p (adds (record_step i.target result r.steps))
          (with_room (record_step i.target result r.steps) r.steps))) r (record_result r.number i.target result)
          t).state
      by_test true w p eq ew ep = let no = k.1.0 in absurd (cc)
      by_test false true p eq ew ep = let no = k.1.1 in absurd (cc)
      by_test false false true eq ew ep = over-recorded r result t.state live low
      by_test false false false eq ew ep = let no = k.0 in absurd (cc)

  settles-error : (b : Bool) (r : Run) (error : List ℕ) (t : Taking) → live_run i.run t.state ≡ Some r
      → i.run ≤ t.state.runs → IsPlannedOr i.target r → Settles (on_error b r i.target error t)
  settles-error true r error t live low k = inr (over-kept r (error_result error) t live low k)
  settles-error false r error t live low (inl done) = inr (over-now r t live low done)
  settles-error false r error t live low (inr k) =
      inl (by_tests t.again (is_recorded i.target r.steps) (is_pending i.target r.steps) k.1.0 k.1.1)
    where
      by_tests : (a q w : Bool) → q ≡ false → w ≡ false → (a || not (q || w)) ≡ true
      by_tests true q w eq ew = refl
      by_tests false true w eq ew = absurd (cc)
      by_tests false false true eq ew = absurd (cc)
      by_tests false false false eq ew = refl

  settles-named : (r : Run) (o : Op) (t : Taking) → is_outcome_of i.target o ≡ true
      → live_run i.run t.state ≡ Some r → i.run ≤ t.state.runs → IsPlannedOr i.target r
      → Settles (take_named i no_retry r o t)
  settles-named r (op.StepRun name value) t own live low k =
      inr (subst (λ n. Holds Over (keep r n (data_result value) t).state) (bytes_same i.target name own)
      (over-kept r (data_result value) t live low k))
  settles-named r (op.StepError name error) t own live low k =
      subst (λ n. Settles (on_error (is_final i no_retry r t.state) r n error t)) (bytes_same i.target name own)
      (settles-error (is_final i no_retry r t.state) r error t live low k)
  settles-named r (op.StepPlanned name) t own live low k = absurd (cc)
  settles-named r (op.Sleep name due) t own live low k = absurd (cc)
  settles-named r (op.WaitForEvent name event due given) t own live low k = absurd (cc)
  settles-named r (op.InvokeFunction name id payload due) t own live low k = absurd (cc)

  settles-found : (o : Op) (found : Option Run) (t : Taking) → is_outcome_of i.target o ≡ true
      → live_run i.run t.state ≡ found → i.run ≤ t.state.runs → IfSome found (IsPlannedOr i.target)
      → Settles (take_found i no_retry o found t)
  settles-found o None t own live low k = inr (low, found-done i None t.state live tt)
  settles-found o (Some r) t own live low k = settles-named r o t own live low k

  pub settles-told : (o : Op) (t : Taking) → is_outcome_of i.target o ≡ true → i.run ≤ t.state.runs
      → IfSome (live_run i.run t.state) (IsPlannedOr i.target) → Halts t
      → Settles (take_operation i no_retry o t)
  settles-told o t own low k halts =
      (elim t.stopped as (λ b. t.stopped ≡ b → Settles (elim b as (λ _. Taking)
      [ true ↦ t | false ↦ take_found i no_retry o (live_run i.run t.state) t ])) [
        | true ↦ λ e. inr (halts e)
        | false ↦ λ e. settles-found o (live_run i.run t.state) t own refl low k
      ]) refl

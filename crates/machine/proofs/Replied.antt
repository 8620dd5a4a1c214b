-- What a reply and a failed call do, by what is asked of the state.
use Rattle.std.proofs.Common.{◌≡◌, ℕ, ◌==◌, Bool, true, false, not, cond, ◌&&◌, ◌||◌, List, [], ◌∷◌, find, length, codes, Option, Some, None, nat_le, nat_lt, arith, refl, sym, ap, ◌∙◌, subst, eqb-true}
use Rattle.std.specs.Prelude.{is_some}
use Rattle.std.specs.List.{list_any}
use Rattle.std.proofs.lemmas.Bool.Decides.{nat_tests}
use Rattle.admission.specs.Issues.{has_call}
use Rattle.kinds.specs.ErrorObject.{error_object}
use Rattle.kinds.specs.RunSteps.{Noting, adds, known, full, is_recorded}
use Rattle.kinds.specs.declared.reply.After.{After}
use Rattle.kinds.specs.declared.reply.After.TheVariants as after
use Rattle.kinds.specs.declared.reply.Op.{Op}
use Rattle.kinds.specs.declared.reply.Op.TheVariants as op
use Rattle.kinds.specs.declared.reply.Outcome.TheVariants as outcome
use Rattle.kinds.specs.declared.reply.ReplyIn.{ReplyIn}
use Rattle.kinds.specs.declared.store.Item.{Item}
use Rattle.lists.proofs.Keyed.{filter_none}
use Rattle.sdk_reply.specs.Outcome.{outcome_of}
use Rattle.run_model.specs.Fit.{HasOwnNumbers, IsAside, IsFit}
use Rattle.run_model.specs.Making.{discover, queue}
use Rattle.run_model.specs.Recording.{change_run}
use Rattle.run_model.specs.Replies.{Taking, after_found, again, begun, close, fail_found, finished, lacks_target, moved_nothing, noted, on_call_failed, on_error, on_reply, reply_found, retries_of, retry, retry_found, retry_run, take_found, take_named, take_operation, take_operations, take_reply, want}
use Rattle.run_model.specs.State.{State, Run, Issue, live_run, open_issue}
use Rattle.run_model.proofs.Apart.{aside-closed}
use Rattle.run_model.proofs.FitSteps.{keeps-fit}
use Rattle.run_model.proofs.Kept.{own-number}
use Rattle.run_model.proofs.KeptReplies.{kept-take_operation}
use Rattle.run_model.proofs.SettlingLists.{found-passes}
use Rattle.machine.specs.Operations.{taken_by, taken_of}
use Rattle.machine.specs.Replies.{idle_at, is_called, is_resting, next_by, next_of, ops_at, outcome_at}
use Rattle.machine.specs.Words.{complete_at, fail_at, item_in}
use Rattle.machine.specs.declared.operations.Taken.TheVariants.{GoesOn, Again, Stops}
use Rattle.machine.specs.declared.replies.Next.{Next}
use Rattle.machine.specs.declared.replies.Next.TheVariants as next
use Rattle.machine.proofs.Gone.{gone-failed}

-- ## A call that fails

abbrev pub state_by : Next → Option Run → Item → After → List ℕ → State → State
state_by next.Nothing found i a error s = s
state_by next.Want found i a error s = change_run i.run want s
state_by next.Again found i a error s = queue (again i a s) s
state_by next.Fail found i a error s = fail_at found error s

retried-run : (r : Run) (i : Item) (a : After) (error : List ℕ) (s : State) (b c : Bool)
    → is_recorded i.target r.steps ≡ b → nat_lt i.attempt (retries_of r s) ≡ c → i.run ≡ r.number
    → retry_run r i a error s ≡ state_by (next_by b c) (Some r) i a error s
retried-run r i a error s true c e k same =
    ap (λ b. elim b as (λ _. State) [
      | true ↦ change_run r.number want s
      | false ↦ elim (nat_lt i.attempt (retries_of r s)) as (λ _. State)
          [ true ↦ queue (again i a s) s | false ↦ fail_at (Some r) error s ]
    ]) e ∙ ap (λ n. change_run n want s) (sym same)
retried-run r i a error s false true e k same =
    ap (λ b. elim b as (λ _. State) [
      | true ↦ change_run r.number want s
      | false ↦ elim (nat_lt i.attempt (retries_of r s)) as (λ _. State)
          [ true ↦ queue (again i a s) s | false ↦ fail_at (Some r) error s ]
    ]) e ∙ ap (λ b. elim b as (λ _. State) [ true ↦ queue (again i a s) s | false ↦ fail_at (Some r) error s ]) k
retried-run r i a error s false false e k same =
    ap (λ b. elim b as (λ _. State) [
      | true ↦ change_run r.number want s
      | false ↦ elim (nat_lt i.attempt (retries_of r s)) as (λ _. State)
          [ true ↦ queue (again i a s) s | false ↦ fail_at (Some r) error s ]
    ]) e ∙ ap (λ b. elim b as (λ _. State) [ true ↦ queue (again i a s) s | false ↦ fail_at (Some r) error s ]) k

retried-found : (found : Option Run) (i : Item) (a : After) (error : List ℕ) (s : State) → live_run i.run s ≡ found
    → retry_found found i a error s ≡ state_by (next_of found i s) found i a error s
retried-found None i a error s e = refl
retried-found (Some r) i a error s e =
    retried-run r i a error s (is_recorded i.target r.steps) (nat_lt i.attempt (retries_of r s)) refl refl
    (eqb-true i.run r.number (found-passes (λ (q : Run). i.run == q.number) s.live r e))

pub retried : (i : Item) (a : After) (error : List ℕ) (s : State) (n : Next) → n ≡ next_of (live_run i.run s) i s
    → retry i a error s ≡ state_by n (live_run i.run s) i a error s
retried i a error s n is =
    retried-found (live_run i.run s) i a error s refl
    ∙ ap (λ k. state_by k (live_run i.run s) i a error s) (sym is)

-- ## Operations of a run that has ended

stays-by : (i : Item) (no_retry : Bool) (o : Op) (found : Option Run) (t : Taking) → found ≡ None
    → (b : Bool)
    → elim b as (λ _. Taking) [ true ↦ t | false ↦ take_found i no_retry o found t ] ≡ t
stays-by i no_retry o found t none true = refl
stays-by i no_retry o found t none false = ap (λ f. take_found i no_retry o f t) none

none-taken : (i : Item) (no_retry : Bool) (os : List Op) (t : Taking) → live_run i.run t.state ≡ None
    → take_operations i no_retry os t ≡ t
unfolding take_operations
none-taken i no_retry [] t none = refl
none-taken i no_retry (o ∷ os) t none =
    ap (take_operations i no_retry os) (stays-by i no_retry o (live_run i.run t.state) t none t.stopped)
    ∙ none-taken i no_retry os t none

-- ## A run that fails in the midst of operations

-- where nothing further is taken, the run has ended
abbrev HasEnded : ℕ → Taking → Type 0
HasEnded run t = t.stopped ≡ true → live_run run t.state ≡ None

ended-noted : (noting : Noting) (r : Run) (effect : State → State) (run : ℕ) (t : Taking) → run ≡ r.number
    → live_run r.number t.state ≡ Some r → IsFit t.state → t.stopped ≡ false → HasEnded run (noted noting r effect t)
ended-noted (adds steps) r effect run t at live h going = λ stopped. let clash : true ≡ false = sym stopped ∙ going in cc
ended-noted known r effect run t at live h going = λ stopped. let clash : true ≡ false = sym stopped ∙ going in cc
ended-noted full r effect run t at live h going = λ stopped.
    subst (λ n. live_run n (noted full r effect t).state ≡ None) (sym at)
    (gone-failed r (error_object (codes "too many steps")) t.state live h)

ended-error : (final : Bool) (r : Run) (name error : List ℕ) (run : ℕ) (t : Taking) → run ≡ r.number
    → live_run r.number t.state ≡ Some r → IsFit t.state → t.stopped ≡ false
    → HasEnded run (on_error final r name error t)
ended-error true r name error run t at live h going = ended-noted _ r _ run t at live h going
ended-error false r name error run t at live h going =
    λ stopped. let clash : true ≡ false = sym stopped ∙ going in cc

ended-named : (i : Item) (no_retry : Bool) (r : Run) (o : Op) (t : Taking) → i.run ≡ r.number
    → live_run r.number t.state ≡ Some r → IsFit t.state → t.stopped ≡ false
    → HasEnded i.run (take_named i no_retry r o t)
ended-named i no_retry r (op.StepRun name value) t at live h going = ended-noted _ r _ i.run t at live h going
ended-named i no_retry r (op.StepError name error) t at live h going =
    ended-error _ r name error i.run t at live h going
ended-named i no_retry r (op.StepPlanned name) t at live h going = ended-noted _ r _ i.run t at live h going
ended-named i no_retry r (op.Sleep name due) t at live h going = ended-noted _ r _ i.run t at live h going
ended-named i no_retry r (op.WaitForEvent name event due cond) t at live h going =
    ended-noted _ r _ i.run t at live h going
ended-named i no_retry r (op.InvokeFunction name id payload due) t at live h going =
    ended-noted _ r _ i.run t at live h going

ended-found : (i : Item) (no_retry : Bool) (o : Op) (found : Option Run) (t : Taking)
    → live_run i.run t.state ≡ found → IsFit t.state → t.stopped ≡ false
    → HasEnded i.run (take_found i no_retry o found t)
ended-found i no_retry o None t e h going = λ stopped. e
ended-found i no_retry o (Some r) t e h going =
    ended-named i no_retry r o t
    (eqb-true i.run r.number (found-passes (λ (q : Run). i.run == q.number) t.state.live r e))
    (own-number i.run r t.state e) h going

ended-by : (i : Item) (no_retry : Bool) (o : Op) (t : Taking) → HasEnded i.run t → IsFit t.state → (b : Bool)
    → t.stopped ≡ b → HasEnded i.run (elim b as (λ _. Taking)
    [ true ↦ t | false ↦ take_found i no_retry o (live_run i.run t.state) t ])
ended-by i no_retry o t ended h true e = ended
ended-by i no_retry o t ended h false e = ended-found i no_retry o (live_run i.run t.state) t refl h e

ended-operations : (i : Item) (no_retry : Bool) (os : List Op) (t : Taking) → HasEnded i.run t → IsFit t.state
    → HasEnded i.run (take_operations i no_retry os t)
unfolding take_operations
ended-operations i no_retry [] t ended h = ended
ended-operations i no_retry (o ∷ os) t ended h =
    ended-operations i no_retry os (take_operation i no_retry o t) (ended-by i no_retry o t ended h t.stopped refl)
    (kept-take_operation IsFit keeps-fit i no_retry o t h)

-- ## After the operations

finished-none : (i : Item) (a : After) (found : Option Run) (t : Taking) → found ≡ None → (b : Bool)
    → elim b as (λ _. State) [ true ↦ retry_found found i a [] t.state | false ↦ after_found found i a t.state ]
    ≡ t.state
finished-none i a found t none true = ap (λ f. retry_found f i a [] t.state) none
finished-none i a found t none false = ap (λ f. after_found f i a t.state) none

abbrev taken : Item → Bool → List Op → State → Taking
taken i no_retry ops s = take_operations i no_retry ops (begun s)

module _ (i : Item) (a : After) where
  pub idle-found : (found : Option Run) (t : State) → live_run i.run t ≡ found → idle_at found t ≡ true
      → after_found found i a t ≡ retry i a moved_nothing t
  idle-found None t e idle = cc
  idle-found (Some r) t e idle =
      ap (λ b. elim b as (λ _. State) [ true ↦ retry_run r i a moved_nothing t | false ↦ t ]) idle
      ∙ sym (ap (λ f. retry_found f i a moved_nothing t) e)

  pub busy-found : (found : Option Run) (t : State) → idle_at found t ≡ false → after_found found i a t ≡ t
  busy-found None t busy = refl
  busy-found (Some r) t busy =
      ap (λ b. elim b as (λ _. State) [ true ↦ retry_run r i a moved_nothing t | false ↦ t ]) busy

module _ (i : Item) (ops : List Op) (no_retry : Bool) (a : After) (s : State) where
  ops-found : (found : Option Run) → live_run i.run s ≡ found → (b : Bool) → lacks_target i ops ≡ b
      → ops_at found i ops no_retry a s ≡ elim b as (λ _. State) [
        | true ↦ retry i a (error_object (codes "target missing")) s
        | false ↦ finished i a (taken i no_retry ops s)
      ]
  ops-found None e true k = sym (ap (λ f. retry_found f i a (error_object (codes "target missing")) s) e)
  ops-found None e false k =
      sym (ap (finished i a) (none-taken i no_retry ops (begun s) e)
      ∙ finished-none i a (live_run i.run s) (begun s) e false)
  ops-found (Some r) e true k =
      ap (λ b. elim b as (λ _. State) [
        | true ↦ retry_run r i a (error_object (codes "target missing")) s
        | false ↦ finished i a (taken i no_retry ops s)
      ]) k ∙ sym (ap (λ f. retry_found f i a (error_object (codes "target missing")) s) e)
  ops-found (Some r) e false k =
      ap (λ b. elim b as (λ _. State) [
        | true ↦ retry_run r i a (error_object (codes "target missing")) s
        | false ↦ finished i a (taken i no_retry ops s)
      ]) k

  -- the call was made for a step that the operations don't tell of
  pub ops-lack : lacks_target i ops ≡ true
      → ops_at (live_run i.run s) i ops no_retry a s ≡ retry i a (error_object (codes "target missing")) s
  ops-lack k = ops-found (live_run i.run s) refl true k

  ops-taken : lacks_target i ops ≡ false
      → ops_at (live_run i.run s) i ops no_retry a s ≡ finished i a (taken i no_retry ops s)
  ops-taken k = ops-found (live_run i.run s) refl false k

  stopped-by : (stopped again : Bool) → Stops ≡ taken_by stopped again → stopped ≡ true
  stopped-by true b is = refl
  stopped-by false true is = cc
  stopped-by false false is = cc

  again-by : (stopped again : Bool) → Again ≡ taken_by stopped again → again ≡ true
  again-by true b is = cc
  again-by false true is = refl
  again-by false false is = cc

  on-by : (stopped again : Bool) → GoesOn ≡ taken_by stopped again → again ≡ false
  on-by true b is = cc
  on-by false true is = cc
  on-by false false is = refl

  pub ops-stop : lacks_target i ops ≡ false → IsFit s → Stops ≡ taken_of (taken i no_retry ops s)
      → ops_at (live_run i.run s) i ops no_retry a s ≡ (taken i no_retry ops s).state
  ops-stop k h is =
      let t = taken i no_retry ops s in
      ops-taken k
      ∙ finished-none i a (live_run i.run t.state) t
      (ended-operations i no_retry ops (begun s) (λ stopped. let clash : false ≡ true = stopped in cc) h
      (stopped-by t.stopped t.again is)) t.again

  pub ops-again : lacks_target i ops ≡ false → Again ≡ taken_of (taken i no_retry ops s)
      → ops_at (live_run i.run s) i ops no_retry a s ≡ retry i a [] (taken i no_retry ops s).state
  ops-again k is =
      let t = taken i no_retry ops s in
      ops-taken k
      ∙ ap (λ b. elim b as (λ _. State)
      [ true ↦ retry i a [] t.state | false ↦ after_found (live_run i.run t.state) i a t.state ])
      (again-by t.stopped t.again is)

  pub ops-on : lacks_target i ops ≡ false → GoesOn ≡ taken_of (taken i no_retry ops s)
      → ops_at (live_run i.run s) i ops no_retry a s
      ≡ after_found (live_run i.run (taken i no_retry ops s).state) i a (taken i no_retry ops s).state
  ops-on k is =
      let t = taken i no_retry ops s in
      ops-taken k
      ∙ ap (λ b. elim b as (λ _. State)
      [ true ↦ retry i a [] t.state | false ↦ after_found (live_run i.run t.state) i a t.state ])
      (on-by t.stopped t.again is)

-- ## Outcomes, of a run that may not be there

pub outcome-ended : (found : Option Run) (i : Item) (output : List ℕ) (s : State)
    → outcome_at found i (outcome.Ended output) s ≡ complete_at found output s
outcome-ended None i output s = refl
outcome-ended (Some r) i output s = refl

pub outcome-ops : (found : Option Run) (i : Item) (ops : List Op) (no_retry : Bool) (a : After) (s : State)
    → outcome_at found i (outcome.Ops ops no_retry a) s ≡ ops_at found i ops no_retry a s
outcome-ops None i ops no_retry a s = refl
outcome-ops (Some r) i ops no_retry a s = refl

pub outcome-retry : (found : Option Run) (i : Item) (a : After) (error : List ℕ) (s : State)
    → outcome_at found i (outcome.Retry a error) s ≡ retry_found found i a error s
outcome-retry None i a error s = refl
outcome-retry (Some r) i a error s = refl

pub outcome-failed : (found : Option Run) (i : Item) (error : List ℕ) (s : State)
    → outcome_at found i (outcome.NoRetry error) s ≡ fail_at found error s
outcome-failed None i error s = refl
outcome-failed (Some r) i error s = refl

pub outcome-unreadable : (found : Option Run) (i : Item) (at : ℕ) (s : State)
    → outcome_at found i (outcome.Unreadable at) s
    ≡ retry_found found i after.None (error_object (codes "unreadable reply")) s
outcome-unreadable None i at s = refl
outcome-unreadable (Some r) i at s = refl

-- ## A call that ends

close-none : (call : ℕ) (s : State) → open_issue call s ≡ None → close call s ≡ s
close-none call s none = ap (λ issues. record s { issues = issues }) (filter_none (has_call call) s.issues none)

found-call : (call : ℕ) (i : Issue) (s : State) → open_issue call s ≡ Some i → i.call ≡ call
found-call call i s e = sym (eqb-true call i.call (found-passes (has_call call) s.issues i e))

module _ (call : ℕ) (s : State) where
  -- none has the number, or its run has ended
  none-replied : (found : Option Issue) (reply : ReplyIn) → open_issue call s ≡ found → None ≡ item_in found
      → take_reply found reply s ≡ close call s
  none-replied None reply e none = sym (close-none call s e)
  none-replied (Some i) reply e none = cc

  pub replied-none : (reply : ReplyIn) → None ≡ item_in (open_issue call s) → on_reply call reply s ≡ close call s
  unfolding on_reply
  replied-none reply none = none-replied (open_issue call s) reply refl none

  replied-by : (found : Option Issue) (reply : ReplyIn) (item : Item) → open_issue call s ≡ found
      → Some item ≡ item_in found → take_reply found reply s ≡ reply_found (live_run item.run s) item reply (close call s)
  replied-by None reply item e is = cc
  replied-by (Some i) reply item e is =
      let same : item ≡ i.item = cc in
      ap (λ n. reply_found (live_run i.item.run s) i.item reply (close n s)) (found-call call i s e)
      ∙ ap (λ j. reply_found (live_run j.run s) j reply (close call s)) (sym same)

  pub replied-ended : (reply : ReplyIn) (item : Item) → Some item ≡ item_in (open_issue call s)
      → live_run item.run s ≡ None → on_reply call reply s ≡ close call s
  unfolding on_reply
  replied-ended reply item is none =
      replied-by (open_issue call s) reply item refl is
      ∙ ap (λ f. reply_found f item reply (close call s)) none

  pub replied : (reply : ReplyIn) (item : Item) → Some item ≡ item_in (open_issue call s)
      → (live_run item.run s ≡ None → ⊥)
      → on_reply call reply s
      ≡ discover (outcome_at (live_run item.run s) item (outcome_of reply) (close call s))
  unfolding on_reply
  replied reply item is some =
      replied-by (open_issue call s) reply item refl is ∙ by_run (live_run item.run s) some
    where
      by_run : (found : Option Run) → (found ≡ None → ⊥) → reply_found found item reply (close call s)
          ≡ discover (outcome_at found item (outcome_of reply) (close call s))
      by_run None some = absurd (some refl)
      by_run (Some r) some = refl

  none-failed : (found : Option Issue) (error : List ℕ) → open_issue call s ≡ found → None ≡ item_in found
      → fail_found found error s ≡ close call s
  none-failed None error e none = sym (close-none call s e)
  none-failed (Some i) error e none = cc

  pub failed-none : (error : List ℕ) → None ≡ item_in (open_issue call s)
      → fail_found (open_issue call s) error s ≡ close call s
  failed-none error none = none-failed (open_issue call s) error refl none

  failed-by : (found : Option Issue) (error : List ℕ) (item : Item) → open_issue call s ≡ found
      → Some item ≡ item_in found
      → fail_found found error s ≡ discover (retry item after.None error (close call s))
  failed-by None error item e is = cc
  failed-by (Some i) error item e is =
      let same : item ≡ i.item = cc in
      ap (λ n. discover (retry i.item after.None error (close n s))) (found-call call i s e)
      ∙ ap (λ j. discover (retry j after.None error (close call s))) (sym same)

  pub failed : (error : List ℕ) (item : Item) → Some item ≡ item_in (open_issue call s)
      → fail_found (open_issue call s) error s ≡ discover (retry item after.None error (close call s))
  failed error item is = failed-by (open_issue call s) error item refl is

  aside-by : (found : Option Issue) (item : Item) → HasOwnNumbers s → open_issue call s ≡ found
      → Some item ≡ item_in found → IsAside item (close call s)
  aside-by None item own e is = cc
  aside-by (Some i) item own e is =
      let same : item ≡ i.item = cc in
      subst (λ (j : Item). IsAside j (close call s)) (sym same)
      (subst (λ n. IsAside i.item (close n s)) (found-call call i s e) (aside-closed call s i own e))

  pub closed-aside : (item : Item) → HasOwnNumbers s → Some item ≡ item_in (open_issue call s)
      → IsAside item (close call s)
  closed-aside item own is = aside-by (open_issue call s) item own refl is

pub call-failed : (call : ℕ) (s : State)
    → on_call_failed call s ≡ fail_found (open_issue call s) (error_object (codes "call failed")) s
unfolding on_call_failed
call-failed call s = refl

-- ## A step that is recorded

some-by : {X : Type 0} (x : X) (any : Bool) (rest : Option X) → any ≡ is_some rest → (b : Bool)
    → (b || any) ≡ is_some (cond b (Some x) rest)
some-by x any rest h true = refl
some-by x any rest h false = h

pub some-found : {X : Type 0} (p : X → Bool) (xs : List X) → list_any p xs ≡ is_some (find p xs)
some-found p [] = refl
some-found p (x ∷ xs) = some-by x (list_any p xs) (find p xs) (some-found p xs) (p x)

-- ## A run that nothing would move

zero-test : (n : ℕ) → (n == 0) ≡ not (nat_le 1 n)
zero-test n = grind (arith, nat_tests)

idle-by : (a b w : Bool) (n : ℕ)
    → (not a && not b && (n == 0) && not w) ≡ (not (a || b) && (not (nat_le 1 n) && not w))
idle-by true b w n = refl
idle-by false true w n = refl
idle-by false false w n = ap (λ c. c && not w) (zero-test n)

pub idle-is : (number : ℕ) (r : Run) (s : State) → live_run number s ≡ Some r
    → idle_at (live_run number s) s ≡ (not (is_called number s) && is_resting r)
idle-is number r s found =
    ap (λ f. idle_at f s) found
    ∙ idle-by (list_any (λ (i : Item). r.number == i.run) s.items)
    (list_any (λ (i : Issue). r.number == i.item.run) s.issues) r.wanted (length r.steps.pending)
    ∙ ap (λ n. not (is_called n s) && is_resting r)
    (sym (eqb-true number r.number (found-passes (λ (q : Run). number == q.number) s.live r found)))

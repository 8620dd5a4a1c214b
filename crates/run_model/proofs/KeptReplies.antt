-- What a reply to a call and a call that fails do keeps what each change keeps. The call's item is aside in the
-- meantime.
use Rattle.std.proofs.Common.{◌≡◌, ℕ, ◌==◌, Bool, true, false, not, cond, ◌||◌, List, [], ◌∷◌, map, codes, Option, Some, None, refl, nat_le, nat_lt, bytes_eq}
use Rattle.kinds.specs.ErrorObject.{error_object}
use Rattle.kinds.specs.RunSteps.{Noting, adds, known, full, is_pending, is_planned, is_recorded, keep_step, most_names, names, note_pending, note_plan, pend_step, record_step, with_room}
use Rattle.kinds.specs.declared.reply.After.{After}
use Rattle.kinds.specs.declared.reply.After.TheVariants as after
use Rattle.kinds.specs.declared.reply.Op.{Op}
use Rattle.kinds.specs.declared.reply.Op.TheVariants as op
use Rattle.kinds.specs.declared.reply.Outcome.{Outcome}
use Rattle.kinds.specs.declared.reply.Outcome.TheVariants as outcome
use Rattle.kinds.specs.declared.reply.ReplyIn.{ReplyIn}
use Rattle.kinds.specs.declared.reply.Time.{Time}
use Rattle.kinds.specs.declared.store.Item.{Item}
use Rattle.kinds.specs.declared.store.Pending.{Pending}
use Rattle.kinds.specs.declared.store.Pending.TheVariants as pending
use Rattle.kinds.specs.declared.store.RunStatus.{RunStatus}
use Rattle.kinds.specs.declared.store.RunStatus.TheVariants.{Completed, Failed}
use Rattle.functions.specs.declared.entry.FunctionEntry.{FunctionEntry}
use Rattle.sdk_reply.specs.Outcome.{outcome_of}
use Rattle.run_model.specs.Ends.{fail_run}
use Rattle.run_model.specs.Fit.{item_of}
use Rattle.run_model.specs.Laws.{IsIn}
use Rattle.run_model.specs.Making.{queue}
use Rattle.run_model.specs.Recording.{change_run, data_result, error_result, record_result}
use Rattle.run_model.specs.Replies.{Taking, add_sleep, add_wait, after_found, again, begun, close, current, fail_call, fail_found, finished, invoke, invoke_found, is_final, is_idle, is_new_result, keep, lacks_target, moved_nothing, noted, on_call_failed, on_error, on_reply, plan_named, reply_found, retries_of, retry, retry_found, retry_run, take_found, take_named, take_operation, take_operations, take_ops, take_outcome, take_reply, unknown_function, want}
use Rattle.run_model.specs.State.{State, Run, Issue, live_run, open_issue}
use Rattle.run_model.proofs.Kept.{Adds, Ending, IsLive, Keeps, kept-discover, own-number}
use Rattle.run_model.proofs.KeptEvents.{ended-complete_run, ended-fail_run, kept-fail_run}
use Rattle.run_model.proofs.Members.{in-found, in-front}

-- ## The changes

-- the items of these calls are aside: they are in no queue, and their calls aren't open
pub record KeepsCalls (P : List Item → State → Type 0) : Type 0 where
  pub runs : (is : List Item) → Keeps (P is)
  -- a call is open no more, or all aren't
  pub closes : (i : Issue) (s : State) → IsIn i s.issues → P [] s → P (i.item ∷ []) (close i.call s)
  pub reopens : (s : State) → P [] s → P (map item_of s.issues) (record s { issues = [] })
  -- an item that is aside goes: its run has ended, goes on without it, is wanted, or ends with it
  pub drops : (i : Item) (is : List Item) (s : State) → live_run i.run s ≡ None → P (i ∷ is) s → P is s
  pub leaves : (i : Item) (is : List Item) (r : Run) (s : State) → live_run i.run s ≡ Some r
      → is_idle r s ≡ false → P (i ∷ is) s → P is s
  pub calls_off : (i : Item) (is : List Item) (r : Run) (s : State) → live_run i.run s ≡ Some r
      → is_recorded i.target r.steps ≡ true → P (i ∷ is) s → P is (change_run r.number want s)
  pub ends : (i : Item) (is : List Item) (r : Run) (status : RunStatus) (s : State) → live_run i.run s ≡ Some r
      → P (i ∷ is) s → Ending (P is) r status s
  -- or it is queued again
  pub retries : (i : Item) (is : List Item) (a : After) (r : Run) (s : State) → live_run i.run s ≡ Some r
      → is_recorded i.target r.steps ≡ false → P (i ∷ is) s → P is (queue (again i a s) s)
  pub requeues : (i : Item) (is : List Item) (r : Run) (s : State) → live_run i.run s ≡ Some r
      → is_recorded i.target r.steps ≡ false → P (i ∷ is) s → P is (queue (record i { due = s.moment }) s)

-- enough for the others: an item that is aside goes, wherever
pub record Drops (P : List Item → State → Type 0) : Type 0 where
  pub runs : (is : List Item) → Keeps (P is)
  pub closes : (i : Issue) (s : State) → IsIn i s.issues → P [] s → P (i.item ∷ []) (close i.call s)
  pub reopens : (s : State) → P [] s → P (map item_of s.issues) (record s { issues = [] })
  pub drops : (i : Item) (is : List Item) (s : State) → P (i ∷ is) s → P is s
  pub retries : (i : Item) (is : List Item) (a : After) (r : Run) (s : State) → live_run i.run s ≡ Some r
      → is_recorded i.target r.steps ≡ false → P (i ∷ is) s → P is (queue (again i a s) s)
  pub requeues : (i : Item) (is : List Item) (r : Run) (s : State) → live_run i.run s ≡ Some r
      → is_recorded i.target r.steps ≡ false → P (i ∷ is) s → P is (queue (record i { due = s.moment }) s)

pub dropping : (P : List Item → State → Type 0) → Drops P → KeepsCalls P
dropping P keeps = record {
  runs = keeps.runs;
  closes = keeps.closes;
  reopens = keeps.reopens;
  drops = λ i is s gone h. keeps.drops i is s h;
  leaves = λ i is r s live going h. keeps.drops i is s h;
  calls_off = λ i is r s live done h.
      (keeps.runs is).wants r s (own-number i.run r s live) (keeps.drops i is s h);
  ends = λ i is r status s live h.
      (keeps.runs is).ends r status s (own-number i.run r s live) (keeps.drops i is s h);
  retries = keeps.retries;
  requeues = keeps.requeues;
}

-- ## What is looked for

abbrev has_call : ℕ → Issue → Bool
has_call call i = call == i.call

abbrev is_current : List ℕ → FunctionEntry → Bool
is_current id f = bytes_eq id f.function.id

-- ## Names that are new

pub adds-result : (name result : List ℕ) (r : Run) → Adds (keep_step name result r.steps)
    → is_new_result name r.steps ≡ true
adds-result name result r h = by_test (is_recorded name r.steps || is_pending name r.steps) h
  where
    by_test : (b : Bool) → Adds (cond b known (cond (is_planned name r.steps)
        (adds (record_step name result r.steps)) (with_room (record_step name result r.steps) r.steps)))
        → not b ≡ true
    by_test true k = absurd k
    by_test false k = refl

-- a name that may be pending may have a result
pending-result : (name result : List ℕ) (kind : Pending) (r : Run) → Adds (note_pending name kind r.steps)
    → Adds (keep_step name result r.steps)
pending-result name result kind r h =
    by_tests (is_recorded name r.steps) (is_planned name r.steps) (is_pending name r.steps)
    (nat_le most_names (names r.steps)) h
  where
    by_tests : (a b c full_up : Bool)
        → Adds (cond (a || b || c) known (cond full_up full (adds (pend_step name kind r.steps))))
        → Adds (cond (a || c) known (cond b (adds (record_step name result r.steps))
        (cond full_up full (adds (record_step name result r.steps)))))
    by_tests true b c d k = absurd k
    by_tests false true c d k = absurd k
    by_tests false false true d k = absurd k
    by_tests false false false true k = absurd k
    by_tests false false false false k = tt

-- ## Operations

module _ (P : State → Type 0) (keeps : Keeps P) where
  pub kept-noted : (n : Noting) (r : Run) (effect : State → State) (t : Taking) → IsLive r t.state
      → (Adds n → P (effect t.state)) → P t.state → P (noted n r effect t).state
  kept-noted (adds steps) r effect t live effects h = effects tt
  kept-noted known r effect t live effects h = h
  kept-noted full r effect t live effects h =
      kept-fail_run P keeps r (error_object (codes "too many steps")) t.state live h

  pub kept-keep : (r : Run) (name result : List ℕ) (t : Taking) → IsLive r t.state → P t.state
      → P (keep r name result t).state
  kept-keep r name result t live h =
      kept-noted (keep_step name result r.steps) r (record_result r.number name result) t live
      (λ new. keeps.results r name result t.state live new h) h

  pub kept-on_error : (b : Bool) (r : Run) (name error : List ℕ) (t : Taking) → IsLive r t.state → P t.state
      → P (on_error b r name error t).state
  kept-on_error true r name error t live h = kept-keep r name (error_result error) t live h
  kept-on_error false r name error t live h = h

  pub kept-invoke_found : (found : Option FunctionEntry) (id : List ℕ) (r : Run) (name : List ℕ)
      (payload : Option (List ℕ)) (t : Option Time) (s : State) → current id s ≡ found → IsLive r s
      → Adds (note_pending name pending.Invocation r.steps) → P s → P (invoke_found found r name payload t s)
  kept-invoke_found None id r name payload t s e live new h =
      keeps.results r name unknown_function s live
      (pending-result name unknown_function pending.Invocation r new) h
  kept-invoke_found (Some f) id r name payload t s e live new h =
      keeps.invokes f r name payload t s
      (in-front f s.functions s.retired (in-found (is_current id) s.functions f e)) live new h

  pub kept-take_named : (i : Item) (no_retry : Bool) (r : Run) (o : Op) (t : Taking) → IsLive r t.state
      → P t.state → P (take_named i no_retry r o t).state
  kept-take_named i no_retry r (op.StepRun name value) t live h =
      kept-keep r name (data_result value) t live h
  kept-take_named i no_retry r (op.StepError name error) t live h =
      kept-on_error (is_final i no_retry r t.state) r name error t live h
  kept-take_named i no_retry r (op.StepPlanned name) t live h =
      kept-noted (note_plan name r.steps) r (plan_named r name) t live
      (λ new. keeps.plans r name t.state live new h) h
  kept-take_named i no_retry r (op.Sleep name due) t live h =
      kept-noted (note_pending name pending.Sleep r.steps) r (add_sleep r name due) t live
      (λ new. keeps.sleeps r name due t.state live new h) h
  kept-take_named i no_retry r (op.WaitForEvent name event due cond) t live h =
      kept-noted (note_pending name pending.Wait r.steps) r (add_wait r name event due cond) t live
      (λ new. keeps.waits r name event due cond t.state live new h) h
  kept-take_named i no_retry r (op.InvokeFunction name id payload due) t live h =
      kept-noted (note_pending name pending.Invocation r.steps) r (invoke r name id payload due) t live
      (λ new. kept-invoke_found (current id t.state) id r name payload due t.state refl live new h) h

  pub kept-take_found : (i : Item) (no_retry : Bool) (o : Op) (found : Option Run) (t : Taking)
      → live_run i.run t.state ≡ found → P t.state → P (take_found i no_retry o found t).state
  kept-take_found i no_retry o None t e h = h
  kept-take_found i no_retry o (Some r) t e h =
      kept-take_named i no_retry r o t (own-number i.run r t.state e) h

  pub kept-take_operation : (i : Item) (no_retry : Bool) (o : Op) (t : Taking) → P t.state
      → P (take_operation i no_retry o t).state
  kept-take_operation i no_retry o t h =
      elim t.stopped as (λ b. P (elim b as (λ _. Taking)
      [ true ↦ t | false ↦ take_found i no_retry o (live_run i.run t.state) t ]).state)
      [ true ↦ h | false ↦ kept-take_found i no_retry o (live_run i.run t.state) t refl h ]

  pub kept-take_operations : (i : Item) (no_retry : Bool) (os : List Op) (t : Taking) → P t.state
      → P (take_operations i no_retry os t).state
  unfolding take_operations
  kept-take_operations i no_retry [] t h = h
  kept-take_operations i no_retry (o ∷ os) t h =
      kept-take_operations i no_retry os (take_operation i no_retry o t)
      (kept-take_operation i no_retry o t h)

module _ (P : List Item → State → Type 0) (keeps : KeepsCalls P) where
  -- ## A call that fails

  pub kept-retry_run : (r : Run) (i : Item) (a : After) (error : List ℕ) (s : State) → live_run i.run s ≡ Some r
      → P (i ∷ []) s → P [] (retry_run r i a error s)
  kept-retry_run r i a error s e h =
      (elim (is_recorded i.target r.steps) as (λ b. is_recorded i.target r.steps ≡ b
      → P [] (elim b as (λ _. State) [
        | true ↦ change_run r.number want s
        | false ↦ elim (nat_lt i.attempt (retries_of r s)) as (λ _. State)
            [ true ↦ queue (again i a s) s | false ↦ fail_run r error s ]
      ])) [
        | true ↦ λ done. keeps.calls_off i [] r s e done h
        | false ↦ λ new. elim (nat_lt i.attempt (retries_of r s)) as (λ b. P [] (elim b as (λ _. State)
            [ true ↦ queue (again i a s) s | false ↦ fail_run r error s ])) [
              | true ↦ keeps.retries i [] a r s e new h
              | false ↦ ended-fail_run (P []) (keeps.runs []) r error s (keeps.ends i [] r Failed s e h)
            ]
      ]) refl

  pub kept-retry_found : (found : Option Run) (i : Item) (a : After) (error : List ℕ) (s : State)
      → live_run i.run s ≡ found → P (i ∷ []) s → P [] (retry_found found i a error s)
  kept-retry_found None i a error s e h = keeps.drops i [] s e h
  kept-retry_found (Some r) i a error s e h = kept-retry_run r i a error s e h

  pub kept-retry : (i : Item) (a : After) (error : List ℕ) (s : State) → P (i ∷ []) s → P [] (retry i a error s)
  kept-retry i a error s h = kept-retry_found (live_run i.run s) i a error s refl h

  -- ## After the operations

  pub kept-after_found : (found : Option Run) (i : Item) (a : After) (s : State) → live_run i.run s ≡ found
      → P (i ∷ []) s → P [] (after_found found i a s)
  kept-after_found None i a s e h = keeps.drops i [] s e h
  kept-after_found (Some r) i a s e h =
      (elim (is_idle r s) as (λ b. is_idle r s ≡ b → P [] (elim b as (λ _. State)
      [ true ↦ retry_run r i a moved_nothing s | false ↦ s ]))
      [ true ↦ λ idle. kept-retry_run r i a moved_nothing s e h | false ↦ λ going. keeps.leaves i [] r s e going h ])
      refl

  pub kept-finished : (i : Item) (a : After) (t : Taking) → P (i ∷ []) t.state → P [] (finished i a t)
  kept-finished i a t h =
      elim t.again as (λ b. P [] (elim b as (λ _. State) [
        | true ↦ retry i a [] t.state
        | false ↦ after_found (live_run i.run t.state) i a t.state
      ])) [
        | true ↦ kept-retry i a [] t.state h
        | false ↦ kept-after_found (live_run i.run t.state) i a t.state refl h
      ]

  -- ## Outcomes

  pub kept-take_ops : (r : Run) (i : Item) (ops : List Op) (no_retry : Bool) (a : After) (s : State)
      → live_run i.run s ≡ Some r → P (i ∷ []) s → P [] (take_ops r i ops no_retry a s)
  kept-take_ops r i ops no_retry a s e h =
      elim (lacks_target i ops) as (λ b. P [] (elim b as (λ _. State) [
        | true ↦ retry_run r i a (error_object (codes "target missing")) s
        | false ↦ finished i a (take_operations i no_retry ops (begun s))
      ])) [
        | true ↦ kept-retry_run r i a (error_object (codes "target missing")) s e h
        | false ↦ kept-finished i a (take_operations i no_retry ops (begun s))
            (kept-take_operations (P (i ∷ [])) (keeps.runs (i ∷ [])) i no_retry ops (begun s) h)
      ]

  pub kept-take_outcome : (r : Run) (i : Item) (o : Outcome) (s : State) → live_run i.run s ≡ Some r
      → P (i ∷ []) s → P [] (take_outcome r i o s)
  kept-take_outcome r i (outcome.Ended output) s e h =
      ended-complete_run (P []) (keeps.runs []) r output s (keeps.ends i [] r Completed s e h)
  kept-take_outcome r i (outcome.Ops ops no_retry a) s e h = kept-take_ops r i ops no_retry a s e h
  kept-take_outcome r i (outcome.Retry a error) s e h = kept-retry_run r i a error s e h
  kept-take_outcome r i (outcome.NoRetry error) s e h =
      ended-fail_run (P []) (keeps.runs []) r error s (keeps.ends i [] r Failed s e h)
  kept-take_outcome r i (outcome.Unreadable at) s e h =
      kept-retry_run r i after.None (error_object (codes "unreadable reply")) s e h

  pub kept-reply_found : (found : Option Run) (i : Item) (reply : ReplyIn) (s : State)
      → live_run i.run s ≡ found → P (i ∷ []) s → P [] (reply_found found i reply s)
  kept-reply_found None i reply s e h = keeps.drops i [] s e h
  kept-reply_found (Some r) i reply s e h =
      kept-discover (P []) (keeps.runs []) (take_outcome r i (outcome_of reply) s)
      (kept-take_outcome r i (outcome_of reply) s e h)

  -- ## Replies and failures of calls

  pub kept-take_reply : (call : ℕ) (found : Option Issue) (reply : ReplyIn) (s : State)
      → open_issue call s ≡ found → P [] s → P [] (take_reply found reply s)
  kept-take_reply call None reply s e h = h
  kept-take_reply call (Some i) reply s e h =
      kept-reply_found (live_run i.item.run s) i.item reply (close i.call s) refl
      (keeps.closes i s (in-found (has_call call) s.issues i e) h)

  pub kept-on_reply : (call : ℕ) (reply : ReplyIn) (s : State) → P [] s → P [] (on_reply call reply s)
  unfolding on_reply
  kept-on_reply call reply s h = kept-take_reply call (open_issue call s) reply s refl h

  pub kept-fail_call : (i : Issue) (error : List ℕ) (s : State) → IsIn i s.issues → P [] s
      → P [] (fail_call i error s)
  kept-fail_call i error s there h =
      kept-discover (P []) (keeps.runs []) (retry i.item after.None error (close i.call s))
      (kept-retry i.item after.None error (close i.call s) (keeps.closes i s there h))

  pub kept-fail_found : (call : ℕ) (found : Option Issue) (error : List ℕ) (s : State)
      → open_issue call s ≡ found → P [] s → P [] (fail_found found error s)
  kept-fail_found call None error s e h = h
  kept-fail_found call (Some i) error s e h =
      kept-fail_call i error s (in-found (has_call call) s.issues i e) h

  pub kept-on_call_failed : (call : ℕ) (s : State) → P [] s → P [] (on_call_failed call s)
  unfolding on_call_failed
  kept-on_call_failed call s h =
      kept-fail_found call (open_issue call s) (error_object (codes "call failed")) s refl h

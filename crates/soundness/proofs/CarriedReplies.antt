-- What a reply to a call and a call that fails do, as changes: the call's item is aside in the meantime, until its step is
-- recorded, its run has ended, or it is queued again.
use Rattle.std.proofs.Common.{◌≡◌, ℕ, ◌<◌, ◌==◌, Bool, true, false, not, List, [], ◌∷◌, map, codes, Option, Some, None, IfSome, refl, sym, ap, ◌∙◌, subst, nat_lt, bytes_eq, eq-eqb, eqb-true}
use Rattle.kinds.specs.ErrorObject.{error_object}
use Rattle.kinds.specs.RunSteps.{Noting, adds, known, full, is_recorded, keep_step, note_pending, note_plan}
use Rattle.kinds.specs.declared.event.Event.{Event}
use Rattle.kinds.specs.declared.function.App.{App}
use Rattle.kinds.specs.declared.reply.After.{After}
use Rattle.kinds.specs.declared.reply.After.TheVariants as after
use Rattle.kinds.specs.declared.reply.Op.{Op}
use Rattle.kinds.specs.declared.reply.Op.TheVariants as op
use Rattle.kinds.specs.declared.reply.Outcome.{Outcome}
use Rattle.kinds.specs.declared.reply.Outcome.TheVariants as outcome
use Rattle.kinds.specs.declared.reply.ReplyIn.{ReplyIn}
use Rattle.kinds.specs.declared.reply.Time.{Time}
use Rattle.kinds.specs.declared.store.Item.{Item}
use Rattle.kinds.specs.declared.store.Pending.TheVariants as pending
use Rattle.kinds.specs.declared.store.RunStatus.{RunStatus}
use Rattle.kinds.specs.declared.store.RunStatus.TheVariants.{Completed, Failed}
use Rattle.functions.specs.declared.entry.FunctionEntry.{FunctionEntry}
use Rattle.sdk_reply.specs.Outcome.{outcome_of}
use Rattle.run_model.specs.Ends.{end_run, fail_run}
use Rattle.run_model.specs.Events.{add_event, event_with}
use Rattle.run_model.specs.Fit.{AreDifferent, item_of}
use Rattle.run_model.specs.Laws.{IsIn}
use Rattle.run_model.specs.Machine.{with_functions}
use Rattle.run_model.specs.Making.{queue}
use Rattle.run_model.specs.Recording.{change_run, data_result, error_result, record_result}
use Rattle.run_model.specs.Replies.{Taking, add_sleep, add_wait, after_found, again, begun, close, current, fail_call, fail_found, finished, invoke, invoke_found, invoked_event, is_final, is_idle, keep, lacks_target, moved_nothing, noted, on_call_failed, on_error, on_reply, pend, plan_named, reply_found, retries_of, retry, retry_found, retry_run, take_found, take_named, take_operation, take_operations, take_ops, take_outcome, take_reply, unknown_function, want}
use Rattle.run_model.specs.Sound.{ArePairwise, IfLive}
use Rattle.run_model.specs.Settle.{issue}
use Rattle.run_model.specs.State.{State, Run, Issue, live_run, open_issue, without_closed, without_unnamed}
use Rattle.run_model.proofs.FitEvents.{none-left}
use Rattle.run_model.proofs.Kept.{Adds, IsFunction, own-number}
use Rattle.run_model.proofs.Members.{in-found, in-front}
use Rattle.run_model.proofs.SettlingLists.{found-passes}
use Rattle.soundness.proofs.Carried.{Any, Core, Carries, IsFor, beside-changes, core, carried-completed, carried-discover, carried-fail_run, carried-failed, carried-make_run, text-own}
use Rattle.soundness.proofs.StepNames.{AreNamed, IsName, IsNamed, NamesSteps, named-outcome}

-- ## The changes

-- the item's run has ended, or its step is recorded
abbrev pub IsDone : Item → State → Type 0
IsDone i s = IfLive s i.run (λ r. is_recorded i.target r.steps ≡ true)

-- open calls stand by their numbers
abbrev pub CallsRise : List Issue → Type 0
CallsRise issues = ArePairwise (λ (i later : Issue). i.call < later.call) issues

-- The changes, with those at both ends of a call and those of a whole step.
pub record CarriesSteps (B K : List Item → Core → Type 0) : Type 0 where
  pub changes : Carries B K
  -- a call is open no more, or none is
  pub closes : (i : Issue) (s : State) → CallsRise s.issues → IsIn i s.issues → B [] (core s) → K [] (core s)
      → K (i.item ∷ []) (core (close i.call s))
  pub reopens : (s : State) → B [] (core s) → K [] (core s)
      → K (map item_of s.issues) (core (record s { issues = [] }))
  -- an item that is aside goes, where nothing is left to be called
  pub drops : (i : Item) (is : List Item) (s : State) → IsDone i s → B (i ∷ is) (core s) → K (i ∷ is) (core s)
      → K is (core s)
  -- after the operations of a reply that tell of its step, and don't say that the call is to be made again
  pub leaves : (i : Item) (no_retry : Bool) (ops : List Op) (s : State) → lacks_target i ops ≡ false
      → AreNamed ops → (take_operations i no_retry ops (begun s)).again ≡ false
      → B (i ∷ []) (core s) → K (i ∷ []) (core s)
      → B (i ∷ []) (core (take_operations i no_retry ops (begun s)).state)
      → K (i ∷ []) (core (take_operations i no_retry ops (begun s)).state)
      → K [] (core (take_operations i no_retry ops (begun s)).state)
  -- or it is queued again
  pub queues : (i j : Item) (is : List Item) (r : Run) (s : State) → IsFor i.run i.target j
      → (i.start ≡ None → j.start ≡ None) → live_run i.run s ≡ Some r → is_recorded i.target r.steps ≡ false
      → B (i ∷ is) (core s) → K (i ∷ is) (core s) → K is (core (queue j s))
  -- a call is made
  pub issues : (i : Item) (s : State) → AreDifferent s.items → IsIn i s.items → B [] (core s) → K [] (core s)
      → K [] (core (issue i s))
  -- an application is registered, and what nothing names any more goes at the end of a step
  pub registers : (app : App) (s : State) → B [] (core s) → K [] (core s) → K [] (core (with_functions app s))
  pub tidies : (s : State) → B [] (core s) → K [] (core s) → K [] (core (without_unnamed (without_closed s)))

-- one that is kept by itself, and one over it
pub beside-steps : (B K : List Item → Core → Type 0) → CarriesSteps Any B → CarriesSteps B K
    → CarriesSteps Any (λ is c. B is c × K is c)
beside-steps B K b k = record {
  changes = beside-changes B K b.changes k.changes;
  closes = λ i s rise there any h. (b.closes i s rise there any h.0, k.closes i s rise there h.0 h.1);
  reopens = λ s any h. (b.reopens s any h.0, k.reopens s h.0 h.1);
  drops = λ i is s done any h. (b.drops i is s done any h.0, k.drops i is s done h.0 h.1);
  leaves = λ i no_retry ops s has own over any before any_after h. (
    b.leaves i no_retry ops s has own over any before.0 any_after h.0,
    k.leaves i no_retry ops s has own over before.0 before.1 h.0 h.1,
  );
  queues = λ i j is r s its start live new any h.
      (b.queues i j is r s its start live new any h.0, k.queues i j is r s its start live new h.0 h.1);
  issues = λ i s apart there any h. (b.issues i s apart there any h.0, k.issues i s apart there h.0 h.1);
  registers = λ app s any h. (b.registers app s any h.0, k.registers app s h.0 h.1);
  tidies = λ s any h. (b.tidies s any h.0, k.tidies s h.0 h.1);
}

-- ## What is looked for

abbrev has_call : ℕ → Issue → Bool
has_call call i = call == i.call

abbrev is_current : List ℕ → FunctionEntry → Bool
is_current id f = bytes_eq id f.function.id

-- ## Operations of the run whose item is aside

module _ (K : List Item → Core → Type 0) (keeps : Carries Any K) (i : Item) (no_retry : Bool) where
  abbrev Aside : State → Type 0
  Aside s = K (i ∷ []) (core s)

  carried-noted : (n : Noting) (r : Run) (effect : State → State) (t : Taking) → live_run i.run t.state ≡ Some r
      → (Adds n → Aside (effect t.state)) → Aside t.state → Aside (noted n r effect t).state
  carried-noted (adds steps) r effect t live effects h = effects tt
  carried-noted known r effect t live effects h = h
  carried-noted full r effect t live effects h =
      carried-fail_run K keeps (i ∷ []) r (error_object (codes "too many steps")) t.state
      (own-number i.run r t.state live) h

  carried-keep : (r : Run) (name result : List ℕ) (t : Taking) → IsName name → live_run i.run t.state ≡ Some r
      → Aside t.state → Aside (keep r name result t).state
  carried-keep r name result t own live h =
      carried-noted (keep_step name result r.steps) r (record_result r.number name result) t live
      (λ new. keeps.results i r name result t.state live own tt h) h

  carried-on_error : (b : Bool) (r : Run) (name error : List ℕ) (t : Taking) → IsName name
      → live_run i.run t.state ≡ Some r → Aside t.state → Aside (on_error b r name error t).state
  carried-on_error true r name error t own live h = carried-keep r name (error_result error) t own live h
  carried-on_error false r name error t own live h = h

  carried-invoke_found : (found : Option FunctionEntry) (id : List ℕ) (r : Run) (name : List ℕ)
      (payload : Option (List ℕ)) (t : Option Time) (s : State) → current id s ≡ found → IsName name
      → live_run i.run s ≡ Some r → Adds (note_pending name pending.Invocation r.steps) → Aside s
      → Aside (invoke_found found r name payload t s)
  carried-invoke_found None id r name payload t s e own live new h =
      keeps.results i r name unknown_function s live own tt h
  carried-invoke_found (Some f) id r name payload t s e own live new h =
      let event : Event = event_with (invoked_event payload) s in
      let pended : State = pend pending.Invocation name r s in
      let there : IsFunction f s =
      in-front f s.functions s.retired (in-found (is_current id) s.functions f e) in
      carried-make_run K keeps (i ∷ []) f (event.number ∷ []) (Some (record { run = r.number; hash = name }))
      (add_event event pended) there
      (λ k. (text-own (record { number = event.number; text = event.text }) s.texts, tt))
      (keeps.accepts (i ∷ []) event pended refl tt (keeps.pends i pending.Invocation r name s live new own tt h))

  carried-take_named : (r : Run) (o : Op) (t : Taking) → IsNamed o → live_run i.run t.state ≡ Some r
      → Aside t.state → Aside (take_named i no_retry r o t).state
  carried-take_named r (op.StepRun name value) t own live h = carried-keep r name (data_result value) t own live h
  carried-take_named r (op.StepError name error) t own live h =
      carried-on_error (is_final i no_retry r t.state) r name error t own live h
  carried-take_named r (op.StepPlanned name) t own live h =
      carried-noted (note_plan name r.steps) r (plan_named r name) t live
      (λ new. keeps.plans i r name t.state live new own tt h) h
  carried-take_named r (op.Sleep name due) t own live h =
      carried-noted (note_pending name pending.Sleep r.steps) r (add_sleep r name due) t live
      (λ new. keeps.pends i pending.Sleep r name t.state live new own tt h) h
  carried-take_named r (op.WaitForEvent name event due given) t own live h =
      carried-noted (note_pending name pending.Wait r.steps) r (add_wait r name event due given) t live
      (λ new. keeps.pends i pending.Wait r name t.state live new own tt h) h
  carried-take_named r (op.InvokeFunction name id payload due) t own live h =
      carried-noted (note_pending name pending.Invocation r.steps) r (invoke r name id payload due) t live
      (λ new. carried-invoke_found (current id t.state) id r name payload due t.state refl own live new h) h

  carried-take_found : (o : Op) (found : Option Run) (t : Taking) → IsNamed o → live_run i.run t.state ≡ found
      → Aside t.state → Aside (take_found i no_retry o found t).state
  carried-take_found o None t own e h = h
  carried-take_found o (Some r) t own e h = carried-take_named r o t own e h

  pub carried-take_operation : (o : Op) (t : Taking) → IsNamed o → Aside t.state
      → Aside (take_operation i no_retry o t).state
  carried-take_operation o t own h =
      elim t.stopped as (λ b. Aside (elim b as (λ _. Taking)
      [ true ↦ t | false ↦ take_found i no_retry o (live_run i.run t.state) t ]).state)
      [ true ↦ h | false ↦ carried-take_found o (live_run i.run t.state) t own refl h ]

  pub carried-take_operations : (os : List Op) (t : Taking) → AreNamed os → Aside t.state
      → Aside (take_operations i no_retry os t).state
  unfolding take_operations
  carried-take_operations [] t own h = h
  carried-take_operations (o ∷ os) t own h =
      carried-take_operations os (take_operation i no_retry o t) own.1 (carried-take_operation o t own.0 h)

-- ## An item that goes

-- by the run that is found, or that is found no more
pub found-done : (i : Item) (found : Option Run) (s : State) → live_run i.run s ≡ found
    → IfSome found (λ r. is_recorded i.target r.steps ≡ true) → IsDone i s
found-done i found s e done = subst (λ o. IfSome o (λ (r : Run). is_recorded i.target r.steps ≡ true)) (sym e) done

-- no run of the number is left
pub ended-done : (i : Item) (r : Run) (status : RunStatus) (s : State) → live_run i.run s ≡ Some r
    → IsDone i (end_run r status s)
ended-done i r status s live =
    let own : i.run ≡ r.number =
    eqb-true i.run r.number (found-passes (λ (q : Run). i.run == q.number) s.live r live) in
    found-done i None (end_run r status s)
    (none-left (λ (q : Run). i.run == q.number) (λ (q : Run). not (r.number == q.number)) s.live
    (λ q same. ap not (eq-eqb r.number q.number (sym own ∙ eqb-true i.run q.number same)))) tt

module _ (K : List Item → Core → Type 0) (keeps : CarriesSteps Any K) where
  abbrev Q : List Item → State → Type 0
  Q is s = K is (core s)

  -- ## A call that fails

  carried-ended_with : (i : Item) (is : List Item) (r : Run) (status : RunStatus) (s : State)
      → live_run i.run s ≡ Some r → Q (i ∷ is) s → Q is (end_run r status s)
  carried-ended_with i is r status s live h =
      keeps.drops i is (end_run r status s) (ended-done i r status s live) tt
      (keeps.changes.ends (i ∷ is) r status s (own-number i.run r s live) tt h)

  pub carried-called_off : (i : Item) (is : List Item) (r : Run) (s : State) → live_run i.run s ≡ Some r
      → is_recorded i.target r.steps ≡ true → Q (i ∷ is) s → Q is (change_run r.number want s)
  carried-called_off i is r s live done h =
      keeps.changes.wants is r.number s tt
      (keeps.drops i is s (found-done i (Some r) s live done) tt h)

  carried-retry_run : (r : Run) (i : Item) (a : After) (error : List ℕ) (s : State) → live_run i.run s ≡ Some r
      → Q (i ∷ []) s → Q [] (retry_run r i a error s)
  carried-retry_run r i a error s e h =
      (elim (is_recorded i.target r.steps) as (λ b. is_recorded i.target r.steps ≡ b
      → Q [] (elim b as (λ _. State) [
        | true ↦ change_run r.number want s
        | false ↦ elim (nat_lt i.attempt (retries_of r s)) as (λ _. State)
            [ true ↦ queue (again i a s) s | false ↦ fail_run r error s ]
      ])) [
        | true ↦ λ done. carried-called_off i [] r s e done h
        | false ↦ λ new. elim (nat_lt i.attempt (retries_of r s)) as (λ b. Q [] (elim b as (λ _. State)
            [ true ↦ queue (again i a s) s | false ↦ fail_run r error s ])) [
              | true ↦ keeps.queues i (again i a s) [] r s (refl, refl) (λ none. refl) e new tt h
              | false ↦ carried-failed K keeps.changes [] r error s (carried-ended_with i [] r Failed s e h)
            ]
      ]) refl

  carried-retry_found : (found : Option Run) (i : Item) (a : After) (error : List ℕ) (s : State)
      → live_run i.run s ≡ found → Q (i ∷ []) s → Q [] (retry_found found i a error s)
  carried-retry_found None i a error s e h = keeps.drops i [] s (found-done i None s e tt) tt h
  carried-retry_found (Some r) i a error s e h = carried-retry_run r i a error s e h

  carried-retry : (i : Item) (a : After) (error : List ℕ) (s : State) → Q (i ∷ []) s → Q [] (retry i a error s)
  carried-retry i a error s h = carried-retry_found (live_run i.run s) i a error s refl h

  -- ## After the operations

  carried-after_found : (found : Option Run) (i : Item) (a : After) (s : State) → live_run i.run s ≡ found
      → Q [] s → Q (i ∷ []) s → Q [] (after_found found i a s)
  carried-after_found None i a s e left h = left
  carried-after_found (Some r) i a s e left h =
      elim (is_idle r s) as (λ b. Q [] (elim b as (λ _. State)
      [ true ↦ retry_run r i a moved_nothing s | false ↦ s ]))
      [ true ↦ carried-retry_run r i a moved_nothing s e h | false ↦ left ]

  carried-finished : (i : Item) (a : After) (t : Taking) → (t.again ≡ false → Q [] t.state) → Q (i ∷ []) t.state
      → Q [] (finished i a t)
  carried-finished i a t left h =
      (elim t.again as (λ b. (b ≡ false → Q [] t.state) → Q [] (elim b as (λ _. State) [
        | true ↦ retry i a [] t.state
        | false ↦ after_found (live_run i.run t.state) i a t.state
      ])) [
        | true ↦ λ k. carried-retry i a [] t.state h
        | false ↦ λ k. carried-after_found (live_run i.run t.state) i a t.state refl (k refl) h
      ]) left

  -- ## Outcomes

  carried-take_ops : (r : Run) (i : Item) (ops : List Op) (no_retry : Bool) (a : After) (s : State)
      → AreNamed ops → live_run i.run s ≡ Some r → Q (i ∷ []) s → Q [] (take_ops r i ops no_retry a s)
  carried-take_ops r i ops no_retry a s own e h =
      (elim (lacks_target i ops) as (λ b. lacks_target i ops ≡ b → Q [] (elim b as (λ _. State) [
        | true ↦ retry_run r i a (error_object (codes "target missing")) s
        | false ↦ finished i a (take_operations i no_retry ops (begun s))
      ])) [
        | true ↦ λ lacks. carried-retry_run r i a (error_object (codes "target missing")) s e h
        | false ↦ λ has. carried-finished i a (take_operations i no_retry ops (begun s))
            (λ over. keeps.leaves i no_retry ops s has own over tt h tt
            (carried-take_operations K keeps.changes i no_retry ops (begun s) own h))
            (carried-take_operations K keeps.changes i no_retry ops (begun s) own h)
      ]) refl

  carried-take_outcome : (r : Run) (i : Item) (o : Outcome) (s : State) → NamesSteps o → live_run i.run s ≡ Some r
      → Q (i ∷ []) s → Q [] (take_outcome r i o s)
  carried-take_outcome r i (outcome.Ended output) s own e h =
      carried-completed K keeps.changes [] r output s (carried-ended_with i [] r Completed s e h)
  carried-take_outcome r i (outcome.Ops ops no_retry a) s own e h = carried-take_ops r i ops no_retry a s own e h
  carried-take_outcome r i (outcome.Retry a error) s own e h = carried-retry_run r i a error s e h
  carried-take_outcome r i (outcome.NoRetry error) s own e h =
      carried-failed K keeps.changes [] r error s (carried-ended_with i [] r Failed s e h)
  carried-take_outcome r i (outcome.Unreadable at) s own e h =
      carried-retry_run r i after.None (error_object (codes "unreadable reply")) s e h

  carried-reply_found : (found : Option Run) (i : Item) (reply : ReplyIn) (s : State)
      → live_run i.run s ≡ found → Q (i ∷ []) s → Q [] (reply_found found i reply s)
  carried-reply_found None i reply s e h = keeps.drops i [] s (found-done i None s e tt) tt h
  carried-reply_found (Some r) i reply s e h =
      carried-discover K keeps.changes (take_outcome r i (outcome_of reply) s)
      (carried-take_outcome r i (outcome_of reply) s (named-outcome reply) e h)

  -- ## Replies and failures of calls

  carried-take_reply : (call : ℕ) (found : Option Issue) (reply : ReplyIn) (s : State)
      → CallsRise s.issues → open_issue call s ≡ found → Q [] s → Q [] (take_reply found reply s)
  carried-take_reply call None reply s rise e h = h
  carried-take_reply call (Some i) reply s rise e h =
      carried-reply_found (live_run i.item.run s) i.item reply (close i.call s) refl
      (keeps.closes i s rise (in-found (has_call call) s.issues i e) tt h)

  pub carried-on_reply : (call : ℕ) (reply : ReplyIn) (s : State) → CallsRise s.issues → Q [] s
      → Q [] (on_reply call reply s)
  unfolding on_reply
  carried-on_reply call reply s rise h = carried-take_reply call (open_issue call s) reply s rise refl h

  pub carried-fail_call : (i : Issue) (error : List ℕ) (s : State) → CallsRise s.issues → IsIn i s.issues → Q [] s
      → Q [] (fail_call i error s)
  carried-fail_call i error s rise there h =
      carried-discover K keeps.changes (retry i.item after.None error (close i.call s))
      (carried-retry i.item after.None error (close i.call s) (keeps.closes i s rise there tt h))

  carried-fail_found : (call : ℕ) (found : Option Issue) (error : List ℕ) (s : State)
      → CallsRise s.issues → open_issue call s ≡ found → Q [] s → Q [] (fail_found found error s)
  carried-fail_found call None error s rise e h = h
  carried-fail_found call (Some i) error s rise e h =
      carried-fail_call i error s rise (in-found (has_call call) s.issues i e) h

  pub carried-on_call_failed : (call : ℕ) (s : State) → CallsRise s.issues → Q [] s → Q [] (on_call_failed call s)
  unfolding on_call_failed
  carried-on_call_failed call s rise h =
      carried-fail_found call (open_issue call s) (error_object (codes "call failed")) s rise refl h

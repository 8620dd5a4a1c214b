-- No item is queued for a step that is recorded, at each change and so through each step; so no call is made for one.
use Rattle.std.proofs.Common.{◌≡◌, ℕ, ◌+◌, ◌==◌, Bool, true, false, not, ◌&&◌, ◌||◌, cond, List, [], ◌∷◌, ◌++◌, filter, find, min, Option, Some, None, IfSome, is_some, option_map, refl, sym, ap, ◌∙◌, subst, bytes_eq, arith, eqb-true}
use Rattle.std.specs.List.{AllByRecursion}
use Rattle.kinds.specs.Inputs.{reading}
use Rattle.kinds.specs.Moments.{last_moment}
use Rattle.kinds.specs.Queue.{has_number, has_run, without_number}
use Rattle.kinds.specs.RunSteps.{known, has_name, is_known, is_pending, is_planned, is_recorded, note_plan, pend_step, plan_step, with_room}
use Rattle.kinds.specs.Windows as windows
use Rattle.kinds.specs.declared.event.EventIn.{EventIn}
use Rattle.kinds.specs.declared.input.Input.{Input}
use Rattle.kinds.specs.declared.limits.Limits.{Limits}
use Rattle.kinds.specs.declared.out.Out.{Out}
use Rattle.kinds.specs.declared.out.Out.TheVariants as out
use Rattle.kinds.specs.declared.store.Item.{Item}
use Rattle.kinds.specs.declared.store.Pending.{Pending}
use Rattle.kinds.specs.declared.store.Pending.TheVariants as pending
use Rattle.functions.specs.declared.entry.FunctionEntry.{FunctionEntry}
use Rattle.lists.proofs.Elements.{all-both, all-filter, all-weaker, filter-passes}
use Rattle.lists.proofs.Texts.{bytes_flip, bytes_self}
use Rattle.run_model.specs.Advance.{advance, without_window}
use Rattle.run_model.specs.Events.{add_event, event_with}
use Rattle.run_model.specs.Making.{is_item_of, new_item, queue, queue_new, step_target}
use Rattle.run_model.specs.Machine.{count_input, fold, state_after, step}
use Rattle.run_model.specs.Recording.{changed, record_in, result_for}
use Rattle.run_model.specs.Replies.{again, pend, plan_named, want, with_plan, with_steps}
use Rattle.run_model.specs.Requests.{remember}
use Rattle.run_model.specs.Settle.{call_found, called, issue, item_at}
use Rattle.run_model.specs.Settled.{AreItemsNew, CallsNew, IsItemNew, IsNewStep}
use Rattle.run_model.specs.State.{State, Run, empty, live_run, moment_at, tidied}
use Rattle.run_model.proofs.FitEvents.{find-last, found-left}
use Rattle.run_model.proofs.FitRuns.{all-queued}
use Rattle.run_model.proofs.FitWindows.{not-true}
use Rattle.run_model.proofs.Kept.{Adds, IsLive, Keeps, freely, run_from, window_after, with_offer}
use Rattle.run_model.proofs.KeptReplies.{KeepsCalls, dropping}
use Rattle.run_model.proofs.KeptSteps.{KeepsSteps, goes-on, kept-act, kept-advance, kept-step}
use Rattle.run_model.proofs.Members.{in-all, in-found}
use Rattle.run_model.proofs.SettlingLists.{find-map, found-passes}
use Rattle.run_model.proofs.SettlingOuts.{Says, said-step}

-- ## Runs that change

-- a run keeps its number, and has the same results
abbrev Same : (Run → Run) → Type 0
Same f = (r : Run) → ((f r).number ≡ r.number) × ((f r).steps.recorded ≡ r.steps.recorded)

abbrev pub change : ℕ → (Run → Run) → Run → Run
change number f r = cond (number == r.number) (f r) r

pub change-number : (number : ℕ) (f : Run → Run) → ((r : Run) → (f r).number ≡ r.number) → (r : Run)
    → (change number f r).number ≡ r.number
change-number number f same r =
    elim (number == r.number) as (λ b. (cond b (f r) r).number ≡ r.number) [ true ↦ same r | false ↦ refl ]

-- the run of a number is the one that was, changed where it is the one that changes
pub found-changed : (run number : ℕ) (f : Run → Run) (live : List Run) → ((r : Run) → (f r).number ≡ r.number)
    → find (λ (r : Run). run == r.number) (changed number f live)
    ≡ option_map (change number f) (find (λ (r : Run). run == r.number) live)
found-changed run number f live same =
    find-map (λ (r : Run). run == r.number) (change number f) live
    (λ r. ap (λ n. run == n) (change-number number f same r))

abbrev Lacks : List ℕ → Run → Type 0
Lacks name r = is_recorded name r.steps ≡ false

lacks-same : (name : List ℕ) (number : ℕ) (f : Run → Run) (r : Run) → Same f → Lacks name r
    → Lacks name (change number f r)
lacks-same name number f r same h =
    elim (number == r.number) as (λ b. Lacks name (cond b (f r) r)) [
      | true ↦ ap (λ es. is_some (find (has_name name) es)) (same r).1 ∙ h
      | false ↦ h
    ]

of-changed : (Q : Run → Type 0) (g : Run → Run) (found : Option Run)
    → ((r : Run) → found ≡ Some r → Q r → Q (g r)) → IfSome found Q → IfSome (option_map g found) Q
of-changed Q g None keeps h = h
of-changed Q g (Some r) keeps h = keeps r refl h

new-changed : (run : ℕ) (name : List ℕ) (number : ℕ) (f : Run → Run) (live : List Run)
    → ((r : Run) → (f r).number ≡ r.number)
    → ((r : Run) → find (λ (r : Run). run == r.number) live ≡ Some r → Lacks name r
    → Lacks name (change number f r))
    → IsNewStep live run name → IsNewStep (changed number f live) run name
new-changed run name number f live same keeps h =
    subst (λ found. IfSome found (Lacks name)) (sym (found-changed run number f live same))
    (of-changed (Lacks name) (change number f) (find (λ (r : Run). run == r.number) live) keeps h)

pub new-same : (run : ℕ) (name : List ℕ) (number : ℕ) (f : Run → Run) (live : List Run) → Same f
    → IsNewStep live run name → IsNewStep (changed number f live) run name
new-same run name number f live same h =
    new-changed run name number f live (λ r. (same r).0) (λ r found k. lacks-same name number f r same k) h

items-same : (number : ℕ) (f : Run → Run) (live : List Run) (items : List Item) → Same f
    → AllByRecursion (IsItemNew live) items → AllByRecursion (IsItemNew (changed number f live)) items
items-same number f live items same h =
    all-weaker (IsItemNew live) (IsItemNew (changed number f live)) items
    (λ (i : Item) k step. new-same i.run i.target number f live same (k step)) h

-- ## A step is recorded

and-not : (a b : Bool) → a ≡ true → not (a && b) ≡ true → b ≡ false
and-not true b e h = not-true b h
and-not false b e h = absurd (cc)

-- a result for another name
lacks-recorded : (name other result : List ℕ) (r : Run) → bytes_eq other name ≡ false → Lacks name r
    → Lacks name (record_in other result r)
lacks-recorded name other result r differs h =
    ap is_some (find-last (has_name name) r.steps.recorded
    (record { hash = other; result = result_for result r })
    (λ same. let no : bytes_eq other name ≡ true = bytes_flip other name ∙ same in absurd (cc))) ∙ h

lacks-after : (run : ℕ) (name result : List ℕ) (i : Item) (live : List Run)
    → not (is_item_of run name i) ≡ true → (r : Run)
    → find (λ (r : Run). i.run == r.number) live ≡ Some r → Lacks i.target r
    → Lacks i.target (change run (record_in name result) r)
lacks-after run name result i live other r found h =
    let own : i.run ≡ r.number =
    eqb-true i.run r.number (found-passes (λ (r : Run). i.run == r.number) live r found) in
    (elim (run == r.number) as (λ b. (run == r.number) ≡ b → Lacks i.target (cond b (record_in name result r) r)) [
      | true ↦ λ e. lacks-recorded i.target name result r
          (and-not (run == i.run) (bytes_eq name i.target) (subst (λ n. (run == n) ≡ true) (sym own) e) other) h
      | false ↦ λ e. h
    ]) refl

items-recorded : (run : ℕ) (name result : List ℕ) (live : List Run) (items : List Item)
    → AllByRecursion (IsItemNew live) items
    → AllByRecursion (IsItemNew (changed run (record_in name result) live))
    (filter (λ i. not (is_item_of run name i)) items)
items-recorded run name result live items h =
    let test : Item → Bool = λ i. not (is_item_of run name i) in
    all-both (IsItemNew live) (λ i. test i ≡ true) (IsItemNew (changed run (record_in name result) live))
    (filter test items)
    (λ (i : Item) k other step. new-changed i.run i.target run (record_in name result) live (λ r. refl)
    (lacks-after run name result i live other) (k step))
    (all-filter (IsItemNew live) test items h) (filter-passes test items)

-- ## Runs that come and go

found-more : (Q : Run → Type 0) (p : Run → Bool) (rs : List Run) (r : Run) → Q r → IfSome (find p rs) Q
    → IfSome (find p (rs ++ r ∷ [])) Q
found-more Q p [] r own h = elim (p r) as (λ b. IfSome (cond b (Some r) None) Q) [ true ↦ own | false ↦ tt ]
found-more Q p (x ∷ rs) r own h =
    (elim (p x) as (λ b. IfSome (cond b (Some x) (find p rs)) Q → IfSome (cond b (Some x) (find p (rs ++ r ∷ []))) Q)
    [ true ↦ λ k. k | false ↦ found-more Q p rs r own ]) h

-- a new run has no results
items-started : (r : Run) (live : List Run) (items : List Item) → r.steps.recorded ≡ []
    → AllByRecursion (IsItemNew live) items → AllByRecursion (IsItemNew (live ++ r ∷ [])) items
items-started r live items none h =
    all-weaker (IsItemNew live) (IsItemNew (live ++ r ∷ [])) items
    (λ (i : Item) k step. found-more (Lacks i.target) (λ (x : Run). i.run == x.number) live r
    (ap (λ es. is_some (find (has_name i.target) es)) none) (k step)) h

items-ended : (number : ℕ) (live : List Run) (items : List Item) → AllByRecursion (IsItemNew live) items
    → AllByRecursion (IsItemNew (filter (λ (r : Run). not (number == r.number)) live))
    (filter (λ i. not (has_run number i)) items)
items-ended number live items h =
    let left : List Run = filter (λ (r : Run). not (number == r.number)) live in
    all-filter (IsItemNew left) (λ i. not (has_run number i)) items
    (all-weaker (IsItemNew live) (IsItemNew left) items
    (λ (i : Item) k step. found-left (Lacks i.target) (λ (x : Run). i.run == x.number)
    (λ (r : Run). not (number == r.number)) (not (number == i.run)) live
    (λ (x : Run) same. ap (λ n. not (number == n)) (sym (eqb-true i.run x.number same))) (k step)) h)

-- ## Items that are queued

items-queued : (i : Item) (s : State) → IsItemNew s.live i → AreItemsNew s → AreItemsNew (queue i s)
items-queued i s own h = all-queued (IsItemNew s.live) i s.items own h

-- to find out what comes next
items-found_out : (r : Run) (s : State) → AreItemsNew s → AreItemsNew (queue_new r step_target s)
items-found_out r s h =
    items-queued (new_item r step_target s) (record s { entries = s.entries + 1 })
    (λ step. let no : bytes_eq step_target step_target ≡ true = bytes_self step_target in absurd (cc)) h

-- a name that is planned now was not recorded
adds-unrecorded : (name : List ℕ) (r : Run) → Adds (note_plan name r.steps) → Lacks name r
adds-unrecorded name r h = by_test (is_known name r.steps) refl h
  where
    first : (a b c : Bool) → (a || b || c) ≡ false → a ≡ false
    first true b c e = absurd (cc)
    first false b c e = refl

    by_test : (b : Bool) → is_known name r.steps ≡ b
        → Adds (cond b known (with_room (plan_step name r.steps) r.steps)) → Lacks name r
    by_test true e k = absurd k
    by_test false e k =
        first (is_recorded name r.steps) (is_planned name r.steps) (is_pending name r.steps) e

same-plan : (name : List ℕ) → Same (with_plan name)
same-plan name r = (refl, refl)

items-planned : (r : Run) (name : List ℕ) (s : State) → IsLive r s → Adds (note_plan name r.steps)
    → AreItemsNew s → AreItemsNew (plan_named r name s)
items-planned r name s live adds h =
    let own : IsNewStep s.live r.number name =
    subst (λ found. IfSome found (Lacks name)) (sym live) (adds-unrecorded name r adds) in
    let after : List Run = changed r.number (with_plan name) s.live in
    items-queued (new_item r name s) (record s { entries = s.entries + 1; live = after })
    (λ step. new-same r.number name r.number (with_plan name) s.live (same-plan name) own)
    (items-same r.number (with_plan name) s.live s.items (same-plan name) h)

-- ## The changes

abbrev pends : Pending → List ℕ → Run → Run
pends kind name r = with_steps (pend_step name kind r.steps) r

items-pended : (kind : Pending) (name : List ℕ) (r : Run) (s : State) → AreItemsNew s
    → AreItemsNew (pend kind name r s)
items-pended kind name r s h = items-same r.number (pends kind name) s.live s.items (λ q. (refl, refl)) h

items-accepted : (event : EventIn) (id : Option (List ℕ)) (s : State) → AreItemsNew s
    → AreItemsNew (add_event (event_with event s) (remember id s))
items-accepted event None s h = h
items-accepted event (Some id) s h = h

keeps-new : Keeps AreItemsNew
keeps-new = freely AreItemsNew (record {
  accepts = λ event id s new h. items-accepted event id s h;
  starts = λ f event parent s there given h.
      items-started (run_from f (event ∷ []) parent s) s.live s.items refl h;
  fills = λ f r value event s may full h. items-started
      (run_from f (windows.events_of (window_after f r value event s)) None (with_offer f r value event s)) s.live
      s.items refl h;
  fires = λ f w s there stands h. items-started
      (run_from f (windows.events_of w) None (without_window (windows.number_of w) s)) s.live s.items refl h;
  joins = λ f r value event s may full h. h;
  windows_go = λ number s h. h;
  rules = λ r event c s there e h. h;
  finds_out = λ r s there h. items-found_out r s h;
  wants = λ r s live h. items-same r.number want s.live s.items (λ q. (refl, refl)) h;
  plans = λ r name s live new h. items-planned r name s live new h;
  sleeps = λ r name t s live new h. items-pended pending.Sleep name r s h;
  waits = λ r name event t cond s live new h. items-pended pending.Wait name r s h;
  pends = λ r name s live new h. items-pended pending.Invocation name r s h;
  invokes = λ r name child t s there h. h;
  ends = λ r status s live h. items-ended r.number s.live s.items h;
}) (record {
  records = λ run name result s h. items-recorded run name result s.live s.items h;
  sleeps_go = λ test s h. h;
  waits_go = λ test s h. h;
  invocations_go = λ test s h. h;
  rules_go = λ test s h. h;
})

new-calls : KeepsCalls (λ is s. AreItemsNew s)
new-calls = dropping (λ is s. AreItemsNew s) (record {
  runs = λ is. keeps-new;
  closes = λ i s there h. h;
  reopens = λ s h. h;
  drops = λ i is s h. h;
  retries = λ i is a r s live new h. items-queued (again i a s) s
      (λ step. subst (λ found. IfSome found (Lacks i.target)) (sym live) new) h;
  requeues = λ i is r s live new h. items-queued (record i { due = s.moment }) s
      (λ step. subst (λ found. IfSome found (Lacks i.target)) (sym live) new) h;
})

pub new-issue : (i : Item) (s : State) → AreItemsNew s → AreItemsNew (issue i s)
new-issue i s h =
    let left : List Item = without_number i.number s.items in
    items-same i.run (called i.target) s.live left (λ q. (refl, refl))
    (all-filter (IsItemNew s.live) (λ j. not (has_number i.number j)) s.items h)

new-tidied : (s : State) → AreItemsNew s → AreItemsNew (tidied s)
unfolding tidied
new-tidied s h = h

pub new-steps : (bound : ℕ) → KeepsSteps bound (λ input. Unit {0}) (λ is s. AreItemsNew s)
new-steps bound = record {
  calls = new-calls;
  counts = λ s h. h;
  moves = λ t next s low e h. h;
  arrives = λ t s low on before h. h;
  issues = λ number i s next there h. new-issue i s h;
  registers = λ at app s asked h. h;
  tidies = λ s h. new-tidied s h;
}

pub new-step : (s : State) (input : Input) → AreItemsNew s → AreItemsNew (step s input).state
new-step s input h =
    let bound : ℕ = moment_at (reading input) s in
    kept-step bound (λ input. Unit {0}) (λ is s. AreItemsNew s) (new-steps bound) s input (omega arith) tt h

new-after : (inputs : List Input) (s : State) → AreItemsNew s → AreItemsNew (state_after s inputs)
new-after [] s h = h
new-after (input ∷ inputs) s h = new-after inputs (step s input).state (new-step s input h)

pub new-fold : (limits : Limits) (inputs : List Input) → AreItemsNew (fold limits inputs)
new-fold limits inputs = new-after inputs (empty limits) tt

-- ## Calls

called-same : (i : Item) → Same (called i.target)
called-same i r = (refl, refl)

-- a call is made for an item that was queued
calls-new : (number : ℕ) (i : Item) (r : Run) (f : Option FunctionEntry) (s : State) → item_at number s ≡ Some i
    → live_run i.run s ≡ Some r → AreItemsNew s
    → AllByRecursion (CallsNew (issue i s)) (call_found f r i (s.calls + 1) s)
calls-new number i r None s there live h = tt
calls-new number i r (Some f) s there live h = (
  λ step. subst (λ run. IsNewStep (changed i.run (called i.target) s.live) run i.target)
      (eqb-true i.run r.number (found-passes (λ (x : Run). i.run == x.number) s.live r live))
      (new-same i.run i.target i.run (called i.target) s.live (called-same i)
      (in-all (IsItemNew s.live) i s.items (in-found (has_number number) s.items i there) h step)),
  tt,
)

calls-stay : (i : Item) (s : State) (o : Out) → CallsNew s o → CallsNew (issue i s) o
calls-stay i s (out.Call call function target run attempt steps events host port path body) h =
    λ step. new-same run target i.run (called i.target) s.live (called-same i) (h step)
calls-stay i s (out.Answer status body) h = tt
calls-stay i s (out.Hang call) h = tt

calls-tidied : (s : State) (o : Out) → CallsNew s o → CallsNew (tidied s) o
unfolding tidied
calls-tidied s (out.Call call function target run attempt steps events host port path body) h = h
calls-tidied s (out.Answer status body) h = tt
calls-tidied s (out.Hang call) h = tt

says-new : Says AreItemsNew CallsNew
says-new = record {
  goes_on = λ number i s there h. new-issue i s h;
  calls = calls-new;
  stays = calls-stay;
  tidies = calls-tidied;
  hangs = λ s call. tt;
  answers = λ s status body. tt;
}

pub called-new : (s : State) (input : Input) → AreItemsNew s
    → AllByRecursion (CallsNew (step s input).state) (step s input).outs
called-new s input h =
    let t : ℕ = moment_at (reading input) s in
    said-step AreItemsNew CallsNew says-new s input
    (kept-act t (λ input. Unit {0}) (λ is s. AreItemsNew s) (new-steps t) input
    (advance t (count_input s)).state tt
    (kept-advance t (λ input. Unit {0}) (λ is s. AreItemsNew s) (new-steps t) t (count_input s) (omega arith)
    (goes-on s.moment (min (reading input) last_moment)) h))

pub called-new_in : (limits : Limits) (inputs : List Input) (input : Input)
    → AllByRecursion (CallsNew (step (fold limits inputs) input).state) (step (fold limits inputs) input).outs
called-new_in limits inputs input = called-new (fold limits inputs) input (new-fold limits inputs)

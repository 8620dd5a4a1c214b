-- A fit state stays so where runs, items and what waits change.
use Rattle.std.proofs.Common.{◌≡◌, ℕ, ◌+◌, ◌≤◌, ◌==◌, Bool, true, false, not, ◌&&◌, cond, List, [], ◌∷◌, ◌++◌, filter, Option, Some, None, IfSome, refl, sym, subst, nat_lt, bytes_eq, arith}
use Rattle.std.specs.List.{AllByRecursion}
use Rattle.std.specs.Option.{option_map}
use Rattle.std.specs.Ordering.{is_lt, nat_cmp}
use Rattle.kinds.specs.Cells.{IsStart}
use Rattle.kinds.specs.Queue.{has_run, insert_item, without_run}
use Rattle.kinds.specs.RunSteps.{RunSteps, pend_step, plan_step, record_step}
use Rattle.kinds.specs.declared.cell.Cell.{Cell}
use Rattle.kinds.specs.declared.function.CancelEntry.{CancelEntry}
use Rattle.kinds.specs.declared.reply.Time.{Time}
use Rattle.kinds.specs.declared.store.Item.{Item}
use Rattle.kinds.specs.declared.store.Pending.{Pending}
use Rattle.kinds.specs.declared.store.Pending.TheVariants as pending
use Rattle.kinds.specs.declared.store.Rule.{Rule}
use Rattle.kinds.specs.declared.store.RunStatus.{RunStatus}
use Rattle.lists.proofs.Elements.{all-filter, all-last}
use Rattle.lists.specs.Entries.{insert_by}
use Rattle.event_keys.specs.Buckets.{bucket_of}
use Rattle.run_model.specs.Ends.{end_run, ended_run, first_text, run_number}
use Rattle.run_model.specs.Fit.{AreGiven, IsBucketOf, IsFit, IsItemFit, IsRuleFit, IsRunFit, IsWaitFit}
use Rattle.run_model.specs.Laws.{IsIn}
use Rattle.run_model.specs.Making.{add_rule, first_of, is_item_of, new_item, new_rule, queue, queue_new, step_target, text_or_none, unless}
use Rattle.run_model.specs.Recording.{change_run, changed, record_in, record_result, result_for, without_item}
use Rattle.run_model.specs.Replies.{add_invocation, add_sleep, add_wait, due_at, new_sleep, pend, plan_named, wait_with, want, with_plan, with_steps}
use Rattle.run_model.specs.Settle.{called}
use Rattle.run_model.specs.State.{State, Run, EventText, Sleep, Waiting, Invocation, text_of}
use Rattle.run_model.proofs.FitCounts.{fit-calls, fit-closing, fit-conditions, fit-entries, fit-live, fit-rest, fit-times}
use Rattle.run_model.proofs.Kept.{IsLive}
use Rattle.run_model.proofs.Members.{in-all, in-found}

-- ## Lists in order

pub all-inserted : {X : Type 0} (P : X → Type 0) (number : X → ℕ) (x : X) (xs : List X) → P x
    → AllByRecursion P xs → AllByRecursion P (insert_by number x xs)
all-inserted P number x [] own h = (own, tt)
all-inserted P number x (y ∷ ys) own h =
    elim (is_lt (nat_cmp (number x) (number y)))
    as (λ b. AllByRecursion P (cond b (x ∷ y ∷ ys) (y ∷ insert_by number x ys)))
    [ true ↦ (own, h) | false ↦ (h.0, all-inserted P number x ys own h.1) ]

pub all-queued : (P : Item → Type 0) (i : Item) (is : List Item) → P i → AllByRecursion P is
    → AllByRecursion P (insert_item i is)
all-queued P i [] own h = (own, tt)
all-queued P i (j ∷ is) own h =
    elim (nat_lt i.number j.number) as (λ b. AllByRecursion P (cond b (i ∷ j ∷ is) (j ∷ insert_item i is)))
    [ true ↦ (own, h) | false ↦ (h.0, all-queued P i is own h.1) ]

-- ## Runs that change

pub all-changed : (P : Run → Type 0) (number : ℕ) (f : Run → Run) (rs : List Run) → ((r : Run) → P r → P (f r))
    → AllByRecursion P rs → AllByRecursion P (changed number f rs)
all-changed P number f [] keeps h = h
all-changed P number f (r ∷ rs) keeps h =
    let one : P (cond (number == r.number) (f r) r) =
    elim (number == r.number) as (λ b. P (cond b (f r) r)) [ true ↦ keeps r h.0 | false ↦ h.0 ] in
    (one, all-changed P number f rs keeps h.1)

-- its steps and its marks are others
run-changed : (runs events versions : ℕ) (r : Run) (steps : RunSteps) (wanted planned begun : Bool)
    → IsRunFit runs events versions r
    → IsRunFit runs events versions
    (record r { steps = steps; wanted = wanted; planned = planned; started = begun })
run-changed runs events versions r steps wanted planned begun h = record {
  number = h.number;
  version = h.version;
  named = h.named;
  moment = h.moment;
  shift = h.shift;
  start = h.start;
}

fit-changed : (number : ℕ) (f : Run → Run) (s : State)
    → ((r : Run) → IsRunFit s.runs s.events s.versions r → IsRunFit s.runs s.events s.versions (f r))
    → IsFit s → IsFit (change_run number f s)
fit-changed number f s keeps h =
    fit-live (changed number f s.live) s
    (all-changed (IsRunFit s.runs s.events s.versions) number f s.live keeps h.live_fit) h

pub fit-wanted : (number : ℕ) (s : State) → IsFit s → IsFit (change_run number want s)
fit-wanted number s h = fit-changed number want s
    (λ q k. run-changed s.runs s.events s.versions q q.steps true q.planned q.started k) h

pub fit-want : (r : Run) (s : State) → IsFit s → IsFit (change_run r.number want s)
fit-want r s h = fit-wanted r.number s h

pub fit-called : (i : Item) (s : State) → IsFit s → IsFit (change_run i.run (called i.target) s)
fit-called i s h = fit-changed i.run (called i.target) s
    (λ q k. run-changed s.runs s.events s.versions q q.steps
    (q.wanted && not (bytes_eq i.target step_target)) q.planned true k) h

pub fit-pend : (kind : Pending) (name : List ℕ) (r : Run) (s : State) → IsFit s → IsFit (pend kind name r s)
fit-pend kind name r s h = fit-changed r.number (λ q. with_steps (pend_step name kind q.steps) q) s
    (λ q k. run-changed s.runs s.events s.versions q (pend_step name kind q.steps) q.wanted q.planned q.started
    k) h

-- ## Items

pub fit-items : (items : List Item) (s : State) → AllByRecursion (IsItemFit s.entries) items → IsFit s
    → IsFit (record s { items = items })
fit-items items s fits h =
    fit-calls s.calls items s.issues s (record { queued = fits; open_calls = h.calls_fit.open_calls }) h

pub fit-queue : (i : Item) (s : State) → IsItemFit s.entries i → IsFit s → IsFit (queue i s)
fit-queue i s fits h =
    fit-items (insert_item i s.items) s (all-queued (IsItemFit s.entries) i s.items fits h.calls_fit.queued) h

pub start-unless : (b : Bool) (start : Option Cell) → IsStart start → IsStart (unless b start)
start-unless true start h = tt
start-unless false start h = h

pub fit-new : (r : Run) (target : List ℕ) (s : State) → IsStart r.start → IsFit s → IsFit (queue_new r target s)
fit-new r target s start h =
    fit-queue (new_item r target s) (record s { entries = s.entries + 1 })
    (record { number = omega arith; start = start-unless r.started r.start start }) (fit-entries s h)

-- ## A run that has not ended

pub fit-one : (r : Run) (s : State) → IsIn r s.live → IsFit s → IsRunFit s.runs s.events s.versions r
fit-one r s there h = in-all (IsRunFit s.runs s.events s.versions) r s.live there h.live_fit

pub fit-found : (r : Run) (s : State) → IsLive r s → IsFit s → IsRunFit s.runs s.events s.versions r
fit-found r s live h = fit-one r s (in-found (λ (other : Run). r.number == other.number) s.live r live) h

pub fit-finds_out : (r : Run) (s : State) → IsIn r s.live → IsFit s → IsFit (queue_new r step_target s)
fit-finds_out r s there h = fit-new r step_target s (fit-one r s there h).start h

pub fit-plan_named : (r : Run) (name : List ℕ) (s : State) → IsLive r s → IsFit s → IsFit (plan_named r name s)
fit-plan_named r name s live h =
    fit-new r name (change_run r.number (with_plan name) s) (fit-found r s live h).start
    (fit-changed r.number (with_plan name) s
    (λ q k. run-changed s.runs s.events s.versions q (plan_step name q.steps) q.wanted true q.started k) h)

pub fit-record_result : (run : ℕ) (name result : List ℕ) (s : State) → IsFit s
    → IsFit (record_result run name result s)
fit-record_result run name result s h =
    let left : State = record s { items = without_item run name s.items } in
    fit-changed run (record_in name result) left
    (λ q k. run-changed s.runs s.events s.versions q (record_step name (result_for result q) q.steps) true
    q.planned q.started k)
    (fit-items (without_item run name s.items) s
    (all-filter (IsItemFit s.entries) (λ i. not (is_item_of run name i)) s.items h.calls_fit.queued) h)

-- ## Sleeps and invocations

pub fit-add_sleep : (r : Run) (name : List ℕ) (t : Time) (s : State) → IsFit s → IsFit (add_sleep r name t s)
fit-add_sleep r name t s h =
    let pended : State = record (pend pending.Sleep name r s) { entries = s.entries + 1 } in
    let fits : IsFit pended = fit-entries (pend pending.Sleep name r s) (fit-pend pending.Sleep name r s h) in
    fit-times (s.sleeps ++ new_sleep r name t s ∷ []) s.invocations pended
    (record {
      sleep_numbers = all-last (λ (e : Sleep). e.number ≤ s.entries + 1) s.sleeps (new_sleep r name t s)
          fits.times_fit.sleep_numbers (omega arith);
      invocation_numbers = fits.times_fit.invocation_numbers;
    }) fits

pub fit-add_invocation : (r : Run) (name : List ℕ) (child : ℕ) (t : Option Time) (s : State) → IsFit s
    → IsFit (add_invocation r name child t s)
fit-add_invocation r name child t s h =
    let fits : IsFit (record s { entries = s.entries + 1 }) = fit-entries s h in
    let added : Invocation = record {
      number = s.entries + 1;
      run = r.number;
      hash = name;
      child = child;
      due = option_map (λ t. due_at t s.moment) t;
    } in
    fit-times s.sleeps (s.invocations ++ added ∷ []) (record s { entries = s.entries + 1 })
    (record {
      sleep_numbers = fits.times_fit.sleep_numbers;
      invocation_numbers = all-last (λ (e : Invocation). e.number ≤ s.entries + 1) s.invocations added
          fits.times_fit.invocation_numbers (omega arith);
    }) fits

pub fit-sleeps : (test : Sleep → Bool) (s : State) → IsFit s
    → IsFit (record s { sleeps = filter test s.sleeps })
fit-sleeps test s h = fit-times (filter test s.sleeps) s.invocations s
    (record {
      sleep_numbers = all-filter (λ (e : Sleep). e.number ≤ s.entries) test s.sleeps h.times_fit.sleep_numbers;
      invocation_numbers = h.times_fit.invocation_numbers;
    }) h

pub fit-invocations : (test : Invocation → Bool) (s : State) → IsFit s
    → IsFit (record s { invocations = filter test s.invocations })
fit-invocations test s h = fit-times s.sleeps (filter test s.invocations) s
    (record {
      sleep_numbers = h.times_fit.sleep_numbers;
      invocation_numbers = all-filter (λ (e : Invocation). e.number ≤ s.entries) test s.invocations
          h.times_fit.invocation_numbers;
    }) h

-- ## Waits and rules

pub first-given : (count : ℕ) (ns : List ℕ) → AreGiven count ns → first_of ns ≤ count
first-given count [] h = omega arith
first-given count (n ∷ ns) h = h.0

pub bucket-found : (cond : Option (List ℕ)) (found : Option EventText)
    → IfSome found (λ e. bucket_of cond (text_or_none found) ≡ bucket_of cond e.text)
bucket-found cond None = tt
bucket-found cond (Some e) = refl

pub fit-add_wait : (r : Run) (name event : List ℕ) (t : Time) (cond : Option (List ℕ)) (s : State)
    → IsLive r s → IsFit s → IsFit (add_wait r name event t cond s)
fit-add_wait r name event t cond s live h =
    let pended : State = record (pend pending.Wait name r s) { entries = s.entries + 1 } in
    let fits : IsFit pended = fit-entries (pend pending.Wait name r s) (fit-pend pending.Wait name r s h) in
    fit-conditions (s.waits ++ wait_with r name event t cond s ∷ []) s.rules pended
    (record {
      each_wait = all-last (IsWaitFit s.events (s.entries + 1) s.texts) s.waits (wait_with r name event t cond s)
          fits.conditions_fit.each_wait
          (record {
            number = omega arith;
            first = first-given s.events r.events (fit-found r s live h).named;
            bucket = bucket-found cond (text_of (first_of r.events) s);
          });
      each_rule = fits.conditions_fit.each_rule;
    }) fits

pub fit-add_rule : (r : Run) (event : List ℕ) (c : CancelEntry) (s : State) → IsIn r s.live
    → event ≡ first_text r s → IsFit s → IsFit (add_rule r (first_of r.events) event c s)
fit-add_rule r event c s there e h =
    let fits : IsFit (record s { entries = s.entries + 1 }) = fit-entries s h in
    fit-conditions s.waits (s.rules ++ new_rule r (first_of r.events) event s c ∷ [])
    (record s { entries = s.entries + 1 })
    (record {
      each_wait = fits.conditions_fit.each_wait;
      each_rule = all-last (IsRuleFit s.events (s.entries + 1) s.texts) s.rules
          (new_rule r (first_of r.events) event s c) fits.conditions_fit.each_rule
          (record {
            number = omega arith;
            first = first-given s.events r.events (fit-one r s there h).named;
            bucket = subst (λ (w : List ℕ). IsBucketOf s.texts (first_of r.events) c.cond (bucket_of c.cond w))
                (sym e) (bucket-found c.cond (text_of (first_of r.events) s));
          });
    }) fits

pub fit-waits : (test : Waiting → Bool) (s : State) → IsFit s → IsFit (record s { waits = filter test s.waits })
fit-waits test s h = fit-conditions (filter test s.waits) s.rules s
    (record {
      each_wait = all-filter (IsWaitFit s.events s.entries s.texts) test s.waits h.conditions_fit.each_wait;
      each_rule = h.conditions_fit.each_rule;
    }) h

pub fit-rules : (test : Rule → Bool) (s : State) → IsFit s → IsFit (record s { rules = filter test s.rules })
fit-rules test s h = fit-conditions s.waits (filter test s.rules) s
    (record {
      each_wait = h.conditions_fit.each_wait;
      each_rule = all-filter (IsRuleFit s.events s.entries s.texts) test s.rules h.conditions_fit.each_rule;
    }) h

-- ## The end of a run

pub fit-end_run : (r : Run) (status : RunStatus) (s : State) → IsLive r s → IsFit s
    → IsFit (end_run r status s)
fit-end_run r status s live h =
    let fits : IsRunFit s.runs s.events s.versions r = fit-found r s live h in
    let a : State = record s { live = filter (λ (other : Run). not (r.number == other.number)) s.live } in
    let b : State = record a { closing = insert_by run_number r s.closing } in
    let c : State = record b { items = without_run r.number s.items } in
    let d : State = record c { sleeps = filter (λ (e : Sleep). not (r.number == e.run)) s.sleeps } in
    let e : State = record d { waits = filter (λ (e : Waiting). not (r.number == e.wait.run)) s.waits } in
    let f : State =
    record e { invocations = filter (λ (e : Invocation). not (r.number == e.run)) s.invocations } in
    let g : State = record f { rules = filter (λ (e : Rule). not (r.number == e.run)) s.rules } in
    fit-rest s.inputs s.starts (s.ended ++ ended_run r status s ∷ []) g
    (fit-rules (λ (e : Rule). not (r.number == e.run)) f
    (fit-invocations (λ (e : Invocation). not (r.number == e.run)) e
    (fit-waits (λ (e : Waiting). not (r.number == e.wait.run)) d
    (fit-sleeps (λ (e : Sleep). not (r.number == e.run)) c
    (fit-items (without_run r.number s.items) b
    (all-filter (IsItemFit s.entries) (λ i. not (has_run r.number i)) s.items h.calls_fit.queued)
    (fit-closing (insert_by run_number r s.closing) a
    (all-inserted (IsRunFit s.runs s.events s.versions) run_number r s.closing fits h.closing_fit)
    (fit-live (filter (λ (other : Run). not (r.number == other.number)) s.live) s
    (all-filter (IsRunFit s.runs s.events s.versions) (λ (other : Run). not (r.number == other.number)) s.live
    h.live_fit) h)))))))

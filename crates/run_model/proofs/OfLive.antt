-- Items, sleeps, waits, invocations and rules are of runs that have not ended, at each change and so through each step.
use Rattle.std.proofs.Common.{◌≡◌, ℕ, ◌+◌, ◌==◌, Bool, true, false, not, ◌||◌, cond, List, [], ◌∷◌, ◌++◌, filter, find, Option, Some, None, IsSomeAnd, is_some, option_map, refl, sym, subst, arith, eq-eqb, eqb-true}
use Rattle.std.specs.List.{AllByRecursion, list_any}
use Rattle.kinds.specs.Inputs.{reading}
use Rattle.kinds.specs.Queue.{has_number, insert_item, without_number}
use Rattle.kinds.specs.RunSteps.{pend_step}
use Rattle.kinds.specs.Windows as windows
use Rattle.kinds.specs.declared.event.EventIn.{EventIn}
use Rattle.kinds.specs.declared.function.CancelEntry.{CancelEntry}
use Rattle.kinds.specs.declared.input.Input.{Input}
use Rattle.kinds.specs.declared.limits.Limits.{Limits}
use Rattle.kinds.specs.declared.reply.Time.{Time}
use Rattle.kinds.specs.declared.store.Item.{Item}
use Rattle.kinds.specs.declared.store.Parent.{Parent}
use Rattle.kinds.specs.declared.store.Pending.{Pending}
use Rattle.kinds.specs.declared.store.Pending.TheVariants as pending
use Rattle.kinds.specs.declared.store.Rule.{Rule}
use Rattle.kinds.specs.declared.store.RunStatus.{RunStatus}
use Rattle.functions.specs.declared.entry.FunctionEntry.{FunctionEntry}
use Rattle.lists.proofs.Elements.{all-both, all-filter, all-last, all-weaker, filter-passes}
use Rattle.run_model.specs.Advance.{without_window}
use Rattle.run_model.specs.Ends.{end_run}
use Rattle.run_model.specs.Events.{add_event, event_with}
use Rattle.run_model.specs.Laws.{IsIn}
use Rattle.run_model.specs.Machine.{fold, state_after, step}
use Rattle.run_model.specs.Making.{add_rule, first_of, is_item_of, new_item, new_rule, queue, step_target}
use Rattle.run_model.specs.Recording.{change_run, changed, record_in, record_result, without_item}
use Rattle.run_model.specs.Replies.{add_invocation, add_sleep, add_wait, again, due_at, new_sleep, pend, plan_named, wait_with, want, with_plan, with_steps}
use Rattle.run_model.specs.Requests.{remember}
use Rattle.run_model.specs.Settle.{called, issue}
use Rattle.run_model.specs.Sound.{AreOfLive, is_live}
use Rattle.run_model.specs.State.{State, Run, Invocation, Sleep, Waiting, empty, live_run, moment_at, tidied}
use Rattle.run_model.proofs.FitRuns.{all-queued}
use Rattle.run_model.proofs.FitWindows.{not-true}
use Rattle.run_model.proofs.Kept.{IsLive, Keeps, freely, run_from, started, window_after, with_offer}
use Rattle.run_model.proofs.KeptReplies.{dropping}
use Rattle.run_model.proofs.KeptSteps.{KeepsSteps, kept-step}
use Rattle.run_model.proofs.LiveRuns.{IsOf, of-changed, of-more}
use Rattle.run_model.proofs.Members.{any-in, in-found}
use Rattle.run_model.proofs.SettlingLists.{any-found, found-passes, or-left, or-right}

-- ## Runs that have not ended

-- the end of another run
pub of-left : (number run : ℕ) (live : List Run) → (number == run) ≡ false → IsOf live run
    → IsOf (filter (λ (r : Run). not (number == r.number)) live) run
of-left number run [] other h = h
of-left number run (r ∷ live) other h =
    let left : List Run = filter (λ (q : Run). not (number == q.number)) live in
    (elim (run == r.number) as (λ b. (run == r.number) ≡ b
    → (b || list_any (λ (q : Run). run == q.number) live) ≡ true
    → list_any (λ (q : Run). run == q.number) (cond (not (number == r.number)) (r ∷ left) left) ≡ true) [
      | true ↦ λ own k.
          let stays : (number == r.number) ≡ false =
          subst (λ n. (number == n) ≡ false) (eqb-true run r.number own) other in
          subst (λ b. list_any (λ (q : Run). run == q.number) (cond (not b) (r ∷ left) left) ≡ true) (sym stays)
          (or-left (run == r.number) (list_any (λ (q : Run). run == q.number) left) own)
      | false ↦ λ differs k.
          let more : list_any (λ (q : Run). run == q.number) left ≡ true = of-left number run live other k in
          elim (number == r.number)
          as (λ b. list_any (λ (q : Run). run == q.number) (cond (not b) (r ∷ left) left) ≡ true)
          [ true ↦ more | false ↦ or-right (run == r.number) (list_any (λ (q : Run). run == q.number) left) more ]
    ]) refl h

of-one : (r : Run) (live : List Run) → IsIn r live → IsOf live r.number
of-one r live there =
    any-in (λ (q : Run). r.number == q.number) r live there (eq-eqb r.number r.number refl)

of-live : (run : ℕ) (r : Run) (s : State) → live_run run s ≡ Some r → IsOf s.live run
of-live run r s e =
    any-in (λ (q : Run). run == q.number) r s.live (in-found (λ (q : Run). run == q.number) s.live r e)
    (found-passes (λ (q : Run). run == q.number) s.live r e)

-- ## Lists

pub record AreOf (live : List Run) (items : List Item) (sleeps : List Sleep) (waits : List Waiting)
    (invocations : List Invocation) (rules : List Rule) : Type 0 where
  pub items_of : AllByRecursion (λ (i : Item). IsOf live i.run) items
  pub sleeps_of : AllByRecursion (λ (e : Sleep). IsOf live e.run) sleeps
  pub waits_of : AllByRecursion (λ (e : Waiting). IsOf live e.wait.run) waits
  pub invocations_of : AllByRecursion (λ (e : Invocation). IsOf live e.run) invocations
  pub rules_of : AllByRecursion (λ (e : Rule). IsOf live e.run) rules

abbrev pub AllOf : State → Type 0
AllOf s = AreOf s.live s.items s.sleeps s.waits s.invocations s.rules

-- each run that had not ended still hasn't
all-of : (before after : List Run) (items : List Item) (sleeps : List Sleep) (waits : List Waiting)
    (invocations : List Invocation) (rules : List Rule) → ((run : ℕ) → IsOf before run → IsOf after run)
    → AreOf before items sleeps waits invocations rules → AreOf after items sleeps waits invocations rules
all-of before after items sleeps waits invocations rules still h = record {
  items_of = all-weaker (λ (i : Item). IsOf before i.run) (λ (i : Item). IsOf after i.run) items
      (λ i k. still i.run k) h.items_of;
  sleeps_of = all-weaker (λ (e : Sleep). IsOf before e.run) (λ (e : Sleep). IsOf after e.run) sleeps
      (λ e k. still e.run k) h.sleeps_of;
  waits_of = all-weaker (λ (e : Waiting). IsOf before e.wait.run) (λ (e : Waiting). IsOf after e.wait.run) waits
      (λ e k. still e.wait.run k) h.waits_of;
  invocations_of = all-weaker (λ (e : Invocation). IsOf before e.run) (λ (e : Invocation). IsOf after e.run)
      invocations (λ e k. still e.run k) h.invocations_of;
  rules_of = all-weaker (λ (e : Rule). IsOf before e.run) (λ (e : Rule). IsOf after e.run) rules
      (λ e k. still e.run k) h.rules_of;
}

of-change : (number : ℕ) (f : Run → Run) (s : State) → ((r : Run) → (f r).number ≡ r.number) → AllOf s
    → AllOf (change_run number f s)
of-change number f s same h =
    all-of s.live (changed number f s.live) s.items s.sleeps s.waits s.invocations s.rules
    (λ run k. of-changed number run f s.live same k) h

of-started : (f : FunctionEntry) (events : List ℕ) (parent : Option Parent) (s : State) → AllOf s
    → AllOf (started f events parent s)
of-started f events parent s h =
    let r : Run = run_from f events parent s in
    all-of s.live (s.live ++ r ∷ []) s.items s.sleeps s.waits s.invocations s.rules
    (λ run k. of-more run s.live r k) h

of-items : (items : List Item) (s : State) → AllByRecursion (λ (i : Item). IsOf s.live i.run) items → AllOf s
    → AllOf (record s { items = items })
of-items items s of_items h = record {
  items_of = of_items;
  sleeps_of = h.sleeps_of;
  waits_of = h.waits_of;
  invocations_of = h.invocations_of;
  rules_of = h.rules_of;
}

of-queued : (i : Item) (s : State) → IsOf s.live i.run → AllOf s → AllOf (queue i s)
of-queued i s own h =
    of-items (insert_item i s.items) s (all-queued (λ (j : Item). IsOf s.live j.run) i s.items own h.items_of) h

-- ## Changes

of-recorded : (run : ℕ) (name result : List ℕ) (s : State) → AllOf s → AllOf (record_result run name result s)
of-recorded run name result s h =
    let left : List Item = without_item run name s.items in
    of-change run (record_in name result) (record s { items = left }) (λ r. refl)
    (of-items left s (all-filter (λ (i : Item). IsOf s.live i.run) (λ i. not (is_item_of run name i)) s.items
    h.items_of) h)

of-pended : (kind : Pending) (name : List ℕ) (r : Run) (s : State) → AllOf s → AllOf (pend kind name r s)
of-pended kind name r s h = of-change r.number (λ q. with_steps (pend_step name kind q.steps) q) s (λ q. refl) h

of-planned : (r : Run) (name : List ℕ) (s : State) → IsLive r s → AllOf s → AllOf (plan_named r name s)
of-planned r name s live h =
    let t : State = change_run r.number (with_plan name) s in
    of-queued (new_item r name t) (record t { entries = t.entries + 1 })
    (of-changed r.number r.number (with_plan name) s.live (λ q. refl) (of-live r.number r s live))
    (of-change r.number (with_plan name) s (λ q. refl) h)

of-sleep : (r : Run) (name : List ℕ) (t : Time) (s : State) → IsLive r s → AllOf s → AllOf (add_sleep r name t s)
of-sleep r name t s live h =
    let k : AllOf (pend pending.Sleep name r s) = of-pended pending.Sleep name r s h in
    let after : List Run = (pend pending.Sleep name r s).live in
    record {
      items_of = k.items_of;
      sleeps_of = all-last (λ (e : Sleep). IsOf after e.run) s.sleeps (new_sleep r name t s) k.sleeps_of
          (of-changed r.number r.number (λ q. with_steps (pend_step name pending.Sleep q.steps) q) s.live
          (λ q. refl) (of-live r.number r s live));
      waits_of = k.waits_of;
      invocations_of = k.invocations_of;
      rules_of = k.rules_of;
    }

of-wait : (r : Run) (name event : List ℕ) (t : Time) (cond : Option (List ℕ)) (s : State) → IsLive r s → AllOf s
    → AllOf (add_wait r name event t cond s)
of-wait r name event t cond s live h =
    let k : AllOf (pend pending.Wait name r s) = of-pended pending.Wait name r s h in
    let after : List Run = (pend pending.Wait name r s).live in
    record {
      items_of = k.items_of;
      sleeps_of = k.sleeps_of;
      waits_of = all-last (λ (e : Waiting). IsOf after e.wait.run) s.waits (wait_with r name event t cond s)
          k.waits_of
          (of-changed r.number r.number (λ q. with_steps (pend_step name pending.Wait q.steps) q) s.live
          (λ q. refl) (of-live r.number r s live));
      invocations_of = k.invocations_of;
      rules_of = k.rules_of;
    }

of-rule : (r : Run) (event : List ℕ) (c : CancelEntry) (s : State) → IsIn r s.live → AllOf s
    → AllOf (add_rule r (first_of r.events) event c s)
of-rule r event c s there h = record {
  items_of = h.items_of;
  sleeps_of = h.sleeps_of;
  waits_of = h.waits_of;
  invocations_of = h.invocations_of;
  rules_of = all-last (λ (e : Rule). IsOf s.live e.run) s.rules (new_rule r (first_of r.events) event s c)
      h.rules_of (of-one r s.live there);
}

of-invocation : (r : Run) (name : List ℕ) (child : ℕ) (t : Option Time) (s : State) → IsOf s.live r.number
    → AllOf s → AllOf (add_invocation r name child t s)
of-invocation r name child t s own h =
    let added : Invocation = record {
      number = s.entries + 1;
      run = r.number;
      hash = name;
      child = child;
      due = option_map (λ t. due_at t s.moment) t;
    } in
    record {
      items_of = h.items_of;
      sleeps_of = h.sleeps_of;
      waits_of = h.waits_of;
      invocations_of =
          all-last (λ (e : Invocation). IsOf s.live e.run) s.invocations added h.invocations_of own;
      rules_of = h.rules_of;
    }

-- those that stay when a run ends are of others
left-of : {X : Type 0} (number : ℕ) (part : X → ℕ) (live : List Run) (xs : List X)
    → AllByRecursion (λ x. IsOf live (part x)) xs
    → AllByRecursion (λ x. IsOf (filter (λ (r : Run). not (number == r.number)) live) (part x))
    (filter (λ x. not (number == part x)) xs)
left-of number part live xs h =
    let left : List Run = filter (λ (r : Run). not (number == r.number)) live in
    all-both (λ x. IsOf live (part x)) (λ x. not (number == part x) ≡ true) (λ x. IsOf left (part x))
    (filter (λ x. not (number == part x)) xs)
    (λ x k other. of-left number (part x) live (not-true (number == part x) other) k)
    (all-filter (λ x. IsOf live (part x)) (λ x. not (number == part x)) xs h)
    (filter-passes (λ x. not (number == part x)) xs)

of-ended : (r : Run) (status : RunStatus) (s : State) → AllOf s → AllOf (end_run r status s)
of-ended r status s h = record {
  items_of = left-of r.number (λ (i : Item). i.run) s.live s.items h.items_of;
  sleeps_of = left-of r.number (λ (e : Sleep). e.run) s.live s.sleeps h.sleeps_of;
  waits_of = left-of r.number (λ (e : Waiting). e.wait.run) s.live s.waits h.waits_of;
  invocations_of = left-of r.number (λ (e : Invocation). e.run) s.live s.invocations h.invocations_of;
  rules_of = left-of r.number (λ (e : Rule). e.run) s.live s.rules h.rules_of;
}

of-sleeps : (test : Sleep → Bool) (s : State) → AllOf s → AllOf (record s { sleeps = filter test s.sleeps })
of-sleeps test s h = record {
  items_of = h.items_of;
  sleeps_of = all-filter (λ (e : Sleep). IsOf s.live e.run) test s.sleeps h.sleeps_of;
  waits_of = h.waits_of;
  invocations_of = h.invocations_of;
  rules_of = h.rules_of;
}

of-waits : (test : Waiting → Bool) (s : State) → AllOf s → AllOf (record s { waits = filter test s.waits })
of-waits test s h = record {
  items_of = h.items_of;
  sleeps_of = h.sleeps_of;
  waits_of = all-filter (λ (e : Waiting). IsOf s.live e.wait.run) test s.waits h.waits_of;
  invocations_of = h.invocations_of;
  rules_of = h.rules_of;
}

of-invocations : (test : Invocation → Bool) (s : State) → AllOf s
    → AllOf (record s { invocations = filter test s.invocations })
of-invocations test s h = record {
  items_of = h.items_of;
  sleeps_of = h.sleeps_of;
  waits_of = h.waits_of;
  invocations_of = all-filter (λ (e : Invocation). IsOf s.live e.run) test s.invocations h.invocations_of;
  rules_of = h.rules_of;
}

of-rules : (test : Rule → Bool) (s : State) → AllOf s → AllOf (record s { rules = filter test s.rules })
of-rules test s h = record {
  items_of = h.items_of;
  sleeps_of = h.sleeps_of;
  waits_of = h.waits_of;
  invocations_of = h.invocations_of;
  rules_of = all-filter (λ (e : Rule). IsOf s.live e.run) test s.rules h.rules_of;
}

of-accepted : (event : EventIn) (id : Option (List ℕ)) (s : State) → AllOf s
    → AllOf (add_event (event_with event s) (remember id s))
of-accepted event None s h = h
of-accepted event (Some id) s h = h

pub keeps-of : Keeps AllOf
keeps-of = freely AllOf (record {
  accepts = λ event id s new h. of-accepted event id s h;
  starts = λ f event parent s there given h. of-started f (event ∷ []) parent s h;
  fills = λ f r value event s may full h.
      of-started f (windows.events_of (window_after f r value event s)) None (with_offer f r value event s) h;
  fires = λ f w s there stands h.
      of-started f (windows.events_of w) None (without_window (windows.number_of w) s) h;
  joins = λ f r value event s may full h. h;
  windows_go = λ number s h. h;
  rules = λ r event c s there e h. of-rule r event c s there h;
  finds_out = λ r s there h. of-queued (new_item r step_target s) (record s { entries = s.entries + 1 })
      (of-one r s.live there) h;
  wants = λ r s live h. of-change r.number want s (λ q. refl) h;
  plans = λ r name s live new h. of-planned r name s live h;
  sleeps = λ r name t s live new h. of-sleep r name t s live h;
  waits = λ r name event t cond s live new h. of-wait r name event t cond s live h;
  pends = λ r name s live new h. of-pended pending.Invocation name r s h;
  invokes = λ r name child t s there h. of-invocation r name child t s there h;
  ends = λ r status s live h. of-ended r status s h;
}) (record {
  records = λ run name result s h. of-recorded run name result s h;
  sleeps_go = λ test s h. of-sleeps test s h;
  waits_go = λ test s h. of-waits test s h;
  invocations_go = λ test s h. of-invocations test s h;
  rules_go = λ test s h. of-rules test s h;
})

of-tidied : (s : State) → AllOf s → AllOf (tidied s)
unfolding tidied
of-tidied s h = h

of-issued : (i : Item) (s : State) → AllOf s → AllOf (issue i s)
of-issued i s h =
    let left : List Item = without_number i.number s.items in
    of-change i.run (called i.target) (record s { items = left }) (λ q. refl)
    (of-items left s (all-filter (λ (j : Item). IsOf s.live j.run) (λ j. not (has_number i.number j)) s.items
    h.items_of) h)

pub of-steps : (bound : ℕ) → KeepsSteps bound (λ input. Unit {0}) (λ is s. AllOf s)
of-steps bound = record {
  calls = dropping (λ is s. AllOf s) (record {
    runs = λ is. keeps-of;
    closes = λ i s there h. h;
    reopens = λ s h. h;
    drops = λ i is s h. h;
    retries = λ i is a r s live new h. of-queued (again i a s) s (of-live i.run r s live) h;
    requeues = λ i is r s live new h.
        of-queued (record i { due = s.moment }) s (of-live i.run r s live) h;
  });
  counts = λ s h. h;
  moves = λ t next s low e h. h;
  arrives = λ t s low on before h. h;
  issues = λ number i s next there h. of-issued i s h;
  registers = λ at app s asked h. h;
  tidies = λ s h. of-tidied s h;
}

-- ## Histories

of-step : (s : State) (input : Input) → AllOf s → AllOf (step s input).state
of-step s input h =
    let bound : ℕ = moment_at (reading input) s in
    kept-step bound (λ input. Unit {0}) (λ is s. AllOf s) (of-steps bound) s input (omega arith) tt h

of-after : (inputs : List Input) (s : State) → AllOf s → AllOf (state_after s inputs)
of-after [] s h = h
of-after (input ∷ inputs) s h = of-after inputs (step s input).state (of-step s input h)

-- where a number is found, there is a run
is-live : (run : ℕ) (live : List Run) → IsOf live run → is_some (find (λ (r : Run). run == r.number) live) ≡ true
is-live run live h =
    by_found (find (λ (r : Run). run == r.number) live) (any-found (λ (r : Run). run == r.number) live h)
  where
    by_found : (found : Option Run) → IsSomeAnd found (λ r. (run == r.number) ≡ true) → is_some found ≡ true
    by_found None k = absurd k
    by_found (Some r) k = refl

pub of-fold : (limits : Limits) (inputs : List Input) → AreOfLive (fold limits inputs)
of-fold limits inputs =
    let s : State = fold limits inputs in
    let h : AllOf s = of-after inputs (empty limits)
    (record { items_of = tt; sleeps_of = tt; waits_of = tt; invocations_of = tt; rules_of = tt }) in
    record {
      items = all-weaker (λ (i : Item). IsOf s.live i.run) (λ (i : Item). is_live s i.run ≡ true) s.items
          (λ i k. is-live i.run s.live k) h.items_of;
      sleeps = all-weaker (λ (e : Sleep). IsOf s.live e.run) (λ (e : Sleep). is_live s e.run ≡ true) s.sleeps
          (λ e k. is-live e.run s.live k) h.sleeps_of;
      waits = all-weaker (λ (e : Waiting). IsOf s.live e.wait.run) (λ (e : Waiting). is_live s e.wait.run ≡ true)
          s.waits (λ e k. is-live e.wait.run s.live k) h.waits_of;
      invocations = all-weaker (λ (e : Invocation). IsOf s.live e.run)
          (λ (e : Invocation). is_live s e.run ≡ true) s.invocations (λ e k. is-live e.run s.live k)
          h.invocations_of;
      rules = all-weaker (λ (e : Rule). IsOf s.live e.run) (λ (e : Rule). is_live s e.run ≡ true) s.rules
          (λ e k. is-live e.run s.live k) h.rules_of;
    }

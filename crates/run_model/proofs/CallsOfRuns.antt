-- Each open call is of a run that is there, at each change and so through each step.
use Rattle.std.proofs.Common.{◌≡◌, ℕ, ◌⊎◌, inl, inr, ◌==◌, Bool, true, false, not, ◌||◌, cond, List, [], ◌∷◌, ◌++◌, filter, Option, Some, None, refl, sym, ap, subst, arith, eq-eqb, eqb-true}
use Rattle.std.specs.List.{AllByRecursion, list_any}
use Rattle.std.specs.Ordering.{is_lt, nat_cmp}
use Rattle.kinds.specs.Inputs.{reading}
use Rattle.kinds.specs.Queue.{has_number}
use Rattle.kinds.specs.Windows as windows
use Rattle.kinds.specs.declared.event.EventIn.{EventIn}
use Rattle.kinds.specs.declared.input.Input.{Input}
use Rattle.kinds.specs.declared.limits.Limits.{Limits}
use Rattle.kinds.specs.declared.store.Item.{Item}
use Rattle.kinds.specs.declared.store.Parent.{Parent}
use Rattle.kinds.specs.declared.store.RunStatus.{RunStatus}
use Rattle.functions.specs.declared.entry.FunctionEntry.{FunctionEntry}
use Rattle.lists.proofs.Elements.{all-filter, all-last, all-weaker}
use Rattle.lists.specs.Entries.{insert_by}
use Rattle.run_model.specs.Advance.{without_window}
use Rattle.run_model.specs.Ends.{end_run, run_number}
use Rattle.run_model.specs.Events.{add_event, event_with}
use Rattle.run_model.specs.Laws.{IsIn}
use Rattle.run_model.specs.Machine.{fold, state_after, step}
use Rattle.run_model.specs.Recording.{change_run, record_in}
use Rattle.run_model.specs.Replies.{want, with_plan}
use Rattle.run_model.specs.Requests.{remember}
use Rattle.run_model.specs.Settle.{called, issue, issued, item_at}
use Rattle.run_model.specs.Sound.{all_runs, numbers_of}
use Rattle.run_model.specs.State.{State, Run, Issue, empty, has_open_call, is_in, moment_at, tidied}
use Rattle.run_model.proofs.Kept.{Keeps, freely, keeps-both, run_from, started, window_after, with_offer}
use Rattle.run_model.proofs.KeptReplies.{dropping}
use Rattle.run_model.proofs.KeptSteps.{KeepsSteps, kept-step}
use Rattle.run_model.proofs.LiveRuns.{IsOf, of-changed, of-more}
use Rattle.run_model.proofs.Members.{all-in, any-in, in-all, in-found}
use Rattle.run_model.proofs.OfLive.{AllOf, keeps-of, of-left, of-steps}
use Rattle.run_model.proofs.SettlingLists.{or-left, or-right}

-- ## What holds

-- a run of the number is there
abbrev IsThere : List Run → List Run → ℕ → Type 0
IsThere live closing run = IsOf live run ⊎ IsOf closing run

abbrev OfRuns : State → Type 0
OfRuns s = AllByRecursion (λ (i : Issue). IsThere s.live s.closing i.item.run) s.issues

there-all : (s : State) (live closing : List Run)
    → ((run : ℕ) → IsThere s.live s.closing run → IsThere live closing run) → OfRuns s
    → AllByRecursion (λ (i : Issue). IsThere live closing i.item.run) s.issues
there-all s live closing still h =
    all-weaker (λ (i : Issue). IsThere s.live s.closing i.item.run) (λ (i : Issue). IsThere live closing i.item.run)
    s.issues (λ i k. still i.item.run k) h

there-changed : (number : ℕ) (f : Run → Run) (s : State) → ((r : Run) → (f r).number ≡ r.number) → OfRuns s
    → OfRuns (change_run number f s)
there-changed number f s same h = there-all s (change_run number f s).live s.closing still h
  where
    still : (run : ℕ) → IsThere s.live s.closing run → IsThere (change_run number f s).live s.closing run
    still run (inl k) = inl (of-changed number run f s.live same k)
    still run (inr k) = inr k

there-started : (f : FunctionEntry) (events : List ℕ) (parent : Option Parent) (s : State) → OfRuns s
    → OfRuns (started f events parent s)
there-started f events parent s h = there-all s (s.live ++ run_from f events parent s ∷ []) s.closing still h
  where
    still : (run : ℕ) → IsThere s.live s.closing run
        → IsThere (s.live ++ run_from f events parent s ∷ []) s.closing run
    still run (inl k) = inl (of-more run s.live (run_from f events parent s) k)
    still run (inr k) = inr k

-- among those that close
closing-more : (run : ℕ) (r : Run) (rs : List Run) → IsOf rs run → IsOf (insert_by run_number r rs) run
closing-more run r [] h = absurd (cc)
closing-more run r (q ∷ rs) h = by_test (is_lt (nat_cmp r.number q.number)) (closing-more run r rs)
  where
    behind : (a : Bool) → (a || list_any (λ (x : Run). run == x.number) rs) ≡ true
        → (IsOf rs run → IsOf (insert_by run_number r rs) run)
        → (a || list_any (λ (x : Run). run == x.number) (insert_by run_number r rs)) ≡ true
    behind true k more = refl
    behind false k more = more k

    by_test : (b : Bool) → (IsOf rs run → IsOf (insert_by run_number r rs) run)
        → IsOf (cond b (r ∷ q ∷ rs) (q ∷ insert_by run_number r rs)) run
    by_test true more =
        or-right (run == r.number) (list_any (λ (x : Run). run == x.number) (q ∷ rs)) h
    by_test false more = behind (run == q.number) h more

closing-own : (r : Run) (rs : List Run) → IsOf (insert_by run_number r rs) r.number
closing-own r [] = or-left (r.number == r.number) false (eq-eqb r.number r.number refl)
closing-own r (q ∷ rs) = by_test (is_lt (nat_cmp r.number q.number)) (closing-own r rs)
  where
    by_test : (b : Bool) → IsOf (insert_by run_number r rs) r.number
        → IsOf (cond b (r ∷ q ∷ rs) (q ∷ insert_by run_number r rs)) r.number
    by_test true more = or-left (r.number == r.number) (list_any (λ (x : Run). r.number == x.number) (q ∷ rs))
        (eq-eqb r.number r.number refl)
    by_test false more = or-right (r.number == q.number)
        (list_any (λ (x : Run). r.number == x.number) (insert_by run_number r rs)) more

there-ended : (r : Run) (status : RunStatus) (s : State) → OfRuns s → OfRuns (end_run r status s)
there-ended r status s h = there-all s (end_run r status s).live (end_run r status s).closing still h
  where
    by_test : (run : ℕ) (b : Bool) → (r.number == run) ≡ b → IsOf s.live run
        → IsThere (end_run r status s).live (end_run r status s).closing run
    by_test run true e k =
        inr (subst (λ n. IsOf (insert_by run_number r s.closing) n) (eqb-true r.number run e) (closing-own r s.closing))
    by_test run false e k = inl (of-left r.number run s.live e k)

    still : (run : ℕ) → IsThere s.live s.closing run
        → IsThere (end_run r status s).live (end_run r status s).closing run
    still run (inl k) = by_test run (r.number == run) refl k
    still run (inr k) = inr (closing-more run r s.closing k)

there-accepted : (event : EventIn) (id : Option (List ℕ)) (s : State) → OfRuns s
    → OfRuns (add_event (event_with event s) (remember id s))
there-accepted event None s h = h
there-accepted event (Some id) s h = h

keeps-there : Keeps OfRuns
keeps-there = freely OfRuns (record {
  accepts = λ event id s new h. there-accepted event id s h;
  starts = λ f event parent s there given h. there-started f (event ∷ []) parent s h;
  fills = λ f r value event s may full h.
      there-started f (windows.events_of (window_after f r value event s)) None (with_offer f r value event s) h;
  fires = λ f w s there stands h.
      there-started f (windows.events_of w) None (without_window (windows.number_of w) s) h;
  joins = λ f r value event s may full h. h;
  windows_go = λ number s h. h;
  rules = λ r event c s there e h. h;
  finds_out = λ r s there h. h;
  wants = λ r s live h. there-changed r.number want s (λ q. refl) h;
  plans = λ r name s live new h. there-changed r.number (with_plan name) s (λ q. refl) h;
  sleeps = λ r name t s live new h. there-changed r.number _ s (λ q. refl) h;
  waits = λ r name event t given s live new h. there-changed r.number _ s (λ q. refl) h;
  pends = λ r name s live new h. there-changed r.number _ s (λ q. refl) h;
  invokes = λ r name child t s there h. h;
  ends = λ r status s live h. there-ended r status s h;
}) (record {
  records = λ run name result s h. there-changed run (record_in name result) s (λ q. refl) h;
  sleeps_go = λ test s h. h;
  waits_go = λ test s h. h;
  invocations_go = λ test s h. h;
  rules_go = λ test s h. h;
})

-- ## Steps

abbrev Both : State → Type 0
Both s = AllOf s × OfRuns s

-- the call's item was queued, so its run has not ended
there-issue : (number : ℕ) (i : Item) (s : State) → item_at number s ≡ Some i → Both s → OfRuns (issue i s)
there-issue number i s found h =
    all-last (λ (j : Issue). IsThere (change_run i.run (called i.target) s).live s.closing j.item.run) s.issues
    (issued i s) (there-changed i.run (called i.target) s (λ q. refl) h.1)
    (inl (of-changed i.run i.run (called i.target) s.live (λ q. refl)
    (in-all (λ (j : Item). IsOf s.live j.run) i s.items (in-found (has_number number) s.items i found) h.0.items_of)))

-- a run whose call is open stays
open-left : (issues : List Issue) (run : ℕ) (rs : List Run) → has_open_call issues run ≡ true → IsOf rs run
    → IsOf (filter (λ (r : Run). has_open_call issues r.number) rs) run
open-left issues run [] opens h = h
open-left issues run (r ∷ rs) opens h =
    by_tests (has_open_call issues r.number) (run == r.number) refl refl h (open-left issues run rs opens)
  where
    left : List Run
    left = filter (λ (q : Run). has_open_call issues q.number) rs

    by_tests : (b c : Bool) → has_open_call issues r.number ≡ b → (run == r.number) ≡ c
        → (c || list_any (λ (q : Run). run == q.number) rs) ≡ true
        → (IsOf rs run → IsOf (filter (λ (q : Run). has_open_call issues q.number) rs) run)
        → IsOf (cond b (r ∷ filter (λ (q : Run). has_open_call issues q.number) rs)
        (filter (λ (q : Run). has_open_call issues q.number) rs)) run
    by_tests true true e own k more = or-left (run == r.number) _ own
    by_tests true false e own k more = or-right (run == r.number) _ (more k)
    by_tests false true e own k more =
        let no : has_open_call issues run ≡ false =
        subst (λ n. has_open_call issues n ≡ false) (sym (eqb-true run r.number own)) e in absurd (cc)
    by_tests false false e own k more = more k

there-tidied : (s : State) → OfRuns s → OfRuns (tidied s)
unfolding tidied
there-tidied s h = all-in (λ (i : Issue). IsThere s.live closing i.item.run) s.issues
    (λ i stands. still i stands (in-all (λ (j : Issue). IsThere s.live s.closing j.item.run) i s.issues stands h))
  where
    closing : List Run
    closing = filter (λ (r : Run). has_open_call s.issues r.number) s.closing

    still : (i : Issue) → IsIn i s.issues → IsThere s.live s.closing i.item.run
        → IsThere s.live (filter (λ (r : Run). has_open_call s.issues r.number) s.closing) i.item.run
    still i stands (inl k) = inl k
    still i stands (inr k) = inr (open-left s.issues i.item.run s.closing
        (any-in (λ (j : Issue). i.item.run == j.item.run) i s.issues stands (eq-eqb i.item.run i.item.run refl)) k)

there-steps : (bound : ℕ) → KeepsSteps bound (λ input. Unit {0}) (λ is s. Both s)
there-steps bound =
    let k : KeepsSteps bound (λ input. Unit {0}) (λ is s. AllOf s) = of-steps bound in
    record {
      calls = dropping (λ is s. Both s) (record {
        runs = λ is. keeps-both AllOf OfRuns keeps-of keeps-there;
        closes = λ i s there h. (
          k.calls.closes i s there h.0,
          all-filter (λ (j : Issue). IsThere s.live s.closing j.item.run)
              (λ (other : Issue). not (i.call == other.call)) s.issues h.1,
        );
        reopens = λ s h. (k.calls.reopens s h.0, tt);
        drops = λ i is s h. h;
        retries = λ i is a r s live new h. (k.calls.retries i is a r s live new h.0, h.1);
        requeues = λ i is r s live new h. (k.calls.requeues i is r s live new h.0, h.1);
      });
      counts = λ s h. h;
      moves = λ t next s low e h. h;
      arrives = λ t s low on before h. h;
      issues = λ number i s next there h. (k.issues number i s next there h.0, there-issue number i s there h);
      registers = λ at app s asked h. h;
      tidies = λ s h. (k.tidies s h.0, there-tidied s h.1);
    }

there-step : (s : State) (input : Input) → Both s → Both (step s input).state
there-step s input h =
    let bound : ℕ = moment_at (reading input) s in
    kept-step bound (λ input. Unit {0}) (λ is s. Both s) (there-steps bound) s input (omega arith) tt h

there-after : (inputs : List Input) (s : State) → Both s → Both (state_after s inputs)
there-after [] s h = h
there-after (input ∷ inputs) s h = there-after inputs (step s input).state (there-step s input h)

-- ## What follows

in-numbers : (run : ℕ) (rs others : List Run) → IsOf rs run ⊎ IsOf others run
    → is_in run (numbers_of (rs ++ others)) ≡ true
in-numbers run [] others (inl h) = absurd (cc)
in-numbers run [] others (inr h) = of_list others h
  where
    of_list : (qs : List Run) → IsOf qs run → is_in run (numbers_of qs) ≡ true
    of_list qs k = subst (λ b. b ≡ true) (same qs) k
      where
        same : (xs : List Run) → list_any (λ (x : Run). run == x.number) xs ≡ is_in run (numbers_of xs)
        same [] = refl
        same (x ∷ xs) = ap (λ b. (run == x.number) || b) (same xs)
in-numbers run (r ∷ rs) others h =
    by_test (run == r.number) h (in-numbers run rs others)
  where
    by_test : (b : Bool) → ((b || list_any (λ (x : Run). run == x.number) rs) ≡ true) ⊎ IsOf others run
        → (IsOf rs run ⊎ IsOf others run → is_in run (numbers_of (rs ++ others)) ≡ true)
        → (b || is_in run (numbers_of (rs ++ others))) ≡ true
    by_test true k more = refl
    by_test false k more = more k

pub there-fold : (limits : Limits) (inputs : List Input)
    → AllByRecursion (λ (i : Issue). is_in i.item.run (numbers_of (all_runs (fold limits inputs))) ≡ true)
    (fold limits inputs).issues
there-fold limits inputs =
    let s : State = fold limits inputs in
    let h : Both s = there-after inputs (empty limits)
    (record { items_of = tt; sleeps_of = tt; waits_of = tt; invocations_of = tt; rules_of = tt }, tt) in
    all-weaker (λ (i : Issue). IsThere s.live s.closing i.item.run)
    (λ (i : Issue). is_in i.item.run (numbers_of (all_runs s)) ≡ true) s.issues
    (λ i k. in-numbers i.item.run s.live s.closing k) h.1

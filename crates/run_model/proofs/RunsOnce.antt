-- Runs have numbers of their own, and each ends once, at each change and so through each step.
use Rattle.std.proofs.Common.{◌≡◌, ◌≢◌, ℕ, zero, suc, inl, inr, ◌+◌, ◌-◌, ◌≤◌, ◌==◌, Bool, true, false, not, cond, List, [], ◌∷◌, ◌++◌, map, filter, take, drop, length, Option, Some, None, refl, sym, ap, ap₂, ◌∙◌, subst, arith, take-append-drop}
use Rattle.std.proofs.lemmas.List.{length-map}
use Rattle.std.specs.List.{AllByRecursion}
use Rattle.std.specs.Ordering.{is_lt, nat_cmp}
use Rattle.kinds.specs.Inputs.{reading}
use Rattle.kinds.specs.RunSteps.{pend_step}
use Rattle.kinds.specs.Windows as windows
use Rattle.kinds.specs.declared.event.EventIn.{EventIn}
use Rattle.kinds.specs.declared.input.Input.{Input}
use Rattle.kinds.specs.declared.limits.Limits.{Limits}
use Rattle.kinds.specs.declared.store.Parent.{Parent}
use Rattle.kinds.specs.declared.store.Pending.{Pending}
use Rattle.kinds.specs.declared.store.Pending.TheVariants as pending
use Rattle.kinds.specs.declared.store.RunStatus.{RunStatus}
use Rattle.functions.specs.declared.entry.FunctionEntry.{FunctionEntry}
use Rattle.lists.proofs.Elements.{all-both, all-filter, all-last, all-weaker, filter-passes}
use Rattle.lists.specs.Entries.{insert_by}
use Rattle.run_model.specs.Advance.{without_window}
use Rattle.run_model.specs.Ends.{end_run, ended_run, run_number}
use Rattle.run_model.specs.Events.{add_event, event_with}
use Rattle.run_model.specs.Fit.{AreGiven, RunsStandOnce, StandOnce}
use Rattle.run_model.specs.Laws.{IsIn}
use Rattle.run_model.specs.Machine.{fold, state_after, step}
use Rattle.run_model.specs.Recording.{change_run, changed, record_in}
use Rattle.run_model.specs.Replies.{pend, want, with_plan, with_steps}
use Rattle.run_model.specs.Requests.{remember}
use Rattle.run_model.specs.Settle.{called}
use Rattle.run_model.specs.Sound.{ArePairwise, ended_numbers, numbers_of}
use Rattle.run_model.specs.State.{State, Run, EndedRun, empty, has_open_call, last_or, moment_at, tidied}
use Rattle.run_model.proofs.Apart.{differs, pairs-last}
use Rattle.run_model.proofs.FitWindows.{not-true, pairs-filter}
use Rattle.run_model.proofs.Kept.{IsLive, Keeps, freely, run_from, started, window_after, with_offer}
use Rattle.run_model.proofs.KeptReplies.{dropping}
use Rattle.run_model.proofs.KeptSteps.{KeepsSteps, kept-step}
use Rattle.run_model.proofs.Limits.{map-last}
use Rattle.run_model.proofs.Members.{in-all, in-found}

-- ## Numbers of lists that change

pub numbers-changed : (number : ℕ) (f : Run → Run) (rs : List Run) → ((r : Run) → (f r).number ≡ r.number)
    → numbers_of (changed number f rs) ≡ numbers_of rs
numbers-changed number f [] same = refl
numbers-changed number f (r ∷ rs) same =
    let one : (cond (number == r.number) (f r) r).number ≡ r.number =
    elim (number == r.number) as (λ b. (cond b (f r) r).number ≡ r.number) [ true ↦ same r | false ↦ refl ] in
    ap₂ (λ n ns. n ∷ ns) one (numbers-changed number f rs same)

map-filter : {X : Type 0} (part : X → ℕ) (test : ℕ → Bool) (xs : List X)
    → map part (filter (λ x. test (part x)) xs) ≡ filter test (map part xs)
map-filter part test [] = refl
map-filter part test (x ∷ xs) =
    let more : map part (filter (λ y. test (part y)) xs) ≡ filter test (map part xs) = map-filter part test xs in
    elim (test (part x)) as (λ b. map part (cond b (x ∷ filter (λ y. test (part y)) xs) (filter (λ y. test (part y)) xs))
    ≡ cond b (part x ∷ filter test (map part xs)) (filter test (map part xs)))
    [ true ↦ ap (λ ns. part x ∷ ns) more | false ↦ more ]

abbrev own : ℕ → ℕ
own n = n

numbers-inserted : (r : Run) (rs : List Run)
    → numbers_of (insert_by run_number r rs) ≡ insert_by own r.number (numbers_of rs)
numbers-inserted r [] = refl
numbers-inserted r (q ∷ rs) =
    elim (is_lt (nat_cmp r.number q.number))
    as (λ b. numbers_of (cond b (r ∷ q ∷ rs) (q ∷ insert_by run_number r rs))
    ≡ cond b (r.number ∷ q.number ∷ numbers_of rs) (q.number ∷ insert_by own r.number (numbers_of rs)))
    [ true ↦ refl | false ↦ ap (λ ns. q.number ∷ ns) (numbers-inserted r rs) ]

all-inserted_number : (P : ℕ → Type 0) (n : ℕ) (ns : List ℕ) → P n → AllByRecursion P ns
    → AllByRecursion P (insert_by own n ns)
all-inserted_number P n [] one h = (one, tt)
all-inserted_number P n (m ∷ ns) one h =
    elim (is_lt (nat_cmp n m)) as (λ b. AllByRecursion P (cond b (n ∷ m ∷ ns) (m ∷ insert_by own n ns)))
    [ true ↦ (one, h) | false ↦ (h.0, all-inserted_number P n ns one h.1) ]

abbrev Different : List ℕ → Type 0
Different ns = ArePairwise (λ n later. n ≢ later) ns

different-with : (n : ℕ) (ns : List ℕ) → AllByRecursion (λ m. n ≢ m) ns → Different ns
    → Different (insert_by own n ns)
different-with n [] h apart = (tt, tt)
different-with n (m ∷ ns) h apart =
    elim (is_lt (nat_cmp n m)) as (λ b. Different (cond b (n ∷ m ∷ ns) (m ∷ insert_by own n ns))) [
      | true ↦ (h, apart)
      | false ↦ (
        all-inserted_number (λ k. m ≢ k) n ns (λ same. h.0 (sym same)) apart.0,
        different-with n ns h.1 apart.1,
      )
    ]

all-front_filter : (P : ℕ → Type 0) (test : ℕ → Bool) (ns ms : List ℕ) → AllByRecursion P (ns ++ ms)
    → AllByRecursion P (filter test ns ++ ms)
all-front_filter P test [] ms h = h
all-front_filter P test (n ∷ ns) ms h =
    elim (test n) as (λ b. AllByRecursion P (cond b (n ∷ filter test ns) (filter test ns) ++ ms))
    [ true ↦ (h.0, all-front_filter P test ns ms h.1) | false ↦ all-front_filter P test ns ms h.1 ]

pairs-front_filter : (test : ℕ → Bool) (ns ms : List ℕ) → Different (ns ++ ms) → Different (filter test ns ++ ms)
pairs-front_filter test [] ms h = h
pairs-front_filter test (n ∷ ns) ms h =
    elim (test n) as (λ b. Different (cond b (n ∷ filter test ns) (filter test ns) ++ ms)) [
      | true ↦ (all-front_filter (λ k. n ≢ k) test ns ms h.0, pairs-front_filter test ns ms h.1)
      | false ↦ pairs-front_filter test ns ms h.1
    ]

-- ## A run is made, ends, or is tidied

once-started : (runs : ℕ) (live closing ended : List ℕ) → StandOnce runs live closing ended
    → StandOnce (runs + 1) (live ++ (runs + 1) ∷ []) closing ended
once-started runs live closing ended h =
    let more : (ns : List ℕ) → AreGiven runs ns → AreGiven (runs + 1) ns =
    λ ns k. all-weaker (λ n. n ≤ runs) (λ n. n ≤ runs + 1) ns (λ n (low : n ≤ runs). omega (arith, low)) k in
    let over : (ns : List ℕ) → AreGiven runs ns → AllByRecursion (λ n. (runs + 1) ≢ n) ns =
    λ ns k. all-weaker (λ n. n ≤ runs) (λ n. (runs + 1) ≢ n) ns
    (λ n (low : n ≤ runs) same. omega (arith, low, same)) k in
    record {
      given = all-last (λ n. n ≤ runs + 1) live (runs + 1) (more live h.given) (omega arith);
      closing_given = more closing h.closing_given;
      ended_given = more ended h.ended_given;
      live_apart = pairs-last (λ n later. n ≢ later) live (runs + 1) h.live_apart
          (all-weaker (λ n. n ≤ runs) (λ n. n ≢ (runs + 1)) live
          (λ n (low : n ≤ runs) same. omega (arith, low, same)) h.given);
      closing_apart = h.closing_apart;
      ended_apart = h.ended_apart;
      beside_closing = all-last (λ n. AllByRecursion (λ other. n ≢ other) closing) live (runs + 1)
          h.beside_closing (over closing h.closing_given);
      beside_ended = all-last (λ n. AllByRecursion (λ other. n ≢ other) ended) live (runs + 1) h.beside_ended
          (over ended h.ended_given);
    }

once-ended : (runs number : ℕ) (live closing ended : List ℕ) → IsIn number live
    → StandOnce runs live closing ended
    → StandOnce runs (filter (λ n. not (number == n)) live) (insert_by own number closing) (ended ++ number ∷ [])
once-ended runs number live closing ended there h =
    let test : ℕ → Bool = λ n. not (number == n) in
    let left : List ℕ = filter test live in
    let low : number ≤ runs = in-all (λ n. n ≤ runs) number live there h.given in
    let apart : AllByRecursion (λ n. n ≢ number) left =
    all-weaker (λ n. test n ≡ true) (λ n. n ≢ number) left
    (λ n k same. differs number n (not-true (number == n) k) (sym same)) (filter-passes test live) in
    let beside : AllByRecursion (λ other. number ≢ other) closing =
    in-all (λ n. AllByRecursion (λ other. n ≢ other) closing) number live there h.beside_closing in
    let ended_before : AllByRecursion (λ other. number ≢ other) ended =
    in-all (λ n. AllByRecursion (λ other. n ≢ other) ended) number live there h.beside_ended in
    record {
      given = all-filter (λ n. n ≤ runs) test live h.given;
      closing_given = all-inserted_number (λ n. n ≤ runs) number closing low h.closing_given;
      ended_given = all-last (λ n. n ≤ runs) ended number h.ended_given low;
      live_apart = pairs-filter (λ n later. n ≢ later) test live h.live_apart;
      closing_apart = different-with number closing beside h.closing_apart;
      ended_apart = pairs-last (λ n later. n ≢ later) ended number h.ended_apart
          (all-weaker (λ n. number ≢ n) (λ n. n ≢ number) ended (λ n k same. k (sym same)) ended_before);
      beside_closing = all-both (λ n. AllByRecursion (λ other. n ≢ other) closing) (λ n. n ≢ number)
          (λ n. AllByRecursion (λ other. n ≢ other) (insert_by own number closing)) left
          (λ n k different. all-inserted_number (λ other. n ≢ other) number closing different k)
          (all-filter (λ n. AllByRecursion (λ other. n ≢ other) closing) test live h.beside_closing) apart;
      beside_ended = all-both (λ n. AllByRecursion (λ other. n ≢ other) ended) (λ n. n ≢ number)
          (λ n. AllByRecursion (λ other. n ≢ other) (ended ++ number ∷ [])) left
          (λ n k different. all-last (λ other. n ≢ other) ended number k different)
          (all-filter (λ n. AllByRecursion (λ other. n ≢ other) ended) test live h.beside_ended) apart;
    }

once-left : (runs most : ℕ) (test : ℕ → Bool) (live closing ended : List ℕ) → StandOnce runs live closing ended
    → StandOnce runs live (filter test closing) (last_or test most ended)
once-left runs most test live closing ended h =
    let n : ℕ = length ended - most in
    let whole : take n ended ++ drop n ended ≡ ended = take-append-drop n ended in
    let fewer : (P : ℕ → Type 0) → AllByRecursion P ended → AllByRecursion P (last_or test most ended) =
    λ P k. all-front_filter P test (take n ended) (drop n ended) (subst (λ ns. AllByRecursion P ns) (sym whole) k) in
    record {
      given = h.given;
      closing_given = all-filter (λ n. n ≤ runs) test closing h.closing_given;
      ended_given = fewer (λ n. n ≤ runs) h.ended_given;
      live_apart = h.live_apart;
      closing_apart = pairs-filter (λ n later. n ≢ later) test closing h.closing_apart;
      ended_apart = pairs-front_filter test (take n ended) (drop n ended)
          (subst (λ ns. Different ns) (sym whole) h.ended_apart);
      beside_closing = all-weaker (λ n. AllByRecursion (λ other. n ≢ other) closing)
          (λ n. AllByRecursion (λ other. n ≢ other) (filter test closing)) live
          (λ n k. all-filter (λ other. n ≢ other) test closing k) h.beside_closing;
      beside_ended = all-weaker (λ n. AllByRecursion (λ other. n ≢ other) ended)
          (λ n. AllByRecursion (λ other. n ≢ other) (last_or test most ended)) live
          (λ n k. fewer (λ other. n ≢ other) k) h.beside_ended;
    }

-- ## Lists of a state

in-map : {X : Type 0} (part : X → ℕ) (x : X) (xs : List X) → IsIn x xs → IsIn (part x) (map part xs)
in-map part x [] there = absurd there
in-map part x (y ∷ ys) (inl same) = inl (ap part same)
in-map part x (y ∷ ys) (inr there) = inr (in-map part x ys there)

pub map-take : {X : Type 0} (part : X → ℕ) (n : ℕ) (xs : List X) → map part (take n xs) ≡ take n (map part xs)
map-take part zero [] = refl
map-take part zero (x ∷ xs) = refl
map-take part (suc n) [] = refl
map-take part (suc n) (x ∷ xs) = ap (λ ns. part x ∷ ns) (map-take part n xs)

map-drop : {X : Type 0} (part : X → ℕ) (n : ℕ) (xs : List X) → map part (drop n xs) ≡ drop n (map part xs)
map-drop part zero [] = refl
map-drop part zero (x ∷ xs) = refl
map-drop part (suc n) [] = refl
map-drop part (suc n) (x ∷ xs) = map-drop part n xs

map-both : {X : Type 0} (part : X → ℕ) (xs ys : List X) → map part (xs ++ ys) ≡ map part xs ++ map part ys
map-both part [] ys = refl
map-both part (x ∷ xs) ys = ap (λ ns. part x ∷ ns) (map-both part xs ys)

pub map-last_or : {X : Type 0} (part : X → ℕ) (test : ℕ → Bool) (most : ℕ) (xs : List X)
    → map part (last_or (λ x. test (part x)) most xs) ≡ last_or test most (map part xs)
map-last_or part test most xs =
    let n : ℕ = length xs - most in
    let m : ℕ = length (map part xs) - most in
    let same : n ≡ m = ap (λ k. k - most) (sym (length-map xs part)) in
    map-both part (filter (λ x. test (part x)) (take n xs)) (drop n xs)
    ∙ ap₂ (λ front back. front ++ back)
    (map-filter part test (take n xs) ∙ ap (filter test) (map-take part n xs)
    ∙ ap (λ k. filter test (take k (map part xs))) same)
    (map-drop part n xs ∙ ap (λ k. drop k (map part xs)) same)

-- ## The changes

once-run : (f : FunctionEntry) (events : List ℕ) (parent : Option Parent) (s : State) → RunsStandOnce s
    → RunsStandOnce (started f events parent s)
once-run f events parent s h =
    subst (λ live. StandOnce (s.runs + 1) live (numbers_of s.closing) (ended_numbers s))
    (sym (map-last (λ (r : Run). r.number) s.live (run_from f events parent s)))
    (once-started s.runs (numbers_of s.live) (numbers_of s.closing) (ended_numbers s) h)

once-changed : (number : ℕ) (f : Run → Run) (s : State) → ((r : Run) → (f r).number ≡ r.number)
    → RunsStandOnce s → RunsStandOnce (change_run number f s)
once-changed number f s same h =
    subst (λ live. StandOnce s.runs live (numbers_of s.closing) (ended_numbers s))
    (sym (numbers-changed number f s.live same)) h

once-end_run : (r : Run) (status : RunStatus) (s : State) → IsLive r s → RunsStandOnce s
    → RunsStandOnce (end_run r status s)
once-end_run r status s live h =
    let left : List ℕ = filter (λ n. not (r.number == n)) (numbers_of s.live) in
    let there : IsIn r.number (numbers_of s.live) =
    in-map (λ (q : Run). q.number) r s.live
    (in-found (λ (other : Run). r.number == other.number) s.live r live) in
    let after : State = end_run r status s in
    subst (λ ns. StandOnce s.runs ns (numbers_of after.closing) (ended_numbers after))
    (sym (map-filter (λ (q : Run). q.number) (λ n. not (r.number == n)) s.live))
    (subst (λ ns. StandOnce s.runs left ns (ended_numbers after)) (sym (numbers-inserted r s.closing))
    (subst (λ ns. StandOnce s.runs left (insert_by own r.number (numbers_of s.closing)) ns)
    (sym (map-last (λ (e : EndedRun). e.run) s.ended (ended_run r status s)))
    (once-ended s.runs r.number (numbers_of s.live) (numbers_of s.closing) (ended_numbers s) there h)))

once-tidied : (s : State) → RunsStandOnce s → RunsStandOnce (tidied s)
unfolding tidied
once-tidied s h =
    let test : ℕ → Bool = has_open_call s.issues in
    let after : State = tidied s in
    subst (λ ns. StandOnce s.runs (numbers_of s.live) ns (ended_numbers after))
    (sym (map-filter (λ (q : Run). q.number) test s.closing))
    (subst (λ ns. StandOnce s.runs (numbers_of s.live) (filter test (numbers_of s.closing)) ns)
    (sym (map-last_or (λ (e : EndedRun). e.run) test 1000 s.ended))
    (once-left s.runs 1000 test (numbers_of s.live) (numbers_of s.closing) (ended_numbers s) h))

once-accepted : (event : EventIn) (id : Option (List ℕ)) (s : State) → RunsStandOnce s
    → RunsStandOnce (add_event (event_with event s) (remember id s))
once-accepted event None s h = h
once-accepted event (Some id) s h = h

once-pended : (kind : Pending) (name : List ℕ) (r : Run) (s : State) → RunsStandOnce s
    → RunsStandOnce (pend kind name r s)
once-pended kind name r s h =
    once-changed r.number (λ q. with_steps (pend_step name kind q.steps) q) s (λ q. refl) h

keeps-once : Keeps RunsStandOnce
keeps-once = freely RunsStandOnce (record {
  accepts = λ event id s new h. once-accepted event id s h;
  starts = λ f event parent s there given h. once-run f (event ∷ []) parent s h;
  fills = λ f r value event s may full h.
      once-run f (windows.events_of (window_after f r value event s)) None (with_offer f r value event s) h;
  fires = λ f w s there stands h.
      once-run f (windows.events_of w) None (without_window (windows.number_of w) s) h;
  joins = λ f r value event s may full h. h;
  windows_go = λ number s h. h;
  rules = λ r event c s there e h. h;
  finds_out = λ r s there h. h;
  wants = λ r s live h. once-changed r.number want s (λ q. refl) h;
  plans = λ r name s live new h. once-changed r.number (with_plan name) s (λ q. refl) h;
  sleeps = λ r name t s live new h. once-pended pending.Sleep name r s h;
  waits = λ r name event t cond s live new h. once-pended pending.Wait name r s h;
  pends = λ r name s live new h. once-pended pending.Invocation name r s h;
  invokes = λ r name child t s there h. h;
  ends = λ r status s live h. once-end_run r status s live h;
}) (record {
  records = λ run name result s h. once-changed run (record_in name result) s (λ q. refl) h;
  sleeps_go = λ test s h. h;
  waits_go = λ test s h. h;
  invocations_go = λ test s h. h;
  rules_go = λ test s h. h;
})

once-steps : (bound : ℕ) → KeepsSteps bound (λ input. Unit {0}) (λ is s. RunsStandOnce s)
once-steps bound = record {
  calls = dropping (λ is s. RunsStandOnce s) (record {
    runs = λ is. keeps-once;
    closes = λ i s there h. h;
    reopens = λ s h. h;
    drops = λ i is s h. h;
    retries = λ i is a r s live new h. h;
    requeues = λ i is r s live new h. h;
  });
  counts = λ s h. h;
  moves = λ t next s low e h. h;
  arrives = λ t s low on before h. h;
  issues = λ number i s next there h. once-changed i.run (called i.target) s (λ q. refl) h;
  registers = λ at app s asked h. h;
  tidies = λ s h. once-tidied s h;
}

-- ## Steps

pub once-step : (s : State) (input : Input) → RunsStandOnce s → RunsStandOnce (step s input).state
once-step s input h =
    let bound : ℕ = moment_at (reading input) s in
    kept-step bound (λ input. Unit {0}) (λ is s. RunsStandOnce s) (once-steps bound) s input (omega arith) tt h

once-after : (inputs : List Input) (s : State) → RunsStandOnce s → RunsStandOnce (state_after s inputs)
once-after [] s h = h
once-after (input ∷ inputs) s h = once-after inputs (step s input).state (once-step s input h)

pub once-fold : (limits : Limits) (inputs : List Input) → RunsStandOnce (fold limits inputs)
once-fold limits inputs = once-after inputs (empty limits) (record {
  given = tt;
  closing_given = tt;
  ended_given = tt;
  live_apart = tt;
  closing_apart = tt;
  ended_apart = tt;
  beside_closing = tt;
  beside_ended = tt;
})

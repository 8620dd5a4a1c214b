-- What is there is named, and stands once: in each state that is reached.
use Rattle.std.proofs.Common.{◌≡◌, ◌≢◌, ℕ, ◌+◌, ◌-◌, ◌==◌, Bool, true, false, ◌||◌, cond, List, [], ◌∷◌, ◌++◌, map, filter, take, drop, length, min, Option, Some, None, refl, sym, ap, ◌∙◌, subst, arith, eq-eqb, eqb-true, length-take, take-append-drop}
use Rattle.std.proofs.lemmas.List.{length-map}
use Rattle.std.specs.List.{AllByRecursion}
use Rattle.kinds.specs.Inputs.{reading}
use Rattle.kinds.specs.declared.event.EventIn.{EventIn}
use Rattle.kinds.specs.declared.input.Input.{Input}
use Rattle.kinds.specs.declared.limits.Limits.{Limits}
use Rattle.kinds.specs.declared.store.RunStatus.{RunStatus}
use Rattle.functions.specs.Functions.{version_of}
use Rattle.functions.specs.declared.entry.FunctionEntry.{FunctionEntry}
use Rattle.lists.proofs.Elements.{all-both, all-filter, all-weaker, filter-passes}
use Rattle.run_model.specs.Ends.{end_run, ended_run, run_number}
use Rattle.run_model.specs.Events.{add_event, event_with}
use Rattle.run_model.specs.Fit.{RunsStandOnce}
use Rattle.run_model.specs.Machine.{fold, state_after, step}
use Rattle.run_model.specs.Requests.{remember}
use Rattle.run_model.specs.Sound.{KeepsNamed, StandsOnce, before_last, ended_numbers}
use Rattle.run_model.specs.State.{State, Run, EndedRun, empty, has_open_call, is_in, is_named, is_version_named, last_or, moment_at, tidied, without_closed}
use Rattle.run_model.proofs.Apart.{all-unmap, not-same, pairs-unmap}
use Rattle.run_model.proofs.EntryNumbers.{counts, counts-first}
use Rattle.run_model.proofs.FitRuns.{all-inserted}
use Rattle.run_model.proofs.Kept.{Keeps, freely}
use Rattle.run_model.proofs.KeptReplies.{dropping}
use Rattle.run_model.proofs.KeptSteps.{KeepsSteps, kept-step}
use Rattle.run_model.proofs.Limits.{map-last}
use Rattle.run_model.proofs.Members.{all-in, all-map}
use Rattle.run_model.proofs.OrderedLists.{Lists, counts-here, lists-fold}
use Rattle.run_model.proofs.RunsOnce.{map-last_or, map-take, once-fold}
use Rattle.run_model.proofs.SettlingLists.{or-left, or-right}
use Rattle.run_model.proofs.Tidied.{front-of, length-filtered, tidied-fold}
use Rattle.run_model.proofs.WaitingCounts.{one_if}

-- ## What is named

-- where as many are left as there were, each passes
all-pass : {X : Type 0} (p : X → Bool) (xs : List X) → length (filter p xs) ≡ length xs
    → AllByRecursion (λ x. p x ≡ true) xs
all-pass p [] h = tt
all-pass p (x ∷ xs) h = by_test (p x) refl h (all-pass p xs)
  where
    by_test : (b : Bool) → p x ≡ b → length (cond b (x ∷ filter p xs) (filter p xs)) ≡ length (x ∷ xs)
        → (length (filter p xs) ≡ length xs → AllByRecursion (λ y. p y ≡ true) xs)
        → (p x ≡ true) × AllByRecursion (λ y. p y ≡ true) xs
    by_test true e k more = (e, more (omega (arith, k)))
    by_test false e k more = let few = length-filtered p xs in absurd (omega (arith, k, few))

module _ (s : State) (h : tidied s ≡ s) where
  closing-same : filter (λ (r : Run). has_open_call s.issues r.number) s.closing ≡ s.closing
  unfolding tidied
  closing-same = ap (λ (t : State). t.closing) h

  ended-same : last_or (λ (e : EndedRun). has_open_call s.issues e.run) 1000 s.ended ≡ s.ended
  unfolding tidied
  ended-same = ap (λ (t : State). t.ended) h

  texts-same : filter (is_named (without_closed s)) s.texts ≡ s.texts
  unfolding tidied
  texts-same = ap (λ (t : State). t.texts) h

  retired-same : filter (is_version_named (without_closed s)) s.retired ≡ s.retired
  unfolding tidied
  retired-same = ap (λ (t : State). t.retired) h

  front-pass : AllByRecursion (λ (e : EndedRun). has_open_call s.issues e.run ≡ true)
      (take (length s.ended - 1000) s.ended)
  front-pass =
      let test : EndedRun → Bool = λ (e : EndedRun). has_open_call s.issues e.run in
      let n : ℕ = length s.ended - 1000 in
      let front : length (last_or test 1000 s.ended) - 1000 ≡ length (filter test (take n s.ended)) =
      front-of test 1000 s.ended in
      let whole : length (last_or test 1000 s.ended) ≡ length s.ended = ap (λ es. length es) ended-same in
      let taken : length (take n s.ended) ≡ min n (length s.ended) = length-take n s.ended in
      all-pass test (take n s.ended)
      (counted (length s.ended) (length (last_or test 1000 s.ended)) (length (filter test (take n s.ended)))
      (length (take n s.ended)) whole front taken)
    where
      counted : (all left passed taken : ℕ) → left ≡ all → left - 1000 ≡ passed → taken ≡ min (all - 1000) all
          → passed ≡ taken
      counted all left passed taken a b c = grind (arith, a, b, c)

  keeps-named : KeepsNamed s
  keeps-named = record {
    closing = subst (λ rs. AllByRecursion (λ (r : Run). has_open_call s.issues r.number ≡ true) rs) closing-same
        (filter-passes (λ (r : Run). has_open_call s.issues r.number) s.closing);
    retired = all-weaker (λ f. is_version_named (without_closed s) f ≡ true)
        (λ f. is_version_named s f ≡ true) s.retired
        (λ f k. subst (λ rs. is_version_named (record (without_closed s) { closing = rs }) f ≡ true) closing-same k)
        (subst (λ fs. AllByRecursion (λ f. is_version_named (without_closed s) f ≡ true) fs) retired-same
        (filter-passes (is_version_named (without_closed s)) s.retired));
    texts = all-weaker (λ e. is_named (without_closed s) e ≡ true) (λ e. is_named s e ≡ true) s.texts
        (λ e k. subst (λ rs. is_named (record (without_closed s) { closing = rs }) e ≡ true) closing-same k)
        (subst (λ es. AllByRecursion (λ e. is_named (without_closed s) e ≡ true) es) texts-same
        (filter-passes (is_named (without_closed s)) s.texts));
    ended = subst (λ ns. AllByRecursion (λ n. has_open_call s.issues n ≡ true) ns) front-numbers
        (all-map (λ n. has_open_call s.issues n ≡ true) (λ (e : EndedRun). e.run)
        (take (length s.ended - 1000) s.ended) front-pass);
  }
    where
      front-numbers : map (λ (e : EndedRun). e.run) (take (length s.ended - 1000) s.ended)
          ≡ before_last 1000 (ended_numbers s)
      front-numbers = map-take (λ (e : EndedRun). e.run) (length s.ended - 1000) s.ended
          ∙ ap (λ n. take (n - 1000) (ended_numbers s)) (sym (length-map s.ended (λ (e : EndedRun). e.run)))

pub kept-fold : (limits : Limits) (inputs : List Input) → KeepsNamed (fold limits inputs)
kept-fold limits inputs = keeps-named (fold limits inputs) (tidied-fold limits inputs)

-- ## Runs whose calls are open still have ended

in-more : (n m : ℕ) (ns : List ℕ) → is_in n ns ≡ true → is_in n (ns ++ m ∷ []) ≡ true
in-more n m [] h = absurd (cc)
in-more n m (k ∷ ns) h =
    (elim (n == k) as (λ b. (b || is_in n ns) ≡ true → (b || is_in n (ns ++ m ∷ [])) ≡ true)
    [ true ↦ λ e. refl | false ↦ λ e. in-more n m ns e ]) h

in-added : (n : ℕ) (ns : List ℕ) → is_in n (ns ++ n ∷ []) ≡ true
in-added n [] = or-left (n == n) false (eq-eqb n n refl)
in-added n (k ∷ ns) = or-right (n == k) (is_in n (ns ++ n ∷ [])) (in-added n ns)

in-left : (n : ℕ) (test : ℕ → Bool) (ns ms : List ℕ) → test n ≡ true → is_in n (ns ++ ms) ≡ true
    → is_in n (filter test ns ++ ms) ≡ true
in-left n test [] ms passes h = h
in-left n test (k ∷ ns) ms passes h = by_tests (test k) (n == k) refl refl h (in-left n test ns ms passes)
  where
    by_tests : (b c : Bool) → test k ≡ b → (n == k) ≡ c → (c || is_in n (ns ++ ms)) ≡ true
        → (is_in n (ns ++ ms) ≡ true → is_in n (filter test ns ++ ms) ≡ true)
        → is_in n (cond b (k ∷ filter test ns) (filter test ns) ++ ms) ≡ true
    by_tests true true e own m more = or-left (n == k) (is_in n (filter test ns ++ ms)) own
    by_tests true false e own m more = or-right (n == k) (is_in n (filter test ns ++ ms)) (more m)
    by_tests false true e own m more =
        let no : test n ≡ false = subst (λ x. test x ≡ false) (sym (eqb-true n k own)) e in absurd (cc)
    by_tests false false e own m more = more m

in-last_or : (n : ℕ) (test : ℕ → Bool) (most : ℕ) (ns : List ℕ) → test n ≡ true → is_in n ns ≡ true
    → is_in n (last_or test most ns) ≡ true
in-last_or n test most ns passes h =
    let k : ℕ = length ns - most in
    in-left n test (take k ns) (drop k ns) passes
    (subst (λ ms. is_in n ms ≡ true) (sym (take-append-drop k ns)) h)

abbrev HaveEnded : State → Type 0
HaveEnded s = AllByRecursion (λ (r : Run). is_in r.number (ended_numbers s) ≡ true) s.closing

have-ended : (r : Run) (status : RunStatus) (s : State) → HaveEnded s → HaveEnded (end_run r status s)
have-ended r status s h =
    let after : List ℕ = map (λ (e : EndedRun). e.run) (s.ended ++ ended_run r status s ∷ []) in
    let same : after ≡ ended_numbers s ++ r.number ∷ [] =
    map-last (λ (e : EndedRun). e.run) s.ended (ended_run r status s) in
    subst (λ ns. AllByRecursion (λ (q : Run). is_in q.number ns ≡ true) (end_run r status s).closing) (sym same)
    (all-inserted (λ (q : Run). is_in q.number (ended_numbers s ++ r.number ∷ []) ≡ true) run_number r s.closing
    (in-added r.number (ended_numbers s))
    (all-weaker (λ (q : Run). is_in q.number (ended_numbers s) ≡ true)
    (λ (q : Run). is_in q.number (ended_numbers s ++ r.number ∷ []) ≡ true) s.closing
    (λ q k. in-more q.number r.number (ended_numbers s) k) h))

ended-accepted : (event : EventIn) (id : Option (List ℕ)) (s : State) → HaveEnded s
    → HaveEnded (add_event (event_with event s) (remember id s))
ended-accepted event None s h = h
ended-accepted event (Some id) s h = h

keeps-ended : Keeps HaveEnded
keeps-ended = freely HaveEnded (record {
  accepts = λ event id s new h. ended-accepted event id s h;
  starts = λ f event parent s there given h. h;
  fills = λ f r value event s may full h. h;
  fires = λ f w s there stands h. h;
  joins = λ f r value event s may full h. h;
  windows_go = λ number s h. h;
  rules = λ r event c s there e h. h;
  finds_out = λ r s there h. h;
  wants = λ r s live h. h;
  plans = λ r name s live new h. h;
  sleeps = λ r name t s live new h. h;
  waits = λ r name event t given s live new h. h;
  pends = λ r name s live new h. h;
  invokes = λ r name child t s there h. h;
  ends = λ r status s live h. have-ended r status s h;
}) (record {
  records = λ run name result s h. h;
  sleeps_go = λ test s h. h;
  waits_go = λ test s h. h;
  invocations_go = λ test s h. h;
  rules_go = λ test s h. h;
})

ended-tidied : (s : State) → HaveEnded s → HaveEnded (tidied s)
unfolding tidied
ended-tidied s h =
    let test : Run → Bool = λ (r : Run). has_open_call s.issues r.number in
    subst (λ ns. AllByRecursion (λ (r : Run). is_in r.number ns ≡ true) (filter test s.closing))
    (sym (map-last_or (λ (e : EndedRun). e.run) (has_open_call s.issues) 1000 s.ended))
    (all-both (λ (r : Run). is_in r.number (ended_numbers s) ≡ true) (λ r. test r ≡ true)
    (λ (r : Run). is_in r.number (last_or (has_open_call s.issues) 1000 (ended_numbers s)) ≡ true)
    (filter test s.closing)
    (λ r k passes. in-last_or r.number (has_open_call s.issues) 1000 (ended_numbers s) passes k)
    (all-filter (λ (r : Run). is_in r.number (ended_numbers s) ≡ true) test s.closing h)
    (filter-passes test s.closing))

ended-steps : (bound : ℕ) → KeepsSteps bound (λ input. Unit {0}) (λ is s. HaveEnded s)
ended-steps bound = record {
  calls = dropping (λ is s. HaveEnded s) (record {
    runs = λ is. keeps-ended;
    closes = λ i s there h. h;
    reopens = λ s h. h;
    drops = λ i is s h. h;
    retries = λ i is a r s live new h. h;
    requeues = λ i is r s live new h. h;
  });
  counts = λ s h. h;
  moves = λ t next s low e h. h;
  arrives = λ t s low on before h. h;
  issues = λ number i s next there h. h;
  registers = λ at app s asked h. h;
  tidies = ended-tidied;
}

ended-step : (s : State) (input : Input) → HaveEnded s → HaveEnded (step s input).state
ended-step s input h =
    let bound : ℕ = moment_at (reading input) s in
    kept-step bound (λ input. Unit {0}) (λ is s. HaveEnded s) (ended-steps bound) s input (omega arith) tt h

ended-after : (inputs : List Input) (s : State) → HaveEnded s → HaveEnded (state_after s inputs)
ended-after [] s h = h
ended-after (input ∷ inputs) s h = ended-after inputs (step s input).state (ended-step s input h)

-- ## Each once

none-in : (n : ℕ) (ns : List ℕ) → AllByRecursion (λ m. n ≢ m) ns → is_in n ns ≡ false
none-in n [] h = refl
none-in n (m ∷ ns) h = rw (not-same n m h.0) (none-in n ns h.1)

not-counted : (n : ℕ) (fs : List FunctionEntry) → counts version_of n fs ≡ 0 → is_in n (map version_of fs) ≡ false
not-counted n [] h = refl
not-counted n (f ∷ fs) h = by_test (n == f.version) (counts-first version_of n f fs) (not-counted n fs)
  where
    by_test : (b : Bool) → counts version_of n (f ∷ fs) ≡ counts version_of n fs + one_if b
        → (counts version_of n fs ≡ 0 → is_in n (map version_of fs) ≡ false)
        → (b || is_in n (map version_of fs)) ≡ false
    by_test true a more = absurd (omega (arith, a, h))
    by_test false a more = more (omega (arith, a, h))

pub stand-fold : (limits : Limits) (inputs : List Input) → StandsOnce (fold limits inputs)
stand-fold limits inputs =
    let s : State = fold limits inputs in
    let lists : Lists s = lists-fold limits inputs in
    let once : RunsStandOnce s = once-fold limits inputs in
    record {
      versions = all-in (λ f. is_in (version_of f) (map version_of s.retired) ≡ false) s.functions
          (λ f there. not-counted f.version s.retired
          (let one = counts-here version_of f s.functions there in
          let most = (lists.1.1.1.1 f.version).0 in
          omega (arith, one, most)));
      ended = pairs-unmap (λ n later. n ≢ later) (λ (e : EndedRun). e.run) s.ended once.ended_apart;
      live = all-weaker (λ (r : Run). AllByRecursion (λ other. r.number ≢ other) (ended_numbers s))
          (λ (r : Run). is_in r.number (ended_numbers s) ≡ false) s.live
          (λ r k. none-in r.number (ended_numbers s) k)
          (all-unmap (λ n. AllByRecursion (λ other. n ≢ other) (ended_numbers s)) (λ (r : Run). r.number) s.live
          once.beside_ended);
      closing = ended-after inputs (empty limits) tt;
    }

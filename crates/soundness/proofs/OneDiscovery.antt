-- A run has at most one item or call that finds out what comes next, at each change and so in each state that is
-- reached.
use Rattle.std.proofs.Common.{◌≡◌, ℕ, ◌+◌, ◌≤◌, ◌==◌, Bool, true, false, not, ◌||◌, cond, List, [], ◌∷◌, ◌++◌, map, filter, refl, sym, ap, ◌∙◌, subst, arith, bytes_eq, eqb-true}
use Rattle.std.specs.List.{list_any}
use Rattle.kinds.specs.Queue.{insert_item, without_number, without_run}
use Rattle.kinds.specs.declared.input.Input.{Input}
use Rattle.kinds.specs.declared.limits.Limits.{Limits}
use Rattle.kinds.specs.declared.store.Item.{Item}
use Rattle.lists.proofs.Elements.{all-weaker}
use Rattle.run_model.specs.Fit.{AreDifferent, item_of}
use Rattle.run_model.specs.Laws.{IsIn}
use Rattle.run_model.specs.Machine.{fold}
use Rattle.run_model.specs.Making.{has_discovery, is_item_of, new_item, step_target}
use Rattle.run_model.specs.Recording.{change_run, without_item}
use Rattle.run_model.specs.Replies.{begun, take_operations, with_plan}
use Rattle.run_model.specs.Settle.{issued}
use Rattle.run_model.specs.Sound.{Discovers, all_runs, discoveries, is_step}
use Rattle.run_model.specs.State.{State, Run, Issue}
use Rattle.run_model.proofs.Discovered.{wanted-found}
use Rattle.run_model.proofs.Members.{all-in}
use Rattle.run_model.proofs.Rising.{call_of}
use Rattle.run_model.proofs.WaitingCounts.{counted-cleared, counted-last, counted-left, counted-without, one_if}
use Rattle.soundness.proofs.Carried.{Core, Carries, IsFor, core}
use Rattle.soundness.proofs.CarriedReplies.{CallsRise, CarriesSteps, beside-steps}
use Rattle.soundness.proofs.CarriedSteps.{carried-fold}
use Rattle.soundness.proofs.CountedCalls.{counted-both, counted-first, counted-none, counted-over, counted-some, counted-taken, either-none, issue_run, issue_target, item_run, item_target, opened, other-name, other-run, queued, queued-more, queued-opened, step-same}
use Rattle.soundness.proofs.RunNumbers.{HasNumbers, numbers-empty, numbers-steps}
use Rattle.soundness.proofs.StepNames.{IsName, name-apart}

-- aside, queued or called
abbrev found : ℕ → List Item → List Item → List Issue → ℕ
found n is items issues = queued n step_target is + queued n step_target items + opened n step_target issues

abbrev FindOnce : List Item → Core → Type 0
FindOnce is c = (n : ℕ) → found n is c.items c.issues ≤ 1

-- what an item adds
abbrev own_part : ℕ → ℕ → List ℕ → ℕ
own_part n run target = one_if (is_step n step_target run target)

-- ## The changes

one-most : (b : Bool) → one_if b ≤ 1
one-most true = omega arith
one-most false = omega arith

none-most : (b : Bool) (n : ℕ) → cond b 0 n ≤ n
none-most true n = omega arith
none-most false n = omega arith

once-made : (is : List Item) (i : Item) (s : State) → IsFor (s.runs + 1) step_target i → HasNumbers is (core s)
    → FindOnce is (core s) → (n : ℕ) → found n is (insert_item i s.items) s.issues ≤ 1
once-made is i s own numbers h n = by_test (n == s.runs + 1) refl
  where
    by_test : (b : Bool) → (n == s.runs + 1) ≡ b → found n is (insert_item i s.items) s.issues ≤ 1
    by_test true e =
        let next : n ≡ s.runs + 1 = eqb-true n (s.runs + 1) e in
        let a = counted-over item_run item_target s.runs n step_target is next numbers.aside in
        let b = counted-over item_run item_target s.runs n step_target s.items next numbers.queued in
        let c = counted-over issue_run issue_target s.runs n step_target s.issues next numbers.called in
        let d = queued-more n step_target i s.items in
        let k = one-most (is_step n step_target i.run i.target) in
        omega (arith, a, b, c, d, k)
    by_test false e =
        let a = queued-more n step_target i s.items in
        let b = step-same n (s.runs + 1) step_target step_target i own in
        let c : own_part n (s.runs + 1) step_target ≡ 0 =
        ap one_if (other-run n (s.runs + 1) step_target step_target e) in
        let k = h n in
        omega (arith, a, b, c, k)

once-found : (r : Run) (s : State) → has_discovery s r.number ≡ false → FindOnce [] (core s)
    → (n : ℕ) → found n [] (insert_item (new_item r step_target s) s.items) s.issues ≤ 1
once-found r s none h n = by_test (n == r.number) refl
  where
    by_test : (b : Bool) → (n == r.number) ≡ b
        → found n [] (insert_item (new_item r step_target s) s.items) s.issues ≤ 1
    by_test true e =
        let same : n ≡ r.number = eqb-true n r.number e in
        let missed = either-none (list_any (is_item_of n step_target) s.items)
        (list_any (λ (i : Issue). is_item_of n step_target i.item) s.issues)
        (subst (λ k. has_discovery s k ≡ false) (sym same) none) in
        let a = counted-none item_run item_target n step_target s.items missed.0 in
        let b = counted-none issue_run issue_target n step_target s.issues missed.1 in
        let c = queued-more n step_target (new_item r step_target s) s.items in
        let k = one-most (is_step n step_target r.number step_target) in
        omega (arith, a, b, c, k)
    by_test false e =
        let a = queued-more n step_target (new_item r step_target s) s.items in
        let b : own_part n r.number step_target ≡ 0 =
        ap one_if (other-run n r.number step_target step_target e) in
        let k = h n in
        omega (arith, a, b, k)

once-planned : (is : List Item) (name : List ℕ) (j : Item) (s : State) → IsName name → j.target ≡ name
    → FindOnce is (core s) → (n : ℕ) → found n is (insert_item j s.items) s.issues ≤ 1
once-planned is name j s named own h n =
    let a = queued-more n step_target j s.items in
    let b : own_part n j.run j.target ≡ 0 =
    ap one_if (other-name n j.run step_target j.target (ap (bytes_eq step_target) own ∙ name-apart name named)) in
    let k = h n in
    omega (arith, a, b, k)

once-recorded : (is : List Item) (run : ℕ) (name : List ℕ) (s : State) → FindOnce is (core s)
    → (n : ℕ) → found n is (without_item run name s.items) s.issues ≤ 1
once-recorded is run name s h n =
    let a = counted-cleared item_run item_target run name n step_target s.items in
    let b = none-most (is_step n step_target run name) (queued n step_target s.items) in
    let k = h n in
    omega (arith, a, b, k)

once-ended : (is : List Item) (number : ℕ) (s : State) → FindOnce is (core s)
    → (n : ℕ) → found n is (without_run number s.items) s.issues ≤ 1
once-ended is number s h n =
    let a = counted-left item_run item_target number n step_target s.items in
    let b = none-most (number == n) (queued n step_target s.items) in
    let k = h n in
    omega (arith, a, b, k)

once-closed : (i : Issue) (s : State) → IsIn i s.issues → CallsRise s.issues
    → FindOnce [] (core s)
    → (n : ℕ) → found n (i.item ∷ []) s.items (filter (λ (j : Issue). not (i.call == j.call)) s.issues) ≤ 1
once-closed i s there rise h n =
    let a = counted-first item_run item_target n step_target i.item [] in
    let b = counted-without issue_run issue_target call_of i n step_target s.issues there
    rise in
    let k = h n in
    omega (arith, a, b, k)

once-reopened : (s : State) → FindOnce [] (core s) → (n : ℕ) → found n (map item_of s.issues) s.items [] ≤ 1
once-reopened s h n = let a = queued-opened n step_target s.issues in let k = h n in omega (arith, a, k)

once-dropped : (i : Item) (is : List Item) (c : Core) → FindOnce (i ∷ is) c → FindOnce is c
once-dropped i is c h n =
    let a = counted-first item_run item_target n step_target i is in
    let k = h n in
    omega (arith, a, k)

once-again : (i j : Item) (is : List Item) (s : State) → IsFor i.run i.target j → FindOnce (i ∷ is) (core s)
    → (n : ℕ) → found n is (insert_item j s.items) s.issues ≤ 1
once-again i j is s own h n =
    let a = counted-first item_run item_target n step_target i is in
    let b = queued-more n step_target j s.items in
    let c = step-same n i.run step_target i.target j own in
    let k = h n in
    omega (arith, a, b, c, k)

once-issued : (i : Item) (s : State) → IsIn i s.items → AreDifferent s.items → FindOnce [] (core s)
    → (n : ℕ) → found n [] (without_number i.number s.items) (s.issues ++ issued i s ∷ []) ≤ 1
once-issued i s there apart h n =
    let a = counted-taken item_run item_target n step_target (λ (x : Item). x.number) i s.items there apart in
    let b = counted-last issue_run issue_target n step_target s.issues (issued i s) in
    let k = h n in
    omega (arith, a, b, k)

once-changes : Carries HasNumbers FindOnce
once-changes = record {
  accepts = λ is event s next numbers h. h;
  makes = λ is f events parent i s there texts own numbers h. once-made is i s own.0 numbers h;
  joins = λ is f r value event s there text numbers h. h;
  windows_go = λ is number s numbers h. h;
  finds_out = λ r s there none numbers h. once-found r s none h;
  wants = λ is number s numbers h. h;
  plans = λ i r name s live new own numbers h.
      once-planned (i ∷ []) name (new_item r name (change_run r.number (with_plan name) s)) s own refl h;
  pends = λ i kind r name s live new own numbers h. h;
  results = λ i r name result s live own numbers h. once-recorded (i ∷ []) r.number name s h;
  wakes = λ is run r name result s live waits numbers h. once-recorded is run name s h;
  ends = λ is r status s live numbers h. once-ended is r.number s h;
}

once-steps : CarriesSteps HasNumbers FindOnce
once-steps = record {
  changes = once-changes;
  closes = λ i s rise there numbers h. once-closed i s there rise h;
  reopens = λ s numbers h. once-reopened s h;
  drops = λ i is s done numbers h. once-dropped i is (core s) h;
  leaves = λ i no_retry ops s has own over numbers_before before numbers h.
      once-dropped i [] (core (take_operations i no_retry ops (begun s)).state) h;
  queues = λ i j is r s its start live new numbers h. once-again i j is s its h;
  issues = λ i s apart there numbers h. once-issued i s there apart h;
  registers = λ app s numbers h. h;
  tidies = λ s numbers h. h;
}

-- ## What follows

once-fold : (limits : Limits) (inputs : List Input) → FindOnce [] (core (fold limits inputs))
once-fold limits inputs =
    (carried-fold (λ is c. HasNumbers is c × FindOnce is c)
    (beside-steps HasNumbers FindOnce numbers-steps once-steps) limits inputs (numbers-empty, λ n. omega arith)).1

found-both : (s : State) (r : Run) → discoveries s r ≡ found r.number [] s.items s.issues
found-both s r =
    let a : discoveries s r
    ≡ queued r.number step_target s.items + queued r.number step_target (map item_of s.issues) =
    counted-both item_run item_target r.number step_target s.items (map item_of s.issues) in
    let b = queued-opened r.number step_target s.issues in
    omega (arith, a, b)

least-one : (s : State) (r : Run) → has_discovery s r.number ≡ true → 1 ≤ discoveries s r
least-one s r h =
    by_test (list_any (is_item_of r.number step_target) s.items)
    (list_any (λ (i : Issue). is_item_of r.number step_target i.item) s.issues) refl refl h
  where
    by_test : (a b : Bool) → list_any (is_item_of r.number step_target) s.items ≡ a
        → list_any (λ (i : Issue). is_item_of r.number step_target i.item) s.issues ≡ b
        → (a || b) ≡ true → 1 ≤ discoveries s r
    by_test true b e k both =
        let a = found-both s r in
        let some = counted-some item_run item_target r.number step_target s.items e in
        omega (arith, a, some)
    by_test false true e k both =
        let a = found-both s r in
        let some = counted-some issue_run issue_target r.number step_target s.issues k in
        omega (arith, a, some)
    by_test false false e k both = absurd (cc)

pub discovers-fold : (limits : Limits) (inputs : List Input) → Discovers (fold limits inputs)
discovers-fold limits inputs =
    let s : State = fold limits inputs in
    let most : (r : Run) → discoveries s r ≤ 1 =
    λ r. let a = found-both s r in let k = once-fold limits inputs r.number in omega (arith, a, k) in
    record {
      one = all-in (λ r. discoveries s r ≤ 1) (all_runs s) (λ r there. most r);
      wanted = all-weaker (λ (r : Run). r.wanted ≡ true → has_discovery s r.number ≡ true)
          (λ (r : Run). r.wanted ≡ true → discoveries s r ≡ 1) s.live
          (λ r k wanted. let a = most r in let b = least-one s r (k wanted) in omega (arith, a, b))
          (wanted-found limits inputs);
    }

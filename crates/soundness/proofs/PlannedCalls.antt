-- A planned name of a run has one item or one open call, and an item or a call of another name is of a recorded one:
-- where runs, items and calls change.
use Rattle.std.proofs.Common.{◌≡◌, ℕ, zero, suc, ◌+◌, ◌≤◌, ◌==◌, Bool, true, false, not, ◌||◌, cond, List, [], ◌∷◌, ◌++◌, filter, find, Option, Some, None, IfSome, is_some, option_map, refl, sym, ap, ◌∙◌, subst, bytes_eq, arith, eqb-true}
use Rattle.std.specs.BTreeMap.{is_at}
use Rattle.std.specs.Cmp.Lexicographic.{slice_cmp}
use Rattle.std.specs.List.{AllByRecursion}
use Rattle.std.specs.Ordering.{nat_cmp}
use Rattle.kinds.specs.Queue.{insert_item, without_run}
use Rattle.kinds.specs.RunSteps.{RunSteps, no_steps, has_name, is_known, is_pending, is_planned, is_recorded, known, note_pending, note_plan, pend_step, plan_step, record_step, with_room}
use Rattle.kinds.specs.declared.store.Item.{Item}
use Rattle.kinds.specs.declared.store.Pending.{Pending}
use Rattle.lists.proofs.Elements.{all-filter, all-last}
use Rattle.lists.proofs.Texts.{bytes_same}
use Rattle.run_model.specs.Making.{step_target}
use Rattle.run_model.specs.Recording.{changed, record_in, result_for, without_item}
use Rattle.run_model.specs.Replies.{with_plan}
use Rattle.run_model.specs.Sound.{is_step}
use Rattle.run_model.specs.State.{Run, Issue}
use Rattle.run_model.proofs.Awaiting.{found-some}
use Rattle.run_model.proofs.FitEvents.{find-last, found-left, none-left}
use Rattle.run_model.proofs.FitRuns.{all-changed}
use Rattle.run_model.proofs.Kept.{Adds}
use Rattle.run_model.proofs.Members.{in-all, in-found}
use Rattle.run_model.proofs.SettlingLists.{found-passes, same-some}
use Rattle.run_model.proofs.Unrecorded.{change, found-changed}
use Rattle.run_model.proofs.WaitingCounts.{counted-cleared, counted-left, flip-eq, one_if}
use Rattle.run_model.proofs.WaitingNames.{found-inserted, under}
use Rattle.soundness.proofs.Carried.{IsFor, pended}
use Rattle.soundness.proofs.CountedCalls.{counted-over, either-none, issue_run, issue_target, item_run, item_target, opened, other-name, other-run, queued, queued-more, step-same, this-step}
use Rattle.soundness.proofs.PlannedNames.{AreInOrder, key-gone, key-inserted, key-left, keys-inserted, keys-removed, none-removed, order-inserted, order-removed}
use Rattle.soundness.proofs.RunNumbers.{AreGiven}

-- ## What holds of a name

-- where it is planned, where it isn't, with so many items that are queued and so many others
pub record Stands (planned : Bool) (items others : ℕ) (recorded pending : Bool) : Type 0 where
  pub once : planned ≡ true → (items + others ≡ 1) × ((recorded ≡ false) × (pending ≡ false))
  pub none : planned ≡ false → (items ≡ 0) × (1 ≤ others → recorded ≡ true)

pub stands-same : {p q w p_now q_now w_now : Bool} {a b a_now b_now : ℕ} → p_now ≡ p → q_now ≡ q → a_now ≡ a → b_now ≡ b
    → (w ≡ false → w_now ≡ false) → Stands p a b q w → Stands p_now a_now b_now q_now w_now
stands-same {a = a} {b = b} {b_now = b_now} ep eq ea eb ew h = record {
  once = λ e. let k = h.once (sym ep ∙ e) in
      let one : a + b ≡ 1 = k.0 in
      (omega (arith, ea, eb, one), (eq ∙ k.1.0, ew k.1.1));
  none = λ e. let k = h.none (sym ep ∙ e) in
      let nothing : a ≡ 0 = k.0 in
      (omega (arith, ea, nothing), λ (some : 1 ≤ b_now). eq ∙ k.1 (omega (arith, eb, some)));
}

-- a new name is planned
stands-planned : (p q w w_now : Bool) (a b a_now : ℕ) → p ≡ false → q ≡ false → w_now ≡ false → a_now ≡ a + 1
    → Stands p a b q w → Stands true a_now b q w_now
stands-planned p q w w_now a b a_now ep eq ew ea h = record {
  once = λ e. (one (h.none ep), (eq, ew));
  none = λ e. absurd (cc);
}
  where
    by_others : (n : ℕ) → n ≡ b → a ≡ 0 → (1 ≤ b → q ≡ true) → a_now + b ≡ 1
    by_others zero e none k = omega (arith, ea, none, e)
    by_others (suc n) e none k = let no : q ≡ true = k (omega (arith, e)) in absurd (cc)

    one : (a ≡ 0) × (1 ≤ b → q ≡ true) → a_now + b ≡ 1
    one k = by_others b refl k.0 k.1

stands-recorded : {p q w : Bool} {a b : ℕ} → p ≡ false → q ≡ true → a ≡ 0 → Stands p a b q w
stands-recorded ep eq ea = record {
  once = λ e. absurd (cc);
  none = λ e. (ea, λ some. eq);
}

-- a name that isn't planned may wait
stands-pended : {p q w w_now : Bool} {a b : ℕ} → p ≡ false → Stands p a b q w → Stands p a b q w_now
stands-pended ep h = record { once = λ e. absurd (cc); none = h.none }

-- one of the others is left out, of a recorded name
pub stands-fewer : {p q w : Bool} {a b b_now : ℕ} → q ≡ true → b ≡ b_now + 1 → Stands p a b q w → Stands p a b_now q w
stands-fewer {q = q} eq eb h = record {
  once = λ e. let no : q ≡ false = (h.once e).1.0 in absurd (cc);
  none = λ e. ((h.none e).0, λ some. eq);
}

-- one of the others is queued
pub stands-again : {p q w : Bool} {a b a_now b_now : ℕ} → q ≡ false → a_now ≡ a + 1 → b ≡ b_now + 1 → Stands p a b q w
    → Stands p a_now b_now q w
stands-again {q = q} {a = a} {b = b} eq ea eb h = record {
  once = λ e. let one : a + b ≡ 1 = (h.once e).0 in (omega (arith, ea, eb, one), (h.once e).1);
  none = λ e. let no : q ≡ true = (h.none e).1 (omega (arith, eb)) in absurd (cc);
}

-- a queued one is called
pub stands-called : {p q w : Bool} {a b a_now b_now : ℕ} → a_now + 1 ≡ a → b_now ≡ b + 1 → Stands p a b q w
    → Stands p a_now b_now q w
stands-called {a = a} {b = b} ea eb h = record {
  once = λ e. let one : a + b ≡ 1 = (h.once e).0 in (omega (arith, ea, eb, one), (h.once e).1);
  none = λ e. let nothing : a ≡ 0 = (h.none e).0 in absurd (omega (arith, ea, nothing));
}

-- ## Of a run

abbrev pub IsCalled : ℕ → List ℕ → List Item → List Issue → List Item → Run → Type 0
IsCalled run name items issues is r =
    Stands (is_planned name r.steps) (queued run name items) (opened run name issues + queued run name is)
    (is_recorded name r.steps) (is_pending name r.steps)

-- a name of a step is another than what finds out what comes next
abbrev pub IsOther : List ℕ → Type 0
IsOther name = bytes_eq name step_target ≡ false

abbrev pub HasOrder : Run → Type 0
HasOrder r = AreInOrder r.steps.planned × AllByRecursion IsOther r.steps.planned

pub record AreCalled (is : List Item) (live : List Run) (items : List Item) (issues : List Issue) : Type 0 where
  pub ordered : AllByRecursion HasOrder live
  pub called : (run : ℕ) (name : List ℕ) → IsOther name
      → IfSome (find (λ (r : Run). run == r.number) live) (IsCalled run name items issues is)

-- ## What is found

of-found : (P Q : Run → Type 0) (o : Option Run) → ((r : Run) → o ≡ Some r → P r → Q r) → IfSome o P → IfSome o Q
of-found P Q None keeps h = h
of-found P Q (Some r) keeps h = keeps r refl h

pub of-mapped : (P Q : Run → Type 0) (g : Run → Run) (o : Option Run) → ((r : Run) → o ≡ Some r → P r → Q (g r))
    → IfSome o P → IfSome (option_map g o) Q
of-mapped P Q g None keeps h = h
of-mapped P Q g (Some r) keeps h = keeps r refl h

pub found-more : (Q : Run → Type 0) (p : Run → Bool) (rs : List Run) (r : Run) → (p r ≡ true → Q r)
    → IfSome (find p rs) Q → IfSome (find p (rs ++ r ∷ [])) Q
found-more Q p [] r own h = by_test (p r) refl
  where
    by_test : (b : Bool) → p r ≡ b → IfSome (cond b (Some r) None) Q
    by_test true e = own e
    by_test false e = tt
found-more Q p (x ∷ rs) r own h =
    (elim (p x) as (λ b. IfSome (cond b (Some x) (find p rs)) Q → IfSome (cond b (Some x) (find p (rs ++ r ∷ []))) Q)
    [ true ↦ λ k. k | false ↦ found-more Q p rs r own ]) h

none-known : (a b c : Bool) → (a || b || c) ≡ false → (a ≡ false) × ((b ≡ false) × (c ≡ false))
none-known a b c e =
    let k = either-none (a || b) c e in let m = either-none a b k.0 in (m.0, (m.1, k.1))

-- a name that is new
adds-unknown : (name : List ℕ) (t : RunSteps) → Adds (note_plan name t) → is_known name t ≡ false
adds-unknown name t h = by_test (is_known name t) refl h
  where
    by_test : (b : Bool) → is_known name t ≡ b → Adds (cond b known (with_room (plan_step name t) t))
        → is_known name t ≡ false
    by_test true e k = absurd k
    by_test false e k = e

pends-unknown : (name : List ℕ) (kind : Pending) (t : RunSteps) → Adds (note_pending name kind t)
    → is_known name t ≡ false
pends-unknown name kind t h = by_test (is_known name t) refl h
  where
    by_test : (b : Bool) → is_known name t ≡ b → Adds (cond b known (with_room (pend_step name kind t) t))
        → is_known name t ≡ false
    by_test true e k = absurd k
    by_test false e k = e

module _ (is : List Item) (live : List Run) (items : List Item) (issues : List Issue)
    (h : AreCalled is live items issues) where
  abbrev pub FoundAt : ℕ → Run → Type 0
  FoundAt run r = find (λ (q : Run). run == q.number) live ≡ Some r

  pub own-at : (run : ℕ) (r : Run) → FoundAt run r → run ≡ r.number
  own-at run r e = eqb-true run r.number (found-passes (λ (q : Run). run == q.number) live r e)

  -- the run that is found is the one that changes
  pub same-at : (number run : ℕ) (r q : Run) → FoundAt number r → FoundAt run q → (number == q.number) ≡ true → r ≡ q
  same-at number run r q a b e =
      let same : run ≡ number = own-at run q b ∙ sym (eqb-true number q.number e) in
      same-some r q (sym a ∙ subst (λ n. FoundAt n q) same b)

  -- ## Runs that change

  -- one run changes, and items and calls
  runs-changed : (number : ℕ) (f : Run → Run) (items_now is_now : List Item) (issues_now : List Issue)
      → ((r : Run) → (f r).number ≡ r.number) → ((r : Run) → HasOrder r → HasOrder (f r))
      → ((run : ℕ) (name : List ℕ) (r : Run) → IsOther name → FoundAt run r → IsCalled run name items issues is r
      → IsCalled run name items_now issues_now is_now (change number f r))
      → AreCalled is_now (changed number f live) items_now issues_now
  runs-changed number f items_now is_now issues_now same order keeps = record {
    ordered = all-changed HasOrder number f live order h.ordered;
    called = λ run name own.
        subst (λ o. IfSome o (IsCalled run name items_now issues_now is_now))
        (sym (found-changed run number f live same))
        (of-mapped (IsCalled run name items issues is) (IsCalled run name items_now issues_now is_now)
        (change number f) (find (λ (r : Run). run == r.number) live)
        (λ r e k. keeps run name r own e k) (h.called run name own));
  }

  -- its steps stay
  pub called-quiet : (number : ℕ) (f : Run → Run) → ((r : Run) → (f r).number ≡ r.number)
      → ((r : Run) → (f r).steps ≡ r.steps) → AreCalled is (changed number f live) items issues
  called-quiet number f same quiet =
      runs-changed number f items is issues same
      (λ r k. subst (λ (t : RunSteps). AreInOrder t.planned × AllByRecursion IsOther t.planned) (sym (quiet r)) k)
      (λ run name r own e k. elim (number == r.number) as (λ b. IsCalled run name items issues is (cond b (f r) r)) [
        | true ↦ subst (λ (t : RunSteps). Stands (is_planned name t) (queued run name items)
            (opened run name issues + queued run name is) (is_recorded name t) (is_pending name t)) (sym (quiet r)) k
        | false ↦ k
      ])

  -- items and calls change alone
  pub called-lists : (items_now is_now : List Item) (issues_now : List Issue)
      → ((run : ℕ) (name : List ℕ) (r : Run) → IsOther name → FoundAt run r → IsCalled run name items issues is r
      → IsCalled run name items_now issues_now is_now r)
      → AreCalled is_now live items_now issues_now
  called-lists items_now is_now issues_now keeps = record {
    ordered = h.ordered;
    called = λ run name own. of-found (IsCalled run name items issues is) (IsCalled run name items_now issues_now is_now)
        (find (λ (r : Run). run == r.number) live) (λ r e k. keeps run name r own e k) (h.called run name own);
  }

  pub called-started : (runs : ℕ) (r : Run) → AreGiven is runs live items issues → r.number ≡ runs + 1
      → r.steps ≡ no_steps → AreCalled is (live ++ r ∷ []) items issues
  called-started runs r given next none = record {
    ordered = all-last HasOrder live r h.ordered
        (subst (λ (t : RunSteps). AreInOrder t.planned × AllByRecursion IsOther t.planned) (sym none) (tt, tt));
    called = λ run name own. found-more (IsCalled run name items issues is) (λ (q : Run). run == q.number) live r
        (λ e.
        let number : run ≡ runs + 1 = eqb-true run r.number e ∙ next in
        let a = counted-over item_run item_target runs run name items number given.queued in
        let b = counted-over issue_run issue_target runs run name issues number given.called in
        let c = counted-over item_run item_target runs run name is number given.aside in
        let gone : is_planned name r.steps ≡ false = rw none refl in
        record {
          once = λ planned. absurd (cc);
          none = λ planned. (
            a,
            λ (some : 1 ≤ opened run name issues + queued run name is).
                absurd (omega (arith, b, c, some)),
          );
        }) (h.called run name own);
  }

  pub called-ended : (number : ℕ)
      → AreCalled is (filter (λ (r : Run). not (number == r.number)) live) (without_run number items) issues
  called-ended number = record {
    ordered = all-filter HasOrder (λ (r : Run). not (number == r.number)) live h.ordered;
    called = λ run name own. by_test run name (number == run) refl (h.called run name own);
  }
    where
      alike : (run : ℕ) (b : Bool) → (number == run) ≡ b → (q : Run) → (run == q.number) ≡ true
          → not (number == q.number) ≡ not b
      alike run b e q same = ap not (ap (λ n. number == n) (sym (eqb-true run q.number same)) ∙ e)

      by_test : (run : ℕ) (name : List ℕ) (b : Bool) → (number == run) ≡ b
          → IfSome (find (λ (r : Run). run == r.number) live) (IsCalled run name items issues is)
          → IfSome (find (λ (r : Run). run == r.number) (filter (λ (r : Run). not (number == r.number)) live))
          (IsCalled run name (without_run number items) issues is)
      by_test run name true e k =
          subst (λ o. IfSome o (IsCalled run name (without_run number items) issues is))
          (sym (none-left (λ (r : Run). run == r.number) (λ (r : Run). not (number == r.number)) live
          (alike run true e))) tt
      by_test run name false e k =
          found-left (IsCalled run name (without_run number items) issues is) (λ (r : Run). run == r.number)
          (λ (r : Run). not (number == r.number)) true live (alike run false e)
          (of-found (IsCalled run name items issues is) (IsCalled run name (without_run number items) issues is)
          (find (λ (r : Run). run == r.number) live)
          (λ r there stands. stands-same refl refl
          (counted-left item_run item_target number run name items ∙ ap (λ b. cond b 0 (queued run name items)) e)
          refl (λ w. w) stands) k)

  -- ## Names

  -- a name that is new is planned, and its item is queued
  pub called-planned : (r : Run) (name : List ℕ) (i : Item) → FoundAt r.number r → Adds (note_plan name r.steps)
      → IsOther name → IsFor r.number name i
      → AreCalled is (changed r.number (with_plan name) live) (insert_item i items) issues
  called-planned r name i live_now new its own_item =
      runs-changed r.number (with_plan name) (insert_item i items) is issues (λ q. refl)
      (λ q k. (
        order-inserted name q.steps.planned k.0,
        keys-inserted IsOther name q.steps.planned its k.1,
      ))
      (λ run q_name q own e k. by_run run q_name q (r.number == q.number) refl e k)
    where
      counts : (run : ℕ) (q_name : List ℕ) → queued run q_name (insert_item i items)
          ≡ queued run q_name items + one_if (is_step run q_name r.number name)
      counts run q_name = queued-more run q_name i items
          ∙ ap (λ n. queued run q_name items + n) (step-same run r.number q_name name i own_item)

      no-more : (run : ℕ) (q_name : List ℕ) → is_step run q_name r.number name ≡ false
          → queued run q_name (insert_item i items) ≡ queued run q_name items
      no-more run q_name e =
          let n = counts run q_name in
          let none : one_if (is_step run q_name r.number name) ≡ 0 = ap one_if e in
          omega (arith, n, none)

      by_name : (run : ℕ) (q_name : List ℕ) (b : Bool) → bytes_eq q_name name ≡ b → run ≡ r.number
          → IsCalled run q_name items issues is r
          → IsCalled run q_name (insert_item i items) issues is (with_plan name r)
      by_name run q_name true e same k =
          let name_same : q_name ≡ name = bytes_same q_name name e in
          let unknown : is_known q_name r.steps ≡ false =
          subst (λ n. is_known n r.steps ≡ false) (sym name_same) (adds-unknown name r.steps new) in
          let none = none-known (is_recorded q_name r.steps) (is_planned q_name r.steps) (is_pending q_name r.steps)
          unknown in
          let n = counts run q_name in
          let one : one_if (is_step run q_name r.number name) ≡ 1 =
          ap one_if (this-step run r.number q_name name same name_same) in
          subst (λ b. Stands b (queued run q_name (insert_item i items)) (opened run q_name issues + queued run q_name is)
          (is_recorded q_name r.steps) (is_pending q_name r.steps))
          (sym (key-inserted q_name name r.steps.planned ∙ ap (λ b. b || is_planned q_name r.steps) e))
          (stands-planned (is_planned q_name r.steps) (is_recorded q_name r.steps) (is_pending q_name r.steps)
          (is_pending q_name r.steps) (queued run q_name items) (opened run q_name issues + queued run q_name is)
          (queued run q_name (insert_item i items)) none.1.0 none.0 none.1.1 (omega (arith, n, one)) k)
      by_name run q_name false e same k =
          stands-same
          (key-inserted q_name name r.steps.planned ∙ ap (λ b. b || is_planned q_name r.steps) e) refl
          (no-more run q_name (other-name run r.number q_name name e)) refl (λ w. w) k

      by_run : (run : ℕ) (q_name : List ℕ) (q : Run) (b : Bool) → (r.number == q.number) ≡ b → FoundAt run q
          → IsCalled run q_name items issues is q
          → IsCalled run q_name (insert_item i items) issues is (cond b (with_plan name q) q)
      by_run run q_name q true e there k =
          let same : r ≡ q = same-at r.number run r q live_now there e in
          subst (λ (x : Run). IsCalled run q_name (insert_item i items) issues is (with_plan name x)) same
          (by_name run q_name (bytes_eq q_name name) refl
          (own-at run q there ∙ sym (eqb-true r.number q.number e))
          (subst (λ (x : Run). IsCalled run q_name items issues is x) (sym same) k))
      by_run run q_name q false e there k =
          stands-same refl refl
          (no-more run q_name (other-run run r.number q_name name
          (flip-eq run r.number ∙ ap (λ n. r.number == n) (own-at run q there) ∙ e))) refl (λ w. w) k

  -- a name that is new waits
  pub called-pended : (r : Run) (name : List ℕ) (kind : Pending) → FoundAt r.number r
      → Adds (note_pending name kind r.steps)
      → AreCalled is (changed r.number (pended kind name) live) items
      issues
  called-pended r name kind live_now new =
      runs-changed r.number (pended kind name) items is issues (λ q. refl)
      (λ q k. k)
      (λ run q_name q own e k. by_run run q_name q (r.number == q.number) refl e k)
    where
      by_name : (run : ℕ) (q_name : List ℕ) (b : Bool) → bytes_eq q_name name ≡ b
          → IsCalled run q_name items issues is r
          → IsCalled run q_name items issues is (pended kind name r)
      by_name run q_name true e k =
          let unknown : is_known q_name r.steps ≡ false =
          subst (λ n. is_known n r.steps ≡ false) (sym (bytes_same q_name name e))
          (pends-unknown name kind r.steps new) in
          let none = none-known (is_recorded q_name r.steps) (is_planned q_name r.steps) (is_pending q_name r.steps)
          unknown in
          stands-pended none.1.0 k
      by_name run q_name false e k =
          stands-same refl refl refl refl
          (λ w. ap is_some (found-inserted q_name name kind r.steps.pending
          ∙ ap (λ b. cond b (Some kind) (under q_name r.steps.pending)) e) ∙ w) k

      by_run : (run : ℕ) (q_name : List ℕ) (q : Run) (b : Bool) → (r.number == q.number) ≡ b → FoundAt run q
          → IsCalled run q_name items issues is q
          → IsCalled run q_name items issues is (cond b (pended kind name q) q)
      by_run run q_name q true e there k =
          let same : r ≡ q = same-at r.number run r q live_now there e in
          subst (λ (x : Run). IsCalled run q_name items issues is (pended kind name x)) same
          (by_name run q_name (bytes_eq q_name name) refl
          (subst (λ (x : Run). IsCalled run q_name items issues is x) (sym same) k))
      by_run run q_name q false e there k = k

  -- a name is recorded, whichever, and isn't called any more
  pub called-recorded : (at : ℕ) (name result : List ℕ)
      → AreCalled is (changed at (record_in name result) live) (without_item at name items) issues
  called-recorded at name result =
      runs-changed at (record_in name result) (without_item at name items) is issues (λ q. refl)
      (λ q k. (
        order-removed (is_at (slice_cmp nat_cmp name)) q.steps.planned k.0,
        keys-removed IsOther (is_at (slice_cmp nat_cmp name)) q.steps.planned k.1,
      ))
      (λ run q_name q own e k. by_run run q_name q (at == q.number) refl e k)
    where
      counts : (run : ℕ) (q_name : List ℕ) (b : Bool) → is_step run q_name at name ≡ b
          → queued run q_name (without_item at name items) ≡ cond b 0 (queued run q_name items)
      counts run q_name b e = counted-cleared item_run item_target at name run q_name items
          ∙ ap (λ c. cond c 0 (queued run q_name items)) e

      by_name : (run : ℕ) (q_name : List ℕ) (q : Run) (b : Bool) → bytes_eq q_name name ≡ b → run ≡ at
          → AreInOrder q.steps.planned → IsCalled run q_name items issues is q
          → IsCalled run q_name (without_item at name items) issues is (record_in name result q)
      by_name run q_name q true e same sorted k =
          let name_same : q_name ≡ name = bytes_same q_name name e in
          stands-recorded
          (subst (λ n. is_planned n (record_step name (result_for result q) q.steps) ≡ false) (sym name_same)
          (key-gone name q.steps.planned sorted))
          (found-some (has_name q_name) q.steps.recorded (record { hash = name; result = result_for result q }) e)
          (counts run q_name true (this-step run at q_name name same name_same))
      by_name run q_name q false e same sorted k =
          stands-same (key-left q_name name q.steps.planned e)
          (ap is_some (find-last (has_name q_name) q.steps.recorded
          (record { hash = name; result = result_for result q })
          (λ own. let no : bytes_eq q_name name ≡ true = own in cc)))
          (counts run q_name false (other-name run at q_name name e)) refl
          (λ w. none-removed (is_at (slice_cmp nat_cmp q_name)) (is_at (slice_cmp nat_cmp name)) q.steps.pending w) k

      by_run : (run : ℕ) (q_name : List ℕ) (q : Run) (b : Bool) → (at == q.number) ≡ b → FoundAt run q
          → IsCalled run q_name items issues is q
          → IsCalled run q_name (without_item at name items) issues is (cond b (record_in name result q) q)
      by_run run q_name q true e there k =
          by_name run q_name q (bytes_eq q_name name) refl (own-at run q there ∙ sym (eqb-true at q.number e))
          (in-all HasOrder q live (in-found (λ (x : Run). run == x.number) live q there) h.ordered).0 k
      by_run run q_name q false e there k =
          stands-same refl refl
          (counts run q_name false (other-run run at q_name name
          (flip-eq run at ∙ ap (λ n. at == n) (own-at run q there) ∙ e))) refl (λ w. w) k

  -- ## Items

  -- an item that finds out what comes next
  pub called-beside : (i : Item) → i.target ≡ step_target
      → AreCalled is live (insert_item i items) issues
  called-beside i target =
      called-lists (insert_item i items) is issues
      (λ run name q own e k.
      let n = queued-more run name i items in
      let none : one_if (is_step run name i.run i.target) ≡ 0 =
      ap one_if (other-name run i.run name i.target (ap (bytes_eq name) target ∙ own)) in
      stands-same refl refl (omega (arith, n, none)) refl (λ w. w) k)

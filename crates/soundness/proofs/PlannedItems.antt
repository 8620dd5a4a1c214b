-- A planned name of a run has one item or one open call: where a call is made, ends, and is made again.
use Rattle.std.proofs.Common.{◌≡◌, ℕ, ◌+◌, ◌==◌, Bool, true, false, not, List, [], ◌∷◌, ◌++◌, map, filter, find, Some, IfSome, refl, sym, ap, ◌∙◌, subst, arith}
use Rattle.kinds.specs.Queue.{insert_item, without_number}
use Rattle.kinds.specs.RunSteps.{is_recorded}
use Rattle.kinds.specs.declared.store.Item.{Item}
use Rattle.run_model.specs.Fit.{AreDifferent, item_of}
use Rattle.run_model.specs.Laws.{IsIn}
use Rattle.run_model.specs.Sound.{is_step}
use Rattle.run_model.specs.State.{Run, Issue}
use Rattle.run_model.proofs.Rising.{call_of}
use Rattle.run_model.proofs.SettlingLists.{same-some}
use Rattle.run_model.proofs.WaitingCounts.{counted-last, counted-without, one_if, same-step}
use Rattle.soundness.proofs.Carried.{IsFor}
use Rattle.soundness.proofs.CarriedReplies.{CallsRise}
use Rattle.soundness.proofs.CountedCalls.{counted-first, counted-taken, issue_run, issue_target, item_run, item_target, opened, queued, queued-more, queued-opened, step-same}
use Rattle.soundness.proofs.PlannedCalls.{AreCalled, IsCalled, IsOther, called-lists, stands-again, stands-called, stands-fewer, stands-same}

module _ (live : List Run) (items : List Item) where
  -- a call ends, and its item is aside
  pub called-closed : (i : Issue) (issues : List Issue) → IsIn i issues
      → CallsRise issues → AreCalled [] live items issues
      → AreCalled (i.item ∷ []) live items (filter (λ (other : Issue). not (i.call == other.call)) issues)
  called-closed i issues there rise h =
      let left : List Issue = filter (λ (other : Issue). not (i.call == other.call)) issues in
      called-lists [] live items issues h items (i.item ∷ []) left
      (λ run name r own e k.
      let a = counted-without issue_run issue_target call_of i run name issues there rise in
      let b = counted-first item_run item_target run name i.item [] in
      stands-same refl refl refl (omega (arith, a, b)) (λ w. w) k)

  -- all calls end
  pub called-reopened : (issues : List Issue) → AreCalled [] live items issues
      → AreCalled (map item_of issues) live items []
  called-reopened issues h =
      called-lists [] live items issues h items (map item_of issues) []
      (λ run name r own e k.
      let a = queued-opened run name issues in
      stands-same refl refl refl (omega (arith, a)) (λ w. w) k)

  module _ (issues : List Issue) (i : Item) (is : List Item) (h : AreCalled (i ∷ is) live items issues) where
    -- an item that is aside goes, where its step is recorded, or its run has ended
    pub called-dropped : (IsOther i.target
        → IfSome (find (λ (r : Run). i.run == r.number) live) (λ r. is_recorded i.target r.steps ≡ true))
        → AreCalled is live items issues
    called-dropped over =
        called-lists (i ∷ is) live items issues h items is issues
        (λ run name r own e k.
        by_test run name r (is_step run name i.run i.target) refl own e
        (counted-first item_run item_target run name i is) k)
      where
        recorded : (run : ℕ) (name : List ℕ) (r : Run) → is_step run name i.run i.target ≡ true → IsOther name
            → find (λ (q : Run). run == q.number) live ≡ Some r → is_recorded name r.steps ≡ true
        recorded run name r e own there =
            let same : (run ≡ i.run) × (name ≡ i.target) = same-step run name i.run i.target e in
            let found : IfSome (find (λ (q : Run). i.run == q.number) live)
            (λ (q : Run). is_recorded i.target q.steps ≡ true) =
            over (subst (λ n. IsOther n) same.1 own) in
            let at : find (λ (q : Run). i.run == q.number) live ≡ Some r =
            subst (λ n. find (λ (q : Run). n == q.number) live ≡ Some r) same.0 there in
            subst (λ n. is_recorded n r.steps ≡ true) (sym same.1)
            (subst (λ o. IfSome o (λ (q : Run). is_recorded i.target q.steps ≡ true)) at found)

        by_test : (run : ℕ) (name : List ℕ) (r : Run) (b : Bool) → is_step run name i.run i.target ≡ b
            → IsOther name → find (λ (q : Run). run == q.number) live ≡ Some r
            → queued run name (i ∷ is) ≡ queued run name is + one_if b
            → IsCalled run name items issues (i ∷ is) r → IsCalled run name items issues is r
        by_test run name r true e own there n k =
            stands-fewer (recorded run name r e own there) (omega (arith, n)) k
        by_test run name r false e own there n k =
            stands-same refl refl refl (omega (arith, n)) (λ w. w) k

    -- it is queued again, where its step isn't recorded
    pub called-again : (j : Item) (r : Run) → IsFor i.run i.target j
        → find (λ (q : Run). i.run == q.number) live ≡ Some r → is_recorded i.target r.steps ≡ false
        → AreCalled is live (insert_item j items) issues
    called-again j r its live_now new =
        called-lists (i ∷ is) live items issues h (insert_item j items) is issues
        (λ run name q own e k.
        by_test run name q (is_step run name i.run i.target) refl e
        (counted-first item_run item_target run name i is)
        (queued-more run name j items
        ∙ ap (λ n. queued run name items + n) (step-same run i.run name i.target j its)) k)
      where
        unrecorded : (run : ℕ) (name : List ℕ) (q : Run) → is_step run name i.run i.target ≡ true
            → find (λ (x : Run). run == x.number) live ≡ Some q → is_recorded name q.steps ≡ false
        unrecorded run name q e there =
            let same : (run ≡ i.run) × (name ≡ i.target) = same-step run name i.run i.target e in
            let one : r ≡ q = same-some r q (sym live_now
            ∙ subst (λ n. find (λ (x : Run). n == x.number) live ≡ Some q) same.0 there) in
            subst (λ n. is_recorded n q.steps ≡ false) (sym same.1)
            (subst (λ (x : Run). is_recorded i.target x.steps ≡ false) one new)

        by_test : (run : ℕ) (name : List ℕ) (q : Run) (b : Bool) → is_step run name i.run i.target ≡ b
            → find (λ (x : Run). run == x.number) live ≡ Some q
            → queued run name (i ∷ is) ≡ queued run name is + one_if b
            → queued run name (insert_item j items) ≡ queued run name items + one_if b
            → IsCalled run name items issues (i ∷ is) q → IsCalled run name (insert_item j items) issues is q
        by_test run name q true e there n m k =
            stands-again (unrecorded run name q e there) m (omega (arith, n)) k
        by_test run name q false e there n m k =
            stands-same refl refl (omega (arith, m)) (omega (arith, n)) (λ w. w) k

  -- a call is made
  pub called-issued : (i : Item) (j : Issue) (issues : List Issue) → IsIn i items → AreDifferent items
      → IsFor i.run i.target j.item → AreCalled [] live items issues
      → AreCalled [] live (without_number i.number items) (issues ++ j ∷ [])
  called-issued i j issues there apart its h =
      called-lists [] live items issues h (without_number i.number items) [] (issues ++ j ∷ [])
      (λ run name r own e k.
      by_test run name r (is_step run name i.run i.target) refl
      (counted-taken item_run item_target run name (λ (x : Item). x.number) i items there apart)
      (counted-last issue_run issue_target run name issues j
      ∙ ap (λ n. opened run name issues + n) (step-same run i.run name i.target j.item its)) k)
    where
      by_test : (run : ℕ) (name : List ℕ) (r : Run) (b : Bool) → is_step run name i.run i.target ≡ b
          → queued run name (without_number i.number items) + one_if b ≡ queued run name items
          → opened run name (issues ++ j ∷ []) ≡ opened run name issues + one_if b
          → IsCalled run name items issues [] r
          → IsCalled run name (without_number i.number items) (issues ++ j ∷ []) [] r
      by_test run name r true e n m k = stands-called n (omega (arith, m)) k
      by_test run name r false e n m k =
          stands-same refl refl (omega (arith, n)) (omega (arith, m)) (λ w. w) k

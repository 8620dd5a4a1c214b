-- Which runs find out what comes next: those with an item or an open call do.
use Rattle.std.proofs.Common.{◌≡◌, ℕ, ◌+◌, ◌<◌, ◌≤◌, ◌==◌, Bool, true, false, cond, not, ◌&&◌, ◌||◌, nat_lt, List, [], ◌∷◌, find, Some, None, inl, inr, refl, sym, ap, subst, ◌∙◌, eq-eqb, eqb-true, arith}
use Rattle.std.proofs.lemmas.Bool.Decides.{nat_tests}
use Rattle.std.specs.Str.{bytes_eq}
use Rattle.std.specs.List.{AllByRecursion, list_any}
use Rattle.kinds.specs.Queue.{has_run, insert_item}
use Rattle.kinds.specs.declared.store.Item.{Item}
use Rattle.lists.proofs.Elements.{all-weaker}
use Rattle.run_model.specs.Laws.{IsIn}
use Rattle.run_model.specs.Making.{discover, discover_all, discover_one, has_discovery, is_item_of, new_item, queue_new, step_target}
use Rattle.run_model.specs.State.{State, Run, Issue}
use Rattle.run_model.proofs.Members.{all-in}
use Rattle.run_model.proofs.SettlingLists.{or-left, or-right}
use Rattle.generator.proofs.Sums.{count, count-none, none-any, one_if}
use Rattle.generator.proofs.Standing.{IsIssue, IsItem, Stands, is_call_of, is_run, no-items, not-of}

-- ## Tests

pub and-false : (b : Bool) → (b && false) ≡ false
and-false true = refl
and-false false = refl

and-true : (b : Bool) → (b && true) ≡ b
and-true true = refl
and-true false = refl

or-false : (a b : Bool) → a ≡ false → b ≡ false → (a || b) ≡ false
or-false a b h k = rw (h, k) refl

-- ## A run with an item or an open call

aims : (k : ℕ) (i : Item) → i.target ≡ step_target → is_item_of k step_target i ≡ (k == i.run)
aims k i h = ap (λ t. (k == i.run) && bytes_eq step_target t) h ∙ and-true (k == i.run)

item-any : (moment k : ℕ) (items : List Item) → AllByRecursion (IsItem moment) items
    → 0 < count (has_run k) items → list_any (is_item_of k step_target) items ≡ true
item-any moment k [] h some = absurd (omega (arith, some))
item-any moment k (i ∷ is) h some =
    rw (aims k i h.0.target)
    ((elim (k == i.run) as (λ b. 0 < one_if b + count (has_run k) is
    → (b || list_any (is_item_of k step_target) is) ≡ true)
    [ true ↦ λ e. refl | false ↦ λ e. item-any moment k is h.1 (omega (arith, e)) ]) some)

issue-any : (k : ℕ) (issues : List Issue) → AllByRecursion IsIssue issues → 0 < count (is_call_of k) issues
    → list_any (λ (i : Issue). is_item_of k step_target i.item) issues ≡ true
issue-any k [] h some = absurd (omega (arith, some))
issue-any k (i ∷ is) h some =
    rw (aims k i.item h.0.target)
    ((elim (k == i.item.run) as (λ b. 0 < one_if b + count (is_call_of k) is
    → (b || list_any (λ (j : Issue). is_item_of k step_target j.item) is) ≡ true)
    [ true ↦ λ e. refl | false ↦ λ e. issue-any k is h.1 (omega (arith, e)) ]) some)

has-one : (moment k : ℕ) (s : State) → AllByRecursion (IsItem moment) s.items → AllByRecursion IsIssue s.issues
    → 0 < count (has_run k) s.items + count (is_call_of k) s.issues → has_discovery s k ≡ true
has-one moment k s items issues some =
    (elim (nat_lt 0 (count (has_run k) s.items)) as (λ b. nat_lt 0 (count (has_run k) s.items) ≡ b
    → has_discovery s k ≡ true) [
      | true ↦ λ e.
          or-left (list_any (is_item_of k step_target) s.items)
          (list_any (λ (i : Issue). is_item_of k step_target i.item) s.issues)
          (item-any moment k s.items items (grind (arith, nat_tests, e)))
      | false ↦ λ e.
          or-right (list_any (is_item_of k step_target) s.items)
          (list_any (λ (i : Issue). is_item_of k step_target i.item) s.issues)
          (issue-any k s.issues issues
          (let none : count (has_run k) s.items ≤ 0 = grind (arith, nat_tests, e) in omega (arith, some, none)))
    ]) refl

in-count : {X : Type 0} (p : X → Bool) (x : X) (xs : List X) → IsIn x xs → p x ≡ true → 0 < count p xs
in-count p x [] there e = absurd there
in-count p x (y ∷ ys) (inl same) e =
    let own : one_if (p y) ≡ 1 = ap one_if (subst (λ z. p z ≡ true) (sym same) e) in omega (arith, own)
in-count p x (y ∷ ys) (inr there) e = let more = in-count p x ys there e in omega (arith, more)

-- each live run is found by its number
own-count : (live : List Run) → AllByRecursion (λ (y : Run). 0 < count (is_run y.number) live) live
own-count live =
    all-in (λ (y : Run). 0 < count (is_run y.number) live) live
    (λ y there. in-count (is_run y.number) y live there (eq-eqb y.number y.number refl))

-- ## Nothing is to be found out

none-discovered : (rs : List Run) (s : State) → AllByRecursion (λ (y : Run). has_discovery s y.number ≡ true) rs
    → discover_all rs s ≡ s
none-discovered [] s h = refl
none-discovered (y ∷ ys) s h =
    let stays : discover_one y s ≡ s =
    ap (λ b. cond (y.wanted && not b) (queue_new y step_target s) s) h.0
    ∙ ap (λ b. cond b (queue_new y step_target s) s) (and-false y.wanted) in
    ap (discover_all ys) stays ∙ none-discovered ys s h.1

all-discovered : (n e r c : ℕ) (s : State) → Stands n e r c None s
    → AllByRecursion (λ (y : Run). has_discovery s y.number ≡ true) s.live
all-discovered n e r c s h =
    all-weaker (λ (y : Run). 0 < count (is_run y.number) s.live) (λ (y : Run). has_discovery s y.number ≡ true)
    s.live (λ y some. has-one s.moment y.number s h.each_item h.each_issue
    (let before = h.balance y.number in omega (arith, some, before))) (own-count s.live)

pub nothing-discovered : (n e r c : ℕ) (s : State) → Stands n e r c None s → discover s ≡ s
unfolding discover
nothing-discovered n e r c s h = none-discovered s.live s (all-discovered n e r c s h)

-- ## One run is to find it out

any-queued : (p : Item → Bool) (i : Item) (is : List Item) → list_any p is ≡ true
    → list_any p (insert_item i is) ≡ true
any-queued p i [] h = absurd (cc)
any-queued p i (j ∷ is) h =
    elim (nat_lt i.number j.number) as (λ b. list_any p (cond b (i ∷ j ∷ is) (j ∷ insert_item i is)) ≡ true) [
      | true ↦ or-right (p i) (p j || list_any p is) h
      | false ↦ (elim (p j) as (λ b. (b || list_any p is) ≡ true
          → (b || list_any p (insert_item i is)) ≡ true)
          [ true ↦ λ e. refl | false ↦ λ e. any-queued p i is e ]) h
    ]

still-has : (x : Run) (k : ℕ) (s : State) → has_discovery s k ≡ true
    → has_discovery (queue_new x step_target s) k ≡ true
still-has x k s h =
    let i : Item = new_item x step_target s in
    let p : Item → Bool = is_item_of k step_target in
    let calls : Bool = list_any (λ (j : Issue). is_item_of k step_target j.item) s.issues in
    (elim (list_any p s.items) as (λ b. list_any p s.items ≡ b → (b || calls) ≡ true
    → (list_any p (insert_item i s.items) || calls) ≡ true) [
      | true ↦ λ e there. or-left (list_any p (insert_item i s.items)) calls (any-queued p i s.items e)
      | false ↦ λ e there. or-right (list_any p (insert_item i s.items)) calls there
    ]) refl h

one-discovered : (rs : List Run) (x : Run) (s : State) → find (is_run x.number) rs ≡ Some x
    → count (is_run x.number) rs ≤ 1 → x.wanted ≡ true → has_discovery s x.number ≡ false
    → AllByRecursion (λ (y : Run). is_run x.number y ≡ false → has_discovery s y.number ≡ true) rs
    → discover_all rs s ≡ queue_new x step_target s
one-discovered [] x s found once wanted none others = absurd (cc)
one-discovered (y ∷ ys) x s found once wanted none others =
    (elim (is_run x.number y) as (λ b. is_run x.number y ≡ b → cond b (Some y) (find (is_run x.number) ys) ≡ Some x
    → one_if b + count (is_run x.number) ys ≤ 1 → discover_all ys (discover_one y s) ≡ queue_new x step_target s) [
      | true ↦ λ here f o.
          let same : y ≡ x = cc in
          let queued : discover_one x s ≡ queue_new x step_target s =
          ap (λ b. cond (b && not (has_discovery s x.number)) (queue_new x step_target s) s) wanted
          ∙ ap (λ b. cond (not b) (queue_new x step_target s) s) none in
          let rest = count-none (is_run x.number) ys (omega (arith, o)) in
          ap (λ z. discover_all ys (discover_one z s)) same
          ∙ ap (discover_all ys) queued
          ∙ none-discovered ys (queue_new x step_target s)
          (still-all ys rest others.1)
      | false ↦ λ other f o.
          let stays : discover_one y s ≡ s =
          ap (λ b. cond (y.wanted && not b) (queue_new y step_target s) s) (others.0 other)
          ∙ ap (λ b. cond b (queue_new y step_target s) s) (and-false y.wanted) in
          ap (discover_all ys) stays
          ∙ one-discovered ys x s f (omega (arith, o)) wanted none others.1
    ]) refl found once
  where
    still-all : (zs : List Run) → AllByRecursion (λ (z : Run). is_run x.number z ≡ false) zs
        → AllByRecursion (λ (z : Run). is_run x.number z ≡ false → has_discovery s z.number ≡ true) zs
        → AllByRecursion (λ (z : Run). has_discovery (queue_new x step_target s) z.number ≡ true) zs
    still-all [] h k = tt
    still-all (z ∷ zs) h k = (still-has x z.number s (k.0 h.0), still-all zs h.1 k.1)

-- ## Where one run is aside

differs-back : (a b : ℕ) → (a == b) ≡ false → (b == a) ≡ false
differs-back a b h =
    (elim (b == a) as (λ t. (b == a) ≡ t → t ≡ false) [
      | true ↦ λ e.
          let no : (a == b) ≡ true = eq-eqb a b (sym (eqb-true b a e)) in absurd (cc)
      | false ↦ λ e. refl
    ]) refl

module _ (n e r c m : ℕ) (s : State) (h : Stands n e r c (Some m) s) where
  pub aside-has-none : has_discovery s m ≡ false
  aside-has-none =
      let most = h.live_numbers.once m in
      let before = h.balance m in
      let own : one_if (m == m) ≡ 1 = ap one_if (eq-eqb m m refl) in
      let items =
      none-any (is_item_of m step_target) s.items
      (all-weaker (λ i. has_run m i ≡ false) (λ i. is_item_of m step_target i ≡ false) s.items
      (not-of m step_target) (no-items n e r c m s h)) in
      let calls =
      none-any (λ (i : Issue). is_item_of m step_target i.item) s.issues
      (all-weaker (λ i. is_call_of m i ≡ false) (λ (i : Issue). is_item_of m step_target i.item ≡ false)
      s.issues (λ i. not-of m step_target i.item)
      (count-none (is_call_of m) s.issues (omega (arith, most, before, own)))) in
      or-false (list_any (is_item_of m step_target) s.items)
      (list_any (λ (i : Issue). is_item_of m step_target i.item) s.issues) items calls

  others-have : AllByRecursion (λ (y : Run). is_run m y ≡ false → has_discovery s y.number ≡ true) s.live
  others-have =
      all-weaker (λ (y : Run). 0 < count (is_run y.number) s.live)
      (λ (y : Run). is_run m y ≡ false → has_discovery s y.number ≡ true) s.live
      (λ y some other. has-one s.moment y.number s h.each_item h.each_issue
      (let before = h.balance y.number in
      let none : one_if (y.number == m) ≡ 0 = ap one_if (differs-back m y.number other) in
      omega (arith, some, before, none))) (own-count s.live)

pub discovered-one : (n e r c : ℕ) (x : Run) (s : State) → find (is_run x.number) s.live ≡ Some x
    → x.wanted ≡ true → Stands n e r c (Some x.number) s → discover s ≡ queue_new x step_target s
unfolding discover
discovered-one n e r c x s found wanted h =
    one-discovered s.live x s found (h.live_numbers.once x.number) wanted
    (aside-has-none n e r c x.number s h) (others-have n e r c x.number s h)

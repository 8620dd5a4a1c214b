-- What is ready and what waits, after an item moved over, was taken out or came.
use Rattle.std.proofs.Common.{◌≡◌, ◌⊎◌, inl, inr, ℕ, ◌<◌, ◌≤◌, ◌==◌, nat_lt, Bool, true, false, cond, not, ◌&&◌, ◌||◌, List, [], ◌∷◌, Some, None, Option, refl, sym, ap, ap₂, ◌∙◌, arith, length, subst, eqb-true}
use Rattle.std.specs.Bool.{IsTrue}
use Rattle.std.specs.List.{find, filter, list_any}
use Rattle.std.specs.BTreeMap.{is_at}
use Rattle.std.specs.Ordering.{is_gt, is_lt, nat_cmp}
use Rattle.std.proofs.lemmas.Bool.Decides.{nat_tests}
use Rattle.kinds.specs.Queue.{has_number, without_number, insert_item, number_of, group_of}
use Rattle.kinds.specs.declared.store.Item.{Item}
use Rattle.lists.specs.Entries.{pair_cmp}
use Rattle.lists.proofs.Keyed.{filter_none, find_without, find_filter, find-insert, Inserts}
use Rattle.ready_queue.specs.Held.{Group, Held, AreSame, Comes, Goes}
use Rattle.ready_queue.specs.Pool.{has_pair, is_held, IsReady, IsLate, IsPool}
use Rattle.ready_queue.specs.Store.{lifted}

some_same : (x y : Item) → Some x ≡ Some y → x ≡ y
some_same x y e = cc

-- ---- a pair that went

unfoldable pub Gone : ℕ → ℕ → List (ℕ × ℕ) → List (ℕ × ℕ) → Type 0
Gone d n old new = (q : ℕ × ℕ) → list_any (is_at (pair_cmp q)) new ≡ cond (is_at (pair_cmp (d, n)) q) false (list_any (is_at (pair_cmp q)) old)

pair_had : (d n a b : ℕ) (old new : List (ℕ × ℕ)) → Gone d n old new → has_pair new a b ≡ true → has_pair old a b ≡ true
unfolding has_pair Gone
pair_had d n a b old new u h = by_test (is_at (pair_cmp (d, n)) (a, b)) (sym (u (a, b)) ∙ h)
  where
    by_test : (t : Bool) → cond t false (list_any (is_at (pair_cmp (a, b))) old) ≡ true → list_any (is_at (pair_cmp (a, b))) old ≡ true
    by_test true h = absurd (let no : false ≡ true = h in cc)
    by_test false h = h

pair_split : (d n a b : ℕ) (old new : List (ℕ × ℕ)) → Gone d n old new → has_pair old a b ≡ true → ((a ≡ d) × (b ≡ n)) ⊎ (has_pair new a b ≡ true)
unfolding has_pair Gone
pair_split d n a b old new u h = by_test (is_at (pair_cmp (d, n)) (a, b)) refl (u (a, b))
  where
    equal : is_at (pair_cmp (d, n)) (a, b) ≡ true → (a ≡ d) × (b ≡ n)
    equal e = (grind (arith, nat_tests), grind (arith, nat_tests))

    by_test : (t : Bool) → is_at (pair_cmp (d, n)) (a, b) ≡ t → list_any (is_at (pair_cmp (a, b))) new ≡ cond t false (list_any (is_at (pair_cmp (a, b))) old) → ((a ≡ d) × (b ≡ n)) ⊎ (list_any (is_at (pair_cmp (a, b))) new ≡ true)
    by_test true e k = inl (equal e)
    by_test false e k = inr (k ∙ h)

pair_gone : (d n : ℕ) (old new : List (ℕ × ℕ)) → Gone d n old new → has_pair new d n ≡ true → ⊥
unfolding has_pair Gone
pair_gone d n old new u h = let no : true ≡ false = sym h ∙ u (d, n) ∙ ap (λ t. cond t false (list_any (is_at (pair_cmp (d, n))) old)) (itself d n) in cc
  where
    itself : (d n : ℕ) → is_at (pair_cmp (d, n)) (d, n) ≡ true
    itself d n = grind (arith, nat_tests)

-- ---- an item that moved over

pub pool_moved : (d n horizon clear : ℕ) (item : Item) (items : List Item) (held more : Held) (waiting fewer : List (ℕ × ℕ)) → IsPool items held waiting horizon clear
    → Some item ≡ find (has_number n) items → IsTrue (list_any (is_at (pair_cmp (d, n))) waiting) → d ≤ horizon → Comes (group_of item) (lifted item.score) n held more → Gone d n waiting fewer → IsPool items more fewer horizon clear
unfolding has_pair
pool_moved d n horizon clear item items held more waiting fewer q found member near u w = record {
  ready = λ g s m h. ready_by g s m (u.added g s m h);
  kept = λ m x f. kept_by m x f (q.kept m x f);
  waits = λ a m h. q.waits a m (pair_had d n a m waiting fewer w h);
  late = λ a m h. q.late a m (pair_had d n a m waiting fewer w h);
  near = q.near;
}
  where
    is_late : IsLate items d n
    is_late = q.waits d n member

    due : item.due ≤ horizon
    due = let same = some_same is_late.item item (sym is_late.found ∙ sym found) in subst (λ (y : Item). y.due ≤ horizon) same (subst (λ y. y ≤ horizon) (sym is_late.due) near)

    ready_by : (g : Group) (s m : ℕ) → ((g ≡ group_of item) × (s ≡ lifted item.score) × (m ≡ n)) ⊎ (held g s m ≡ true) → IsReady items horizon g s m
    ready_by g s m (inl e) = record { item = item; found = ap (λ y. find (has_number y) items) e.2 ∙ sym found; group = sym e.0; score = sym e.1; due = due }
    ready_by g s m (inr h) = q.ready g s m h

    moved : (m : ℕ) (x : Item) → find (has_number m) items ≡ Some x → m ≡ n → is_held more x m ≡ true
    moved m x f e =
        let same = some_same item x (found ∙ ap (λ y. find (has_number y) items) (sym e) ∙ f) in
        subst (λ y. is_held more x y ≡ true) (sym e) (subst (λ (y : Item). is_held more y n ≡ true) same u.here)

    kept_by : (m : ℕ) (x : Item) → find (has_number m) items ≡ Some x → (is_held held x m ≡ true) ⊎ (has_pair waiting x.due m ≡ true) → (is_held more x m ≡ true) ⊎ (has_pair fewer x.due m ≡ true)
    kept_by m x f (inl h) = inl (u.kept (group_of x) (lifted x.score) m h)
    kept_by m x f (inr h) = elim (pair_split d n x.due m waiting fewer w h) [ inl e ↦ inl (moved m x f e.1) | inr k ↦ inr k ]

-- ---- an item that was taken out

other_found : (m n : ℕ) (items : List Item) → (m == n) ≡ false → find (has_number m) (without_number n items) ≡ find (has_number m) items
other_found m n items f = find_filter (has_number m) (λ x. not (has_number n x)) other items
  where
    other : (x : Item) → has_number m x ≡ true → not (has_number n x) ≡ true
    other x t = grind (arith, nat_tests)

apart_or : (m n : ℕ) → (m ≡ n) ⊎ ((m == n) ≡ false)
apart_or m n = by_test (m == n) refl
  where
    by_test : (b : Bool) → (m == n) ≡ b → (m ≡ n) ⊎ ((m == n) ≡ false)
    by_test true e = inl (eqb-true m n e)
    by_test false e = inr e

apart_from : (m n : ℕ) → (m == n) ≡ false → m ≡ n → ⊥
apart_from m n f e = grind (arith, nat_tests)

pub pool_taken : (n horizon clear : ℕ) (item : Item) (items left : List Item) (held fewer : Held) (waiting less : List (ℕ × ℕ)) → IsPool items held waiting horizon clear
    → Some item ≡ find (has_number n) items → left ≡ without_number n items → Goes (group_of item) (lifted item.score) n held fewer → Gone item.due n waiting less → IsPool left fewer less horizon clear
pool_taken n horizon clear item items left held fewer waiting less q found is u w = subst (λ l. IsPool l fewer less horizon clear) (sym is) (record {
  ready = λ g s m h. ready_by g s m h (q.ready g s m (u.had g s m h)) (apart_or m n);
  kept = λ m x f. kept_by m x f (apart_or m n);
  waits = λ a m h. waits_by a m h (q.waits a m (pair_had item.due n a m waiting less w h)) (apart_or m n);
  late = λ a m h. q.late a m (pair_had item.due n a m waiting less w h);
  near = q.near;
})
  where
    ready_by : (g : Group) (s m : ℕ) → fewer g s m ≡ true → IsReady items horizon g s m → (m ≡ n) ⊎ ((m == n) ≡ false) → IsReady (without_number n items) horizon g s m
    ready_by g s m h r (inl e) =
        let same = some_same r.item item (sym r.found ∙ ap (λ y. find (has_number y) items) e ∙ sym found) in
        let group : g ≡ group_of item = sym r.group ∙ ap group_of same in
        let score : s ≡ lifted item.score = sym r.score ∙ ap (λ (y : Item). lifted y.score) same in
        absurd (u.gone (subst (λ y. is_held fewer item y ≡ true) e (subst (λ y. fewer (group_of item) y m ≡ true) score (subst (λ y. fewer y s m ≡ true) group h))))
    ready_by g s m h r (inr f) = record { item = r.item; found = other_found m n items f ∙ r.found; group = r.group; score = r.score; due = r.due }

    keeps : (m : ℕ) (x : Item) → (m == n) ≡ false → (is_held held x m ≡ true) ⊎ (has_pair waiting x.due m ≡ true) → (is_held fewer x m ≡ true) ⊎ (has_pair less x.due m ≡ true)
    keeps m x f (inl h) = elim (u.split (group_of x) (lifted x.score) m h) [ inl e ↦ absurd (apart_from m n f e.2) | inr k ↦ inl k ]
    keeps m x f (inr h) = elim (pair_split item.due n x.due m waiting less w h) [ inl e ↦ absurd (apart_from m n f e.1) | inr k ↦ inr k ]

    kept_by : (m : ℕ) (x : Item) → find (has_number m) (without_number n items) ≡ Some x → (m ≡ n) ⊎ ((m == n) ≡ false) → (is_held fewer x m ≡ true) ⊎ (has_pair less x.due m ≡ true)
    kept_by m x f (inl e) = absurd (let no : None ≡ Some x = sym (find_without (has_number n) items) ∙ ap (λ y. find (has_number y) (without_number n items)) (sym e) ∙ f in cc)
    kept_by m x f (inr e) = keeps m x e (q.kept m x (sym (other_found m n items e) ∙ f))

    waits_by : (a m : ℕ) → has_pair less a m ≡ true → IsLate items a m → (m ≡ n) ⊎ ((m == n) ≡ false) → IsLate (without_number n items) a m
    waits_by a m h r (inl e) =
        let same = some_same r.item item (sym r.found ∙ ap (λ y. find (has_number y) items) e ∙ sym found) in
        let due : a ≡ item.due = sym r.due ∙ ap (λ (y : Item). y.due) same in
        absurd (pair_gone item.due n waiting less w (subst (λ y. has_pair less item.due y ≡ true) e (subst (λ y. has_pair less y m ≡ true) due h)))
    waits_by a m h r (inr f) = record { item = r.item; found = other_found m n items f ∙ r.found; due = r.due }

pub pool_none : (n horizon clear : ℕ) (items left : List Item) (held : Held) (waiting : List (ℕ × ℕ)) → IsPool items held waiting horizon clear → find (has_number n) items ≡ None → left ≡ without_number n items → IsPool left held waiting horizon clear
pool_none n horizon clear items left held waiting q none is = subst (λ l. IsPool l held waiting horizon clear) (sym (is ∙ filter_none (has_number n) items none)) q

pub pool_empty : (items : List Item) (held : Held) (waiting : List (ℕ × ℕ)) → items ≡ [] → ((k : Group) (s n : ℕ) → held k s n ≡ false) → waiting ≡ [] → IsPool items held waiting 0 0
unfolding has_pair
pool_empty items held waiting a b e = record {
  ready = λ g s n h. absurd (let no : true ≡ false = sym h ∙ b g s n in cc);
  kept = λ n x f. absurd (let no : None ≡ Some x = sym (ap (find (has_number n)) a) ∙ f in cc);
  waits = λ d n h. absurd (let no : true ≡ false = sym h ∙ ap (λ l. list_any (is_at (pair_cmp (d, n))) l) e in cc);
  late = λ d n h. absurd (let no : true ≡ false = sym h ∙ ap (λ l. list_any (is_at (pair_cmp (d, n))) l) e in cc);
  near = omega arith;
}

-- the same is ready
pub pool_like : (horizon clear : ℕ) (items : List Item) (held new : Held) (waiting : List (ℕ × ℕ)) → IsPool items held waiting horizon clear → AreSame held new → IsPool items new waiting horizon clear
pool_like horizon clear items held new waiting q e = record {
  ready = λ g s n h. q.ready g s n (sym (e g s n) ∙ h);
  kept = λ n x f. elim (q.kept n x f) [ inl h ↦ inl (e (group_of x) (lifted x.score) n ∙ h) | inr h ↦ inr h ];
  waits = q.waits;
  late = q.late;
  near = q.near;
}

-- ---- an item that came

unfoldable pub Came : ℕ → ℕ → List (ℕ × ℕ) → List (ℕ × ℕ) → Type 0
Came d n old new = (q : ℕ × ℕ) → list_any (is_at (pair_cmp q)) new ≡ cond (is_at (pair_cmp (d, n)) q) true (list_any (is_at (pair_cmp q)) old)

pair_came : (d n a b : ℕ) (old new : List (ℕ × ℕ)) → Came d n old new → has_pair new a b ≡ true → ((a ≡ d) × (b ≡ n)) ⊎ (has_pair old a b ≡ true)
unfolding has_pair Came
pair_came d n a b old new u h = by_test (is_at (pair_cmp (d, n)) (a, b)) refl (sym (u (a, b)) ∙ h)
  where
    equal : is_at (pair_cmp (d, n)) (a, b) ≡ true → (a ≡ d) × (b ≡ n)
    equal e = (grind (arith, nat_tests), grind (arith, nat_tests))

    by_test : (t : Bool) → is_at (pair_cmp (d, n)) (a, b) ≡ t → cond t true (list_any (is_at (pair_cmp (a, b))) old) ≡ true → ((a ≡ d) × (b ≡ n)) ⊎ (list_any (is_at (pair_cmp (a, b))) old ≡ true)
    by_test true e h = inl (equal e)
    by_test false e h = inr h

pair_new : (d n : ℕ) (old new : List (ℕ × ℕ)) → Came d n old new → has_pair new d n ≡ true
unfolding has_pair Came
pair_new d n old new u = u (d, n) ∙ ap (λ t. cond t true (list_any (is_at (pair_cmp (d, n))) old)) (itself d n)
  where
    itself : (d n : ℕ) → is_at (pair_cmp (d, n)) (d, n) ≡ true
    itself d n = grind (arith, nat_tests)

pair_kept : (d n a b : ℕ) (old new : List (ℕ × ℕ)) → Came d n old new → has_pair old a b ≡ true → has_pair new a b ≡ true
unfolding has_pair Came
pair_kept d n a b old new u h = u (a, b) ∙ ap (λ t. cond (is_at (pair_cmp (d, n)) (a, b)) true t) h ∙ both (is_at (pair_cmp (d, n)) (a, b))
  where
    both : (t : Bool) → cond t true true ≡ true
    both true = refl
    both false = refl

lt_same : (a b : ℕ) → nat_lt a b ≡ is_lt (nat_cmp a b)
lt_same a b = grind (arith, nat_tests)

item_inserts : Inserts nat_cmp number_of insert_item
item_inserts = record {
  empty = λ x. refl;
  place = λ x y ys. ap (λ b. cond b (x ∷ y ∷ ys) (y ∷ insert_item x ys)) (lt_same x.number y.number);
}

find_came : (m : ℕ) (item : Item) (items : List Item) → find (has_number item.number) items ≡ None → find (has_number m) (insert_item item items) ≡ cond (m == item.number) (Some item) (find (has_number m) items)
find_came m item items none = find-insert nat_cmp number_of item_inserts (has_number m) item items (λ t. ap (λ k. find (has_number k) items) (eqb-true m item.number t) ∙ none)

-- what was found before is found
still_found : (m : ℕ) (item x : Item) (items : List Item) → find (has_number item.number) items ≡ None → find (has_number m) items ≡ Some x → find (has_number m) (insert_item item items) ≡ Some x
still_found m item x items none f = find_came m item items none ∙ by_test (m == item.number) refl
  where
    by_test : (b : Bool) → (m == item.number) ≡ b → cond b (Some item) (find (has_number m) items) ≡ Some x
    by_test true e = absurd (let no : None ≡ Some x = sym none ∙ ap (λ k. find (has_number k) items) (sym (eqb-true m item.number e)) ∙ f in cc)
    by_test false e = f

new_found : (item : Item) (items : List Item) → find (has_number item.number) items ≡ None → find (has_number item.number) (insert_item item items) ≡ Some item
new_found item items none = find_came item.number item items none ∙ ap (λ b. cond b (Some item) (find (has_number item.number) items)) (itself item.number)
  where
    itself : (n : ℕ) → (n == n) ≡ true
    itself n = grind (arith, nat_tests)

new_or : (m : ℕ) (item x : Item) (items : List Item) → find (has_number item.number) items ≡ None → find (has_number m) (insert_item item items) ≡ Some x → ((m ≡ item.number) × (item ≡ x)) ⊎ (find (has_number m) items ≡ Some x)
new_or m item x items none f = by_test (m == item.number) refl (sym (find_came m item items none) ∙ f)
  where
    by_test : (b : Bool) → (m == item.number) ≡ b → cond b (Some item) (find (has_number m) items) ≡ Some x → ((m ≡ item.number) × (item ≡ x)) ⊎ (find (has_number m) items ≡ Some x)
    by_test true e h = inl (eqb-true m item.number e, some_same item x h)
    by_test false e h = inr h

-- an item came that is due by the horizon
pub pool_ready : (horizon clear : ℕ) (item : Item) (items all : List Item) (held more : Held) (waiting : List (ℕ × ℕ)) → IsPool items held waiting horizon clear
    → find (has_number item.number) items ≡ None → all ≡ insert_item item items → Comes (group_of item) (lifted item.score) item.number held more → item.due ≤ horizon → IsPool all more waiting horizon clear
pool_ready horizon clear item items all held more waiting q none is u near = subst (λ l. IsPool l more waiting horizon clear) (sym is) (record {
  ready = λ g s m h. ready_by g s m (u.added g s m h);
  kept = λ m x f. kept_by m x (new_or m item x items none f);
  waits = λ a m h. let l = q.waits a m h in record { item = l.item; found = still_found m item l.item items none l.found; due = l.due };
  late = q.late;
  near = q.near;
})
  where
    ready_by : (g : Group) (s m : ℕ) → ((g ≡ group_of item) × (s ≡ lifted item.score) × (m ≡ item.number)) ⊎ (held g s m ≡ true) → IsReady (insert_item item items) horizon g s m
    ready_by g s m (inl e) = record { item = item; found = ap (λ y. find (has_number y) (insert_item item items)) e.2 ∙ new_found item items none; group = sym e.0; score = sym e.1; due = near }
    ready_by g s m (inr h) = let r = q.ready g s m h in record { item = r.item; found = still_found m item r.item items none r.found; group = r.group; score = r.score; due = r.due }

    still : (m : ℕ) (x : Item) → (is_held held x m ≡ true) ⊎ (has_pair waiting x.due m ≡ true) → (is_held more x m ≡ true) ⊎ (has_pair waiting x.due m ≡ true)
    still m x (inl h) = inl (u.kept (group_of x) (lifted x.score) m h)
    still m x (inr h) = inr h

    kept_by : (m : ℕ) (x : Item) → ((m ≡ item.number) × (item ≡ x)) ⊎ (find (has_number m) items ≡ Some x) → (is_held more x m ≡ true) ⊎ (has_pair waiting x.due m ≡ true)
    kept_by m x (inl e) = inl (subst (λ y. is_held more x y ≡ true) (sym e.0) (subst (λ (y : Item). is_held more y item.number ≡ true) e.1 u.here))
    kept_by m x (inr f) = still m x (q.kept m x f)

-- an item came that is due later
pub pool_waits : (horizon clear : ℕ) (item : Item) (items all : List Item) (held : Held) (waiting more : List (ℕ × ℕ)) → IsPool items held waiting horizon clear
    → find (has_number item.number) items ≡ None → all ≡ insert_item item items → Came item.due item.number waiting more → horizon < item.due → IsPool all held more horizon clear
pool_waits horizon clear item items all held waiting more q none is u far = subst (λ l. IsPool l held more horizon clear) (sym is) (record {
  ready = λ g s m h. let r = q.ready g s m h in record { item = r.item; found = still_found m item r.item items none r.found; group = r.group; score = r.score; due = r.due };
  kept = λ m x f. kept_by m x (new_or m item x items none f);
  waits = λ a m h. waits_by a m (pair_came item.due item.number a m waiting more u h);
  late = λ a m h. late_by a m (pair_came item.due item.number a m waiting more u h);
  near = q.near;
})
  where
    waits_by : (a m : ℕ) → ((a ≡ item.due) × (m ≡ item.number)) ⊎ (has_pair waiting a m ≡ true) → IsLate (insert_item item items) a m
    waits_by a m (inl e) = record { item = item; found = ap (λ y. find (has_number y) (insert_item item items)) e.1 ∙ new_found item items none; due = sym e.0 }
    waits_by a m (inr h) = let l = q.waits a m h in record { item = l.item; found = still_found m item l.item items none l.found; due = l.due }

    late_by : (a m : ℕ) → ((a ≡ item.due) × (m ≡ item.number)) ⊎ (has_pair waiting a m ≡ true) → clear < a
    late_by a m (inl e) = let c = q.near in let d = e.0 in omega arith
    late_by a m (inr h) = q.late a m h

    still : (m : ℕ) (x : Item) → (is_held held x m ≡ true) ⊎ (has_pair waiting x.due m ≡ true) → (is_held held x m ≡ true) ⊎ (has_pair more x.due m ≡ true)
    still m x (inl h) = inl h
    still m x (inr h) = inr (pair_kept item.due item.number x.due m waiting more u h)

    kept_by : (m : ℕ) (x : Item) → ((m ≡ item.number) × (item ≡ x)) ⊎ (find (has_number m) items ≡ Some x) → (is_held held x m ≡ true) ⊎ (has_pair more x.due m ≡ true)
    kept_by m x (inl e) = inr (subst (λ y. has_pair more x.due y ≡ true) (sym e.0) (subst (λ (y : Item). has_pair more y.due item.number ≡ true) e.1 (pair_new item.due item.number waiting more u)))
    kept_by m x (inr f) = still m x (q.kept m x f)

-- a key came and went
pub pool_unready : (horizon clear : ℕ) (item : Item) (items same : List Item) (held more back : Held) (waiting : List (ℕ × ℕ)) → IsPool items held waiting horizon clear
    → find (has_number item.number) items ≡ None → same ≡ items → Comes (group_of item) (lifted item.score) item.number held more → Goes (group_of item) (lifted item.score) item.number more back → IsPool same back waiting horizon clear
pool_unready horizon clear item items same held more back waiting q none is u w = subst (λ l. IsPool l back waiting horizon clear) (sym is) (record {
  ready = λ g s m h. ready_by g s m h (u.added g s m (w.had g s m h));
  kept = λ m x f. kept_by m x f (q.kept m x f);
  waits = q.waits;
  late = q.late;
  near = q.near;
})
  where
    ready_by : (g : Group) (s m : ℕ) → back g s m ≡ true → ((g ≡ group_of item) × (s ≡ lifted item.score) × (m ≡ item.number)) ⊎ (held g s m ≡ true) → IsReady items horizon g s m
    ready_by g s m h (inl e) = absurd (w.gone (subst (λ y. is_held back item y ≡ true) e.2 (subst (λ y. back (group_of item) y m ≡ true) e.1 (subst (λ y. back y s m ≡ true) e.0 h))))
    ready_by g s m h (inr k) = q.ready g s m k

    kept_by : (m : ℕ) (x : Item) → find (has_number m) items ≡ Some x → (is_held held x m ≡ true) ⊎ (has_pair waiting x.due m ≡ true) → (is_held back x m ≡ true) ⊎ (has_pair waiting x.due m ≡ true)
    kept_by m x f (inl h) = elim (w.split (group_of x) (lifted x.score) m (u.kept (group_of x) (lifted x.score) m h)) [
      | inl e ↦ absurd (let no : None ≡ Some x = sym none ∙ ap (λ k. find (has_number k) items) (sym e.2) ∙ f in cc)
      | inr k ↦ inl k
    ]
    kept_by m x f (inr h) = inr h

-- a pair came and went
pub pool_unwaits : (horizon clear : ℕ) (item : Item) (items same : List Item) (held : Held) (waiting more back : List (ℕ × ℕ)) → IsPool items held waiting horizon clear
    → find (has_number item.number) items ≡ None → same ≡ items → Came item.due item.number waiting more → Gone item.due item.number more back → IsPool same held back horizon clear
pool_unwaits horizon clear item items same held waiting more back q none is u w = subst (λ l. IsPool l held back horizon clear) (sym is) (record {
  ready = q.ready;
  kept = λ m x f. kept_by m x f (q.kept m x f);
  waits = λ a m h. q.waits a m (was a m h (pair_came item.due item.number a m waiting more u (pair_had item.due item.number a m more back w h)));
  late = λ a m h. q.late a m (was a m h (pair_came item.due item.number a m waiting more u (pair_had item.due item.number a m more back w h)));
  near = q.near;
})
  where
    was : (a m : ℕ) → has_pair back a m ≡ true → ((a ≡ item.due) × (m ≡ item.number)) ⊎ (has_pair waiting a m ≡ true) → has_pair waiting a m ≡ true
    was a m h (inl e) = absurd (pair_gone item.due item.number more back w (subst (λ y. has_pair back item.due y ≡ true) e.1 (subst (λ y. has_pair back y m ≡ true) e.0 h)))
    was a m h (inr k) = k

    kept_by : (m : ℕ) (x : Item) → find (has_number m) items ≡ Some x → (is_held held x m ≡ true) ⊎ (has_pair waiting x.due m ≡ true) → (is_held held x m ≡ true) ⊎ (has_pair back x.due m ≡ true)
    kept_by m x f (inl h) = inl h
    kept_by m x f (inr h) = elim (pair_split item.due item.number x.due m more back w (pair_kept item.due item.number x.due m waiting more u h)) [
      | inl e ↦ absurd (let no : None ≡ Some x = sym none ∙ ap (λ k. find (has_number k) items) (sym e.1) ∙ f in cc)
      | inr k ↦ inr k
    ]

-- ---- what waits first

pub none_waits : (waiting : List (ℕ × ℕ)) (t : ℕ) → (0 < length waiting → false ≡ true) → (d n : ℕ) → has_pair waiting d n ≡ true → t < d
unfolding has_pair
none_waits [] t h d n e = absurd (let no : false ≡ true = e in cc)
none_waits (w ∷ ws) t h d n e = absurd (let no : false ≡ true = h (grind arith) in cc)

pub late_first : (waiting : List (ℕ × ℕ)) (t a b : ℕ) → ((q : ℕ × ℕ) → IsTrue (list_any (is_at (pair_cmp q)) waiting) → is_gt (pair_cmp (a, b) q) ≡ false) → t < a → (d n : ℕ) → has_pair waiting d n ≡ true → t < d
unfolding has_pair
late_first waiting t a b least e d n h = late d n e (least (d, n) h)
  where
    late : (d n : ℕ) → t < a → is_gt (pair_cmp (a, b) (d, n)) ≡ false → t < d
    late d n h k = grind (arith, nat_tests)

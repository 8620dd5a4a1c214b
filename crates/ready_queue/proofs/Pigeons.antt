-- An order that has each group once has no more entries than there are different groups.
use Rattle.std.proofs.Common.{◌≡◌, ℕ, ◌+◌, ◌≤◌, ◌==◌, Bool, true, false, cond, not, ◌&&◌, ◌||◌, List, [], ◌∷◌, Some, None, Option, refl, sym, ap, ap₂, ◌∙◌, arith, subst, eqb-true, map, length}
use Rattle.std.specs.List.{list_any, filter, AllByRecursion}
use Rattle.std.specs.BTreeMap.{is_at}
use Rattle.std.specs.List.Sorted.{IsStrictlySortedBy}
use Rattle.std.specs.Ordering.{nat_cmp}
use Rattle.std.specs.declared.cmp.Ordering.TheVariants.{Less}
use Rattle.std.proofs.lemmas.Bool.Decides.{nat_tests}
use Rattle.std.proofs.lemmas.Map.Keys.{sorted_head, sorted_tail}
use Rattle.ready_queue.specs.declared.fronts.Place.{Place}
use Rattle.ready_queue.specs.Keys.{key_cmp, has}
use Rattle.ready_queue.specs.Places.{place_at, is_front, IsFronts}
use Rattle.ready_queue.specs.Different.{has_group, different}

-- no group is there twice
pub Distinct : List ℕ → Type 0
Distinct [] = Unit {0}
Distinct (x ∷ xs) = (has_group x xs ≡ false) × Distinct xs

abbrev without : ℕ → List ℕ → List ℕ
without k gs = filter (λ x. not (x == k)) gs

other_stays : (x k : ℕ) (gs : List ℕ) → (x == k) ≡ false → has_group x (without k gs) ≡ has_group x gs
unfolding has_group
other_stays x k [] h = refl
other_stays x k (g ∷ gs) h = by_test (g == k) refl (other_stays x k gs h)
  where
    apart : (g == k) ≡ true → (g == x) ≡ false
    apart t = grind (arith, nat_tests)

    by_test : (b : Bool) → (g == k) ≡ b → list_any (λ y. y == x) (without k gs) ≡ list_any (λ y. y == x) gs → list_any (λ y. y == x) (cond (not b) (g ∷ without k gs) (without k gs)) ≡ (g == x || list_any (λ y. y == x) gs)
    by_test true t more = more ∙ ap (λ b. b || list_any (λ y. y == x) gs) (sym (apart t))
    by_test false t more = ap (λ b. g == x || b) more

different-without : (k : ℕ) (gs : List ℕ) → different gs ≡ cond (has_group k gs) 1 0 + different (without k gs)
unfolding has_group different
different-without k [] = refl
different-without k (g ∷ gs) = by_test (g == k) refl (different-without k gs)
  where
    split : (b : Bool) (d e : ℕ) → d ≡ cond b 1 0 + e → cond b 0 1 + d ≡ 1 + e
    split true d e h = grind arith
    split false d e h = grind arith

    turn : (a b : Bool) (d e : ℕ) → d ≡ cond b 1 0 + e → cond a 0 1 + d ≡ cond b 1 0 + (cond a 0 1 + e)
    turn true true d e h = grind arith
    turn true false d e h = grind arith
    turn false true d e h = grind arith
    turn false false d e h = grind arith

    by_test : (b : Bool) → (g == k) ≡ b → different gs ≡ cond (list_any (λ y. y == k) gs) 1 0 + different (without k gs)
        → cond (list_any (λ y. y == g) gs) 0 1 + different gs ≡ cond (b || list_any (λ y. y == k) gs) 1 0 + different (cond (not b) (g ∷ without k gs) (without k gs))
    by_test true t more = ap (λ q. cond (list_any (λ y. y == q) gs) 0 1 + different gs) (eqb-true g k t) ∙ split (list_any (λ y. y == k) gs) (different gs) (different (without k gs)) more
    by_test false t more =
        turn (list_any (λ y. y == g) gs) (list_any (λ y. y == k) gs) (different gs) (different (without k gs)) more
        ∙ ap (λ b. cond (list_any (λ y. y == k) gs) 1 0 + (cond b 0 1 + different (without k gs))) (sym (other_stays g k gs t))

is_there : (x y : ℕ) (xs : List ℕ) → has_group x xs ≡ false → has_group y xs ≡ true → (y == x) ≡ false
is_there x y xs h k = by_test (y == x) refl
  where
    by_test : (b : Bool) → (y == x) ≡ b → (y == x) ≡ false
    by_test true t = absurd (let no : true ≡ false = sym k ∙ ap (λ q. has_group q xs) (eqb-true y x t) ∙ h in cc)
    by_test false t = t

first_there : (x : ℕ) (xs : List ℕ) → has_group x (x ∷ xs) ≡ true
unfolding has_group
first_there x xs = grind (arith, nat_tests)

later_there : (x y : ℕ) (xs : List ℕ) → has_group y xs ≡ true → has_group y (x ∷ xs) ≡ true
unfolding has_group
later_there x y xs h = rw h (grind arith)

-- groups of which none is there twice are no more than the different ones of a list that has them all
pub pigeons : (ks gs : List ℕ) → Distinct ks → ((k : ℕ) → has_group k ks ≡ true → has_group k gs ≡ true) → length ks ≤ different gs
unfolding Distinct
pigeons [] gs d h = omega arith
pigeons (k ∷ ks) gs d h =
    let more = pigeons ks (without k gs) d.1 (λ q e. other_stays q k gs (is_there k q ks d.0 e) ∙ h q (later_there k q ks e)) in
    let here = different-without k gs ∙ ap (λ b. cond b 1 0 + different (without k gs)) (h k (first_there k ks)) in
    grind arith

-- ---- the groups of an order

abbrev group_of : ℕ × ℕ × ℕ → ℕ
group_of e = e.2

an_entry : (g : ℕ) (order : List (ℕ × ℕ × ℕ)) → has_group g (map group_of order) ≡ true → (p : ℕ) × (m : ℕ) × (has order p m g ≡ true)
unfolding has_group has
an_entry g [] h = absurd (let no : false ≡ true = h in cc)
an_entry g ((p, m, x) ∷ order) h = by_test (x == g) refl h (an_entry g order)
  where
    here : (x == g) ≡ true → is_at (key_cmp (p, m, g)) (p, m, x) ≡ true
    here t = grind (arith, nat_tests)

    by_test : (b : Bool) → (x == g) ≡ b → (b || list_any (λ y. y == g) (map group_of order)) ≡ true → (list_any (λ y. y == g) (map group_of order) ≡ true → (q : ℕ) × (n : ℕ) × (list_any (is_at (key_cmp (q, n, g))) order ≡ true))
        → (q : ℕ) × (n : ℕ) × ((is_at (key_cmp (q, n, g)) (p, m, x) || list_any (is_at (key_cmp (q, n, g))) order) ≡ true)
    by_test true t e more = (p, m, rw (here t) refl)
    by_test false t e more = let found = more e in (found.0, found.1, rw found.2 (or_true (is_at (key_cmp (found.0, found.1, g)) (p, m, x))))
      where
        or_true : (b : Bool) → (b || true) ≡ true
        or_true true = refl
        or_true false = refl

pub first_has : (p m g : ℕ) (order : List (ℕ × ℕ × ℕ)) → has ((p, m, g) ∷ order) p m g ≡ true
unfolding has
first_has p m g order = rw (same p m g) refl
  where
    same : (p m g : ℕ) → is_at (key_cmp (p, m, g)) (p, m, g) ≡ true
    same p m g = grind (arith, nat_tests)

later_has : (e : ℕ × ℕ × ℕ) (p m g : ℕ) (order : List (ℕ × ℕ × ℕ)) → has order p m g ≡ true → has (e ∷ order) p m g ≡ true
unfolding has
later_has e p m g order h = rw h (or_true (is_at (key_cmp (p, m, g)) e))
  where
    or_true : (b : Bool) → (b || true) ≡ true
    or_true true = refl
    or_true false = refl

above_all : (e : ℕ × ℕ × ℕ) (p m g : ℕ) (order : List (ℕ × ℕ × ℕ)) → AllByRecursion (λ q. key_cmp e q ≡ Less) order → has order p m g ≡ true → key_cmp e (p, m, g) ≡ Less
unfolding has
above_all e p m g [] s h = absurd (let no : false ≡ true = h in cc)
above_all e p m g ((x, y, z) ∷ order) s h = by_test (is_at (key_cmp (p, m, g)) (x, y, z)) refl h (above_all e p m g order s.1)
  where
    equal : is_at (key_cmp (p, m, g)) (x, y, z) ≡ true → (x ≡ p) × (y ≡ m) × (z ≡ g)
    equal t = (grind (arith, nat_tests), grind (arith, nat_tests), grind (arith, nat_tests))

    at_equal : (x ≡ p) × (y ≡ m) × (z ≡ g) → key_cmp e (p, m, g) ≡ Less
    at_equal q = subst (λ w. key_cmp e (p, m, w) ≡ Less) q.2 (subst (λ w. key_cmp e (p, w, z) ≡ Less) q.1 (subst (λ w. key_cmp e (w, y, z) ≡ Less) q.0 s.0))

    by_test : (b : Bool) → is_at (key_cmp (p, m, g)) (x, y, z) ≡ b → (b || list_any (is_at (key_cmp (p, m, g))) order) ≡ true → (list_any (is_at (key_cmp (p, m, g))) order ≡ true → key_cmp e (p, m, g) ≡ Less) → key_cmp e (p, m, g) ≡ Less
    by_test true t f more = at_equal (equal t)
    by_test false t f more = more f

not_itself : (p m g : ℕ) → key_cmp (p, m, g) (p, m, g) ≡ Less → ⊥
not_itself p m g h = grind (arith, nat_tests)

-- an order in which each group has one place has no group twice
pub distinct_groups : (order : List (ℕ × ℕ × ℕ)) → IsStrictlySortedBy key_cmp order
    → ((g p m q n : ℕ) → has order p m g ≡ true → has order q n g ≡ true → (p ≡ q) × (m ≡ n)) → Distinct (map group_of order)
unfolding Distinct
distinct_groups [] s h = tt
distinct_groups ((p, m, g) ∷ order) s h = (
  by_test (has_group g (map group_of order)) refl,
  distinct_groups order (sorted_tail key_cmp (p, m, g) order s) (λ x a b c d e f. h x a b c d (later_has (p, m, g) a b x order e) (later_has (p, m, g) c d x order f)),
)
  where
    again : (e : (q : ℕ) × (n : ℕ) × (has order q n g ≡ true)) → ⊥
    again e =
        let same = h g p m e.0 e.1 (first_has p m g order) (later_has (p, m, g) e.0 e.1 g order e.2) in
        let less = above_all (p, m, g) e.0 e.1 g order (sorted_head key_cmp (p, m, g) order s) e.2 in
        not_itself p m g (subst (λ w. key_cmp (p, m, g) (p, w, g) ≡ Less) (sym same.1) (subst (λ w. key_cmp (p, m, g) (w, e.1, g) ≡ Less) (sym same.0) less))

    by_test : (b : Bool) → has_group g (map group_of order) ≡ b → has_group g (map group_of order) ≡ false
    by_test true t = absurd (again (an_entry g order t))
    by_test false t = t

-- where there is a front, there is a place
pub front_place : (p m : ℕ) (o : Option Place) → is_front p m o ≡ true → (place : Place) × (o ≡ Some place) × (p ≡ place.score) × (m ≡ place.number)
unfolding is_front
front_place p m None h = absurd (let no : false ≡ true = h in cc)
front_place p m (Some place) h = let same = parts place.score place.number h in (place, refl, same.0, same.1)
  where
    parts : (a b : ℕ) → (p == a && m == b) ≡ true → (p ≡ a) × (m ≡ b)
    parts a b e = (grind (arith, nat_tests), grind (arith, nat_tests))

one_place : (order : List (ℕ × ℕ × ℕ)) (places : List (ℕ × Place)) → IsFronts order places → (g p m q n : ℕ) → has order p m g ≡ true → has order q n g ≡ true → (p ≡ q) × (m ≡ n)
unfolding IsFronts
one_place order places f g p m q n h k =
    let a = front_place p m (place_at g places) (sym (f p m g) ∙ h) in
    let b = front_place q n (place_at g places) (sym (f q n g) ∙ k) in
    let same = some_same a.0 b.0 (sym a.1 ∙ b.1) in
    (a.2 ∙ ap (λ (x : Place). x.score) same ∙ sym b.2, a.3 ∙ ap (λ (x : Place). x.number) same ∙ sym b.3)
  where
    some_same : (x y : Place) → Some x ≡ Some y → x ≡ y
    some_same x y e = cc

length_map : (order : List (ℕ × ℕ × ℕ)) → length (map group_of order) ≡ length order
length_map [] = refl
length_map (e ∷ order) = let more = length_map order in grind arith

-- the order has no more entries than there are different groups in a list that has each group with a place
pub few_fronts : (order : List (ℕ × ℕ × ℕ)) (places : List (ℕ × Place)) (gs : List ℕ) → IsStrictlySortedBy key_cmp order → IsFronts order places
    → ((g : ℕ) (place : Place) → place_at g places ≡ Some place → has_group g gs ≡ true) → length order ≤ different gs
unfolding IsFronts
few_fronts order places gs s f h =
    let few = pigeons (map group_of order) gs (distinct_groups order s (one_place order places f))
    (λ g e. let entry = an_entry g order e in let place = front_place entry.0 entry.1 (place_at g places) (sym (f entry.0 entry.1 g) ∙ entry.2) in h g place.0 place.1) in
    let n = length_map order in
    grind arith

-- Lists: what a test finds, and what is left without it.
use Rattle.std.proofs.Common.{◌≡◌, ℕ, ◌<◌, ◌≤◌, ◌==◌, Bool, true, false, cond, not, ◌||◌, List, [], ◌∷◌, ◌++◌, map, filter, find, length, Some, IsSomeAnd, option_map, refl, sym, ap₂, subst, arith, eq-eqb}
use Rattle.std.specs.List.{AllByRecursion, list_any}

pub or-left : (a b : Bool) → a ≡ true → (a || b) ≡ true
or-left true b h = refl
or-left false b h = absurd (cc)

pub or-right : (a b : Bool) → b ≡ true → (a || b) ≡ true
or-right true b h = refl
or-right false b h = h

pub same-some : {X : Type 0} (x y : X) → Some x ≡ Some y → x ≡ y
same-some x y h = cc

-- ## What a test finds

pub any-found : {X : Type 0} (p : X → Bool) (xs : List X) → list_any p xs ≡ true
    → IsSomeAnd (find p xs) (λ x. p x ≡ true)
any-found p [] h = absurd (cc)
any-found p (x ∷ xs) h = by_test (p x) refl h (any-found p xs)
  where
    by_test : (b : Bool) → p x ≡ b → (b || list_any p xs) ≡ true
        → (list_any p xs ≡ true → IsSomeAnd (find p xs) (λ y. p y ≡ true))
        → IsSomeAnd (cond b (Some x) (find p xs)) (λ y. p y ≡ true)
    by_test true e h more = e
    by_test false e h more = more h

pub found-passes : {X : Type 0} (p : X → Bool) (xs : List X) (x : X) → find p xs ≡ Some x → p x ≡ true
found-passes p [] x h = absurd (cc)
found-passes p (y ∷ ys) x h = by_test (p y) refl h (found-passes p ys x)
  where
    by_test : (b : Bool) → p y ≡ b → cond b (Some y) (find p ys) ≡ Some x → (find p ys ≡ Some x → p x ≡ true)
        → p x ≡ true
    by_test true e h more = subst (λ z. p z ≡ true) (same-some y x h) e
    by_test false e h more = more h

-- another test of what was found holds of one of the list
pub found-any : {X : Type 0} (p q : X → Bool) (xs : List X) (x : X) → find p xs ≡ Some x → q x ≡ true
    → list_any q xs ≡ true
found-any p q [] x h k = absurd (cc)
found-any p q (y ∷ ys) x h k = by_test (p y) h (λ e. found-any p q ys x e k)
  where
    by_test : (b : Bool) → cond b (Some y) (find p ys) ≡ Some x → (find p ys ≡ Some x → list_any q ys ≡ true)
        → (q y || list_any q ys) ≡ true
    by_test true h more =
        or-left (q y) (list_any q ys) (subst (λ z. q z ≡ true) (sym (same-some y x h)) k)
    by_test false h more = or-right (q y) (list_any q ys) (more h)

-- ## Lists that change

-- each changes, and passes as before
pub find-map : {X : Type 0} (p : X → Bool) (f : X → X) (xs : List X) → ((x : X) → p (f x) ≡ p x)
    → find p (map f xs) ≡ option_map f (find p xs)
find-map p f [] h = refl
find-map p f (x ∷ xs) h = rw (h x) (by_test (p x) (find-map p f xs h))
  where
    by_test : (b : Bool) → find p (map f xs) ≡ option_map f (find p xs)
        → cond b (Some (f x)) (find p (map f xs)) ≡ option_map f (cond b (Some x) (find p xs))
    by_test true more = refl
    by_test false more = more

-- what passes stays
pub find-filter : {X : Type 0} (p q : X → Bool) (xs : List X) → ((x : X) → p x ≡ true → q x ≡ true)
    → find p (filter q xs) ≡ find p xs
find-filter p q [] h = refl
find-filter p q (x ∷ xs) h = by_tests (p x) (q x) refl (h x) (find-filter p q xs h)
  where
    by_tests : (b c : Bool) → p x ≡ b → (b ≡ true → c ≡ true) → find p (filter q xs) ≡ find p xs
        → find p (cond c (x ∷ filter q xs) (filter q xs)) ≡ cond b (Some x) (find p xs)
    by_tests true true e w more = rw e refl
    by_tests true false e w more = let no = w refl in absurd (cc)
    by_tests false true e w more = rw e more
    by_tests false false e w more = more

pub length-left : {X : Type 0} (p : X → Bool) (xs : List X) → length (filter p xs) ≤ length xs
length-left p [] = omega arith
length-left p (x ∷ xs) = by_test (p x) (length-left p xs)
  where
    by_test : (b : Bool) → length (filter p xs) ≤ length xs
        → length (cond b (x ∷ filter p xs) (filter p xs)) ≤ length (x ∷ xs)
    by_test true more = omega (arith, more)
    by_test false more = omega (arith, more)

-- where one passes, fewer don't
pub fewer-left : {X : Type 0} (p : X → Bool) (xs : List X) → list_any p xs ≡ true
    → length (filter (λ x. not (p x)) xs) < length xs
fewer-left p [] h = absurd (cc)
fewer-left p (x ∷ xs) h = by_test (p x) h (fewer-left p xs) (length-left (λ y. not (p y)) xs)
  where
    by_test : (b : Bool) → (b || list_any p xs) ≡ true
        → (list_any p xs ≡ true → length (filter (λ y. not (p y)) xs) < length xs)
        → length (filter (λ y. not (p y)) xs) ≤ length xs
        → length (cond (not b) (x ∷ filter (λ y. not (p y)) xs) (filter (λ y. not (p y)) xs)) < length (x ∷ xs)
    by_test true h more most = omega (arith, most)
    by_test false h more most = let less = more h in omega (arith, less)

-- ## Of each

pub all-append : {X : Type 0} (P : X → Type 0) (xs ys : List X) → AllByRecursion P xs → AllByRecursion P ys
    → AllByRecursion P (xs ++ ys)
all-append P [] ys h k = k
all-append P (x ∷ xs) ys h k = (h.0, all-append P xs ys h.1 k)

pub map-same : {X Y : Type 0} (f g : X → Y) (xs : List X) → AllByRecursion (λ x. f x ≡ g x) xs
    → map f xs ≡ map g xs
map-same f g [] h = refl
map-same f g (x ∷ xs) h = ap₂ (λ y ys. y ∷ ys) h.0 (map-same f g xs h.1)

-- each number of a list is in it
pub all-in : (ns ms : List ℕ)
    → ((n : ℕ) → list_any (λ m. n == m) ns ≡ true → list_any (λ m. n == m) ms ≡ true)
    → AllByRecursion (λ n. list_any (λ m. n == m) ms ≡ true) ns
all-in [] ms w = tt
all-in (n ∷ ns) ms w = (
  w n (or-left (n == n) (list_any (λ m. n == m) ns) (eq-eqb n n refl)),
  all-in ns ms (λ k h. w k (or-right (k == n) (list_any (λ m. k == m) ns) h)),
)

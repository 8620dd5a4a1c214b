-- Sums over lists, and counts as sums: what comes and goes.
use Rattle.std.proofs.Common.{◌≡◌, ℕ, ◌+◌, ◌<◌, ◌≤◌, ◌==◌, Bool, true, false, not, cond, ◌||◌, List, [], ◌∷◌, ◌++◌, filter, find, map, Some, refl, sym, ap, ap₂, subst, eqb-true, arith}
use Rattle.std.specs.List.{AllByRecursion, list_any}
use Rattle.lists.proofs.Elements.{all-filter, all-last, all-weaker}

-- ## Sums

abbrev pub sum_of : {X : Type 0} → (X → ℕ) → List X → ℕ
sum_of g [] = 0
sum_of g (x ∷ xs) = g x + sum_of g xs

abbrev pub one_if : Bool → ℕ
one_if true = 1
one_if false = 0

-- how many pass
abbrev pub count : {X : Type 0} → (X → Bool) → List X → ℕ
count p xs = sum_of (λ x. one_if (p x)) xs

pub sum-last : {X : Type 0} (g : X → ℕ) (xs : List X) (x : X) → sum_of g (xs ++ x ∷ []) ≡ sum_of g xs + g x
sum-last g [] x = omega arith
sum-last g (y ∷ ys) x = let more = sum-last g ys x in omega (arith, more)

-- fewer come to no more
pub sum-left : {X : Type 0} (g : X → ℕ) (p : X → Bool) (xs : List X) → sum_of g (filter p xs) ≤ sum_of g xs
sum-left g p [] = omega arith
sum-left g p (x ∷ xs) =
    let more = sum-left g p xs in
    elim (p x) as (λ b. sum_of g (cond b (x ∷ filter p xs) (filter p xs)) ≤ sum_of g (x ∷ xs))
    [ true ↦ omega (arith, more) | false ↦ omega (arith, more) ]

-- each has a share that is bounded
pub sum-bounded : {X : Type 0} (g h : X → ℕ) (xs : List X) → AllByRecursion (λ x. g x ≤ h x) xs
    → sum_of g xs ≤ sum_of h xs
sum-bounded g h [] a = omega arith
sum-bounded g h (x ∷ xs) a =
    let here : g x ≤ h x = a.0 in let more = sum-bounded g h xs a.1 in omega (arith, here, more)

pub sum-same : {X : Type 0} (g : X → ℕ) (f : X → X) (xs : List X) → ((x : X) → g (f x) ≡ g x)
    → sum_of g (map f xs) ≡ sum_of g xs
sum-same g f [] h = refl
sum-same g f (x ∷ xs) h = ap₂ (λ a b. a + b) (h x) (sum-same g f xs h)

-- ## Where none passes

pub count-none : {X : Type 0} (p : X → Bool) (xs : List X) → count p xs ≡ 0
    → AllByRecursion (λ x. p x ≡ false) xs
count-none p [] h = tt
count-none p (x ∷ xs) h =
    let two : (p x ≡ false) × (count p xs ≡ 0) =
    (elim (p x) as (λ b. one_if b + count p xs ≡ 0 → (b ≡ false) × (count p xs ≡ 0)) [
      | true ↦ λ e. absurd (omega (arith, e))
      | false ↦ λ e. (refl, omega (arith, e))
    ]) h in
    (two.0, count-none p xs two.1)

pub none-count : {X : Type 0} (p : X → Bool) (xs : List X) → AllByRecursion (λ x. p x ≡ false) xs
    → count p xs ≡ 0
none-count p [] h = refl
none-count p (x ∷ xs) h =
    let more = none-count p xs h.1 in
    (elim (p x) as (λ b. b ≡ false → one_if b + count p xs ≡ 0)
    [ true ↦ λ e. absurd (cc) | false ↦ λ e. omega (arith, more) ]) h.0

-- all is left
pub none-left : {X : Type 0} (p : X → Bool) (xs : List X) → AllByRecursion (λ x. p x ≡ false) xs
    → filter (λ x. not (p x)) xs ≡ xs
none-left p [] h = refl
none-left p (x ∷ xs) h =
    let more = none-left p xs h.1 in
    (elim (p x) as (λ b. b ≡ false
    → cond (not b) (x ∷ filter (λ y. not (p y)) xs) (filter (λ y. not (p y)) xs) ≡ x ∷ xs)
    [ true ↦ λ e. absurd (cc) | false ↦ λ e. ap (λ ys. x ∷ ys) more ]) h.0

pub none-any : {X : Type 0} (p : X → Bool) (xs : List X) → AllByRecursion (λ x. p x ≡ false) xs
    → list_any p xs ≡ false
none-any p [] h = refl
none-any p (x ∷ xs) h =
    let more = none-any p xs h.1 in
    (elim (p x) as (λ b. b ≡ false → (b || list_any p xs) ≡ false)
    [ true ↦ λ e. e | false ↦ λ e. more ]) h.0

-- where one passes, one is found, and the test of the list holds
pub count-found : {X : Type 0} (p : X → Bool) (xs : List X) → 0 < count p xs
    → (x : X) × (find p xs ≡ Some x)
count-found p [] h = absurd (omega (arith, h))
count-found p (x ∷ xs) h =
    (elim (p x) as (λ b. 0 < one_if b + count p xs → (y : _) × (cond b (Some x) (find p xs) ≡ Some y))
    [ true ↦ λ e. (x, refl) | false ↦ λ e. count-found p xs (omega (arith, e)) ]) h

pub count-any : {X : Type 0} (p : X → Bool) (xs : List X) → 0 < count p xs → list_any p xs ≡ true
count-any p [] h = absurd (omega (arith, h))
count-any p (x ∷ xs) h =
    (elim (p x) as (λ b. 0 < one_if b + count p xs → (b || list_any p xs) ≡ true)
    [ true ↦ λ e. refl | false ↦ λ e. count-any p xs (omega (arith, e)) ]) h

-- ## One that is found is taken out, or changes

same-of : {X : Type 0} (x y : X) → Some x ≡ Some y → x ≡ y
same-of x y h = cc

pub sum-out : {X : Type 0} (g : X → ℕ) (p : X → Bool) (xs : List X) (x : X) → find p xs ≡ Some x
    → count p xs ≤ 1 → sum_of g xs ≡ g x + sum_of g (filter (λ y. not (p y)) xs)
sum-out g p [] x e h = absurd (cc)
sum-out g p (y ∷ ys) x e h =
    (elim (p y) as (λ b. cond b (Some y) (find p ys) ≡ Some x → one_if b + count p ys ≤ 1
    → g y + sum_of g ys
    ≡ g x + sum_of g (cond (not b) (y ∷ filter (λ z. not (p z)) ys) (filter (λ z. not (p z)) ys))) [
      | true ↦ λ k l.
          let left = none-left p ys (count-none p ys (omega (arith, l))) in
          ap₂ (λ z zs. g z + sum_of g zs) (same-of y x k) (sym left)
      | false ↦ λ k l.
          let more = sum-out g p ys x k (omega (arith, l)) in omega (arith, more)
    ]) e h

-- where none passes, none changes
pub none-changes : {X : Type 0} (p : X → Bool) (f : X → X) (xs : List X)
    → AllByRecursion (λ x. p x ≡ false) xs → map (λ x. cond (p x) (f x) x) xs ≡ xs
none-changes p f [] h = refl
none-changes p f (x ∷ xs) h =
    let more = none-changes p f xs h.1 in
    (elim (p x) as (λ b. b ≡ false → cond b (f x) x ∷ map (λ y. cond (p y) (f y) y) xs ≡ x ∷ xs)
    [ true ↦ λ e. absurd (cc) | false ↦ λ e. ap (λ ys. x ∷ ys) more ]) h.0

pub sum-changed : {X : Type 0} (g : X → ℕ) (p : X → Bool) (f : X → X) (xs : List X) (x : X)
    → find p xs ≡ Some x → count p xs ≤ 1
    → sum_of g (map (λ y. cond (p y) (f y) y) xs) + g x ≡ sum_of g xs + g (f x)
sum-changed g p f [] x e h = absurd (cc)
sum-changed g p f (y ∷ ys) x e h =
    (elim (p y) as (λ b. cond b (Some y) (find p ys) ≡ Some x → one_if b + count p ys ≤ 1
    → (g (cond b (f y) y) + sum_of g (map (λ z. cond (p z) (f z) z) ys)) + g x
    ≡ (g y + sum_of g ys) + g (f x)) [
      | true ↦ λ k l.
          let same = same-of y x k in
          let left = ap (sum_of g) (none-changes p f ys (count-none p ys (omega (arith, l)))) in
          let a : g y ≡ g x = ap g same in
          let b : g (f y) ≡ g (f x) = ap (λ z. g (f z)) same in
          omega (arith, left, a, b)
      | false ↦ λ k l.
          let more = sum-changed g p f ys x k (omega (arith, l)) in omega (arith, more)
    ]) e h

pub all-changed-one : {X : Type 0} (P : X → Type 0) (p : X → Bool) (f : X → X) (xs : List X) (x : X)
    → find p xs ≡ Some x → count p xs ≤ 1 → P (f x) → AllByRecursion P xs
    → AllByRecursion P (map (λ y. cond (p y) (f y) y) xs)
all-changed-one P p f [] x e h own others = tt
all-changed-one P p f (y ∷ ys) x e h own others =
    (elim (p y) as (λ b. cond b (Some y) (find p ys) ≡ Some x → one_if b + count p ys ≤ 1
    → AllByRecursion P (cond b (f y) y ∷ map (λ z. cond (p z) (f z) z) ys)) [
      | true ↦ λ k l. (
        subst (λ z. P (f z)) (sym (same-of y x k)) own,
        subst (AllByRecursion P) (sym (none-changes p f ys (count-none p ys (omega (arith, l))))) others.1,
      )
      | false ↦ λ k l. (others.0, all-changed-one P p f ys x k (omega (arith, l)) own others.1)
    ]) e h

-- ## Numbers that are given once

pub record AreNumbered {X : Type 0} (number : X → ℕ) (given : ℕ) (xs : List X) : Type 0 where
  pub low : AllByRecursion (λ x. number x ≤ given) xs
  pub once : (k : ℕ) → count (λ x. k == number x) xs ≤ 1

pub numbered-left : {X : Type 0} (number : X → ℕ) (given : ℕ) (p : X → Bool) (xs : List X)
    → AreNumbered number given xs → AreNumbered number given (filter p xs)
numbered-left number given p xs h = record {
  low = all-filter (λ x. number x ≤ given) p xs h.low;
  once = λ k.
      let most = h.once k in
      let fewer = sum-left (λ x. one_if (k == number x)) p xs in omega (arith, most, fewer);
}

pub low-more : {X : Type 0} (number : X → ℕ) (given more : ℕ) (xs : List X) → given ≤ more
    → AllByRecursion (λ x. number x ≤ given) xs → AllByRecursion (λ x. number x ≤ more) xs
low-more number given more xs l h =
    all-weaker (λ x. number x ≤ given) (λ x. number x ≤ more) xs (λ x low. omega (arith, low, l)) h

pub numbered-more : {X : Type 0} (number : X → ℕ) (given more : ℕ) (xs : List X) → given ≤ more
    → AreNumbered number given xs → AreNumbered number more xs
numbered-more number given more xs l h = record {
  low = low-more number given more xs l h.low;
  once = h.once;
}

differ : (a b c : ℕ) → a ≤ b → b < c → (c == a) ≡ false
differ a b c h k =
    (elim (c == a) as (λ t. (c == a) ≡ t → t ≡ false) [
      | true ↦ λ e. let same = eqb-true c a e in absurd (omega (arith, h, k, same))
      | false ↦ λ e. refl
    ]) refl

new-count : {X : Type 0} (number : X → ℕ) (given n : ℕ) (xs : List X) → given < n
    → AllByRecursion (λ x. number x ≤ given) xs → AllByRecursion (λ x. (n == number x) ≡ false) xs
new-count number given n [] l h = tt
new-count number given n (x ∷ xs) l h = (differ (number x) given n h.0 l, new-count number given n xs l h.1)

-- a number that wasn't given comes beside those that are there
pub once-beside : {X : Type 0} (number : X → ℕ) (given n : ℕ) (xs : List X) → given < n
    → AreNumbered number given xs → (k : ℕ) → count (λ x. k == number x) xs + one_if (k == n) ≤ 1
once-beside number given n xs l h k =
    let most = h.once k in
    (elim (k == n) as (λ b. (k == n) ≡ b → count (λ x. k == number x) xs + one_if b ≤ 1) [
      | true ↦ λ e.
          let none : count (λ x. k == number x) xs ≡ 0 =
          subst (λ m. count (λ x. m == number x) xs ≡ 0) (sym (eqb-true k n e))
          (none-count (λ x. n == number x) xs (new-count number given n xs l h.low)) in
          omega (arith, none)
      | false ↦ λ e. omega (arith, most)
    ]) refl

pub numbered-last : {X : Type 0} (number : X → ℕ) (given n : ℕ) (xs : List X) (x : X) → given < n
    → number x ≡ n → AreNumbered number given xs → AreNumbered number n (xs ++ x ∷ [])
numbered-last number given n xs x l e h = record {
  low = all-last (λ y. number y ≤ n) xs x (low-more number given n xs (omega (arith, l)) h.low) (omega (arith, e));
  once = λ k.
      let beside = once-beside number given n xs l h k in
      let added = sum-last (λ y. one_if (k == number y)) xs x in
      let one : one_if (k == number x) ≡ one_if (k == n) = ap (λ m. one_if (k == m)) e in
      omega (arith, beside, added, one);
}

all-same : {X : Type 0} (number : X → ℕ) (given : ℕ) (f : X → X) (xs : List X)
    → ((x : X) → number (f x) ≡ number x) → AllByRecursion (λ x. number x ≤ given) xs
    → AllByRecursion (λ x. number x ≤ given) (map f xs)
all-same number given f [] same h = tt
all-same number given f (x ∷ xs) same h =
    (subst (λ m. m ≤ given) (sym (same x)) h.0, all-same number given f xs same h.1)

pub numbered-changed : {X : Type 0} (number : X → ℕ) (given : ℕ) (f : X → X) (xs : List X)
    → ((x : X) → number (f x) ≡ number x) → AreNumbered number given xs → AreNumbered number given (map f xs)
numbered-changed number given f xs same h = record {
  low = all-same number given f xs same h.low;
  once = λ k.
      let most = h.once k in
      let counted = sum-same (λ y. one_if (k == number y)) f xs (λ y. ap (λ m. one_if (k == m)) (same y)) in
      omega (arith, most, counted);
}

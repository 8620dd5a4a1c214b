-- Lists that are filtered once more, and the last so many of a list.
use Rattle.std.proofs.Common.{◌≡◌, ℕ, zero, suc, ◌-◌, ◌==◌, Bool, true, false, cond, ◌||◌, List, [], ◌∷◌, ◌++◌, filter, find, take, drop, length, Some, None, IfSome, refl, sym, ap, ap₂, ◌∙◌, subst, eqb-true}
use Rattle.std.specs.List.{AllByRecursion, list_any}
use Rattle.lists.proofs.Elements.{all-filter}
use Rattle.lists.specs.Entries.{AreApart, has}
use Rattle.runs.specs.Ended.{last_or}
use Rattle.run_model.proofs.Tidied.{drop-front, front-of, take-front}

-- ## Filters

-- what a second test drops doesn't pass the first
pub filter-over : {X : Type 0} (p q : X → Bool) (xs : List X) → ((x : X) → q x ≡ false → p x ≡ false)
    → filter p (filter q xs) ≡ filter p xs
filter-over p q [] fails = refl
filter-over {X = X} p q (x ∷ xs) fails = by_test (q x) (fails x) (filter-over p q xs fails)
  where
    by_test : (b : Bool) → (b ≡ false → p x ≡ false) → filter p (filter q xs) ≡ filter p xs
        → filter p (cond b (x ∷ filter q xs) (filter q xs)) ≡ cond (p x) (x ∷ filter p xs) (filter p xs)
    by_test true fails rest = ap (λ ys. cond (p x) (x ∷ ys) ys) rest
    by_test false fails rest = rest ∙ ap (λ b. cond b (x ∷ filter p xs) (filter p xs)) (sym (fails refl))

-- tests that answer alike
pub filter-alike : {X : Type 0} (p q : X → Bool) (xs : List X) → AllByRecursion (λ x. p x ≡ q x) xs
    → filter p xs ≡ filter q xs
filter-alike p q [] h = refl
filter-alike p q (x ∷ xs) h =
    ap (λ b. cond b (x ∷ filter p xs) (filter p xs)) h.0
    ∙ ap (λ ys. cond (q x) (x ∷ ys) ys) (filter-alike p q xs h.1)

-- nothing that is found is dropped
pub any-left : {X : Type 0} (p q : X → Bool) (xs : List X) → AllByRecursion (λ x. q x ≡ false → p x ≡ false) xs
    → list_any p (filter q xs) ≡ list_any p xs
any-left p q [] fails = refl
any-left p q (x ∷ xs) fails = by_test (q x) fails.0 (any-left p q xs fails.1)
  where
    by_test : (b : Bool) → (b ≡ false → p x ≡ false) → list_any p (filter q xs) ≡ list_any p xs
        → list_any p (cond b (x ∷ filter q xs) (filter q xs)) ≡ (p x || list_any p xs)
    by_test true fails rest = ap (λ b. p x || b) rest
    by_test false fails rest = rest ∙ ap (λ b. b || list_any p xs) (sym (fails refl))

-- ## What is found by a number

pub all-of : {X : Type 0} (P : X → Type 0) (xs : List X) → ((x : X) → P x) → AllByRecursion P xs
all-of P [] h = tt
all-of P (x ∷ xs) h = (h x, all-of P xs h)

-- where one of them is found, something holds
-- where it passes
abbrev Passing : {X : Type 0} → (X → Type 0) → (X → Bool) → X → Type 0
Passing P p x = p x ≡ true → P x

failed : {X : Type 0} (P : X → Type 0) (p : X → Bool) (x : X) → p x ≡ false → Passing P p x
failed P p x e t = let clash : true ≡ false = sym t ∙ e in cc

found-by : {X : Type 0} (Q : Type 0) (p : X → Bool) (x : X) (xs : List X) (b : Bool) → p x ≡ b
    → (IfSome (find p xs) (λ _. Q) → AllByRecursion (λ y. p y ≡ true → Q) xs)
    → IfSome (cond b (Some x) (find p xs)) (λ _. Q) → AllByRecursion (λ y. p y ≡ true → Q) (x ∷ xs)
found-by Q p x xs true e rest q = ((λ _. q), all-of (λ y. p y ≡ true → Q) xs (λ y _. q))
found-by Q p x xs false e rest q = (failed (λ _. Q) p x e, rest q)

pub all-found_by : {X : Type 0} (Q : Type 0) (p : X → Bool) (xs : List X) → IfSome (find p xs) (λ _. Q)
    → AllByRecursion (λ x. p x ≡ true → Q) xs
all-found_by Q p [] h = tt
all-found_by Q p (x ∷ xs) h = found-by Q p x xs (p x) refl (all-found_by Q p xs) h

none-by : {X : Type 0} (P : X → Type 0) (p : X → Bool) (x : X) (xs : List X) (b : Bool) → p x ≡ b
    → (find p xs ≡ None → AllByRecursion (Passing P p) xs) → cond b (Some x) (find p xs) ≡ None
    → AllByRecursion (Passing P p) (x ∷ xs)
none-by P p x xs true e rest q = cc
none-by P p x xs false e rest q = (failed P p x e, rest q)

none-passes : {X : Type 0} (P : X → Type 0) (p : X → Bool) (xs : List X) → find p xs ≡ None
    → AllByRecursion (Passing P p) xs
none-passes P p [] h = tt
none-passes P p (x ∷ xs) h = none-by P p x xs (p x) refl (none-passes P p xs) h

apart-by : {X : Type 0} (P : X → Type 0) (number : X → ℕ) (n : ℕ) (x : X) (xs : List X) (b : Bool)
    → (n == number x) ≡ b → find (has number (number x)) xs ≡ None
    → (IfSome (find (has number n) xs) P → AllByRecursion (Passing P (has number n)) xs)
    → IfSome (cond b (Some x) (find (has number n) xs)) P → AllByRecursion (Passing P (has number n)) (x ∷ xs)
apart-by P number n x xs true e other rest own = (
  (λ _. own),
  none-passes P (has number n) xs
      (subst (λ k. find (has number k) xs ≡ None) (sym (eqb-true n (number x) e)) other),
)
apart-by P number n x xs false e other rest own = (failed P (has number n) x e, rest own)

-- where no two have one number, what holds of the one that is found holds of all that have it
pub all-apart : {X : Type 0} (P : X → Type 0) (number : X → ℕ) (n : ℕ) (xs : List X) → AreApart number xs
    → IfSome (find (has number n) xs) P → AllByRecursion (λ x. (n == number x) ≡ true → P x) xs
all-apart P number n [] apart h = tt
all-apart P number n (x ∷ xs) apart h =
    apart-by P number n x xs (n == number x) refl apart.0 (all-apart P number n xs apart.1) h

-- ## The last so many, and those before that pass

pub all-take : {X : Type 0} (P : X → Type 0) (n : ℕ) (xs : List X) → AllByRecursion P xs
    → AllByRecursion P (take n xs) × AllByRecursion P (drop n xs)
all-take P zero xs h = (tt, h)
all-take P (suc n) [] h = (tt, tt)
all-take P (suc n) (x ∷ xs) h = let rest = all-take P n xs h.1 in ((h.0, rest.0), rest.1)

all-joined_to : {X : Type 0} (P : X → Type 0) (xs ys : List X) → AllByRecursion P xs → AllByRecursion P ys
    → AllByRecursion P (xs ++ ys)
all-joined_to P [] ys h k = k
all-joined_to P (x ∷ xs) ys h k = (h.0, all-joined_to P xs ys h.1 k)

pub all-last_or : {X : Type 0} (P : X → Type 0) (p : X → Bool) (most : ℕ) (xs : List X) → AllByRecursion P xs
    → AllByRecursion P (last_or p most xs)
all-last_or P p most xs h =
    let parts = all-take P (length xs - most) xs h in
    all-joined_to P (filter p (take (length xs - most) xs)) (drop (length xs - most) xs)
    (all-filter P p (take (length xs - most) xs) parts.0) parts.1

-- those before the last so many are those that passed
pub front-left : {X : Type 0} (p : X → Bool) (most : ℕ) (xs : List X)
    → take (length (last_or p most xs) - most) (last_or p most xs) ≡ filter p (take (length xs - most) xs)
front-left p most xs =
    take-front (filter p (take (length xs - most) xs)) (drop (length xs - most) xs)
    (length (last_or p most xs) - most) (front-of p most xs)

pub last-over : {X : Type 0} (p q : X → Bool) (most : ℕ) (xs : List X) → ((x : X) → q x ≡ false → p x ≡ false)
    → last_or p most (last_or q most xs) ≡ last_or p most xs
last-over p q most xs fails =
    ap₂ (λ front back. front ++ back)
    (ap (filter p) (front-left q most xs) ∙ filter-over p q (take (length xs - most) xs) fails)
    (drop-front (filter q (take (length xs - most) xs)) (drop (length xs - most) xs)
    (length (last_or q most xs) - most) (front-of q most xs))

-- The items of a list: where one is found, and what holds of each holds of one.
use Rattle.std.proofs.Common.{◌≡◌, ◌⊎◌, inl, inr, Bool, true, false, cond, List, [], ◌∷◌, ◌++◌, map, filter, find, Some, IfSome, refl, sym, subst}
use Rattle.std.specs.List.{AllByRecursion, list_any}
use Rattle.run_model.specs.Laws.{IsIn}
use Rattle.run_model.proofs.SettlingLists.{or-left, or-right, same-some}

pub in-all : {X : Type 0} (P : X → Type 0) (x : X) (xs : List X) → IsIn x xs → AllByRecursion P xs → P x
in-all P x [] there h = absurd there
in-all P x (y ∷ ys) (inl same) h = subst P same h.0
in-all P x (y ∷ ys) (inr there) h = in-all P x ys there h.1

pub all-in : {X : Type 0} (P : X → Type 0) (xs : List X) → ((x : X) → IsIn x xs → P x) → AllByRecursion P xs
all-in P [] h = tt
all-in P (x ∷ xs) h = (h x (inl refl), all-in P xs (λ y there. h y (inr there)))

pub each-in : {X : Type 0} (xs : List X) → AllByRecursion (λ x. IsIn x xs) xs
each-in xs = all-in (λ x. IsIn x xs) xs (λ x there. there)

pub in-front : {X : Type 0} (x : X) (xs ys : List X) → IsIn x xs → IsIn x (xs ++ ys)
in-front x [] ys there = absurd there
in-front x (y ∷ xs) ys (inl same) = inl same
in-front x (y ∷ xs) ys (inr there) = inr (in-front x xs ys there)

pub in-back : {X : Type 0} (x : X) (xs ys : List X) → IsIn x ys → IsIn x (xs ++ ys)
in-back x [] ys there = there
in-back x (y ∷ xs) ys there = inr (in-back x xs ys there)

pub in-either : {X : Type 0} (x : X) (xs ys : List X) → IsIn x (xs ++ ys) → IsIn x xs ⊎ IsIn x ys
in-either x [] ys there = inr there
in-either x (y ∷ xs) ys (inl same) = inl (inl same)
in-either x (y ∷ xs) ys (inr there) = moved (in-either x xs ys there)
  where
    moved : IsIn x xs ⊎ IsIn x ys → IsIn x (y ∷ xs) ⊎ IsIn x ys
    moved (inl here) = inl (inr here)
    moved (inr here) = inr here

pub in-last : {X : Type 0} (x : X) (xs : List X) → IsIn x (xs ++ x ∷ [])
in-last x xs = in-back x xs (x ∷ []) (inl refl)

pub all-front : {X : Type 0} (xs ys : List X) → AllByRecursion (λ x. IsIn x (xs ++ ys)) xs
all-front xs ys = all-in (λ x. IsIn x (xs ++ ys)) xs (λ x there. in-front x xs ys there)

in-behind : {X : Type 0} (x y : X) (xs ys : List X) → (IsIn x xs → IsIn x ys) → IsIn x (y ∷ xs)
    → IsIn x (y ∷ ys)
in-behind x y xs ys more (inl same) = inl same
in-behind x y xs ys more (inr there) = inr (more there)

pub in-filter : {X : Type 0} (test : X → Bool) (x : X) (xs : List X) → IsIn x (filter test xs) → IsIn x xs
in-filter test x [] there = there
in-filter test x (y ∷ ys) there =
    (elim (test y) as (λ b. IsIn x (cond b (y ∷ filter test ys) (filter test ys)) → IsIn x (y ∷ ys))
    [ true ↦ in-behind x y (filter test ys) ys (in-filter test x ys) | false ↦ λ k. inr (in-filter test x ys k) ])
    there

-- what is found is one of the list
pub in-found : {X : Type 0} (p : X → Bool) (xs : List X) (x : X) → find p xs ≡ Some x → IsIn x xs
in-found p [] x e = absurd (cc)
in-found p (y ∷ ys) x e =
    (elim (p y) as (λ b. cond b (Some y) (find p ys) ≡ Some x → IsIn x (y ∷ ys))
    [ true ↦ λ k. inl (same-some y x k) | false ↦ λ k. inr (in-found p ys x k) ]) e

-- what holds of each holds of what is found
pub all-found : {X : Type 0} (P : X → Type 0) (p : X → Bool) (xs : List X) → AllByRecursion P xs
    → IfSome (find p xs) P
all-found P p [] h = tt
all-found P p (x ∷ xs) h =
    elim (p x) as (λ b. IfSome (cond b (Some x) (find p xs)) P) [ true ↦ h.0 | false ↦ all-found P p xs h.1 ]

pub all-map : {X Y : Type 0} (P : Y → Type 0) (f : X → Y) (xs : List X) → AllByRecursion (λ x. P (f x)) xs
    → AllByRecursion P (map f xs)
all-map P f [] h = tt
all-map P f (x ∷ xs) h = (h.0, all-map P f xs h.1)

-- where an item of a list passes, one does
pub any-in : {X : Type 0} (p : X → Bool) (x : X) (xs : List X) → IsIn x xs → p x ≡ true → list_any p xs ≡ true
any-in p x [] there e = absurd there
any-in p x (y ∷ ys) (inl same) e = or-left (p y) (list_any p ys) (subst (λ z. p z ≡ true) (sym same) e)
any-in p x (y ∷ ys) (inr there) e = or-right (p y) (list_any p ys) (any-in p x ys there e)

-- Tests of the elements of a list, and what follows from a total order.
use Rattle.std.proofs.Common.{◌≡◌, ◌⊎◌, inl, inr, ◌<◌, ◌≤◌, Bool, true, false, cond, ◌||◌, List, [], ◌∷◌, filter, length, refl, sym, ap, ◌∙◌, arith}
use Rattle.std.specs.Cmp.{IsTotalOrder}
use Rattle.std.specs.List.{list_any, AllByRecursion}
use Rattle.std.specs.List.Sorted.{IsStrictlySortedBy}
use Rattle.std.specs.Ordering.{ordering_reverse, is_lt, is_gt, is_eq}
use Rattle.std.specs.declared.cmp.Ordering.{Ordering}
use Rattle.std.specs.declared.cmp.Ordering.TheVariants.{Less, Equal, Greater}
use Rattle.std.proofs.lemmas.Map.Keys.{sorted_head, sorted_tail}
use Rattle.lists.proofs.Elements.{all-weaker}

swap : (a b c d : Bool) → ((a || b) || (c || d)) ≡ ((a || c) || (b || d))
swap true true c d = refl
swap true false c d = refl
swap false true true d = refl
swap false true false d = refl
swap false false c d = refl

module _ {X : Type 0} where
  pub any_none : (p : X → Bool) (xs : List X) → AllByRecursion (λ x. p x ≡ false) xs → list_any p xs ≡ false
  any_none p [] h = refl
  any_none p (x ∷ xs) h = rw h.0 (any_none p xs h.1)

  pub any_same : (p q : X → Bool) (xs : List X) → AllByRecursion (λ x. p x ≡ q x) xs → list_any p xs ≡ list_any q xs
  any_same p q [] h = refl
  any_same p q (x ∷ xs) h = ap (λ b. b || list_any p xs) h.0 ∙ ap (λ b. q x || b) (any_same p q xs h.1)

  pub any_or : (p q r : X → Bool) (xs : List X) → AllByRecursion (λ x. (p x || q x) ≡ r x) xs → (list_any p xs || list_any q xs) ≡ list_any r xs
  any_or p q r [] h = refl
  any_or p q r (x ∷ xs) h = swap (p x) (list_any p xs) (q x) (list_any q xs) ∙ ap (λ b. b || (list_any p xs || list_any q xs)) h.0 ∙ ap (λ b. r x || b) (any_or p q r xs h.1)

  pub at_most : (p q : X → Bool) (xs : List X) → ((x : X) → p x ≡ true → q x ≡ true) → length (filter p xs) ≤ length (filter q xs)
  at_most p q [] w = omega arith
  at_most p q (x ∷ xs) w = by_tests (p x) (q x) (w x) (at_most p q xs w)
    where
      by_tests : (a b : Bool) → (a ≡ true → b ≡ true) → length (filter p xs) ≤ length (filter q xs) → length (cond a (x ∷ filter p xs) (filter p xs)) ≤ length (cond b (x ∷ filter q xs) (filter q xs))
      by_tests true true v more = omega (arith, more)
      by_tests true false v more = let no = v refl in cc
      by_tests false true v more = omega (arith, more)
      by_tests false false v more = more

  -- fewer pass the narrower of two tests, where an element passes the other alone
  pub fewer : (p q t : X → Bool) (xs : List X) → ((x : X) → p x ≡ true → q x ≡ true) → ((x : X) → t x ≡ true → (p x ≡ false) × (q x ≡ true)) → list_any t xs ≡ true → length (filter p xs) < length (filter q xs)
  fewer p q t [] w v h = cc
  fewer p q t (x ∷ xs) w v h = by_test (t x) refl h (fewer p q t xs w v)
    where
      more_by : (a b : Bool) → (a ≡ true → b ≡ true) → length (filter p xs) < length (filter q xs) → length (cond a (x ∷ filter p xs) (filter p xs)) < length (cond b (x ∷ filter q xs) (filter q xs))
      more_by true true u more = omega (arith, more)
      more_by true false u more = let no = u refl in cc
      more_by false true u more = omega (arith, more)
      more_by false false u more = more

      by_test : (b : Bool) → t x ≡ b → (b || list_any t xs) ≡ true → (list_any t xs ≡ true → length (filter p xs) < length (filter q xs)) → length (cond (p x) (x ∷ filter p xs) (filter p xs)) < length (cond (q x) (x ∷ filter q xs) (filter q xs))
      by_test true e h more = let least = at_most p q xs w in rw ((v x e).0, (v x e).1) (omega (arith, least))
      by_test false e h more = more_by (p x) (q x) (w x) (more h)

head_same : {K : Type 0} {x y : K} {xs ys : List K} → x ∷ xs ≡ y ∷ ys → x ≡ y
head_same h = cc

-- ---- the first element of a list in order that passes a test

pub none_kept : {K : Type 0} (p : K → Bool) (ks : List K) → filter p ks ≡ [] → AllByRecursion (λ q. p q ≡ false) ks
none_kept p [] h = tt
none_kept p (k ∷ ks) h = by_test (p k) refl h (none_kept p ks)
  where
    by_test : (b : Bool) → p k ≡ b → cond b (k ∷ filter p ks) (filter p ks) ≡ [] → (filter p ks ≡ [] → AllByRecursion (λ q. p q ≡ false) ks) → (p k ≡ false) × AllByRecursion (λ q. p q ≡ false) ks
    by_test true e h more = cc
    by_test false e h more = (e, more h)

module _ {K : Type 0} (cmp : K → K → Ordering) where
  -- it passes, and what passes isn't below it
  pub first_kept : (p : K → Bool) (k : K) (ks t : List K) → IsStrictlySortedBy cmp ks → filter p ks ≡ k ∷ t → AllByRecursion (λ q. (p q ≡ false) ⊎ ((q ≡ k) ⊎ (cmp k q ≡ Less))) ks
  first_kept p k [] t s h = tt
  first_kept p k (x ∷ xs) t s h = by_test (p x) refl h (first_kept p k xs t (sorted_tail cmp x xs s))
    where
      by_test : (b : Bool) → p x ≡ b → cond b (x ∷ filter p xs) (filter p xs) ≡ k ∷ t → (filter p xs ≡ k ∷ t → AllByRecursion (λ q. (p q ≡ false) ⊎ ((q ≡ k) ⊎ (cmp k q ≡ Less))) xs)
          → ((p x ≡ false) ⊎ ((x ≡ k) ⊎ (cmp k x ≡ Less))) × AllByRecursion (λ q. (p q ≡ false) ⊎ ((q ≡ k) ⊎ (cmp k q ≡ Less))) xs
      by_test true e h more =
          let same : x ≡ k = head_same h in
          (inr (inl same), all-weaker (λ q. cmp x q ≡ Less) (λ q. (p q ≡ false) ⊎ ((q ≡ k) ⊎ (cmp k q ≡ Less))) xs (λ q l. inr (inr (ap (λ y. cmp y q) (sym same) ∙ l))) (sorted_head cmp x xs s))
      by_test false e h more = (inl e, more h)

-- ---- total orders

pub tied : (o : Ordering) → is_eq o ≡ true → o ≡ Equal
tied Less h = cc
tied Equal h = refl
tied Greater h = cc

pub less : (o : Ordering) → is_lt o ≡ true → o ≡ Less
less Less h = refl
less Equal h = cc
less Greater h = cc

module _ {K : Type 0} {cmp : K → K → Ordering} (total : IsTotalOrder cmp) where
  -- what ties stands alike to all others
  pub congr_right : (x y z : K) → cmp x y ≡ Equal → cmp z x ≡ cmp z y
  congr_right x y z e = total.antisymm z x ∙ ap ordering_reverse (total.congr x y z e) ∙ sym (total.antisymm z y)

  -- x < y ≤ z
  pub before : (x y z : K) → cmp x y ≡ Less → is_gt (cmp y z) ≡ false → cmp x z ≡ Less
  before x y z a b = by_cmp (cmp y z) refl b
    where
      by_cmp : (o : Ordering) → cmp y z ≡ o → is_gt o ≡ false → cmp x z ≡ Less
      by_cmp Less e g = total.trans x y z a e
      by_cmp Equal e g = sym (congr_right y z x e) ∙ a
      by_cmp Greater e g = cc

  -- x ≤ y < z
  pub after : (x y z : K) → is_gt (cmp x y) ≡ false → cmp y z ≡ Less → cmp x z ≡ Less
  after x y z a b = by_cmp (cmp x y) refl a
    where
      by_cmp : (o : Ordering) → cmp x y ≡ o → is_gt o ≡ false → cmp x z ≡ Less
      by_cmp Less e g = total.trans x y z e b
      by_cmp Equal e g = total.congr x y z e ∙ b
      by_cmp Greater e g = cc

-- Lists of entries no two of which share a key.
use Rattle.std.proofs.Common.{◌≡◌, ℕ, ◌<◌, ◌==◌, Bool, true, false, cond, not, List, [], ◌∷◌, Some, None, refl, sym, ap, ◌∙◌, arith, length, subst, eqb-true}
use Rattle.std.specs.List.{find, filter}
use Rattle.std.specs.BTreeMap.{is_at}
use Rattle.std.specs.Ordering.{nat_cmp}
use Rattle.std.proofs.lemmas.Bool.{cond-true, cond-false}
use Rattle.std.proofs.lemmas.Bool.Decides.{nat_tests}
use Rattle.std.proofs.lemmas.List.Filters.{length-filter_both}
use Rattle.std.proofs.lemmas.Option.{same_Some}
use Rattle.lists.specs.Entries.{pair_cmp, key_of, insert_in, by_key, AreApartBy}
use Rattle.lists.proofs.Keyed.{cond_none, filter_none, find_without, find_filter, Inserts, find-insert}

-- keys that a test takes for the same are the same
pub record Tells {K : Type 0} (eq : K → K → Bool) : Type 0 where
  pub self : (k : K) → eq k k ≡ true
  pub same : (a b : K) → eq a b ≡ true → a ≡ b
  pub flip : (a b : K) → eq a b ≡ eq b a

pub number_tells : Tells (λ (a b : ℕ). a == b)
number_tells = record { self = λ n. grind (arith, nat_tests); same = eqb-true; flip = λ a b. grind (arith, nat_tests) }

pub at_number : (a b : ℕ) → is_at (nat_cmp a) b ≡ (a == b)
at_number a b = grind (arith, nat_tests)

-- ---- tests

module _ {X : Type 0} where
  -- what is found passes the test
  pub found : (t : X → Bool) (es : List X) (e : X) → find t es ≡ Some e → t e ≡ true
  found t [] e h = cc
  found t (x ∷ es) e h = by_test (t x) refl (found t es e) h
    where
      by_test : (b : Bool) → t x ≡ b → (find t es ≡ Some e → t e ≡ true) → cond b (Some x) (find t es) ≡ Some e → t e ≡ true
      by_test true p more h = subst (λ y. t y ≡ true) (same_Some x e h) p
      by_test false p more h = more h

  pub narrower : (t u : X → Bool) → ((x : X) → t x ≡ false → u x ≡ false) → (es : List X) → find t es ≡ None → find u es ≡ None
  narrower t u w [] h = refl
  narrower t u w (e ∷ es) h = let parts = cond_none (t e) e (find t es) h in rw (w e parts.0) (narrower t u w es parts.1)

  none_filter : (t p : X → Bool) (es : List X) → find t es ≡ None → find t (filter p es) ≡ None
  none_filter t p [] h = refl
  none_filter t p (e ∷ es) h = let parts = cond_none (t e) e (find t es) h in grind (arith, parts.0, none_filter t p es parts.1)

  some_passes : (t : X → Bool) (es : List X) (r : X) → find t es ≡ Some r → 0 < length (filter t es)
  some_passes t [] r h = cc
  some_passes t (e ∷ es) r h = grind (arith, some_passes t es r)

  pub fewer_without : (t : X → Bool) (es : List X) (r : X) → find t es ≡ Some r → length (filter (λ e. not (t e)) es) < length es
  fewer_without t es r h = omega (arith, some_passes t es r h, length-filter_both t (λ e. not (t e)) (λ e. refl) es)

  -- a test that at most one entry passes
  abbrev pub IsOnce : (X → Bool) → List X → Type 0
  IsOnce t [] = Unit {0}
  IsOnce t (e ∷ es) = (t e ≡ true → find t es ≡ None) × IsOnce t es

  -- two such tests that find the same entry leave the same entries
  pub same_left : (t u : X → Bool) (es : List X) (r : X) → IsOnce t es → IsOnce u es → find t es ≡ Some r → find u es ≡ Some r → filter (λ e. not (t e)) es ≡ filter (λ e. not (u e)) es
  same_left t u [] r a b f g = refl
  same_left t u (e ∷ es) r a b f g = by_tests (t e) (u e) refl refl f g (same_left t u es r a.1 b.1)
    where
      by_tests : (x y : Bool) → t e ≡ x → u e ≡ y → cond x (Some e) (find t es) ≡ Some r → cond y (Some e) (find u es) ≡ Some r → (find t es ≡ Some r → find u es ≡ Some r → filter (λ d. not (t d)) es ≡ filter (λ d. not (u d)) es)
          → cond (not x) (e ∷ filter (λ d. not (t d)) es) (filter (λ d. not (t d)) es) ≡ cond (not y) (e ∷ filter (λ d. not (u d)) es) (filter (λ d. not (u d)) es)
      by_tests true true p q f g more = filter_none t es (a.0 p) ∙ sym (filter_none u es (b.0 q))
      by_tests true false p q f g more = let no : true ≡ false = sym (found u es r g) ∙ ap u (sym (same_Some e r f)) ∙ q in cc
      by_tests false true p q f g more = let no : true ≡ false = sym (found t es r f) ∙ ap t (sym (same_Some e r g)) ∙ p in cc
      by_tests false false p q f g more = ap (λ l. e ∷ l) (more f g)

-- ---- an entry that comes or goes

module _ {X : Type 0} (rank number : X → ℕ) where
  pub inserts : Inserts pair_cmp (key_of rank number) (insert_in rank number)
  inserts = record { empty = λ x. refl; place = λ x y ys. refl }

module _ {X K : Type 0} {eq : K → K → Bool} (tells : Tells eq) (key : X → K) where
  pub once_by : (k : K) (es : List X) → AreApartBy eq key es → IsOnce (by_key eq key k) es
  once_by k [] a = tt
  once_by k (e ∷ es) a = (λ t. ap (λ q. find (by_key eq key q) es) (tells.same k (key e) t) ∙ a.0, once_by k es a.1)

  -- an entry that a test finds is found by its key
  pub found_by : (t : X → Bool) (es : List X) (e : X) → AreApartBy eq key es → find t es ≡ Some e → find (by_key eq key (key e)) es ≡ Some e
  found_by t [] e a h = cc
  found_by t (x ∷ es) e a h = by_test (t x) (found_by t es e a.1) h
    where
      by_eq : (b : Bool) → eq (key e) (key x) ≡ b → find (by_key eq key (key e)) es ≡ Some e → cond b (Some x) (find (by_key eq key (key e)) es) ≡ Some e
      by_eq true t more = let no : None ≡ Some e = sym (ap (λ k. find (by_key eq key k) es) (tells.same (key e) (key x) t) ∙ a.0) ∙ more in cc
      by_eq false f more = more

      by_test : (b : Bool) → (find t es ≡ Some e → find (by_key eq key (key e)) es ≡ Some e) → cond b (Some x) (find t es) ≡ Some e → cond (eq (key e) (key x)) (Some x) (find (by_key eq key (key e)) es) ≡ Some e
      by_test true more h = subst (λ y. cond (eq (key y) (key x)) (Some x) (find (by_key eq key (key y)) es) ≡ Some y) (same_Some x e h) (cond-true (eq (key x) (key x)) (Some x) (find (by_key eq key (key x)) es) (tells.self (key x)))
      by_test false more h = by_eq (eq (key e) (key x)) refl (more h)

  pub apart_left : (p : X → Bool) (es : List X) → AreApartBy eq key es → AreApartBy eq key (filter p es)
  apart_left p [] a = tt
  apart_left p (e ∷ es) a = by_test (p e) (apart_left p es a.1)
    where
      by_test : (b : Bool) → AreApartBy eq key (filter p es) → AreApartBy eq key (cond b (e ∷ filter p es) (filter p es))
      by_test true more = (none_filter (by_key eq key (key e)) p es a.0, more)
      by_test false more = more

  -- what a key finds after another's entry went
  pub find_gone : (k q : K) (es : List X) → find (by_key eq key q) (filter (λ e. not (by_key eq key k e)) es) ≡ cond (eq q k) None (find (by_key eq key q) es)
  find_gone k q es = by_test (eq q k) refl
    where
      apart : eq q k ≡ false → (e : X) → eq q (key e) ≡ true → (b : Bool) → eq k (key e) ≡ b → not b ≡ true
      apart f e t true s = let no : true ≡ false = sym (tells.self q) ∙ ap (eq q) (tells.same q (key e) t ∙ sym (tells.same k (key e) s)) ∙ f in cc
      apart f e t false s = refl

      by_test : (b : Bool) → eq q k ≡ b → find (by_key eq key q) (filter (λ e. not (by_key eq key k e)) es) ≡ cond b None (find (by_key eq key q) es)
      by_test true t = ap (λ r. find (by_key eq key r) (filter (λ e. not (by_key eq key k e)) es)) (tells.same q k t) ∙ find_without (by_key eq key k) es
      by_test false f = find_filter (by_key eq key q) (λ e. not (by_key eq key k e)) (λ e t. apart f e t (eq k (key e)) refl) es

  module _ (rank number : X → ℕ) where
    -- what a key finds after an entry came
    pub find_put : (x : X) (es : List X) (k : K) → find (by_key eq key (key x)) es ≡ None → find (by_key eq key k) (insert_in rank number x es) ≡ cond (eq k (key x)) (Some x) (find (by_key eq key k) es)
    find_put x es k none = find-insert pair_cmp (key_of rank number) (inserts rank number) (by_key eq key k) x es (λ t. ap (λ q. find (by_key eq key q) es) (tells.same k (key x) t) ∙ none)

    pub apart_put : (x : X) (es : List X) → AreApartBy eq key es → find (by_key eq key (key x)) es ≡ None → AreApartBy eq key (insert_in rank number x es)
    apart_put x [] a h = (refl, tt)
    apart_put x (e ∷ es) a h = let parts = cond_none (eq (key x) (key e)) e (find (by_key eq key (key x)) es) h in by_place _ parts.0 (apart_put x es a.1 parts.1)
      where
        by_place : (b : Bool) → eq (key x) (key e) ≡ false → AreApartBy eq key (insert_in rank number x es) → AreApartBy eq key (cond b (x ∷ e ∷ es) (e ∷ insert_in rank number x es))
        by_place true n more = (h, a)
        by_place false n more = (find_put x es (key e) (cond_none (eq (key x) (key e)) e (find (by_key eq key (key x)) es) h).1 ∙ cond-false (eq (key e) (key x)) (Some x) (find (by_key eq key (key e)) es) (tells.flip (key e) (key x) ∙ n) ∙ a.0, more)

-- Pairs that tell what each of a list of entries mentions: entries that come, go and change, and what the
-- pairs answer.
use Rattle.std.proofs.Common.{◌≡◌, ℕ, ◌==◌, Bool, true, false, cond, not, ◌&&◌, ◌||◌, List, [], ◌∷◌, ◌++◌, map, filter, find, Some, None, refl, sym, ap, ◌∙◌, arith, eqb-true}
use Rattle.std.specs.List.{list_any, AllByRecursion}
use Rattle.std.specs.List.Sorted.{IsStrictlySortedBy}
use Rattle.std.specs.Ordering.{nat_cmp, is_lt}
use Rattle.std.specs.declared.cmp.Ordering.TheVariants.{Less}
use Rattle.std.proofs.lemmas.Bool.Decides.{nat_tests}
use Rattle.std.proofs.lemmas.List.Folds.{list_any-append}
use Rattle.std.proofs.lemmas.Map.Keys.{sorted_head, sorted_tail}
use Rattle.std.proofs.lemmas.Option.{same_Some}
use Rattle.lists.proofs.Keyed.{cond_none}
use Rattle.lists.specs.Entries.{has, without, insert_by, in_order, pair_cmp, AreApart}
use Rattle.runs.specs.Mentions.{mentions, numbers_of, IsJoined, IsParted, IsTold}
use Rattle.runs.specs.Runs.{is_in}
use Rattle.runs.proofs.Numbers.{Rises, rises_none, rises_more, same_numbers, rises_in_order, in_in_order, in_numbers, rises_numbers}

-- ---- tests

not_both : (b : Bool) → b ≡ true → b ≡ false → ⊥
not_both true t f = cc
not_both false t f = cc

and_right : (a b : Bool) → b ≡ true → (a && b) ≡ a
and_right true b h = h
and_right false b h = refl

and_false : (a b : Bool) → b ≡ false → (a && b) ≡ false
and_false true b h = h
and_false false b h = refl

or_left : (a b : Bool) → a ≡ false → (a || b) ≡ b
or_left true b h = cc
or_left false b h = refl

or_none : (b : Bool) → (b || false) ≡ b
or_none true = refl
or_none false = refl

both_none : (a b : Bool) → (a || b) ≡ false → (a ≡ false) × (b ≡ false)
both_none true b h = cc
both_none false b h = (refl, h)

either : (a b : Bool) → (a || b) ≡ true → (a ≡ false → b ≡ true) → (a ≡ true → b ≡ true) → b ≡ true
either true b h f g = g refl
either false b h f g = f refl

same_self : (n : ℕ) → (n == n) ≡ true
same_self n = grind (arith, nat_tests)

flip_same : (n m : ℕ) → (n == m) ≡ (m == n)
flip_same n m = grind (arith, nat_tests)

turn_or : (a b c : Bool) → (a || (b || c)) ≡ (b || (a || c))
turn_or true true c = refl
turn_or true false c = refl
turn_or false true c = refl
turn_or false false c = refl

module _ {X : Type 0} (number : X → ℕ) (parts : X → List ℕ) where
  abbrev tells : ℕ → ℕ → X → Bool
  tells p n x = is_in p (parts x) && n == number x

  abbrev has_part : ℕ → X → Bool
  has_part p x = is_in p (parts x)

  -- ---- what the pairs answer

  some_part : (p n : ℕ) (xs : List X) → list_any (tells p n) xs ≡ true → list_any (has_part p) xs ≡ true
  some_part p n [] h = cc
  some_part p n (x ∷ xs) h = by_head (is_in p (parts x)) (n == number x) h (some_part p n xs)
    where
      by_head : (a b : Bool) → ((a && b) || list_any (tells p n) xs) ≡ true → (list_any (tells p n) xs ≡ true → list_any (has_part p) xs ≡ true) → (a || list_any (has_part p) xs) ≡ true
      by_head true b h more = refl
      by_head false b h more = more h

  no_part : (p : ℕ) (xs : List X) → ((n : ℕ) → list_any (tells p n) xs ≡ false) → list_any (has_part p) xs ≡ false
  no_part p [] h = refl
  no_part p (x ∷ xs) h =
      or_left (is_in p (parts x)) (list_any (has_part p) xs)
      (sym (and_right (is_in p (parts x)) (number x == number x) (same_self (number x))) ∙ (both_none (tells p (number x) x) (list_any (tells p (number x)) xs) (h (number x))).0)
      ∙ no_part p xs (λ n. (both_none (tells p n x) (list_any (tells p n) xs) (h n)).1)

  pub told_some : (p n : ℕ) (xs : List X) (pairs : List (ℕ × ℕ)) → IsTold number parts xs pairs → mentions pairs p n ≡ true → list_any (has_part p) xs ≡ true
  told_some p n xs pairs t h = some_part p n xs (sym (t.each p n) ∙ h)

  pub told_none : (p : ℕ) (xs : List X) (pairs : List (ℕ × ℕ)) → IsTold number parts xs pairs → ((n : ℕ) → mentions pairs p n ≡ false) → list_any (has_part p) xs ≡ false
  told_none p xs pairs t h = no_part p xs (λ n. sym (t.each p n) ∙ h n)

  -- ---- numbers

  in_filtered : (p n : ℕ) (xs : List X) → is_in n (map number (filter (has_part p) xs)) ≡ list_any (tells p n) xs
  in_filtered p n [] = refl
  in_filtered p n (x ∷ xs) = by_part (is_in p (parts x)) (in_filtered p n xs)
    where
      by_part : (a : Bool) → is_in n (map number (filter (has_part p) xs)) ≡ list_any (tells p n) xs
          → is_in n (map number (cond a (x ∷ filter (has_part p) xs) (filter (has_part p) xs))) ≡ ((a && n == number x) || list_any (tells p n) xs)
      by_part true more = ap (λ b. n == number x || b) more
      by_part false more = more

  below_filtered : (t : X → Bool) (n : ℕ) (xs : List X) → AllByRecursion (λ m. nat_cmp n m ≡ Less) (map number xs) → AllByRecursion (λ m. nat_cmp n m ≡ Less) (map number (filter t xs))
  below_filtered t n [] h = tt
  below_filtered t n (x ∷ xs) h = by_test (t x) (below_filtered t n xs h.1)
    where
      by_test : (b : Bool) → AllByRecursion (λ m. nat_cmp n m ≡ Less) (map number (filter t xs)) → AllByRecursion (λ m. nat_cmp n m ≡ Less) (map number (cond b (x ∷ filter t xs) (filter t xs)))
      by_test true more = (h.0, more)
      by_test false more = more

  rises_filtered : (t : X → Bool) (xs : List X) → Rises (map number xs) → Rises (map number (filter t xs))
  rises_filtered t [] s = rises_none
  rises_filtered t (x ∷ xs) s = by_test (t x) (rises_filtered t xs (sorted_tail nat_cmp (number x) (map number xs) s))
    where
      by_test : (b : Bool) → Rises (map number (filter t xs)) → Rises (map number (cond b (x ∷ filter t xs) (filter t xs)))
      by_test true more = rises_more (number x) (map number (filter t xs)) (below_filtered t (number x) xs (sorted_head nat_cmp (number x) (map number xs) s)) more
      by_test false more = more

  in_told : (p : ℕ) (xs : List X) (pairs : List (ℕ × ℕ)) → IsTold number parts xs pairs → (n : ℕ) → is_in n (numbers_of p pairs) ≡ is_in n (map number (filter (has_part p) xs))
  in_told p xs pairs t n = in_numbers p n pairs ∙ t.each p n ∙ sym (in_filtered p n xs)

  -- of entries in order of number
  pub told_numbers : (p : ℕ) (xs : List X) (pairs : List (ℕ × ℕ)) → IsTold number parts xs pairs → IsStrictlySortedBy pair_cmp pairs → Rises (map number xs) → numbers_of p pairs ≡ map number (filter (has_part p) xs)
  told_numbers p xs pairs t s r = same_numbers (numbers_of p pairs) (map number (filter (has_part p) xs)) (rises_numbers p pairs s) (rises_filtered (has_part p) xs r) (in_told p xs pairs t)

  -- of entries in any order
  pub told_in_order : (p : ℕ) (xs : List X) (pairs : List (ℕ × ℕ)) → IsTold number parts xs pairs → IsStrictlySortedBy pair_cmp pairs → numbers_of p pairs ≡ in_order (map number (filter (has_part p) xs))
  told_in_order p xs pairs t s =
      let ns = map number (filter (has_part p) xs) in
      same_numbers (numbers_of p pairs) (in_order ns) (rises_numbers p pairs s) (rises_in_order ns) (λ n. in_told p xs pairs t n ∙ sym (in_in_order n ns))

  -- ---- an entry comes

  pub told_empty : (pairs : List (ℕ × ℕ)) → pairs ≡ [] → IsTold number parts [] pairs
  told_empty pairs e = record { each = λ p n. ap (λ r. mentions r p n) e }

  any_put : (t : X → Bool) (x : X) (xs : List X) → list_any t (insert_by number x xs) ≡ (t x || list_any t xs)
  any_put t x [] = refl
  any_put t x (y ∷ xs) = by_place (is_lt (nat_cmp (number x) (number y))) (any_put t x xs)
    where
      by_place : (b : Bool) → list_any t (insert_by number x xs) ≡ (t x || list_any t xs) → list_any t (cond b (x ∷ y ∷ xs) (y ∷ insert_by number x xs)) ≡ (t x || (t y || list_any t xs))
      by_place true more = refl
      by_place false more = ap (λ b. t y || b) more ∙ turn_or (t y) (t x) (list_any t xs)

  pub told_put : (x : X) (xs : List X) (old new : List (ℕ × ℕ)) → IsTold number parts xs old → IsJoined (parts x) (number x) old new → IsTold number parts (insert_by number x xs) new
  told_put x xs old new t j = record { each = λ p n. j.each p n ∙ ap (λ b. tells p n x || b) (t.each p n) ∙ sym (any_put (tells p n) x xs) }

  or_end : (a b : Bool) → (a || b) ≡ (b || (a || false))
  or_end true true = refl
  or_end true false = refl
  or_end false true = refl
  or_end false false = refl

  pub told_last : (x : X) (xs : List X) (old new : List (ℕ × ℕ)) → IsTold number parts xs old → IsJoined (parts x) (number x) old new → IsTold number parts (xs ++ x ∷ []) new
  told_last x xs old new t j = record {
    each = λ p n.
        j.each p n ∙ ap (λ b. tells p n x || b) (t.each p n) ∙ or_end (tells p n x) (list_any (tells p n) xs) ∙ sym (list_any-append (tells p n) xs (x ∷ []));
  }

  -- ---- an entry goes

  other_tells : (p n m : ℕ) (x : X) → (n == m) ≡ false → (m == number x) ≡ true → tells p n x ≡ false
  other_tells p n m x f e = and_false (is_in p (parts x)) (n == number x) (ap (λ k. n == k) (sym (eqb-true m (number x) e)) ∙ f)

  -- nothing is told of a number that is gone
  any_gone : (p n : ℕ) (xs : List X) → list_any (tells p n) (without number n xs) ≡ false
  any_gone p n [] = refl
  any_gone p n (x ∷ xs) = by_test (n == number x) refl (any_gone p n xs)
    where
      by_test : (b : Bool) → (n == number x) ≡ b → list_any (tells p n) (without number n xs) ≡ false → list_any (tells p n) (cond (not b) (x ∷ without number n xs) (without number n xs)) ≡ false
      by_test true e more = more
      by_test false e more = or_left (tells p n x) (list_any (tells p n) (without number n xs)) (and_false (is_in p (parts x)) (n == number x) e) ∙ more

  any_other : (p n m : ℕ) (xs : List X) → (n == m) ≡ false → list_any (tells p n) (without number m xs) ≡ list_any (tells p n) xs
  any_other p n m [] f = refl
  any_other p n m (x ∷ xs) f = by_test (m == number x) refl (any_other p n m xs f)
    where
      by_test : (b : Bool) → (m == number x) ≡ b → list_any (tells p n) (without number m xs) ≡ list_any (tells p n) xs
          → list_any (tells p n) (cond (not b) (x ∷ without number m xs) (without number m xs)) ≡ (tells p n x || list_any (tells p n) xs)
      by_test true e more = more ∙ sym (or_left (tells p n x) (list_any (tells p n) xs) (other_tells p n m x f e))
      by_test false e more = ap (λ b. tells p n x || b) more

  absent : (p n : ℕ) (xs : List X) → find (has number n) xs ≡ None → list_any (tells p n) xs ≡ false
  absent p n [] h = refl
  absent p n (x ∷ xs) h =
      let none = cond_none (n == number x) x (find (has number n) xs) h in
      or_left (tells p n x) (list_any (tells p n) xs) (and_false (is_in p (parts x)) (n == number x) none.0) ∙ absent p n xs none.1

  -- what is told of a number is told of its entry
  any_one : (p n : ℕ) (xs : List X) (x : X) → AreApart number xs → find (has number n) xs ≡ Some x → list_any (tells p n) xs ≡ is_in p (parts x)
  any_one p n [] x a h = cc
  any_one p n (y ∷ xs) x a h = by_test (n == number y) refl h (any_one p n xs x a.1)
    where
      by_test : (b : Bool) → (n == number y) ≡ b → cond b (Some y) (find (has number n) xs) ≡ Some x → (find (has number n) xs ≡ Some x → list_any (tells p n) xs ≡ is_in p (parts x))
          → (tells p n y || list_any (tells p n) xs) ≡ is_in p (parts x)
      by_test true e f more =
          ap (λ b. tells p n y || b) (absent p n xs (ap (λ k. find (has number k) xs) (eqb-true n (number y) e) ∙ a.0))
          ∙ or_none (tells p n y)
          ∙ and_right (is_in p (parts y)) (n == number y) e
          ∙ ap (has_part p) (same_Some y x f)
      by_test false e f more = or_left (tells p n y) (list_any (tells p n) xs) (and_false (is_in p (parts y)) (n == number y) e) ∙ more f

  taken : (a : Bool) → (not (a && true) && a) ≡ false
  taken true = refl
  taken false = refl

  kept : (a b t : Bool) → b ≡ false → (not (a && b) && t) ≡ t
  kept true true t h = cc
  kept true false t h = refl
  kept false b t h = refl

  pub told_left : (n : ℕ) (x : X) (xs : List X) (old new : List (ℕ × ℕ)) → AreApart number xs → IsTold number parts xs old → find (has number n) xs ≡ Some x → IsParted (parts x) n old new
      → IsTold number parts (without number n xs) new
  told_left n x xs old new a t f g = record { each = λ p m. by_number p m (m == n) refl }
    where
      by_number : (p m : ℕ) (b : Bool) → (m == n) ≡ b → mentions new p m ≡ list_any (tells p m) (without number n xs)
      by_number p m true e =
          let same : m ≡ n = eqb-true m n e in
          g.each p m
          ∙ ap (λ b. not (is_in p (parts x) && b) && mentions old p m) e
          ∙ ap (λ b. not (is_in p (parts x) && true) && b) (t.each p m ∙ ap (λ k. list_any (tells p k) xs) same ∙ any_one p n xs x a f)
          ∙ taken (is_in p (parts x))
          ∙ sym (any_gone p n xs)
          ∙ ap (λ k. list_any (tells p k) (without number n xs)) (sym same)
      by_number p m false e = g.each p m ∙ kept (is_in p (parts x)) (m == n) (mentions old p m) e ∙ t.each p m ∙ sym (any_other p m n xs e)

  -- ---- an entry changes, and mentions what it did

  any_changed : (t : X → Bool) (f : X → X) (k : ℕ) → ((x : X) → t (f x) ≡ t x) → (xs : List X) → list_any t (map (λ x. cond (k == number x) (f x) x) xs) ≡ list_any t xs
  any_changed t f k h [] = refl
  any_changed t f k h (x ∷ xs) = by_test (k == number x) (any_changed t f k h xs)
    where
      by_test : (b : Bool) → list_any t (map (λ x. cond (k == number x) (f x) x) xs) ≡ list_any t xs
          → (t (cond b (f x) x) || list_any t (map (λ x. cond (k == number x) (f x) x) xs)) ≡ (t x || list_any t xs)
      by_test true more = ap (λ b. b || list_any t (map (λ x. cond (k == number x) (f x) x) xs)) (h x) ∙ ap (λ b. t x || b) more
      by_test false more = ap (λ b. t x || b) more

  pub told_changed : (f : X → X) (k : ℕ) → ((x : X) → number (f x) ≡ number x) → ((x : X) → parts (f x) ≡ parts x) → (xs : List X) (pairs : List (ℕ × ℕ)) → IsTold number parts xs pairs
      → IsTold number parts (map (λ x. cond (k == number x) (f x) x) xs) pairs
  told_changed f k same named xs pairs t = record {
    each = λ p n.
        t.each p n
        ∙ sym (any_changed (tells p n) f k (λ x. ap (λ ns. is_in p ns && n == number (f x)) (named x) ∙ ap (λ m. is_in p (parts x) && n == m) (same x)) xs);
  }

-- Counts of entries by a part: one more, one fewer, and what they tell of a list.
use Rattle.std.proofs.Common.{◌≡◌, ℕ, zero, suc, ◌+◌, ◌-◌, ◌==◌, nat_lt, Bool, true, false, cond, not, ◌||◌, List, [], ◌∷◌, map, filter, find, length, Option, Some, None, is_some, refl, sym, ap, ◌∙◌, arith, eqb-true}
use Rattle.std.specs.BTreeMap.{is_at}
use Rattle.std.specs.List.{list_any}
use Rattle.std.specs.Map.{lookup}
use Rattle.std.specs.Option.{unwrap_or}
use Rattle.std.specs.Ordering.{nat_cmp, is_lt}
use Rattle.std.proofs.lemmas.Bool.Decides.{nat_tests}
use Rattle.std.proofs.lemmas.Option.{same_Some}
use Rattle.lists.proofs.Keyed.{filter_none}
use Rattle.lists.specs.Entries.{has, without, insert_by, AreApart}
use Rattle.runs.specs.Counts.{count_of, NoneIsZero, Sets, IsRaised, IsLowered, IsCounted}

-- ---- one part

at_part : (a b : ℕ) → is_at (nat_cmp a) b ≡ (b == a)
at_part a b = grind (arith, nat_tests)

-- a look-up behind a change of one part
changed : (b : Bool) (w o now : Option ℕ) (n m : ℕ) → now ≡ cond b w o → (b ≡ true → unwrap_or w 0 ≡ n) → (b ≡ false → unwrap_or o 0 ≡ m) → unwrap_or now 0 ≡ cond b n m
changed true w o now n m h e f = ap (λ r. unwrap_or r 0) h ∙ e refl
changed false w o now n m h e f = ap (λ r. unwrap_or r 0) h ∙ f refl

cond_more : (b : Bool) (n : ℕ) → cond b (n + 1) n ≡ n + cond b 1 0
cond_more true n = refl
cond_more false n = omega arith

cond_less : (b : Bool) (n : ℕ) → cond b (n - 1) n ≡ n - cond b 1 0
cond_less true n = refl
cond_less false n = omega arith

pub raised : (part n : ℕ) (old new : List (ℕ × ℕ)) → n ≡ count_of part old + 1 → Sets part (Some n) old new → IsRaised part old new
raised part n old new more h = record {
  each = λ q.
      changed (q == part) (Some n) (lookup (is_at (nat_cmp q)) old) (lookup (is_at (nat_cmp q)) new) (count_of q old + 1) (count_of q old)
      (h q ∙ ap (λ b. cond b (Some n) (lookup (is_at (nat_cmp q)) old)) (at_part part q))
      (λ e. more ∙ ap (λ r. count_of r old + 1) (sym (eqb-true q part e))) (λ e. refl)
      ∙ cond_more (q == part) (count_of q old);
}

pub lowered : (part : ℕ) (w : Option ℕ) (old new : List (ℕ × ℕ)) → unwrap_or w 0 ≡ count_of part old - 1 → Sets part w old new → IsLowered part old new
lowered part w old new less h = record {
  each = λ q.
      changed (q == part) w (lookup (is_at (nat_cmp q)) old) (lookup (is_at (nat_cmp q)) new) (count_of q old - 1) (count_of q old)
      (h q ∙ ap (λ b. cond b w (lookup (is_at (nat_cmp q)) old)) (at_part part q))
      (λ e. less ∙ ap (λ r. count_of r old - 1) (sym (eqb-true q part e))) (λ e. refl)
      ∙ cond_less (q == part) (count_of q old);
}

pub some_more : (n m : ℕ) → n ≡ m + 1 → Some n ≡ Some 0 → ⊥
some_more n m h e = let zero : n ≡ 0 = cc in omega arith

-- a change of one part to a count that isn't 0, or to none
pub none_zero : (part : ℕ) (w : Option ℕ) (old new : List (ℕ × ℕ)) → (w ≡ Some 0 → ⊥) → Sets part w old new → NoneIsZero old → NoneIsZero new
none_zero part w old new some sets was q z = by_part (is_at (nat_cmp part) q) (sets q)
  where
    by_part : (b : Bool) → lookup (is_at (nat_cmp q)) new ≡ cond b w (lookup (is_at (nat_cmp q)) old) → ⊥
    by_part true e = some (sym e ∙ z)
    by_part false e = was q (sym e ∙ z)

above_zero : (n : ℕ) → nat_lt 0 (suc n) ≡ true
above_zero n = grind (arith, nat_tests)

-- a count is there where it isn't 0
pub some_counted : (o : Option ℕ) → (o ≡ Some 0 → ⊥) → is_some o ≡ nat_lt 0 (unwrap_or o 0)
some_counted None h = refl
some_counted (Some zero) h = absurd (h refl)
some_counted (Some (suc n)) h = sym (above_zero n)

-- ---- the parts of a list's entries

module _ {X : Type 0} (number part : X → ℕ) where
  abbrev have : ℕ → List X → ℕ
  have q xs = length (filter (has part q) xs)

  pub counted_empty : (counts : List (ℕ × ℕ)) → counts ≡ [] → IsCounted part [] counts
  counted_empty counts e = record { each = λ q. ap (count_of q) e }

  have_put : (q : ℕ) (x : X) (xs : List X) → have q (insert_by number x xs) ≡ have q xs + cond (q == part x) 1 0
  have_put q x [] = by_test (q == part x)
    where
      by_test : (b : Bool) → length (cond b (x ∷ []) []) ≡ 0 + cond b 1 0
      by_test true = refl
      by_test false = refl
  have_put q x (y ∷ xs) = by_place (is_lt (nat_cmp (number x) (number y))) (have_put q x xs)
    where
      here : (a b : Bool) (zs : List X) → length (cond a (x ∷ cond b (y ∷ zs) zs) (cond b (y ∷ zs) zs)) ≡ length (cond b (y ∷ zs) zs) + cond a 1 0
      here true b zs = omega arith
      here false b zs = omega arith

      there : (a b : Bool) (zs ws : List X) → length ws ≡ length zs + cond a 1 0 → length (cond b (y ∷ ws) ws) ≡ length (cond b (y ∷ zs) zs) + cond a 1 0
      there a true zs ws more = omega (arith, more)
      there a false zs ws more = more

      by_place : (b : Bool) → have q (insert_by number x xs) ≡ have q xs + cond (q == part x) 1 0 → have q (cond b (x ∷ y ∷ xs) (y ∷ insert_by number x xs)) ≡ have q (y ∷ xs) + cond (q == part x) 1 0
      by_place true more = here (q == part x) (q == part y) (filter (has part q) xs)
      by_place false more = there (q == part x) (q == part y) (filter (has part q) xs) (filter (has part q) (insert_by number x xs)) more

  pub counted_put : (x : X) (xs : List X) (old new : List (ℕ × ℕ)) → IsCounted part xs old → IsRaised (part x) old new → IsCounted part (insert_by number x xs) new
  counted_put x xs old new c r = record { each = λ q. r.each q ∙ ap (λ n. n + cond (q == part x) 1 0) (c.each q) ∙ sym (have_put q x xs) }

  have_left : (q n : ℕ) (x : X) (xs : List X) → AreApart number xs → find (has number n) xs ≡ Some x → have q xs ≡ have q (without number n xs) + cond (q == part x) 1 0
  have_left q n x [] a h = cc
  have_left q n x (y ∷ xs) a h = by_test (n == number y) refl h (have_left q n x xs a.1)
    where
      gone : (b : Bool) (zs : List X) → length (cond b (y ∷ zs) zs) ≡ length zs + cond b 1 0
      gone true zs = omega arith
      gone false zs = omega arith

      stays : (b : Bool) (k : ℕ) (ws zs : List X) → length zs ≡ length ws + k → length (cond b (y ∷ zs) zs) ≡ length (cond b (y ∷ ws) ws) + k
      stays true k ws zs more = omega (arith, more)
      stays false k ws zs more = more

      by_test : (b : Bool) → (n == number y) ≡ b → cond b (Some y) (find (has number n) xs) ≡ Some x
          → (find (has number n) xs ≡ Some x → have q xs ≡ have q (without number n xs) + cond (q == part x) 1 0)
          → have q (y ∷ xs) ≡ have q (cond (not b) (y ∷ without number n xs) (without number n xs)) + cond (q == part x) 1 0
      by_test true t f more =
          gone (q == part y) (filter (has part q) xs)
          ∙ ap (λ z. have q xs + cond (q == part z) 1 0) (same_Some y x f)
          ∙ ap (λ zs. have q zs + cond (q == part x) 1 0) (sym (filter_none (has number n) xs (ap (λ k. find (has number k) xs) (eqb-true n (number y) t) ∙ a.0)))
      by_test false t f more = stays (q == part y) (cond (q == part x) 1 0) (filter (has part q) (without number n xs)) (filter (has part q) xs) (more f)

  pub counted_left : (n : ℕ) (x : X) (xs : List X) (old new : List (ℕ × ℕ)) → AreApart number xs → IsCounted part xs old → find (has number n) xs ≡ Some x → IsLowered (part x) old new → IsCounted part (without number n xs) new
  counted_left n x xs old new a c f l = record {
    each = λ q.
        let less = l.each q in
        let was = c.each q in
        let all = have_left q n x xs a f in
        omega (arith, less, was, all);
  }

  -- an entry changes, and has the part that it had
  have_changed : (f : X → X) (k : ℕ) → ((x : X) → part (f x) ≡ part x) → (q : ℕ) (xs : List X) → have q (map (λ x. cond (k == number x) (f x) x) xs) ≡ have q xs
  have_changed f k h q [] = refl
  have_changed f k h q (x ∷ xs) = by_test (k == number x) (have_changed f k h q xs)
    where
      same : (b : Bool) (y : X) (ws zs : List X) → length ws ≡ length zs → length (cond b (y ∷ ws) ws) ≡ length (cond b (x ∷ zs) zs)
      same true y ws zs more = omega (arith, more)
      same false y ws zs more = more

      by_test : (b : Bool) → have q (map (λ x. cond (k == number x) (f x) x) xs) ≡ have q xs → have q (cond b (f x) x ∷ map (λ x. cond (k == number x) (f x) x) xs) ≡ have q (x ∷ xs)
      by_test true more =
          ap (λ p. length (cond (q == p) (f x ∷ filter (has part q) (map (λ x. cond (k == number x) (f x) x) xs)) (filter (has part q) (map (λ x. cond (k == number x) (f x) x) xs)))) (h x)
          ∙ same (q == part x) (f x) (filter (has part q) (map (λ x. cond (k == number x) (f x) x) xs)) (filter (has part q) xs) more
      by_test false more = same (q == part x) x (filter (has part q) (map (λ x. cond (k == number x) (f x) x) xs)) (filter (has part q) xs) more

  pub counted_changed : (f : X → X) (k : ℕ) → ((x : X) → part (f x) ≡ part x) → (xs : List X) (counts : List (ℕ × ℕ)) → IsCounted part xs counts → IsCounted part (map (λ x. cond (k == number x) (f x) x) xs) counts
  counted_changed f k h xs counts c = record { each = λ q. c.each q ∙ sym (have_changed f k h q xs) }

  any_have : (q : ℕ) (xs : List X) → nat_lt 0 (have q xs) ≡ list_any (has part q) xs
  any_have q [] = refl
  any_have q (x ∷ xs) = by_test (q == part x) (any_have q xs)
    where
      by_test : (b : Bool) → nat_lt 0 (have q xs) ≡ list_any (has part q) xs → nat_lt 0 (length (cond b (x ∷ filter (has part q) xs) (filter (has part q) xs))) ≡ (b || list_any (has part q) xs)
      by_test true more = above_zero (length (filter (has part q) xs))
      by_test false more = more

  pub counted_any : (q : ℕ) (xs : List X) (counts : List (ℕ × ℕ)) → IsCounted part xs counts → nat_lt 0 (count_of q counts) ≡ list_any (has part q) xs
  counted_any q xs counts c = ap (nat_lt 0) (c.each q) ∙ any_have q xs

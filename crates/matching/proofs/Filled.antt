-- Entries with numbers below a bound, so that the bound is free, each of which something holds of.
use Rattle.std.proofs.Common.{◌≡◌, ℕ, ◌<◌, ◌+◌, ◌==◌, Bool, true, false, cond, List, [], ◌∷◌, find, Some, None, refl, sym, subst, arith, eqb-true}
use Rattle.std.specs.List.{AllByRecursion}
use Rattle.std.specs.Ordering.{is_lt, nat_cmp}
use Rattle.lists.specs.Entries.{has, insert_by}
use Rattle.lists.proofs.Elements.{all-weaker}

module _ {X : Type 0} (number : X → ℕ) (P : X → Type 0) where
  pub record IsFilled (k : ℕ) (es : List X) : Type 0 where
    pub below : AllByRecursion (λ e. number e < k) es
    pub each : AllByRecursion P es

  pub filled_none : IsFilled 0 []
  filled_none = record { below = tt; each = tt }

  all_insert : (Q : X → Type 0) (x : X) (es : List X) → Q x → AllByRecursion Q es → AllByRecursion Q (insert_by number x es)
  all_insert Q x [] q h = (q, tt)
  all_insert Q x (e ∷ es) q h = by_place (is_lt (nat_cmp (number x) (number e))) (all_insert Q x es q h.1)
    where
      by_place : (b : Bool) → AllByRecursion Q (insert_by number x es) → AllByRecursion Q (cond b (x ∷ e ∷ es) (e ∷ insert_by number x es))
      by_place true more = (q, h)
      by_place false more = (h.0, more)

  free : (k : ℕ) (es : List X) → AllByRecursion (λ e. number e < k) es → find (has number k) es ≡ None
  free k [] h = refl
  free k (e ∷ es) h = by_test (k == number e) refl (free k es h.1)
    where
      by_test : (b : Bool) → (k == number e) ≡ b → find (has number k) es ≡ None → cond b (Some e) (find (has number k) es) ≡ None
      by_test true t more = let same : k ≡ number e = eqb-true k (number e) t in let less : number e < k = h.0 in absurd (omega arith)
      by_test false f more = more

  pub filled_free : (k n : ℕ) (es : List X) → IsFilled k es → n ≡ k → find (has number n) es ≡ None
  filled_free k n es h e = subst (λ m. find (has number m) es ≡ None) (sym e) (free k es h.below)

  pub filled_more : (k : ℕ) (x : X) (es now : List X) → IsFilled k es → number x ≡ k → P x → now ≡ insert_by number x es → IsFilled (k + 1) now
  filled_more k x es now h e p was = subst (IsFilled (k + 1)) (sym was) (record {
    below = all_insert (λ y. number y < k + 1) x es (omega (arith, e)) (all-weaker (λ y. number y < k) (λ y. number y < k + 1) es (λ y l. omega arith) h.below);
    each = all_insert P x es p h.each;
  })

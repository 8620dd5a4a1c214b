-- Entries with numbers below a bound, behind which the next goes.
use Rattle.std.proofs.Common.{◌≡◌, ℕ, ◌<◌, ◌+◌, ◌==◌, Bool, true, false, cond, List, [], ◌∷◌, ◌++◌, find, Some, None, refl, sym, subst, arith, eqb-true}
use Rattle.std.specs.List.{AllByRecursion}
use Rattle.lists.specs.Entries.{has}
use Rattle.lists.proofs.Elements.{all-last, all-weaker}

module _ {X : Type 0} (number : X → ℕ) where
  abbrev pub AreBelow : ℕ → List X → Type 0
  AreBelow k es = AllByRecursion (λ e. number e < k) es

  free : (k : ℕ) (es : List X) → AreBelow k es → find (has number k) es ≡ None
  free k [] h = refl
  free k (e ∷ es) h = by_test (k == number e) refl (free k es h.1)
    where
      by_test : (b : Bool) → (k == number e) ≡ b → find (has number k) es ≡ None → cond b (Some e) (find (has number k) es) ≡ None
      by_test true t more = let same : k ≡ number e = eqb-true k (number e) t in let less : number e < k = h.0 in absurd (omega arith)
      by_test false f more = more

  pub free_at : (k n : ℕ) (es : List X) → AreBelow k es → n ≡ k → find (has number n) es ≡ None
  free_at k n es h e = subst (λ m. find (has number m) es ≡ None) (sym e) (free k es h)

  pub below_at : (k n : ℕ) (es : List X) → AreBelow k es → n ≡ k → AreBelow n es
  below_at k n es h e = subst (λ m. AreBelow m es) (sym e) h

  pub below_more : (k : ℕ) (x : X) (es now : List X) → AreBelow k es → number x ≡ k → now ≡ es ++ x ∷ [] → AreBelow (k + 1) now
  below_more k x es now h e was = subst (AreBelow (k + 1)) (sym was) (all-last (λ y. number y < k + 1) es x (all-weaker (λ y. number y < k) (λ y. number y < k + 1) es (λ y l. omega (arith, l)) h) (omega (arith, e)))

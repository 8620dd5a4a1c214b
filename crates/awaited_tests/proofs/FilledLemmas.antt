-- Lists that a test fills, with numbers in a row.
use Rattle.std.proofs.Common.{◌≡◌, ℕ, ◌<◌, ◌+◌, List, [], ◌∷◌, ◌++◌, sym, subst, arith}
use Rattle.std.specs.List.{AllByRecursion}
use Rattle.lists.proofs.Elements.{all-last, all-weaker}

module _ {X : Type 0} (number : X → ℕ) where
  pub filled_below : (k n : ℕ) (es : List X) → AllByRecursion (λ e. number e < k) es → n ≡ k → AllByRecursion (λ e. number e < n) es
  filled_below k n es h e = subst (λ m. AllByRecursion (λ x. number x < m) es) (sym e) h

  pub filled_more : (k : ℕ) (x : X) (es now : List X) → AllByRecursion (λ e. number e < k) es → number x ≡ k → now ≡ es ++ x ∷ [] → AllByRecursion (λ e. number e < k + 1) now
  filled_more k x es now h e was =
      subst (AllByRecursion (λ y. number y < k + 1)) (sym was)
      (all-last (λ y. number y < k + 1) es x (all-weaker (λ y. number y < k) (λ y. number y < k + 1) es (λ y l. omega arith) h) (omega (arith, e)))

-- The runs of entries that are given by their numbers.
use Rattle.std.proofs.Common.{◌≡◌, ℕ, ◌==◌, Bool, true, false, cond, List, [], ◌∷◌, filter, map, find, Some, None, refl, sym, ap, ◌∙◌, eqb-true}
use Rattle.std.specs.List.{AllByRecursion, filter_map}
use Rattle.std.proofs.lemmas.Bool.{cond-true}
use Rattle.lists.specs.Entries.{has, AreApart}
use Rattle.lists.proofs.Elements.{all-filter}
use Rattle.ordered.proofs.Apart.{number_tells}
use Rattle.matching.specs.Met.{run_at}

module _ {X : Type 0} (run number : X → ℕ) where
  -- an entry behind another, whose number is another
  behind : (e x : X) (es : List X) → find (has number (number e)) es ≡ None → find (has number (number x)) es ≡ Some x → find (has number (number x)) (e ∷ es) ≡ Some x
  behind e x es a h = by_test (number x == number e) refl
    where
      by_test : (b : Bool) → (number x == number e) ≡ b → cond b (Some e) (find (has number (number x)) es) ≡ Some x
      by_test true t = let no : None ≡ Some x = sym (ap (λ k. find (has number k) es) (eqb-true (number x) (number e) t) ∙ a) ∙ h in cc
      by_test false f = h

  moved : (e : X) (es xs : List X) → find (has number (number e)) es ≡ None → AllByRecursion (λ x. find (has number (number x)) es ≡ Some x) xs → AllByRecursion (λ x. find (has number (number x)) (e ∷ es) ≡ Some x) xs
  moved e es [] a h = tt
  moved e es (x ∷ xs) a h = (behind e x es a h.0, moved e es xs a h.1)

  each_found : (es : List X) → AreApart number es → AllByRecursion (λ e. find (has number (number e)) es ≡ Some e) es
  each_found [] a = tt
  each_found (e ∷ es) a = (cond-true (number e == number e) (Some e) (find (has number (number e)) es) (number_tells.self (number e)), moved e es es a.0 (each_found es a.1))

  -- the runs of entries that are named by their numbers
  named : (es xs : List X) → AllByRecursion (λ x. find (has number (number x)) es ≡ Some x) xs → filter_map (run_at run number es) (map number xs) ≡ map run xs
  named es [] f = refl
  named es (x ∷ xs) f = rw f.0 (ap (λ r. run x ∷ r) (named es xs f.1))

  pub runs_named : (test : X → Bool) (es : List X) → AreApart number es → filter_map (run_at run number es) (map number (filter test es)) ≡ map run (filter test es)
  runs_named test es a = named es (filter test es) (all-filter (λ e. find (has number (number e)) es ≡ Some e) test es (each_found es a))

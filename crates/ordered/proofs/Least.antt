-- The least entry of a list in order of rank and number.
use Rattle.std.proofs.Common.{◌≡◌, ℕ, ◌<◌, ◌≤◌, ◌==◌, Bool, true, false, cond, List, [], ◌∷◌, Some, None, Option, refl, sym, ap, ◌∙◌, arith, map, eqb-true, nat_le}
use Rattle.std.specs.Option.{option_map, MatchOption}
use Rattle.std.specs.List.{find, slice_get, AllByRecursion}
use Rattle.std.specs.declared.cmp.Ordering.TheVariants.{Less}
use Rattle.std.proofs.lemmas.Bool.{cond-true}
use Rattle.std.proofs.lemmas.Bool.Decides.{nat_tests}
use Rattle.std.proofs.lemmas.Map.Keys.{sorted_head}
use Rattle.std.proofs.lemmas.Option.{same_Some}
use Rattle.lists.specs.Entries.{has, without, is_due, key_of, pair_cmp, IsInOrder}
use Rattle.lists.proofs.Keyed.{filter_none}
use Rattle.ordered.proofs.Apart.{number_tells, found}

module _ {X : Type 0} (rank number : X → ℕ) where
  pub nothing_due : (t : ℕ) (es : List X) → None ≡ option_map (key_of rank number) (slice_get es 0) → None ≡ find (is_due rank t) es
  nothing_due t [] h = refl
  nothing_due t (e ∷ es) h = cc

  later : (t d n a b : ℕ) → nat_le d t ≡ false → pair_cmp (d, n) (a, b) ≡ Less → nat_le a t ≡ false
  later t d n a b f l = grind (arith, nat_tests)

  none_due : (t d n : ℕ) (es : List X) → nat_le d t ≡ false → AllByRecursion (λ q. pair_cmp (d, n) q ≡ Less) (map (key_of rank number) es) → find (is_due rank t) es ≡ None
  none_due t d n [] f a = refl
  none_due t d n (e ∷ es) f a = rw (later t d n (rank e) (number e) f a.0) (none_due t d n es f a.1)

  rank_same : (d n : ℕ) (e : X) → ◌≡◌ {A = Option (ℕ × ℕ)} (Some (d, n)) (Some (rank e, number e)) → (d ≡ rank e) × (n ≡ number e)
  rank_same d n e h =
      let same = same_Some {A = ℕ × ℕ} (d, n) (rank e, number e) h in
      (ap (λ (p : ℕ × ℕ). p.0) same, ap (λ (p : ℕ × ℕ). p.1) same)

  is_after : (t d : ℕ) → t < d → nat_le d t ≡ false
  is_after t d h = grind (arith, nat_tests, h)

  is_until : (t d : ℕ) → d ≤ t → nat_le d t ≡ true
  is_until t d h = grind (arith, nat_tests, h)

  pub not_yet : (t d n : ℕ) (es : List X) → IsInOrder rank number es → Some (d, n) ≡ option_map (key_of rank number) (slice_get es 0) → t < d → None ≡ find (is_due rank t) es
  not_yet t d n [] s h f = refl
  not_yet t d n (e ∷ es) s h f =
      let early : nat_le (rank e) t ≡ false = sym (ap (λ a. nat_le a t) (rank_same d n e h).0) ∙ is_after t d f in
      sym (rw early (none_due t (rank e) (number e) es early (sorted_head pair_cmp (rank e, number e) (map (key_of rank number) es) s)))

  pub least_due : (t d n : ℕ) (es : List X) → Some (d, n) ≡ option_map (key_of rank number) (slice_get es 0) → d ≤ t → find (has number n) es ≡ find (is_due rank t) es
  least_due t d n [] h f = cc
  least_due t d n (e ∷ es) h f =
      let same = rank_same d n e h in
      cond-true (n == number e) (Some e) (find (has number n) es) (ap (λ a. n == a) (sym same.1) ∙ number_tells.self n)
      ∙ sym (cond-true (nat_le (rank e) t) (Some e) (find (is_due rank t) es) (sym (ap (λ a. nat_le a t) same.0) ∙ is_until t d f))

  pub taken_left : (n : ℕ) (es new : List X) (r : Option X) → r ≡ find (has number n) es → new ≡ without number n es → MatchOption r (new ≡ es) (λ e. new ≡ without number (number e) es)
  taken_left n es new None f h = h ∙ filter_none (has number n) es (sym f)
  taken_left n es new (Some e) f h = h ∙ ap (λ k. without number k es) (eqb-true n (number e) (found (has number n) es e (sym f)))

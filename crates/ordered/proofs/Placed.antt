-- A key that no two entries share, and the look-up beside the entries, after an entry came or went.
use Rattle.std.proofs.Common.{◌≡◌, ℕ, ◌==◌, Bool, true, false, cond, not, ◌&&◌, List, [], ◌∷◌, Some, None, Option, refl, sym, ap, ◌∙◌, subst, arith, eqb-true}
use Rattle.std.specs.Option.{option_map}
use Rattle.std.specs.List.{find, filter}
use Rattle.std.proofs.lemmas.Bool.Decides.{nat_tests}
use Rattle.std.proofs.lemmas.Option.{same_Some}
use Rattle.lists.specs.Entries.{has, without, insert_in, by_key, AreApart, AreApartBy}
use Rattle.lists.proofs.Keyed.{filter_none}
use Rattle.ordered.specs.Indexes.{has_key, IsPlaced}
use Rattle.ordered.proofs.Apart.{Tells, number_tells, found, narrower, same_left, once_by, found_by, apart_left, find_gone, find_put, apart_put}

module _ {X K : Type 0} {eq : K → K → Bool} (tells : Tells eq) (key : X → K) where
  module _ {P : Type 0} (place : X → P) where
    some_case : (b : Bool) (x : X) (o : Option X) → cond b (Some (place x)) (option_map place o) ≡ option_map place (cond b (Some x) o)
    some_case true x o = refl
    some_case false x o = refl

    none_case : (b : Bool) (o : Option X) → cond b None (option_map place o) ≡ option_map place (cond b None o)
    none_case true o = refl
    none_case false o = refl

    -- the look-up after an entry came
    pub placed_put : (rank number : X → ℕ) (x : X) (k : K) (p : P) (es now : List X) (old new : K → Option P) → IsPlaced eq key place es old → k ≡ key x → p ≡ place x → find (by_key eq key (key x)) es ≡ None → now ≡ insert_in rank number x es
        → ((q : K) → new q ≡ cond (eq q k) (Some p) (old q)) → IsPlaced eq key place now new
    placed_put rank number x k p es now old new i a b none h u = subst (λ r. IsPlaced eq key place r new) (sym h) (record {
      apart = apart_put tells key rank number x es i.apart none;
      placed = λ q. u q ∙ ap (λ y. cond (eq q y) (Some p) (old q)) a ∙ ap (λ y. cond (eq q (key x)) (Some y) (old q)) b ∙ ap (cond (eq q (key x)) (Some (place x))) (i.placed q) ∙ some_case (eq q (key x)) x (find (by_key eq key q) es) ∙ sym (ap (option_map place) (find_put tells key rank number x es q none));
    })

    -- the look-up after a key's entry went
    pub placed_left : (k : K) (es now : List X) (old new : K → Option P) → IsPlaced eq key place es old → now ≡ filter (λ e. not (by_key eq key k e)) es → ((q : K) → new q ≡ cond (eq q k) None (old q)) → IsPlaced eq key place now new
    placed_left k es now old new i h u = subst (λ r. IsPlaced eq key place r new) (sym h) (record {
      apart = apart_left tells key (λ e. not (by_key eq key k e)) es i.apart;
      placed = λ q. u q ∙ ap (cond (eq q k) None) (i.placed q) ∙ none_case (eq q k) (find (by_key eq key q) es) ∙ sym (ap (option_map place) (find_gone tells key k q es));
    })

    -- a key with no place has no entry
    pub no_place : (k : K) (es : List X) (look : K → Option P) → IsPlaced eq key place es look → None ≡ look k → find (by_key eq key k) es ≡ None
    no_place k es look i h = by_entry (find (by_key eq key k) es) (h ∙ i.placed k)
      where
        by_entry : (o : Option X) → None ≡ option_map place o → o ≡ None
        by_entry None h = refl
        by_entry (Some e) h = cc

  -- ---- entries that have numbers too

  module _ (number : X → ℕ) where
    -- what leaves by its number leaves by its key
    pub left_by : (t : X → Bool) (es : List X) (e : X) → AreApart number es → AreApartBy eq key es → find t es ≡ Some e → without number (number e) es ≡ filter (λ x. not (by_key eq key (key e) x)) es
    left_by t es e a b f = same_left (has number (number e)) (by_key eq key (key e)) es e (once_by number_tells number (number e) es a) (once_by tells key (key e) es b) (found_by number_tells number t es e a f) (found_by tells key t es e b f)

    -- the number that a key's look-up gives finds what the key does
    pub place_found : (k : K) (n : ℕ) (es : List X) (look : K → Option ℕ) → AreApart number es → IsPlaced eq key number es look → Some n ≡ look k
        → (find (has number n) es ≡ find (by_key eq key k) es) × (without number n es ≡ filter (λ x. not (by_key eq key k x)) es)
    place_found k n es look a i h = by_entry (find (by_key eq key k) es) refl (h ∙ i.placed k)
      where
        by_entry : (o : Option X) → find (by_key eq key k) es ≡ o → Some n ≡ option_map number o → (find (has number n) es ≡ o) × (without number n es ≡ filter (λ x. not (by_key eq key k x)) es)
        by_entry None f h = cc
        by_entry (Some e) f h =
            let same : n ≡ number e = same_Some n (number e) h in
            let its = tells.same k (key e) (found (by_key eq key k) es e f) in (
              ap (λ q. find (has number q) es) same ∙ found_by number_tells number (by_key eq key k) es e a f,
              ap (λ q. without number q es) same ∙ left_by (by_key eq key k) es e a i.apart f ∙ ap (λ q. filter (λ x. not (by_key eq key q x)) es) (sym its),
            )

-- ---- an entry under its rank and number

module _ {X : Type 0} (rank number : X → ℕ) where
  by_false : (a b : Bool) → b ≡ false → (a && b) ≡ false
  by_false true b f = f
  by_false false b f = refl

  -- no entry has a number, so none has it with a rank
  pub none_keyed : (r n : ℕ) (es : List X) → find (has number n) es ≡ None → find (has_key rank number r n) es ≡ None
  none_keyed r n es h = narrower (has number n) (has_key rank number r n) (λ x f. by_false (r == rank x) (n == number x) f) es h

  -- a number under its entry's rank finds what the number alone does
  pub same_found : (r n : ℕ) (es : List X) → AreApart number es → Some r ≡ option_map rank (find (has number n) es)
      → (find (has_key rank number r n) es ≡ find (has number n) es) × (filter (λ e. not (has_key rank number r n e)) es ≡ without number n es)
  same_found r n [] a h = (refl, refl)
  same_found r n (e ∷ es) a h = by_test (n == number e) refl (same_found r n es a.1) h
    where
      with_rank : (r == rank e) ≡ true → find (has number n) es ≡ None
          → (cond ((r == rank e) && true) (Some e) (find (has_key rank number r n) es) ≡ Some e) × (cond (not ((r == rank e) && true)) (e ∷ filter (λ x. not (has_key rank number r n x)) es) (filter (λ x. not (has_key rank number r n x)) es) ≡ without number n es)
      with_rank t none = rw t (refl, filter_none (has_key rank number r n) es (none_keyed r n es none) ∙ sym (filter_none (has number n) es none))

      without_rank : (b : Bool) → (find (has_key rank number r n) es ≡ find (has number n) es) × (filter (λ x. not (has_key rank number r n x)) es ≡ without number n es)
          → (cond (b && false) (Some e) (find (has_key rank number r n) es) ≡ find (has number n) es) × (cond (not (b && false)) (e ∷ filter (λ x. not (has_key rank number r n x)) es) (filter (λ x. not (has_key rank number r n x)) es) ≡ e ∷ without number n es)
      without_rank true more = (more.0, ap (λ l. e ∷ l) more.1)
      without_rank false more = (more.0, ap (λ l. e ∷ l) more.1)

      rank_same : (x : ℕ) → Some r ≡ Some x → (r == x) ≡ true
      rank_same x h = let same : r ≡ x = same_Some r x h in grind (arith, nat_tests, same)

      by_test : (b : Bool) → (n == number e) ≡ b
          → (Some r ≡ option_map rank (find (has number n) es) → (find (has_key rank number r n) es ≡ find (has number n) es) × (filter (λ x. not (has_key rank number r n x)) es ≡ without number n es))
          → Some r ≡ option_map rank (cond b (Some e) (find (has number n) es))
          → (cond ((r == rank e) && b) (Some e) (find (has_key rank number r n) es) ≡ cond b (Some e) (find (has number n) es))
          × (cond (not ((r == rank e) && b)) (e ∷ filter (λ x. not (has_key rank number r n x)) es) (filter (λ x. not (has_key rank number r n x)) es) ≡ cond (not b) (e ∷ without number n es) (without number n es))
      by_test true t more h = with_rank (rank_same (rank e) h) (ap (λ k. find (has number k) es) (eqb-true n (number e) t) ∙ a.0)
      by_test false t more h = without_rank (r == rank e) (more h)

-- Lists in order, which are told by what is in them.
use Rattle.std.proofs.Common.{◌≡◌, ℕ, ◌==◌, Bool, true, false, ◌||◌, List, [], ◌∷◌, refl, sym, ap, ◌∙◌, subst, eqb-true}
use mathlib.Core.Path.{fun_ext}
use Rattle.std.specs.BTreeMap.{is_at}
use Rattle.std.specs.Cmp.{IsTotalOrder}
use Rattle.std.specs.List.{list_any, AllByRecursion}
use Rattle.std.specs.List.Sorted.{IsStrictlySortedBy}
use Rattle.std.specs.Ordering.{is_eq, nat_cmp, ordering_reverse}
use Rattle.std.specs.declared.cmp.Ordering.{Ordering}
use Rattle.std.specs.declared.cmp.Ordering.TheVariants.{Less, Equal, Greater}
use Rattle.std.proofs.lemmas.Cmp.{nat_cmp_total}
use Rattle.std.proofs.lemmas.Map.Keys.{sorted_head, sorted_tail}
use Rattle.lists.proofs.Elements.{all-weaker}
use Rattle.ordered.proofs.Apart.{at_number}

module _ {K : Type 0} {cmp : K → K → Ordering} (total : IsTotalOrder cmp) (same : (a b : K) → is_at (cmp a) b ≡ true → a ≡ b) where
  abbrev is_in : K → List K → Bool
  is_in k ks = list_any (is_at (cmp k)) ks

  abbrev IsBelow : K → List K → Type 0
  IsBelow k ks = AllByRecursion (λ l. cmp k l ≡ Less) ks

  -- what is below all isn't there
  below_all : (k : K) (ks : List K) → IsBelow k ks → is_in k ks ≡ false
  below_all k [] h = refl
  below_all k (l ∷ ks) h = ap (λ b. b || is_in k ks) (ap is_eq h.0) ∙ below_all k ks h.1

  below_first : (k l : K) (ks : List K) → cmp k l ≡ Less → IsBelow l ks → is_in k (l ∷ ks) ≡ false
  below_first k l ks e h = below_all k (l ∷ ks) (e, all-weaker (λ m. cmp l m ≡ Less) (λ m. cmp k m ≡ Less) ks (λ m f. total.trans k l m e f) h)

  at_self : (k : K) → is_at (cmp k) k ≡ true
  at_self k = by_cmp (cmp k k) (total.antisymm k k)
    where
      by_cmp : (o : Ordering) → o ≡ ordering_reverse o → is_eq o ≡ true
      by_cmp Less h = cc
      by_cmp Equal h = refl
      by_cmp Greater h = cc

  first_there : (k : K) (ks : List K) → is_in k (k ∷ ks) ≡ true
  first_there k ks = ap (λ b. b || is_in k ks) (at_self k)

  same_tail : (k l : K) (ks ls : List K) → IsBelow k ks → IsBelow k ls → is_in l (k ∷ ks) ≡ is_in l (k ∷ ls) → is_in l ks ≡ is_in l ls
  same_tail k l ks ls a b h = by_head (is_at (cmp l) k) refl h
    where
      gone : (ms : List K) → IsBelow k ms → is_at (cmp l) k ≡ true → is_in l ms ≡ false
      gone ms c e = ap (λ m. is_in m ms) (same l k e) ∙ below_all k ms c

      by_head : (c : Bool) → is_at (cmp l) k ≡ c → (c || is_in l ks) ≡ (c || is_in l ls) → is_in l ks ≡ is_in l ls
      by_head true e h = gone ks a e ∙ sym (gone ls b e)
      by_head false e h = h

  -- two lists in order with the same in them are the same
  pub same_members : (ks ls : List K) → IsStrictlySortedBy cmp ks → IsStrictlySortedBy cmp ls
      → ((k : K) → list_any (is_at (cmp k)) ks ≡ list_any (is_at (cmp k)) ls) → ks ≡ ls
  same_members [] [] s t h = refl
  same_members [] (l ∷ ls) s t h = let no : false ≡ true = h l ∙ first_there l ls in cc
  same_members (k ∷ ks) [] s t h = let no : false ≡ true = sym (h k) ∙ first_there k ks in cc
  same_members (k ∷ ks) (l ∷ ls) s t h =
      ap (λ m. m ∷ ks) first ∙ ap (λ ms. l ∷ ms) (same_members ks ls (sorted_tail cmp k ks s) (sorted_tail cmp l ls t)
      (λ m. same_tail l m ks ls (subst (λ n. IsBelow n ks) first above_k) above_l (ap (λ n. is_in m (n ∷ ks)) (sym first) ∙ h m)))
    where
      above_k : IsBelow k ks
      above_k = sorted_head cmp k ks s

      above_l : IsBelow l ls
      above_l = sorted_head cmp l ls t

      heads : (o : Ordering) → cmp k l ≡ o → k ≡ l
      heads Less e = let no : true ≡ false = sym (first_there k ks) ∙ h k ∙ below_first k l ls e above_l in cc
      heads Equal e = same k l (ap is_eq e)
      heads Greater e = let no : true ≡ false = sym (first_there l ls) ∙ sym (h l) ∙ below_first l k ks (total.antisymm l k ∙ ap ordering_reverse e) above_k in cc

      first : k ≡ l
      first = heads (cmp k l) refl

-- ---- numbers

pub same_at : (n m : ℕ) → is_at (nat_cmp n) m ≡ true → n ≡ m
same_at n m e = eqb-true n m (sym (at_number n m) ∙ e)

tests : (n : ℕ) → ◌≡◌ {A = ℕ → Bool} (is_at (nat_cmp n)) (λ m. n == m)
tests n = fun_ext (λ m. at_number n m)

pub same_numbers : (ns ms : List ℕ) → IsStrictlySortedBy nat_cmp ns → IsStrictlySortedBy nat_cmp ms
    → ((n : ℕ) → list_any (λ k. n == k) ns ≡ list_any (λ k. n == k) ms) → ns ≡ ms
same_numbers ns ms s t h = same_members nat_cmp_total same_at ns ms s t (λ n. ap (λ p. list_any p ns) (tests n) ∙ h n ∙ sym (ap (λ p. list_any p ms) (tests n)))

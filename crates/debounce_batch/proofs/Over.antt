-- An entry that goes into a map over one of its key.
use Rattle.std.proofs.Common.{◌≡◌, ℕ, ◌==◌, ◌&&◌, arith, Bool, true, false, cond, not, List, [], ◌∷◌, refl, sym, ap, ◌∙◌, map, subst, eqb-true}
use mathlib.Core.Path.{fun_ext}
use Rattle.std.specs.List.{filter, AllByRecursion}
use Rattle.std.specs.Map.{keys_of, values_of}
use Rattle.std.specs.BTreeMap.{insert_entry, is_at}
use Rattle.std.specs.List.Sorted.{IsStrictlySortedBy}
use Rattle.std.specs.Cmp.{IsTotalOrder}
use Rattle.std.specs.declared.cmp.Ordering.{Ordering}
use Rattle.std.specs.declared.cmp.Ordering.TheVariants.{Less, Equal, Greater}
use Rattle.std.proofs.lemmas.Bool.Decides.{nat_tests}
use Rattle.std.proofs.lemmas.Map.Keys.{sorted_head, sorted_tail}
use Rattle.std.specs.Ordering.{is_eq, is_lt}
use Rattle.lists.specs.Entries.{pair_cmp, key_of, insert_in}
use Rattle.lists.proofs.Keyed.{keyed, Inserts, values_of-keyed, keys_of-keyed}
use Rattle.ordered.specs.Indexes.{has_key, IsSorted}
use Rattle.ordered.proofs.Apart.{inserts}
use Rattle.ordered.proofs.Sorted.{pair_total, pair_at}

module _ {K X : Type 0} (cmp : K → K → Ordering) (key : X → K) {insert : X → List X → List X} (i : Inserts cmp key insert) where
  filter_above : (k : K) (ys : List X) → AllByRecursion (λ q. cmp k q ≡ Less) (map key ys) → filter (λ y. not (is_at (cmp k) (key y))) ys ≡ ys
  filter_above k [] h = refl
  filter_above k (y ∷ ys) h = rw h.0 (ap (λ r. y ∷ r) (filter_above k ys h.1))

  insert_above : (x : X) (ys : List X) → AllByRecursion (λ q. cmp (key x) q ≡ Less) (map key ys) → insert x ys ≡ x ∷ ys
  insert_above x [] h = i.empty x
  insert_above x (y ∷ ys) h = i.place x y ys ∙ rw h.0 refl

  above_less : (k q : K) (ks : List K) → IsTotalOrder cmp → cmp k q ≡ Less → AllByRecursion (λ r. cmp q r ≡ Less) ks → AllByRecursion (λ r. cmp k r ≡ Less) ks
  above_less k q [] o e h = tt
  above_less k q (x ∷ ks) o e h = (o.trans k q x e h.0, above_less k q ks o e h.1)

  above_same : (k q : K) (ks : List K) → IsTotalOrder cmp → cmp k q ≡ Equal → AllByRecursion (λ r. cmp q r ≡ Less) ks → AllByRecursion (λ r. cmp k r ≡ Less) ks
  above_same k q [] o e h = tt
  above_same k q (x ∷ ks) o e h = (o.congr k q x e ∙ h.0, above_same k q ks o e h.1)

  -- the entry of the same key goes, if there is one
  pub put_over : IsTotalOrder cmp → ((a b : K) → cmp a b ≡ Equal → a ≡ b) → (x : X) (ys : List X) → IsStrictlySortedBy cmp (map key ys)
      → insert_entry cmp (keyed cmp key ys) (key x) x ≡ keyed cmp key (insert x (filter (λ y. not (is_at (cmp (key x)) (key y))) ys))
  put_over o same x [] s = sym (ap (keyed cmp key) (i.empty x))
  put_over o same x (y ∷ ys) s = by_order (cmp (key x) (key y)) refl (put_over o same x ys (sorted_tail cmp (key y) (map key ys) s))
    where
      above : AllByRecursion (λ r. cmp (key y) r ≡ Less) (map key ys)
      above = sorted_head cmp (key y) (map key ys) s

      by_order : (r : Ordering) → cmp (key x) (key y) ≡ r → insert_entry cmp (keyed cmp key ys) (key x) x ≡ keyed cmp key (insert x (filter (λ z. not (is_at (cmp (key x)) (key z))) ys))
          → insert_entry cmp (keyed cmp key (y ∷ ys)) (key x) x ≡ keyed cmp key (insert x (filter (λ z. not (is_at (cmp (key x)) (key z))) (y ∷ ys)))
      by_order Less e more = rw e (
          ap (λ r. (key x, x) ∷ (key y, y) ∷ keyed cmp key r) (sym (filter_above (key x) ys (above_less (key x) (key y) (map key ys) o e above)))
          ∙ sym (ap (keyed cmp key) (i.place x y (filter (λ z. not (is_at (cmp (key x)) (key z))) ys) ∙ ap (λ o. cond (is_lt o) (x ∷ y ∷ (filter (λ z. not (is_at (cmp (key x)) (key z))) ys)) (y ∷ insert x (filter (λ z. not (is_at (cmp (key x)) (key z))) ys))) e)))
      by_order Equal e more = rw e (
          ap (λ k. (k, x) ∷ keyed cmp key ys) (sym (same (key x) (key y) e))
          ∙ sym (ap (keyed cmp key) (ap (insert x) (filter_above (key x) ys (above_same (key x) (key y) (map key ys) o e above)) ∙ insert_above x ys (above_same (key x) (key y) (map key ys) o e above))))
      by_order Greater e more = rw e (
          ap (λ r. (key y, y) ∷ r) more
          ∙ sym (ap (keyed cmp key) (i.place x y (filter (λ z. not (is_at (cmp (key x)) (key z))) ys) ∙ ap (λ o. cond (is_lt o) (x ∷ y ∷ (filter (λ z. not (is_at (cmp (key x)) (key z))) ys)) (y ∷ insert x (filter (λ z. not (is_at (cmp (key x)) (key z))) ys))) e)))

pair_same : (a b : ℕ × ℕ) → pair_cmp a b ≡ Equal → a ≡ b
pair_same a b e = parts (a.0 == b.0) (a.1 == b.1) refl refl (sym (pair_at a.0 a.1 b.0 b.1) ∙ ap is_eq e)
  where
    parts : (x y : Bool) → (a.0 == b.0) ≡ x → (a.1 == b.1) ≡ y → (x && y) ≡ true → a ≡ b
    parts true true p q h = ap (λ n. (n, a.1)) (eqb-true a.0 b.0 p) ∙ ap (λ n. (b.0, n)) (eqb-true a.1 b.1 q)
    parts true false p q h = cc
    parts false y p q h = cc

module _ {X : Type 0} (rank number : X → ℕ) where
  pub sorted_over : (pairs after : List ((ℕ × ℕ) × X)) (e : X) (d n : ℕ) → IsSorted rank number pairs → d ≡ rank e → n ≡ number e
      → after ≡ insert_entry pair_cmp pairs (d, n) e → IsStrictlySortedBy pair_cmp (keys_of after)
      → (values_of after ≡ insert_in rank number e (filter (λ x. not (has_key rank number (rank e) (number e) x)) (values_of pairs))) × IsSorted rank number after
  sorted_over pairs after e d n s p q h o =
      let test : (λ (x : X). is_at (pair_cmp (rank e, number e)) (key_of rank number x)) ≡ has_key rank number (rank e) (number e) = fun_ext (λ x. pair_at (rank e) (number e) (rank x) (number x)) in
      let k : after ≡ keyed pair_cmp (key_of rank number) (insert_in rank number e (filter (λ x. not (has_key rank number (rank e) (number e) x)) (values_of pairs))) =
      h
      ∙ ap (λ a. insert_entry pair_cmp pairs (a, n) e) p
      ∙ ap (λ a. insert_entry pair_cmp pairs (rank e, a) e) q
      ∙ ap (λ r. insert_entry pair_cmp r (rank e, number e) e) s.keyed
      ∙ put_over pair_cmp (key_of rank number) (inserts rank number) pair_total pair_same e (values_of pairs) s.ordered
      ∙ ap (λ (t : X → Bool). keyed pair_cmp (key_of rank number) (insert_in rank number e (filter (λ x. not (t x)) (values_of pairs)))) test in
      let v = ap values_of k ∙ values_of-keyed pair_cmp (key_of rank number) _ in (
        v,
        record {
          keyed = k ∙ ap (keyed pair_cmp (key_of rank number)) (sym v);
          ordered = subst (IsStrictlySortedBy pair_cmp) (ap keys_of k ∙ keys_of-keyed pair_cmp (key_of rank number) _ ∙ ap (map (key_of rank number)) (sym v)) o;
        },
      )

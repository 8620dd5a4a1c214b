-- A map that has entries under rank and number, after an entry came or went.
use Rattle.std.proofs.Common.{◌≡◌, ℕ, ◌==◌, ◌&&◌, arith, Bool, not, List, None, sym, ap, ◌∙◌, map, subst}
use mathlib.Core.Path.{fun_ext}
use Rattle.std.specs.List.{find, filter}
use Rattle.std.specs.Map.{keys_of, values_of, lookup, remove_entry}
use Rattle.std.specs.BTreeMap.{insert_entry, is_at}
use Rattle.std.specs.List.Sorted.{IsStrictlySortedBy}
use Rattle.std.specs.Cmp.{IsTotalOrder}
use Rattle.std.proofs.lemmas.Cmp.{nat_cmp_total, then_total, on_total}
use Rattle.std.proofs.lemmas.Bool.Decides.{nat_tests}
use Rattle.lists.specs.Entries.{pair_cmp, key_of, insert_in}
use Rattle.ordered.specs.Indexes.{has_key, IsSorted}
use Rattle.lists.proofs.Keyed.{keyed, values_of-keyed, keys_of-keyed, lookup-keyed, keyed-insert, keyed-remove}
use Rattle.ordered.proofs.Apart.{inserts}

pub pair_total : IsTotalOrder pair_cmp
pair_total = then_total (on_total (λ p. p.0) nat_cmp_total) (on_total (λ p. p.1) nat_cmp_total)

pub pair_at : (a b c d : ℕ) → is_at (pair_cmp (a, b)) (c, d) ≡ ((a == c) && (b == d))
pair_at a b c d = grind (arith, nat_tests)

module _ {X : Type 0} (rank number : X → ℕ) where
  test_same : (d n : ℕ) → (λ (e : X). is_at (pair_cmp (d, n)) (key_of rank number e)) ≡ has_key rank number d n
  test_same d n = fun_ext (λ e. pair_at d n (rank e) (number e))

  sorted_from : (pairs : List ((ℕ × ℕ) × X)) (es : List X) → pairs ≡ keyed pair_cmp (key_of rank number) es → IsStrictlySortedBy pair_cmp (keys_of pairs) → (values_of pairs ≡ es) × IsSorted rank number pairs
  sorted_from pairs es k s =
      let v = ap values_of k ∙ values_of-keyed pair_cmp (key_of rank number) es in (
        v,
        record {
          keyed = k ∙ ap (keyed pair_cmp (key_of rank number)) (sym v);
          ordered = subst (IsStrictlySortedBy pair_cmp) (ap keys_of k ∙ keys_of-keyed pair_cmp (key_of rank number) es ∙ ap (map (key_of rank number)) (sym v)) s;
        },
      )

  pub sorted_put : (pairs after : List ((ℕ × ℕ) × X)) (e : X) (d n : ℕ) → IsSorted rank number pairs → d ≡ rank e → n ≡ number e → find (has_key rank number (rank e) (number e)) (values_of pairs) ≡ None
      → after ≡ insert_entry pair_cmp pairs (d, n) e → IsStrictlySortedBy pair_cmp (keys_of after) → (values_of after ≡ insert_in rank number e (values_of pairs)) × IsSorted rank number after
  sorted_put pairs after e d n s p q none h o = sorted_from after _ (
      h
      ∙ ap (λ a. insert_entry pair_cmp pairs (a, n) e) p
      ∙ ap (λ a. insert_entry pair_cmp pairs (rank e, a) e) q
      ∙ ap (λ r. insert_entry pair_cmp r (rank e, number e) e) s.keyed
      ∙ keyed-insert pair_cmp (key_of rank number) (inserts rank number) e (values_of pairs) (ap (λ t. find t (values_of pairs)) (test_same (rank e) (number e)) ∙ none)) o

  pub sorted_take : (pairs after : List ((ℕ × ℕ) × X)) (d n : ℕ) → IsSorted rank number pairs → after ≡ remove_entry (is_at (pair_cmp (d, n))) pairs → IsStrictlySortedBy pair_cmp (keys_of after)
      → (values_of after ≡ filter (λ e. not (has_key rank number d n e)) (values_of pairs)) × IsSorted rank number after
  sorted_take pairs after d n s h o = sorted_from after _ (
      h
      ∙ ap (remove_entry (is_at (pair_cmp (d, n)))) s.keyed
      ∙ keyed-remove pair_cmp (key_of rank number) pair_total (d, n) (values_of pairs) s.ordered
      ∙ ap (λ (t : X → Bool). keyed pair_cmp (key_of rank number) (filter (λ e. not (t e)) (values_of pairs))) (test_same d n)) o

  pub sorted_found : (pairs : List ((ℕ × ℕ) × X)) (d n : ℕ) → IsSorted rank number pairs → lookup (is_at (pair_cmp (d, n))) pairs ≡ find (has_key rank number d n) (values_of pairs)
  sorted_found pairs d n s = ap (lookup (is_at (pair_cmp (d, n)))) s.keyed ∙ lookup-keyed pair_cmp (key_of rank number) (is_at (pair_cmp (d, n))) (values_of pairs) ∙ ap (λ t. find t (values_of pairs)) (test_same d n)

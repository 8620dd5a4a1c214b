-- The two maps of a store after an entry came or went.
use Rattle.std.proofs.Common.{◌≡◌, ℕ, ◌==◌, Bool, true, false, cond, List, Some, None, Option, ap, sym, ◌∙◌, arith}
use Rattle.std.specs.List.{find}
use Rattle.std.specs.List.Sorted.{IsStrictlySortedBy}
use Rattle.std.specs.Map.{keys_of, values_of, lookup, remove_entry}
use Rattle.std.specs.BTreeMap.{insert_entry, is_at}
use Rattle.std.specs.Ordering.{nat_cmp}
use Rattle.lists.specs.Entries.{has, without, insert_in, pair_cmp}
use Rattle.ordered.specs.Indexes.{IsKept}
use Rattle.ordered.proofs.Apart.{number_tells, at_number}
use Rattle.ordered.proofs.Placed.{placed_put, placed_left, none_keyed, same_found}
use Rattle.ordered.proofs.Sorted.{sorted_put, sorted_take, sorted_found}

-- what a map's `updates` says of a number that came or went
abbrev pub Moves : ℕ → Option ℕ → List (ℕ × ℕ) → List (ℕ × ℕ) → Type 0
Moves n o old new = (q : ℕ) → lookup (is_at (nat_cmp q)) new ≡ cond (is_at (nat_cmp n) q) o (lookup (is_at (nat_cmp q)) old)

flip : (a b : ℕ) → is_at (nat_cmp a) b ≡ (b == a)
flip a b = at_number a b ∙ number_tells.flip a b

module _ {X : Type 0} (rank number : X → ℕ) where
  pub kept_put : (e : X) (r n : ℕ) (entries after : List ((ℕ × ℕ) × X)) (ranks placed : List (ℕ × ℕ)) → IsKept rank number entries ranks → r ≡ rank e → n ≡ number e → find (has number (number e)) (values_of entries) ≡ None
      → after ≡ insert_entry pair_cmp entries (r, n) e → IsStrictlySortedBy pair_cmp (keys_of after) → Moves n (Some r) ranks placed → (values_of after ≡ insert_in rank number e (values_of entries)) × IsKept rank number after placed
  kept_put e r n entries after ranks placed k p q none h o u =
      let all = sorted_put rank number entries after e r n k.sorted p q (none_keyed rank number (rank e) (number e) (values_of entries) none) h o in (
        all.0,
        record {
          sorted = all.1;
          placed = placed_put number_tells number rank rank number e n r _ _ _ _ k.placed q p none all.0 (λ m. u m ∙ ap (λ b. cond b (Some r) (lookup (is_at (nat_cmp m)) ranks)) (flip n m));
        },
      )

  -- what a number's rank finds
  pub kept_found : (n r : ℕ) (entries : List ((ℕ × ℕ) × X)) (ranks : List (ℕ × ℕ)) → IsKept rank number entries ranks → Some r ≡ lookup (is_at (nat_cmp n)) ranks
      → lookup (is_at (pair_cmp (r, n))) entries ≡ find (has number n) (values_of entries)
  kept_found n r entries ranks k h = sorted_found rank number entries r n k.sorted ∙ (same_found rank number r n (values_of entries) k.placed.apart (h ∙ k.placed.placed n)).0

  pub kept_removed : (n r : ℕ) (entries after : List ((ℕ × ℕ) × X)) (ranks placed : List (ℕ × ℕ)) → IsKept rank number entries ranks → Some r ≡ lookup (is_at (nat_cmp n)) ranks → after ≡ remove_entry (is_at (pair_cmp (r, n))) entries → IsStrictlySortedBy pair_cmp (keys_of after) → Moves n None ranks placed
      → (values_of after ≡ without number n (values_of entries)) × IsKept rank number after placed
  kept_removed n r entries after ranks placed k h w o u =
      let same = same_found rank number r n (values_of entries) k.placed.apart (h ∙ k.placed.placed n) in
      let all = sorted_take rank number entries after r n k.sorted w o in
      let left = all.0 ∙ same.1 in (
        left,
        record {
          sorted = all.1;
          placed = placed_left number_tells number rank n _ _ _ _ k.placed left (λ m. u m ∙ ap (λ b. cond b None (lookup (is_at (nat_cmp m)) ranks)) (flip n m));
        },
      )

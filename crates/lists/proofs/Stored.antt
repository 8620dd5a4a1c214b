-- A map that keeps entries under keys of theirs, seen as the list of its entries: what the list is after an
-- entry came or went.
use Rattle.std.proofs.Common.{◌≡◌, ℕ, ◌==◌, nat_lt, Bool, cond, not, List, [], ◌∷◌, None, refl, sym, ap, ◌∙◌, subst, arith, map}
use mathlib.Core.Path.{fun_ext}
use Rattle.std.specs.List.{find, filter}
use Rattle.std.specs.Map.{keys_of, values_of, lookup, remove_entry}
use Rattle.std.specs.BTreeMap.{insert_entry, is_at}
use Rattle.std.specs.Cmp.{IsTotalOrder}
use Rattle.std.specs.List.Sorted.{IsStrictlySortedBy}
use Rattle.std.specs.Ordering.{is_lt, nat_cmp}
use Rattle.std.specs.declared.cmp.Ordering.{Ordering}
use Rattle.std.proofs.lemmas.Bool.Decides.{nat_tests}
use Rattle.std.proofs.lemmas.Cmp.{nat_cmp_total}
use Rattle.lists.proofs.Keyed.{Inserts, keyed, values_of-keyed, keys_of-keyed, lookup-keyed, keyed-insert, keyed-remove}

module _ {K X : Type 0} (cmp : K → K → Ordering) (key : X → K) where
  -- each entry under its key, and the keys in order
  pub record IsStored (pairs : List (K × X)) : Type 0 where
    pub keyed : pairs ≡ map (λ x. (key x, x)) (values_of pairs)
    pub ordered : IsStrictlySortedBy cmp (map key (values_of pairs))

  pub stored_from : (pairs : List (K × X)) (xs : List X) → pairs ≡ keyed cmp key xs → IsStrictlySortedBy cmp (keys_of pairs) → (values_of pairs ≡ xs) × IsStored pairs
  stored_from pairs xs k s =
      let v = ap values_of k ∙ values_of-keyed cmp key xs in (
        v,
        record {
          keyed = k ∙ ap (keyed cmp key) (sym v);
          ordered = subst (IsStrictlySortedBy cmp) (ap keys_of k ∙ keys_of-keyed cmp key xs ∙ ap (map key) (sym v)) s;
        },
      )

  pub stored_empty : (pairs : List (K × X)) → pairs ≡ [] → IsStored pairs
  unfolding IsStrictlySortedBy
  stored_empty pairs e = subst IsStored (sym e) (record { keyed = refl; ordered = tt })

  pub stored_put : {insert : X → List X → List X} → Inserts cmp key insert → (old new : List (K × X)) (x : X) → IsStored old
      → find (λ y. is_at (cmp (key x)) (key y)) (values_of old) ≡ None → new ≡ insert_entry cmp old (key x) x → IsStrictlySortedBy cmp (keys_of new)
      → (values_of new ≡ insert x (values_of old)) × IsStored new
  stored_put {insert} i old new x k none e s =
      stored_from new (insert x (values_of old)) (e ∙ ap (λ r. insert_entry cmp r (key x) x) k.keyed ∙ keyed-insert cmp key i x (values_of old) none) s

  pub stored_left : IsTotalOrder cmp → (old new : List (K × X)) (k : K) → IsStored old → new ≡ remove_entry (is_at (cmp k)) old → IsStrictlySortedBy cmp (keys_of new)
      → (values_of new ≡ filter (λ x. not (is_at (cmp k) (key x))) (values_of old)) × IsStored new
  stored_left o old new k h e s =
      stored_from new (filter (λ x. not (is_at (cmp k) (key x))) (values_of old)) (e ∙ ap (remove_entry (is_at (cmp k))) h.keyed ∙ keyed-remove cmp key o k (values_of old) h.ordered) s

  pub stored_found : (pairs : List (K × X)) (k : K) → IsStored pairs → lookup (is_at (cmp k)) pairs ≡ find (λ x. is_at (cmp k) (key x)) (values_of pairs)
  stored_found pairs k h = ap (lookup (is_at (cmp k))) h.keyed ∙ lookup-keyed cmp key (is_at (cmp k)) (values_of pairs)

-- ---- entries under numbers of theirs

lt_same : (a b : ℕ) → nat_lt a b ≡ is_lt (nat_cmp a b)
lt_same a b = grind (arith, nat_tests)

at_same : (a b : ℕ) → is_at (nat_cmp a) b ≡ (a == b)
at_same a b = grind (arith, nat_tests)

module _ {X : Type 0} (number : X → ℕ) where
  -- insert puts x before the first entry whose number is greater
  pub record InsertsByNumber (insert : X → List X → List X) : Type 0 where
    pub empty : (x : X) → insert x [] ≡ x ∷ []
    pub place : (x y : X) (ys : List X) → insert x (y ∷ ys) ≡ cond (nat_lt (number x) (number y)) (x ∷ y ∷ ys) (y ∷ insert x ys)

  pub inserts : {insert : X → List X → List X} → InsertsByNumber insert → Inserts nat_cmp number insert
  inserts {insert} i = record {
    empty = i.empty;
    place = λ x y ys. i.place x y ys ∙ ap (λ b. cond b (x ∷ y ∷ ys) (y ∷ insert x ys)) (lt_same (number x) (number y));
  }

  tests : (n : ℕ) → ◌≡◌ {A = X → Bool} (λ x. is_at (nat_cmp n) (number x)) (λ x. n == number x)
  tests n = fun_ext (λ x. at_same n (number x))

  pub numbered_put : {insert : X → List X → List X} → InsertsByNumber insert → (old new : List (ℕ × X)) (x : X) → IsStored nat_cmp number old
      → find (λ y. number x == number y) (values_of old) ≡ None → new ≡ insert_entry nat_cmp old (number x) x → IsStrictlySortedBy nat_cmp (keys_of new)
      → (values_of new ≡ insert x (values_of old)) × IsStored nat_cmp number new
  numbered_put i old new x h none e s = stored_put nat_cmp number (inserts i) old new x h (ap (λ t. find t (values_of old)) (tests (number x)) ∙ none) e s

  pub numbered_left : (old new : List (ℕ × X)) (n : ℕ) → IsStored nat_cmp number old → new ≡ remove_entry (is_at (nat_cmp n)) old → IsStrictlySortedBy nat_cmp (keys_of new)
      → (values_of new ≡ filter (λ x. not (n == number x)) (values_of old)) × IsStored nat_cmp number new
  numbered_left old new n h e s =
      let left = stored_left nat_cmp number nat_cmp_total old new n h e s in
      (left.0 ∙ ap (λ (t : X → Bool). filter (λ x. not (t x)) (values_of old)) (tests n), left.1)

  pub numbered_found : (pairs : List (ℕ × X)) (n : ℕ) → IsStored nat_cmp number pairs → lookup (is_at (nat_cmp n)) pairs ≡ find (λ x. n == number x) (values_of pairs)
  numbered_found pairs n h = stored_found nat_cmp number pairs n h ∙ ap (λ t. find t (values_of pairs)) (tests n)

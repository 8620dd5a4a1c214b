-- The planned names of a run stand in order, so that one that comes or goes changes what is said of it alone.
use Rattle.std.proofs.Common.{◌≡◌, ℕ, Bool, true, false, ◌||◌, cond, List, [], ◌∷◌, Some, is_some, refl, sym, ap, ◌∙◌, subst, bytes_eq}
use Rattle.std.specs.BTreeMap.{is_at}
use Rattle.std.specs.BTreeSet.{insert_key}
use Rattle.std.specs.Cmp.Lexicographic.{slice_cmp, nat_list_cmp_total}
use Rattle.std.specs.List.{AllByRecursion, list_any}
use Rattle.std.specs.Map.{lookup, remove_entry}
use Rattle.std.specs.Ordering.{is_eq, match_ordering, nat_cmp, ordering_reverse}
use Rattle.std.specs.Set.{remove_key}
use Rattle.std.specs.declared.cmp.Ordering.{Ordering}
use Rattle.std.specs.declared.cmp.Ordering.TheVariants.{Less, Equal, Greater}
use Rattle.lists.proofs.Elements.{all-weaker}
use Rattle.lists.proofs.Texts.{bytes_same}
use Rattle.run_model.specs.Sound.{ArePairwise}
use Rattle.run_model.proofs.WaitingNames.{Names, at-bytes}

abbrev order : List ℕ → List ℕ → Ordering
order a b = slice_cmp nat_cmp a b

abbrev Before : List ℕ → List ℕ → Type 0
Before k later = order k later ≡ Less

abbrev pub AreInOrder : List (List ℕ) → Type 0
AreInOrder ks = ArePairwise Before ks

-- a name is one of them
abbrev pub is_key : List ℕ → List (List ℕ) → Bool
is_key name ks = list_any (is_at (slice_cmp nat_cmp name)) ks

-- ## A name comes

pub keys-inserted : (P : List ℕ → Type 0) (name : List ℕ) (ks : List (List ℕ)) → P name → AllByRecursion P ks
    → AllByRecursion P (insert_key (slice_cmp nat_cmp) ks name)
keys-inserted P name [] own h = (own, tt)
keys-inserted P name (k ∷ ks) own h = by_order (order name k) (keys-inserted P name ks own h.1)
  where
    by_order : (o : Ordering) → AllByRecursion P (insert_key (slice_cmp nat_cmp) ks name)
        → AllByRecursion P (match_ordering o (name ∷ k ∷ ks) (k ∷ ks) (k ∷ insert_key (slice_cmp nat_cmp) ks name))
    by_order Less more = (own, h)
    by_order Equal more = h
    by_order Greater more = (h.0, more)

pub order-inserted : (name : List ℕ) (ks : List (List ℕ)) → AreInOrder ks
    → AreInOrder (insert_key (slice_cmp nat_cmp) ks name)
order-inserted name [] h = (tt, tt)
order-inserted name (k ∷ ks) h = by_order (order name k) refl (order-inserted name ks h.1)
  where
    by_order : (o : Ordering) → order name k ≡ o → AreInOrder (insert_key (slice_cmp nat_cmp) ks name)
        → AreInOrder (match_ordering o (name ∷ k ∷ ks) (k ∷ ks) (k ∷ insert_key (slice_cmp nat_cmp) ks name))
    by_order Less e more = (
      (e, all-weaker (Before k) (Before name) ks (λ q b. nat_list_cmp_total.trans name k q e b) h.0),
      h,
    )
    by_order Equal e more = h
    by_order Greater e more = (
      keys-inserted (Before k) name ks (nat_list_cmp_total.antisymm k name ∙ ap ordering_reverse e) h.0,
      more,
    )

or-again : (b c : Bool) → (b || c) ≡ (b || (b || c))
or-again true c = refl
or-again false c = refl

or-swap : (a b c : Bool) → (a || (b || c)) ≡ (b || (a || c))
or-swap true true c = refl
or-swap true false c = refl
or-swap false true c = refl
or-swap false false c = refl

pub key-inserted : (q name : List ℕ) (ks : List (List ℕ))
    → is_key q (insert_key (slice_cmp nat_cmp) ks name) ≡ (bytes_eq q name || is_key q ks)
key-inserted q name [] = ap (λ b. b || false) (at-bytes q name)
key-inserted q name (k ∷ ks) = by_order (order name k) refl (key-inserted q name ks)
  where
    by_order : (o : Ordering) → order name k ≡ o
        → is_key q (insert_key (slice_cmp nat_cmp) ks name) ≡ (bytes_eq q name || is_key q ks)
        → is_key q (match_ordering o (name ∷ k ∷ ks) (k ∷ ks) (k ∷ insert_key (slice_cmp nat_cmp) ks name))
        ≡ (bytes_eq q name || is_key q (k ∷ ks))
    by_order Less e more = ap (λ b. b || is_key q (k ∷ ks)) (at-bytes q name)
    by_order Equal e more =
        let same : name ≡ k = bytes_same name k (sym (at-bytes name k) ∙ ap is_eq e) in
        or-again (is_at (slice_cmp nat_cmp q) k) (is_key q ks)
        ∙ ap (λ b. b || is_key q (k ∷ ks)) (at-bytes q k ∙ ap (bytes_eq q) (sym same))
    by_order Greater e more =
        ap (λ b. is_at (slice_cmp nat_cmp q) k || b) more
        ∙ or-swap (is_at (slice_cmp nat_cmp q) k) (bytes_eq q name) (is_key q ks)

-- ## A name goes

pub keys-removed : (P : List ℕ → Type 0) (test : List ℕ → Bool) (ks : List (List ℕ)) → AllByRecursion P ks
    → AllByRecursion P (remove_key test ks)
keys-removed P test [] h = tt
keys-removed P test (k ∷ ks) h =
    elim (test k) as (λ b. AllByRecursion P (cond b ks (k ∷ remove_key test ks)))
    [ true ↦ h.1 | false ↦ (h.0, keys-removed P test ks h.1) ]

pub order-removed : (test : List ℕ → Bool) (ks : List (List ℕ)) → AreInOrder ks → AreInOrder (remove_key test ks)
order-removed test [] h = tt
order-removed test (k ∷ ks) h =
    elim (test k) as (λ b. AreInOrder (cond b ks (k ∷ remove_key test ks)))
    [ true ↦ h.1 | false ↦ (keys-removed (Before k) test ks h.0, order-removed test ks h.1) ]

none-behind : (name : List ℕ) (ks : List (List ℕ)) → AllByRecursion (Before name) ks → is_key name ks ≡ false
none-behind name [] h = refl
none-behind name (k ∷ ks) h = rw (ap is_eq h.0) (none-behind name ks h.1)

pub key-gone : (name : List ℕ) (ks : List (List ℕ)) → AreInOrder ks
    → is_key name (remove_key (is_at (slice_cmp nat_cmp name)) ks) ≡ false
key-gone name [] h = refl
key-gone name (k ∷ ks) h = by_test (is_at (slice_cmp nat_cmp name) k) refl (key-gone name ks h.1)
  where
    by_test : (b : Bool) → is_at (slice_cmp nat_cmp name) k ≡ b
        → is_key name (remove_key (is_at (slice_cmp nat_cmp name)) ks) ≡ false
        → is_key name (cond b ks (k ∷ remove_key (is_at (slice_cmp nat_cmp name)) ks)) ≡ false
    by_test true e more =
        subst (λ n. is_key n ks ≡ false) (sym (bytes_same name k (sym (at-bytes name k) ∙ e)))
        (none-behind k ks h.0)
    by_test false e more =
        ap (λ b. b || is_key name (remove_key (is_at (slice_cmp nat_cmp name)) ks)) e ∙ more

pub key-left : (q name : List ℕ) (ks : List (List ℕ)) → bytes_eq q name ≡ false
    → is_key q (remove_key (is_at (slice_cmp nat_cmp name)) ks) ≡ is_key q ks
key-left q name [] other = refl
key-left q name (k ∷ ks) other = by_test (is_at (slice_cmp nat_cmp name) k) refl (key-left q name ks other)
  where
    by_test : (b : Bool) → is_at (slice_cmp nat_cmp name) k ≡ b
        → is_key q (remove_key (is_at (slice_cmp nat_cmp name)) ks) ≡ is_key q ks
        → is_key q (cond b ks (k ∷ remove_key (is_at (slice_cmp nat_cmp name)) ks)) ≡ is_key q (k ∷ ks)
    by_test true e more =
        let same : name ≡ k = bytes_same name k (sym (at-bytes name k) ∙ e) in
        sym (ap (λ b. b || is_key q ks) (at-bytes q k ∙ ap (bytes_eq q) (sym same) ∙ other))
    by_test false e more = ap (λ b. is_at (slice_cmp nat_cmp q) k || b) more

-- ## Names that wait

pub none-removed : (p test : List ℕ → Bool) (ps : Names) → is_some (lookup p ps) ≡ false
    → is_some (lookup p (remove_entry test ps)) ≡ false
none-removed p test [] h = h
none-removed p test (x ∷ ps) h = by_tests (p x.0) (test x.0) refl h (none-removed p test ps)
  where
    by_tests : (b c : Bool) → p x.0 ≡ b → is_some (cond b (Some x.1) (lookup p ps)) ≡ false
        → (is_some (lookup p ps) ≡ false → is_some (lookup p (remove_entry test ps)) ≡ false)
        → is_some (lookup p (cond c ps (x ∷ remove_entry test ps))) ≡ false
    by_tests true c e k more = absurd (cc)
    by_tests false true e k more = k
    by_tests false false e k more = rw e (more k)

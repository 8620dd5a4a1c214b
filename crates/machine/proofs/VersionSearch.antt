-- A search by version among functions that stand in order.
use Rattle.std.proofs.Common.{◌≡◌, ◌≢◌, ◌⊎◌, inl, inr, ℕ, zero, suc, ◌==◌, ◌<◌, ◌≤◌, true, false, List, [], ◌∷◌, length, find, Some, None, Result, Ok, Err, refl, sym, ◌∙◌, subst, arith}
use Rattle.std.specs.List.{slice_index_or}
use Rattle.std.specs.List.Sorted.{IsBinarySearchResult, IsNonDecreasingBy, IsSearchInRange, IsStrictlySortedBy}
use Rattle.std.specs.Ordering.{nat_cmp, ordering_index}
use Rattle.std.specs.Result.{MatchResult}
use Rattle.std.specs.declared.cmp.Ordering.TheVariants.{Less, Equal, Greater}
use Rattle.std.proofs.lemmas.Bool.{cases_lt, cond-false, cond-true}
use Rattle.std.proofs.lemmas.Bool.Decides.{nat_tests}
use Rattle.functions.specs.declared.entry.FunctionEntry.{FunctionEntry}
use Rattle.run_model.specs.Laws.{IsIn}
use Rattle.run_model.proofs.Members.{in-all}
use Rattle.machine.specs.Versions.{by_version}

abbrev version_of_at : List FunctionEntry → ℕ → FunctionEntry → ℕ
version_of_at fs i d = (slice_index_or fs i d).version

in-at : (fs : List FunctionEntry) (i : ℕ) (d : FunctionEntry) → i < length fs → IsIn (slice_index_or fs i d) fs
in-at [] i d low = absurd (omega (arith, low))
in-at (f ∷ fs) zero d low = inl refl
in-at (f ∷ fs) (suc i) d low = inr (in-at fs i d (omega (arith, low)))

below : (m n : ℕ) → nat_cmp m n ≡ Less → m < n
below m n h = grind (arith, nat_tests, h)

-- versions rise with the place
rises : (fs : List FunctionEntry) (i j : ℕ) (d : FunctionEntry) → IsStrictlySortedBy by_version fs → i ≤ j
    → j < length fs → version_of_at fs i d ≤ version_of_at fs j d
unfolding IsStrictlySortedBy
rises [] i j d ordered le low = absurd (omega (arith, low))
rises (f ∷ fs) zero zero d ordered le low = omega arith
rises (f ∷ fs) zero (suc j) d ordered le low =
    let there : IsIn (slice_index_or fs j d) fs = in-at fs j d (omega (arith, low)) in
    let over : f.version < version_of_at fs j d =
    below f.version (version_of_at fs j d) (in-all (λ y. by_version f y ≡ Less) (slice_index_or fs j d) fs there ordered.0) in
    omega (arith, over)
rises (f ∷ fs) (suc i) zero d ordered le low = absurd (omega (arith, le))
rises (f ∷ fs) (suc i) (suc j) d ordered le low = rises fs i j d ordered.1 (omega (arith, le)) (omega (arith, low))

no-same : (m n : ℕ) → m ≢ n → (m == n) ≡ false
no-same m n h = grind (arith, nat_tests, h)

-- at the place of a version stands what is found of it
found-at : (fs : List FunctionEntry) (v i : ℕ) → IsStrictlySortedBy by_version fs → i < length fs
    → ((d : FunctionEntry) → version_of_at fs i d ≡ v) → (d : FunctionEntry)
    → Some (slice_index_or fs i d) ≡ find (λ (f : FunctionEntry). v == f.version) fs
unfolding IsStrictlySortedBy
found-at [] v i ordered low h d = absurd (omega (arith, low))
found-at (f ∷ fs) v zero ordered low h d =
    sym (cond-true (v == f.version) (Some f) (find (λ (f : FunctionEntry). v == f.version) fs) (own v f.version (h f)))
  where
    own : (v n : ℕ) → n ≡ v → (v == n) ≡ true
    own v n e = grind (arith, nat_tests, e)
found-at (f ∷ fs) v (suc i) ordered low h d =
    let there : IsIn (slice_index_or fs i f) fs = in-at fs i f (omega (arith, low)) in
    let over : f.version < version_of_at fs i f =
    below f.version (version_of_at fs i f) (in-all (λ y. by_version f y ≡ Less) (slice_index_or fs i f) fs there ordered.0) in
    found-at fs v i ordered.1 (omega (arith, low)) h d
    ∙ sym (cond-false (v == f.version) (Some f) (find (λ (f : FunctionEntry). v == f.version) fs)
    (no-same v f.version (λ e. absurd (omega (arith, over, e, h f)))))

none-at : (fs : List FunctionEntry) (v : ℕ) → ((k : ℕ) (d : FunctionEntry) → k < length fs → version_of_at fs k d ≢ v)
    → find (λ (f : FunctionEntry). v == f.version) fs ≡ None
none-at [] v h = refl
none-at (f ∷ fs) v h =
    cond-false (v == f.version) (Some f) (find (λ (f : FunctionEntry). v == f.version) fs)
    (no-same v f.version (λ e. h zero f (omega arith) (sym e)))
    ∙ none-at fs v (λ k d low. h (suc k) d (omega (arith, low)))

module _ (fs : List FunctionEntry) (v : ℕ) (ordered : IsStrictlySortedBy by_version fs) where
  answers-rise : IsNonDecreasingBy (λ (f : FunctionEntry). ordering_index (nat_cmp f.version v)) fs
  answers-rise i j d le low =
      let up : version_of_at fs i d ≤ version_of_at fs j d = rises fs i j d ordered le low in
      grind (arith, nat_tests, up)

  pub searched : (r : Result ℕ ℕ) → IsSearchInRange r (length fs)
      → IsBinarySearchResult (λ (f : FunctionEntry). nat_cmp f.version v) fs r
      → MatchResult r (λ i. (d : FunctionEntry) → Some (slice_index_or fs i d) ≡ find (λ (f : FunctionEntry). v == f.version) fs)
      (λ i. find (λ (f : FunctionEntry). v == f.version) fs ≡ None)
  searched (Ok i) low equal = found-at fs v i ordered low (λ d. same (version_of_at fs i d) (equal d))
    where
      same : (n : ℕ) → nat_cmp n v ≡ Equal → n ≡ v
      same n h = grind (arith, nat_tests, h)
  searched (Err i) low parted = none-at fs v (λ k d inside e. by_place k d inside e (cases_lt k i))
    where
      under : (n : ℕ) → nat_cmp n v ≡ Less → n ≡ v → ⊥
      under n h e = absurd (omega (arith, below n v h, e))

      above : (n : ℕ) → nat_cmp n v ≡ Greater → n ≡ v → ⊥
      above n h e = let own : nat_cmp v v ≡ Greater = subst (λ k. nat_cmp k v ≡ Greater) e h in grind (arith, nat_tests, own)

      by_place : (k : ℕ) (d : FunctionEntry) → k < length fs → version_of_at fs k d ≡ v → (k < i) ⊎ (i ≤ k) → ⊥
      by_place k d inside e (inl before) = under (version_of_at fs k d) ((parted answers-rise).0 k d (omega arith) before) e
      by_place k d inside e (inr behind) = above (version_of_at fs k d) ((parted answers-rise).1 k d behind inside) e

-- The set of a part and the number of each entry, after an entry came or went.
use Rattle.std.proofs.Common.{◌≡◌, ℕ, ◌<◌, ◌==◌, Bool, true, false, cond, not, ◌&&◌, List, [], ◌∷◌, Some, None, Option, refl, sym, ap, ◌∙◌, arith, subst, eqb-true, length}
use Rattle.std.specs.Cmp.{IsTotalOrder}
use Rattle.std.specs.Option.{IfSome, IfNone}
use Rattle.std.specs.List.{find, list_any, slice_get}
use Rattle.std.specs.BTreeMap.{is_at}
use Rattle.std.specs.Ordering.{nat_cmp, ordering_then, ordering_reverse, is_eq, is_gt}
use Rattle.std.specs.declared.cmp.Ordering.{Ordering}
use Rattle.std.specs.declared.cmp.Ordering.TheVariants.{Less, Equal, Greater}
use Rattle.std.proofs.lemmas.Bool.Decides.{nat_tests}
use Rattle.lists.specs.Entries.{has, without, insert_in, AreApart, pair_cmp}
use Rattle.lists.proofs.Keyed.{filter_none}
use Rattle.ordered.specs.Indexes.{group_cmp, has_part, IsListed, IsTakenOf}
use Rattle.ordered.proofs.Apart.{number_tells, at_number, found, fewer_without, found_by, apart_left, find_gone, find_put, apart_put}

-- what a set's `updates` says of a pair that came or went
abbrev pub Changes : {K : Type 0} → (K → K → Ordering) → K → ℕ → Bool → List (K × ℕ) → List (K × ℕ) → Type 0
Changes {K} cmp p n b old new = (q : K × ℕ) → list_any (is_at (group_cmp cmp q)) new ≡ cond (is_at (group_cmp cmp (p, n)) q) b (list_any (is_at (group_cmp cmp q)) old)

undo : {A : Type 0} (b : Bool) (x y z : A) → (b ≡ true → z ≡ x) → cond b x (cond b y z) ≡ z
undo true x y z h = sym (h refl)
undo false x y z h = refl

then_at : (o : Ordering) (n m : ℕ) → is_eq (ordering_then o (nat_cmp n m)) ≡ (is_eq o && (n == m))
then_at Less n m = refl
then_at Equal n m = at_number n m
then_at Greater n m = refl

pub group_at : {K : Type 0} (cmp : K → K → Ordering) (p q : K) (n m : ℕ) → is_at (group_cmp cmp (p, n)) (q, m) ≡ (is_at (cmp p) q && (n == m))
group_at cmp p q n m = then_at (cmp p q) n m

eq_reverse : (o : Ordering) → is_eq (ordering_reverse o) ≡ is_eq o
eq_reverse Less = refl
eq_reverse Equal = refl
eq_reverse Greater = refl

pub at_flip : {K : Type 0} {cmp : K → K → Ordering} → IsTotalOrder cmp → (p q : K) → is_at (cmp p) q ≡ is_at (cmp q) p
at_flip {K} {cmp} total p q = ap is_eq (total.antisymm p q) ∙ eq_reverse (cmp q p)

module _ {X K : Type 0} {cmp : K → K → Ordering} (total : IsTotalOrder cmp) (part : X → K) (number : X → ℕ) where
  put_case : (p : K) (n : ℕ) (e : X) (o : Option X) → (n ≡ number e → o ≡ None) → cond (is_at (cmp (part e)) p && (number e == n)) true (has_part cmp part p o) ≡ has_part cmp part p (cond (n == number e) (Some e) o)
  put_case p n e o h = by_test (n == number e) refl
    where
      here : (a b : Bool) → a ≡ b → cond (a && true) true false ≡ b
      here true b h = h
      here false b h = h

      away : (a c : Bool) → cond (a && false) true c ≡ c
      away true c = refl
      away false c = refl

      by_test : (b : Bool) → (n == number e) ≡ b → cond (is_at (cmp (part e)) p && (number e == n)) true (has_part cmp part p o) ≡ has_part cmp part p (cond b (Some e) o)
      by_test true t =
          ap (λ x. cond (is_at (cmp (part e)) p && x) true (has_part cmp part p o)) (number_tells.flip (number e) n ∙ t)
          ∙ ap (λ x. cond (is_at (cmp (part e)) p && true) true (has_part cmp part p x)) (h (eqb-true n (number e) t))
          ∙ here (is_at (cmp (part e)) p) (is_at (cmp p) (part e)) (at_flip total (part e) p)
      by_test false f = ap (λ x. cond (is_at (cmp (part e)) p && x) true (has_part cmp part p o)) (number_tells.flip (number e) n ∙ f) ∙ away (is_at (cmp (part e)) p) (has_part cmp part p o)

  pub listed_put : (rank : X → ℕ) (e : X) (p : K) (n : ℕ) (es now : List X) (old new : List (K × ℕ)) → IsListed cmp part number es old → p ≡ part e → n ≡ number e → find (has number (number e)) es ≡ None → now ≡ insert_in rank number e es → Changes cmp p n true old new → IsListed cmp part number now new
  listed_put rank e p n es now old new i a b none h u = subst (λ r. IsListed cmp part number r new) (sym h) (record {
    apart = apart_put number_tells number rank number e es i.apart none;
    listed = λ q k.
        u (q, k)
        ∙ ap (λ t. cond t true (list_any (is_at (group_cmp cmp (q, k))) old)) (group_at cmp p q n k ∙ ap (λ x. is_at (cmp x) q && (n == k)) a ∙ ap (λ x. is_at (cmp (part e)) q && (x == k)) b)
        ∙ ap (cond (is_at (cmp (part e)) q && (number e == k)) true) (i.listed q k)
        ∙ put_case q k e (find (has number k) es) (λ t. ap (λ x. find (has number x) es) t ∙ none)
        ∙ sym (ap (has_part cmp part q) (find_put number_tells number rank number e es k none));
  })

  gone_case : (p q : K) (n k : ℕ) (r : X) (o : Option X) → (k ≡ n → o ≡ Some r) → p ≡ part r → cond (is_at (cmp p) q && (n == k)) false (has_part cmp part q o) ≡ has_part cmp part q (cond (k == n) None o)
  gone_case p q n k r o h e = by_test (k == n) refl
    where
      here : (a b : Bool) → a ≡ b → cond (a && true) false b ≡ false
      here true b h = refl
      here false b h = sym h

      away : (a c : Bool) → cond (a && false) false c ≡ c
      away true c = refl
      away false c = refl

      by_test : (b : Bool) → (k == n) ≡ b → cond (is_at (cmp p) q && (n == k)) false (has_part cmp part q o) ≡ has_part cmp part q (cond b None o)
      by_test true t =
          ap (λ x. cond (is_at (cmp p) q && x) false (has_part cmp part q o)) (number_tells.flip n k ∙ t)
          ∙ ap (λ x. cond (is_at (cmp p) q && true) false (has_part cmp part q x)) (h (eqb-true k n t))
          ∙ here (is_at (cmp p) q) (is_at (cmp q) (part r)) (at_flip total p q ∙ ap (is_at (cmp q)) e)
      by_test false f = ap (λ x. cond (is_at (cmp p) q && x) false (has_part cmp part q o)) (number_tells.flip n k ∙ f) ∙ away (is_at (cmp p) q) (has_part cmp part q o)

  pub listed_removed : (p : K) (n : ℕ) (r : X) (es now : List X) (old new : List (K × ℕ)) → IsListed cmp part number es old → find (has number n) es ≡ Some r → p ≡ part r → now ≡ without number n es → Changes cmp p n false old new → IsListed cmp part number now new
  listed_removed p n r es now old new i f e h u = subst (λ l. IsListed cmp part number l new) (sym h) (record {
    apart = apart_left number_tells number (λ x. not (has number n x)) es i.apart;
    listed = λ q k.
        u (q, k)
        ∙ ap (λ t. cond t false (list_any (is_at (group_cmp cmp (q, k))) old)) (group_at cmp p q n k)
        ∙ ap (cond (is_at (cmp p) q && (n == k)) false) (i.listed q k)
        ∙ gone_case p q n k r (find (has number k) es) (λ t. ap (λ x. find (has number x) es) t ∙ f) e
        ∙ sym (ap (has_part cmp part q) (find_gone number_tells number n k es));
  })

  -- what a test found and took went by its number
  pub listed_taken : (t : X → Bool) (p : K) (n : ℕ) (r : X) (es now : List X) (old new : List (K × ℕ)) → IsListed cmp part number es old → find t es ≡ Some r → p ≡ part r → n ≡ number r → now ≡ without number (number r) es → Changes cmp p n false old new → IsListed cmp part number now new
  listed_taken t p n r es now old new i f a b h u = listed_removed p n r es now old new i (ap (λ m. find (has number m) es) b ∙ found_by number_tells number t es r i.apart f) a (h ∙ ap (λ m. without number m es) (sym b)) u

  -- a pair that came and went
  pub listed_back : (p : K) (n : ℕ) (es now : List X) (pairs more back : List (K × ℕ)) → IsListed cmp part number es pairs → find (has number n) es ≡ None → now ≡ es → Changes cmp p n true pairs more → Changes cmp p n false more back → IsListed cmp part number now back
  listed_back p n es now pairs more back i none same u v = subst (λ r. IsListed cmp part number r back) (sym same) (record {
    apart = i.apart;
    listed = λ q m. v (q, m) ∙ ap (cond (is_at (group_cmp cmp (p, n)) (q, m)) false) (u (q, m))
        ∙ undo (is_at (group_cmp cmp (p, n)) (q, m)) false true (list_any (is_at (group_cmp cmp (q, m))) pairs) (λ t. i.listed q m ∙ ap (λ x. has_part cmp part q (find (has number x) es)) (number_of q m t) ∙ ap (has_part cmp part q) none)
        ∙ i.listed q m;
  })
    where
      right_side : (a b : Bool) → (a && b) ≡ true → b ≡ true
      right_side true b h = h
      right_side false b h = cc

      number_of : (q : K) (m : ℕ) → is_at (group_cmp cmp (p, n)) (q, m) ≡ true → m ≡ n
      number_of q m t = sym (eqb-true n m (right_side (is_at (cmp p) q) (n == m) (sym (group_at cmp p q n m) ∙ t)))

-- ---- dropping the entries of a run, one by one

module _ {X : Type 0} (part number : X → ℕ) where
  -- the entry of a number has the part, so dropping it first changes nothing
  pub dropped_same : (p n : ℕ) (es : List X) → AreApart number es → has_part nat_cmp part p (find (has number n) es) ≡ true → without part p (without number n es) ≡ without part p es
  dropped_same p n [] a h = refl
  dropped_same p n (e ∷ es) a h = by_test (n == number e) refl h (dropped_same p n es a.1)
    where
      both : (b : Bool) → without part p (without number n es) ≡ without part p es → cond (not b) (e ∷ without part p (without number n es)) (without part p (without number n es)) ≡ cond (not b) (e ∷ without part p es) (without part p es)
      both b h = ap (λ r. cond (not b) (e ∷ r) r) h

      by_test : (b : Bool) → (n == number e) ≡ b → has_part nat_cmp part p (cond b (Some e) (find (has number n) es)) ≡ true → (has_part nat_cmp part p (find (has number n) es) ≡ true → without part p (without number n es) ≡ without part p es)
          → without part p (cond (not b) (e ∷ without number n es) (without number n es)) ≡ cond (not (has part p e)) (e ∷ without part p es) (without part p es)
      by_test true t h more = ap (without part p) (filter_none (has number n) es (ap (λ k. find (has number k) es) (eqb-true n (number e) t) ∙ a.0)) ∙ sym (ap (λ b. cond (not b) (e ∷ without part p es) (without part p es)) (sym (at_number p (part e)) ∙ h))
      by_test false t h more = both (has part p e) (more h)

  some_part : (p : ℕ) (o : Option X) → has_part nat_cmp part p o ≡ true → (e : X) × (o ≡ Some e)
  some_part p None h = cc
  some_part p (Some e) h = (e, refl)

  -- the set has a pair of the run, so its entry is there
  taken_one : (p n : ℕ) (es : List X) (pairs : List (ℕ × ℕ)) → IsListed nat_cmp part number es pairs → list_any (is_at (pair_cmp (p, n))) pairs ≡ true
      → (e : X) × (find (has number n) es ≡ Some e) × (p ≡ part e) × (n ≡ number e) × (without part p (without number n es) ≡ without part p es)
  taken_one p n es pairs i h =
      let has_it = sym (i.listed p n) ∙ h in
      let some = some_part p (find (has number n) es) has_it in (
        some.0,
        some.1,
        eqb-true p (part some.0) (sym (at_number p (part some.0)) ∙ sym (ap (has_part nat_cmp part p) some.1) ∙ has_it),
        eqb-true n (number some.0) (found (has number n) es some.0 some.1),
        dropped_same p n es i.apart has_it,
      )

  pub taken_of : (p n : ℕ) (es new : List X) (pairs : List (ℕ × ℕ)) (o : Option X) → IsListed nat_cmp part number es pairs → list_any (is_at (pair_cmp (p, n))) pairs ≡ true → o ≡ find (has number n) es → new ≡ without number n es
      → IfSome o (λ e. IsTakenOf part number p es e new)
  taken_of p n es new pairs o i h f w =
      let one = taken_one p n es pairs i h in
      subst (λ r. IfSome r (λ e. IsTakenOf part number p es e new)) (sym (f ∙ one.1)) (record {
        its = one.2;
        held = ap (λ k. find (has number k) es) (sym one.3) ∙ one.1;
        left = w ∙ ap (λ k. without number k es) one.3;
        rest = ap (without part p) w ∙ one.4;
        fewer = subst (λ l. length l < length es) (sym w) (fewer_without (has number n) es one.0 one.1);
      })

  pub never_none : (A : Type 0) (p n : ℕ) (es : List X) (pairs : List (ℕ × ℕ)) (o : Option X) → IsListed nat_cmp part number es pairs → list_any (is_at (pair_cmp (p, n))) pairs ≡ true → o ≡ find (has number n) es → IfNone o A
  never_none A p n es pairs o i h f = subst (λ r. IfNone r A) (sym (f ∙ (taken_one p n es pairs i h).1)) tt

  -- no pair of the part, so no entry of it
  pub none_left : (p : ℕ) (es : List X) (pairs : List (ℕ × ℕ)) → IsListed nat_cmp part number es pairs → ((n : ℕ) → list_any (is_at (pair_cmp (p, n))) pairs ≡ true → true ≡ false) → find (has part p) es ≡ None
  none_left p es pairs i h = by_found (find (has part p) es) refl
    where
      by_found : (o : Option X) → find (has part p) es ≡ o → o ≡ None
      by_found None f = refl
      by_found (Some e) f = let no = h (number e) (i.listed p (number e) ∙ ap (has_part nat_cmp part p) (found_by number_tells number (has part p) es e i.apart f) ∙ at_number p (part e) ∙ found (has part p) es e f) in cc

-- ---- the first pair of a part, and what there is where it is another's

pub at_first : {A : Type 0} (P : A → Type 0) (rest t : List A) (k : A) → rest ≡ k ∷ t → IfSome (slice_get rest 0) P → P k
at_first P rest t k e h = let same = subst (λ r. IfSome (slice_get r 0) P) e h in same

pub from_zero : (p n : ℕ) → is_gt (pair_cmp (p, 0) (p, n)) ≡ false
from_zero p n = grind (arith, nat_tests)

pub no_other : (p n a b : ℕ) → is_gt (pair_cmp (p, 0) (a, b)) ≡ false → is_gt (pair_cmp (a, b) (p, n)) ≡ false → (a ≡ p → ⊥) → true ≡ false
no_other p n a b h k f = absurd (f (same a b h k))
  where
    same : (a b : ℕ) → is_gt (pair_cmp (p, 0) (a, b)) ≡ false → is_gt (pair_cmp (a, b) (p, n)) ≡ false → a ≡ p
    same a b h k = grind (arith, nat_tests)

-- The numbers of one group, gathered from a set in order.
use Rattle.std.proofs.Common.{◌≡◌, ℕ, ◌==◌, Bool, true, false, cond, not, ◌&&◌, ◌||◌, List, [], ◌∷◌, filter, refl, sym, ap, ◌∙◌, arith, subst}
use Rattle.std.specs.Cmp.{IsTotalOrder}
use Rattle.std.specs.List.{list_any, AllByRecursion}
use Rattle.std.specs.List.Sorted.{IsStrictlySortedBy}
use Rattle.std.specs.BTreeMap.{is_at}
use Rattle.std.specs.BTreeMap.Range.{range_contains}
use Rattle.std.specs.Ordering.{nat_cmp, ordering_then, is_le, is_gt, is_eq}
use Rattle.std.specs.declared.cmp.Ordering.{Ordering}
use Rattle.std.specs.declared.cmp.Ordering.TheVariants.{Less, Equal, Greater}
use Rattle.std.specs.declared.ops.Bound.TheVariants.{Included, Unbounded}
use Rattle.std.proofs.lemmas.Bool.Decides.{nat_tests}
use Rattle.std.proofs.lemmas.List.Kept.{IsStrictlySortedBy-filter}
use Rattle.std.proofs.lemmas.Map.Keys.{sorted_head, sorted_tail}
use Rattle.std.proofs.lemmas.Map.Views.{any-filter_same}
use Rattle.lists.proofs.Elements.{filter-passes, all-weaker}
use Rattle.ordered.specs.Indexes.{group_cmp}
use Rattle.ordered.proofs.Apart.{number_tells, at_number}
use Rattle.ordered.proofs.Listed.{group_at}
use Rattle.matching.specs.Places.{has_number}
use Rattle.matching.proofs.Order.{any_none, before}

-- what is left of the range, and what was found so far
pub record IsGathering {K : Type 0} (cmp : K → K → Ordering) (key : K) (first found : List ℕ) (all rest : List (K × ℕ)) : Type 0 where
  pub sorted : IsStrictlySortedBy (group_cmp cmp) rest
  pub above : AllByRecursion (λ q. is_gt (cmp key q.0) ≡ false) rest
  pub same : (n : ℕ) → (has_number found n || list_any (is_at (group_cmp cmp (key, n))) rest) ≡ (has_number first n || list_any (is_at (group_cmp cmp (key, n))) all)

above_by : (o : Ordering) (m : ℕ) → (is_le (ordering_then o (nat_cmp 0 m)) && true) ≡ true → is_gt o ≡ false
above_by Less m h = refl
above_by Equal m h = refl
above_by Greater m h = cc

from_zero : (m : ℕ) → (is_le (nat_cmp 0 m) && true) ≡ true
from_zero m = grind (arith, nat_tests)

in_range : (o : Ordering) (n m : ℕ) → is_eq (ordering_then o (nat_cmp n m)) ≡ true → (is_le (ordering_then o (nat_cmp 0 m)) && true) ≡ true
in_range Less n m h = refl
in_range Equal n m h = from_zero m
in_range Greater n m h = cc

join : (e a t : Bool) → (cond e true a || t) ≡ (a || (e || t))
join true true t = refl
join true false t = refl
join false a t = refl

less_from : (o : Ordering) → is_gt o ≡ false → is_eq o ≡ false → o ≡ Less
less_from Less h k = refl
less_from Equal h k = cc
less_from Greater h k = cc

left_above : (o p : Ordering) → ordering_then o p ≡ Less → is_gt o ≡ false
left_above Less p h = refl
left_above Equal p h = refl
left_above Greater p h = cc

or_false : (a : Bool) → (a || false) ≡ a
or_false true = refl
or_false false = refl

not_at : (o : Ordering) (b : Bool) → o ≡ Less → (is_eq o && b) ≡ false
not_at o b h = rw h refl

pub told_true : (b c : Bool) → b ≡ c → true ≡ not b → c ≡ false
told_true true c h k = cc
told_true false c h k = sym h

pub told_false : (b c : Bool) → b ≡ c → false ≡ not b → c ≡ true
told_false true c h k = sym h
told_false false c h k = cc

module _ {K : Type 0} {cmp : K → K → Ordering} (total : IsTotalOrder cmp) where
  pub gathering_starts : (start : K × ℕ) (found : List ℕ) (all rest : List (K × ℕ)) → start.1 ≡ 0 → IsStrictlySortedBy (group_cmp cmp) all → rest ≡ filter (range_contains (group_cmp cmp) (Included start) Unbounded) all → IsGathering cmp start.0 found found all rest
  gathering_starts (key, m) found all rest z s h = subst (IsGathering cmp key found found all) (sym (h ∙ ap (λ k. filter (range_contains (group_cmp cmp) (Included (key, k)) Unbounded) all) z)) (record {
    sorted = IsStrictlySortedBy-filter (group_cmp cmp) (range_contains (group_cmp cmp) (Included (key, 0)) Unbounded) all s;
    above = all-weaker _ (λ q. is_gt (cmp key q.0) ≡ false) _ (λ q t. above_by (cmp key q.0) q.1 t) (filter-passes (range_contains (group_cmp cmp) (Included (key, 0)) Unbounded) all);
    same = λ n. ap (λ b. has_number found n || b) (any-filter_same (is_at (group_cmp cmp (key, n))) (range_contains (group_cmp cmp) (Included (key, 0)) Unbounded) true (λ q t. in_range (cmp key q.0) n q.1 t) all);
  })

  pub gathering_on : (key : K) (first found new : List ℕ) (all t : List (K × ℕ)) (q : K × ℕ) → IsGathering cmp key first found all (q ∷ t) → is_at (cmp key) q.0 ≡ true
      → ((n : ℕ) → has_number new n ≡ cond (is_at (nat_cmp q.1) n) true (has_number found n)) → IsGathering cmp key first new all t
  gathering_on key first found new all t q i e u = record {
    sorted = sorted_tail (group_cmp cmp) q t i.sorted;
    above = i.above.1;
    same = λ n.
        ap (λ b. b || list_any (is_at (group_cmp cmp (key, n))) t) (u n ∙ ap (λ b. cond b true (has_number found n)) (at_number q.1 n ∙ number_tells.flip q.1 n))
        ∙ join (n == q.1) (has_number found n) (list_any (is_at (group_cmp cmp (key, n))) t)
        ∙ ap (λ b. has_number found n || (b || list_any (is_at (group_cmp cmp (key, n))) t)) (sym (group_at cmp key q.0 n q.1 ∙ ap (λ b. b && (n == q.1)) e))
        ∙ i.same n;
  }

  pub gathering_done : (key : K) (first found : List ℕ) (all : List (K × ℕ)) → IsGathering cmp key first found all [] → (n : ℕ) → has_number found n ≡ (has_number first n || list_any (is_at (group_cmp cmp (key, n))) all)
  gathering_done key first found all i n = sym (or_false (has_number found n)) ∙ i.same n

  pub gathering_stops : (key : K) (first found : List ℕ) (all t : List (K × ℕ)) (q : K × ℕ) → IsGathering cmp key first found all (q ∷ t) → is_at (cmp key) q.0 ≡ false → (n : ℕ) → has_number found n ≡ (has_number first n || list_any (is_at (group_cmp cmp (key, n))) all)
  gathering_stops key first found all t q i e n =
      let less = less_from (cmp key q.0) i.above.0 e in
      sym (or_false (has_number found n))
      ∙ ap (λ b. has_number found n || b) (sym (any_none (is_at (group_cmp cmp (key, n))) (q ∷ t) (
        group_at cmp key q.0 n q.1 ∙ not_at (cmp key q.0) (n == q.1) less,
        all-weaker _ (λ x. is_at (group_cmp cmp (key, n)) x ≡ false) t (λ x b. group_at cmp key x.0 n x.1 ∙ not_at (cmp key x.0) (n == x.1) (before total key q.0 x.0 less (left_above (cmp q.0 x.0) (nat_cmp q.1 x.1) b))) (sorted_head (group_cmp cmp) q t i.sorted),
      )))
      ∙ i.same n

-- Pairs of a thing and a number: what came, what went, and the numbers of one thing.
use Rattle.std.proofs.Common.{◌≡◌, ℕ, ◌==◌, Bool, true, false, cond, not, ◌&&◌, ◌||◌, List, [], ◌∷◌, ◌++◌, map, filter, refl, sym, ap, ◌∙◌, arith, subst, append_assoc}
use Rattle.std.specs.BTreeMap.{is_at}
use Rattle.std.specs.BTreeMap.Range.{range_contains}
use Rattle.std.specs.List.{list_any, AllByRecursion}
use Rattle.std.specs.List.Sorted.{IsStrictlySortedBy}
use Rattle.std.specs.Ordering.{nat_cmp, is_gt, is_le}
use Rattle.std.specs.declared.cmp.Ordering.TheVariants.{Less}
use Rattle.std.specs.declared.ops.Bound.TheVariants.{Included, Unbounded}
use Rattle.std.proofs.lemmas.Bool.Decides.{nat_tests}
use Rattle.std.proofs.lemmas.List.Folds.{list_any-append}
use Rattle.std.proofs.lemmas.List.Kept.{IsStrictlySortedBy-filter}
use Rattle.std.proofs.lemmas.Map.Keys.{sorted_head, sorted_tail}
use Rattle.lists.proofs.Elements.{filter-passes, all-weaker}
use Rattle.lists.specs.Entries.{pair_cmp}
use Rattle.runs.specs.Mentions.{mentions, numbers_of, IsJoined, IsParted}
use Rattle.runs.specs.Runs.{is_in}

-- ---- one pair

pub pair_at : (p n a b : ℕ) → is_at (pair_cmp (p, n)) (a, b) ≡ (p == a && n == b)
pair_at p n a b = grind (arith, nat_tests)

one_at : (p n a b : ℕ) → is_at (pair_cmp (p, n)) (a, b) ≡ (is_in a (p ∷ []) && b == n)
one_at p n a b = grind (arith, nat_tests)

comes : (e t : Bool) → cond e true t ≡ (e || t)
comes true t = refl
comes false t = refl

goes : (e t : Bool) → cond e false t ≡ (not e && t)
goes true t = refl
goes false t = refl

-- what a set's `updates` says of a pair that came or went
abbrev pub Sets : ℕ × ℕ → Bool → List (ℕ × ℕ) → List (ℕ × ℕ) → Type 0
Sets pair b old new = (q : ℕ × ℕ) → list_any (is_at (pair_cmp q)) new ≡ cond (is_at (pair_cmp pair) q) b (list_any (is_at (pair_cmp q)) old)

pub joined_one : (p n : ℕ) (old new : List (ℕ × ℕ)) → Sets (p, n) true old new → IsJoined (p ∷ []) n old new
joined_one p n old new u = record { each = λ a b. u (a, b) ∙ ap (λ e. cond e true (mentions old a b)) (one_at p n a b) ∙ comes (is_in a (p ∷ []) && b == n) (mentions old a b) }

pub parted_one : (p n : ℕ) (old new : List (ℕ × ℕ)) → Sets (p, n) false old new → IsParted (p ∷ []) n old new
parted_one p n old new u = record { each = λ a b. u (a, b) ∙ ap (λ e. cond e false (mentions old a b)) (one_at p n a b) ∙ goes (is_in a (p ∷ []) && b == n) (mentions old a b) }

-- ---- one after another

pub joined_none : (n : ℕ) (old : List (ℕ × ℕ)) → IsJoined [] n old old
joined_none n old = record { each = λ p m. refl }

pub parted_none : (n : ℕ) (old : List (ℕ × ℕ)) → IsParted [] n old old
parted_none n old = record { each = λ p m. refl }

join_both : (a c e t : Bool) → ((c && e) || ((a && e) || t)) ≡ (((a || c) && e) || t)
join_both true true true t = refl
join_both true true false t = refl
join_both true false true t = refl
join_both true false false t = refl
join_both false true true t = refl
join_both false true false t = refl
join_both false false true t = refl
join_both false false false t = refl

part_both : (a c e t : Bool) → (not (c && e) && (not (a && e) && t)) ≡ (not ((a || c) && e) && t)
part_both true true true t = refl
part_both true true false t = refl
part_both true false true t = refl
part_both true false false t = refl
part_both false true true t = refl
part_both false true false t = refl
part_both false false true t = refl
part_both false false false t = refl

in_more : (p : ℕ) (xs more : List ℕ) (x : ℕ) → more ≡ xs ++ x ∷ [] → is_in p more ≡ (is_in p xs || is_in p (x ∷ []))
in_more p xs more x e = ap (is_in p) e ∙ list_any-append (λ n. p == n) xs (x ∷ [])

pub joined_on : (xs more : List ℕ) (x n : ℕ) (first old new : List (ℕ × ℕ)) → more ≡ xs ++ x ∷ [] → IsJoined xs n first old → IsJoined (x ∷ []) n old new → IsJoined more n first new
joined_on xs more x n first old new e j k = record {
  each = λ p m.
      k.each p m
      ∙ ap (λ t. (is_in p (x ∷ []) && m == n) || t) (j.each p m)
      ∙ join_both (is_in p xs) (is_in p (x ∷ [])) (m == n) (mentions first p m)
      ∙ ap (λ b. (b && m == n) || mentions first p m) (sym (in_more p xs more x e));
}

pub parted_on : (xs more : List ℕ) (x n : ℕ) (first old new : List (ℕ × ℕ)) → more ≡ xs ++ x ∷ [] → IsParted xs n first old → IsParted (x ∷ []) n old new → IsParted more n first new
parted_on xs more x n first old new e j k = record {
  each = λ p m.
      k.each p m
      ∙ ap (λ t. not (is_in p (x ∷ []) && m == n) && t) (j.each p m)
      ∙ part_both (is_in p xs) (is_in p (x ∷ [])) (m == n) (mentions first p m)
      ∙ ap (λ b. not (b && m == n) && mentions first p m) (sym (in_more p xs more x e));
}

-- ---- the numbers of one thing

-- what is left of the pairs from a thing on, and the numbers that were found so far
pub record IsGathering (p : ℕ) (found : List ℕ) (all rest : List (ℕ × ℕ)) : Type 0 where
  pub sorted : IsStrictlySortedBy pair_cmp rest
  pub above : AllByRecursion (λ (q : ℕ × ℕ). is_gt (nat_cmp p q.0) ≡ false) rest
  pub same : found ++ numbers_of p rest ≡ numbers_of p all

from_start : (p a b : ℕ) → (is_le (pair_cmp (p, 0) (a, b)) && true) ≡ true → is_gt (nat_cmp p a) ≡ false
from_start p a b h = grind (arith, nat_tests, h)

at_start : (p a b : ℕ) → (p == a) ≡ true → (is_le (pair_cmp (p, 0) (a, b)) && true) ≡ true
at_start p a b h = grind (arith, nat_tests, h)

filter_both : (t c : ℕ × ℕ → Bool) → ((q : ℕ × ℕ) → t q ≡ true → c q ≡ true) → (qs : List (ℕ × ℕ)) → filter t (filter c qs) ≡ filter t qs
filter_both t c h [] = refl
filter_both t c h (q ∷ qs) = by_tests (t q) (c q) refl refl (filter_both t c h qs)
  where
    by_tests : (a b : Bool) → t q ≡ a → c q ≡ b → filter t (filter c qs) ≡ filter t qs → filter t (cond b (q ∷ filter c qs) (filter c qs)) ≡ cond a (q ∷ filter t qs) (filter t qs)
    by_tests true true e f more = rw e (ap (λ r. q ∷ r) more)
    by_tests true false e f more = let no : true ≡ false = sym (h q e) ∙ f in cc
    by_tests false true e f more = rw e more
    by_tests false false e f more = more

pub gathering_starts : (p : ℕ) (all rest : List (ℕ × ℕ)) → IsStrictlySortedBy pair_cmp all → rest ≡ filter (range_contains pair_cmp (Included (p, 0)) Unbounded) all → IsGathering p [] all rest
gathering_starts p all rest s h = subst (IsGathering p [] all) (sym h) (record {
  sorted = IsStrictlySortedBy-filter pair_cmp (range_contains pair_cmp (Included (p, 0)) Unbounded) all s;
  above = all-weaker _ (λ (q : ℕ × ℕ). is_gt (nat_cmp p q.0) ≡ false) _ (λ q t. from_start p q.0 q.1 t) (filter-passes (range_contains pair_cmp (Included (p, 0)) Unbounded) all);
  same = ap (map (λ (q : ℕ × ℕ). q.1)) (filter_both (λ (q : ℕ × ℕ). p == q.0) (range_contains pair_cmp (Included (p, 0)) Unbounded) (λ q t. at_start p q.0 q.1 t) all);
})

pub gathering_on : (p : ℕ) (found : List ℕ) (all t : List (ℕ × ℕ)) (q : ℕ × ℕ) → IsGathering p found all (q ∷ t) → (p == q.0) ≡ true → IsGathering p (found ++ q.1 ∷ []) all t
gathering_on p found all t q g e = record {
  sorted = sorted_tail pair_cmp q t g.sorted;
  above = g.above.1;
  same =
      append_assoc found (q.1 ∷ []) (numbers_of p t)
      ∙ ap (λ b. found ++ map (λ (r : ℕ × ℕ). r.1) (cond b (q ∷ filter (λ (r : ℕ × ℕ). p == r.0) t) (filter (λ (r : ℕ × ℕ). p == r.0) t))) (sym e)
      ∙ g.same;
}

append_none : (xs : List ℕ) → xs ++ [] ≡ xs
append_none [] = refl
append_none (x ∷ xs) = ap (λ r. x ∷ r) (append_none xs)

pub gathering_done : (p : ℕ) (found : List ℕ) (all : List (ℕ × ℕ)) → IsGathering p found all [] → found ≡ numbers_of p all
gathering_done p found all g = sym (append_none found) ∙ g.same

none_of : (p : ℕ) (qs : List (ℕ × ℕ)) → AllByRecursion (λ (q : ℕ × ℕ). (p == q.0) ≡ false) qs → numbers_of p qs ≡ []
none_of p [] h = refl
none_of p (q ∷ qs) h = rw h.0 (none_of p qs h.1)

past : (p a b c d : ℕ) → is_gt (nat_cmp p a) ≡ false → (p == a) ≡ false → pair_cmp (a, b) (c, d) ≡ Less → (p == c) ≡ false
past p a b c d g f l = grind (arith, nat_tests, g, f, l)

pub gathering_stops : (p : ℕ) (found : List ℕ) (all t : List (ℕ × ℕ)) (q : ℕ × ℕ) → IsGathering p found all (q ∷ t) → (p == q.0) ≡ false → found ≡ numbers_of p all
gathering_stops p found all t q g e =
    sym (append_none found)
    ∙ ap (λ r. found ++ r) (sym (none_of p (q ∷ t) (e, all-weaker _ (λ (x : ℕ × ℕ). (p == x.0) ≡ false) t (λ x l. past p q.0 q.1 x.0 x.1 g.above.0 e l) (sorted_head pair_cmp q t g.sorted))))
    ∙ g.same

-- ---- whether there is one

pub false_unless : (b : Bool) → (b ≡ true → true ≡ false) → b ≡ false
false_unless true h = h refl
false_unless false h = refl

pub same_test : (a p : ℕ) → a ≡ p → (p == a) ≡ true
same_test a p h = grind (arith, nat_tests, h)

pub other_test : (a p : ℕ) → (a ≡ p → ⊥) → (p == a) ≡ false
other_test a p h = grind (arith, nat_tests, h)

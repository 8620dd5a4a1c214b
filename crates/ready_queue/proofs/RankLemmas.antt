-- Ranks in their order, the first of two, and the first of a list's items that pass.
use Rattle.std.proofs.Common.{◌≡◌, ℕ, ℤ, ◌<◌, Bool, true, false, cond, List, [], ◌∷◌, Option, Some, None, refl, sym, ap, ap₂, ◌∙◌, subst}
use Rattle.std.specs.Prelude.{◌<ℤ◌}
use Rattle.std.specs.Cmp.{IsTotalOrder}
use Rattle.std.specs.List.{AllByRecursion}
use Rattle.std.specs.Ordering.{nat_cmp, int_cmp, ordering_then, ordering_reverse, is_gt, is_lt, MatchOrdering}
use Rattle.std.specs.declared.cmp.Ordering.{Ordering}
use Rattle.std.specs.declared.cmp.Ordering.TheVariants.{Less, Equal, Greater}
use Rattle.std.proofs.lemmas.Cmp.{nat_cmp_total, int_cmp_total, on_total, then_total, upto, tied_itself, ranked, int_ranked}
use Rattle.lists.proofs.Elements.{all-weaker}
use Rattle.kinds.specs.declared.store.Item.{Item}
use Rattle.ready_queue.specs.Heads.{rank, rank_cmp, joined, least_rank}

abbrev pub Rank : Type 0
Rank = ℤ × ℕ

pub rank_total : IsTotalOrder rank_cmp
rank_total = then_total (on_total (λ (p : Rank). p.0) int_cmp_total) (on_total (λ (p : Rank). p.1) nat_cmp_total)

-- ---- no later than

abbrev pub IsUpTo : Rank → Rank → Type 0
IsUpTo a b = is_gt (rank_cmp a b) ≡ false

pub itself : (a : Rank) → IsUpTo a a
itself a = ap is_gt (tied_itself rank_total a)

pub up_to : (a b c : Rank) → IsUpTo a b → IsUpTo b c → IsUpTo a c
up_to a b c = upto rank_total a b c

turned : (o : Ordering) → is_gt o ≡ true → is_gt (ordering_reverse o) ≡ false
turned Less h = cc
turned Equal h = cc
turned Greater h = refl

-- what isn't up to another comes behind it
pub other_way : (a b : Rank) → is_gt (rank_cmp a b) ≡ true → IsUpTo b a
other_way a b h = ap is_gt (rank_total.antisymm b a) ∙ turned (rank_cmp a b) h

less_turned : (o : Ordering) → is_lt o ≡ true → is_gt (ordering_reverse o) ≡ true
less_turned Less h = refl
less_turned Equal h = cc
less_turned Greater h = cc

pub behind : (a b : Rank) → is_lt (rank_cmp a b) ≡ true → is_gt (rank_cmp b a) ≡ true
behind a b h = ap is_gt (rank_total.antisymm b a) ∙ less_turned (rank_cmp a b) h

both_equal : (o : Ordering) → is_gt o ≡ false → is_gt (ordering_reverse o) ≡ false → o ≡ Equal
both_equal Less h k = cc
both_equal Equal h k = refl
both_equal Greater h k = cc

pub then_equal : (a b : Ordering) → ordering_then a b ≡ Equal → (a ≡ Equal) × (b ≡ Equal)
then_equal Less b h = cc
then_equal Equal b h = (refl, h)
then_equal Greater b h = cc

pub same_rank : (a b : Rank) → IsUpTo a b → IsUpTo b a → a ≡ b
same_rank a b h k =
    let equal = both_equal (rank_cmp a b) h (sym (ap is_gt (rank_total.antisymm b a)) ∙ k) in
    let parts = then_equal (int_cmp a.0 b.0) (nat_cmp a.1 b.1) equal in
    let score = subst (λ o. MatchOrdering o (a.0 <ℤ b.0) (a.0 ≡ b.0) (b.0 <ℤ a.0)) parts.0 (int_ranked a.0 b.0 (int_cmp a.0 b.0) refl) in
    let number = subst (λ o. MatchOrdering o (a.1 < b.1) (a.1 ≡ b.1) (b.1 < a.1)) parts.1 (ranked a.1 b.1 (nat_cmp a.1 b.1) refl) in
    ap₂ (λ s n. (s, n)) score number

-- ---- the first of two

-- what was found isn't after this
abbrev pub IsWithin : Option Rank → Rank → Type 0
IsWithin None x = ⊥
IsWithin (Some b) x = IsUpTo b x

pub within_first : (a : Rank) (o : Option Rank) → IsWithin (joined (Some a) o) a
within_first a None = itself a
within_first a (Some c) = by_order (is_gt (rank_cmp a c)) refl
  where
    by_order : (g : Bool) → is_gt (rank_cmp a c) ≡ g → IsWithin (cond g (Some c) (Some a)) a
    by_order true h = other_way a c h
    by_order false h = itself a

pub within_joined : (a : Rank) (o : Option Rank) (x : Rank) → IsWithin o x → IsWithin (joined (Some a) o) x
within_joined a None x w = absurd w
within_joined a (Some c) x w = by_order (is_gt (rank_cmp a c)) refl
  where
    by_order : (g : Bool) → is_gt (rank_cmp a c) ≡ g → IsWithin (cond g (Some c) (Some a)) x
    by_order true h = w
    by_order false h = up_to a c x h w

pub joined_none : (b : Option Rank) → joined b None ≡ b
joined_none None = refl
joined_none (Some b) = refl

-- ---- the first that passes

pub bound : (p : Item → Bool) (xs : List Item) → AllByRecursion (λ x. p x ≡ true → IsWithin (least_rank p xs) (rank x)) xs
unfolding least_rank
bound p [] = tt
bound p (i ∷ is) = by_test (p i) refl (bound p is)
  where
    by_test : (b : Bool) → p i ≡ b → AllByRecursion (λ x. p x ≡ true → IsWithin (least_rank p is) (rank x)) is
        → (p i ≡ true → IsWithin (cond b (joined (Some (rank i)) (least_rank p is)) (least_rank p is)) (rank i))
        × AllByRecursion (λ x. p x ≡ true → IsWithin (cond b (joined (Some (rank i)) (least_rank p is)) (least_rank p is)) (rank x)) is
    by_test true h more = (
      λ k. within_first (rank i) (least_rank p is),
      all-weaker (λ x. p x ≡ true → IsWithin (least_rank p is) (rank x)) (λ x. p x ≡ true → IsWithin (joined (Some (rank i)) (least_rank p is)) (rank x)) is
          (λ x f k. within_joined (rank i) (least_rank p is) (rank x) (f k)) more,
    )
    by_test false h more = (λ k. absurd_bool (sym h ∙ k), more)
      where
        absurd_bool : false ≡ true → IsWithin (least_rank p is) (rank i)
        absurd_bool e = cc

-- what is found is an item that passes, and whatever holds of all items holds of it
pub record IsFound (P : Item → Type 0) (p : Item → Bool) (b : Rank) : Type 0 where
  pub item : Item
  pub holds : P item
  pub passes : p item ≡ true
  pub is : rank item ≡ b

pub found : (P : Item → Type 0) (p : Item → Bool) (xs : List Item) (b : Rank) → AllByRecursion P xs → least_rank p xs ≡ Some b → IsFound P p b
unfolding least_rank
found P p [] b all h = cc
found P p (i ∷ is) b all h = by_test (p i) refl (found P p is b all.1) h
  where
    by_order : (o : Option Rank) → p i ≡ true → (o ≡ Some b → IsFound P p b) → joined (Some (rank i)) o ≡ Some b → IsFound P p b
    by_order None t more h = record { item = i; holds = all.0; passes = t; is = cc }
    by_order (Some c) t more h = by_first (is_gt (rank_cmp (rank i) c)) h
      where
        by_first : (g : Bool) → cond g (Some c) (Some (rank i)) ≡ Some b → IsFound P p b
        by_first true k = more k
        by_first false k = record { item = i; holds = all.0; passes = t; is = cc }

    by_test : (t : Bool) → p i ≡ t → (least_rank p is ≡ Some b → IsFound P p b) → cond t (joined (Some (rank i)) (least_rank p is)) (least_rank p is) ≡ Some b → IsFound P p b
    by_test true e more k = by_order (least_rank p is) e more k
    by_test false e more k = more k

-- the first of three
pub joined_joined : (best : Option Rank) (r : Rank) (o : Option Rank) → joined (joined best (Some r)) o ≡ joined best (joined (Some r) o)
joined_joined None r o = refl
joined_joined (Some b) r None = joined_none (joined (Some b) (Some r))
joined_joined (Some b) r (Some c) = by_first (is_gt (rank_cmp b r)) (is_gt (rank_cmp r c)) (is_gt (rank_cmp b c)) refl refl refl
  where
    ahead : is_gt (rank_cmp b r) ≡ true → is_gt (rank_cmp b c) ≡ false → is_gt (rank_cmp r c) ≡ true → ⊥
    ahead h n k = apart (sym h ∙ up_to b c r n (other_way r c k))
      where
        apart : true ≡ false → ⊥
        apart e = cc

    behind_all : is_gt (rank_cmp b r) ≡ false → is_gt (rank_cmp r c) ≡ false → is_gt (rank_cmp b c) ≡ true → ⊥
    behind_all h n k = apart (sym k ∙ up_to b r c h n)
      where
        apart : true ≡ false → ⊥
        apart e = cc

    by_first : (x y z : Bool) → is_gt (rank_cmp b r) ≡ x → is_gt (rank_cmp r c) ≡ y → is_gt (rank_cmp b c) ≡ z
        → joined (cond x (Some r) (Some b)) (Some c) ≡ joined (Some b) (cond y (Some c) (Some r))
    by_first true true true h n k = rw (n, k) refl
    by_first true true false h n k = absurd (ahead h k n)
    by_first true false z h n k = rw (n, h) refl
    by_first false true z h n k = refl
    by_first false false true h n k = absurd (behind_all h n k)
    by_first false false false h n k = rw (h, k) refl

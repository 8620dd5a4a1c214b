-- Lists of numbers in order, which are told by the numbers that are in them.
use Rattle.std.proofs.Common.{◌≡◌, ℕ, ◌==◌, Bool, true, false, cond, ◌&&◌, ◌||◌, List, [], ◌∷◌, map, filter, refl, sym, ap, ◌∙◌, arith, subst, eqb-true}
use Rattle.std.specs.BTreeSet.{insert_key}
use Rattle.std.specs.List.{AllByRecursion}
use Rattle.std.specs.List.Sorted.{IsStrictlySortedBy}
use Rattle.std.specs.Ordering.{nat_cmp, match_ordering}
use Rattle.std.specs.declared.cmp.Ordering.{Ordering}
use Rattle.std.specs.declared.cmp.Ordering.TheVariants.{Less, Equal, Greater}
use Rattle.std.proofs.lemmas.Bool.Decides.{nat_tests}
use Rattle.std.proofs.lemmas.Cmp.{nat_cmp_total}
use Rattle.std.proofs.lemmas.Map.Keys.{sorted_head, sorted_tail}
use Rattle.lists.proofs.Elements.{all-weaker}
use Rattle.lists.specs.Entries.{add_number, add_numbers, in_order, pair_cmp}
pub use Rattle.ordered.proofs.Members.{same_numbers}
use Rattle.runs.specs.Mentions.{mentions, numbers_of}
use Rattle.runs.specs.Runs.{is_in}
use Rattle.runs.proofs.Mentioned.{pair_at}

abbrev pub Rises : List ℕ → Type 0
Rises ns = IsStrictlySortedBy nat_cmp ns

pub rises_none : Rises []
unfolding IsStrictlySortedBy
rises_none = tt

pub rises_more : (n : ℕ) (ns : List ℕ) → AllByRecursion (λ m. nat_cmp n m ≡ Less) ns → Rises ns → Rises (n ∷ ns)
unfolding IsStrictlySortedBy
rises_more n ns a s = (a, s)

-- ---- numbers that are put in order

equal_at : (n m : ℕ) → nat_cmp n m ≡ Equal → n ≡ m
equal_at n m e = eqb-true n m (grind (arith, nat_tests, e))

flip_greater : (n m : ℕ) → nat_cmp n m ≡ Greater → nat_cmp m n ≡ Less
flip_greater n m e = grind (arith, nat_tests, e)

same_or : (q n m : ℕ) (b : Bool) → n ≡ m → (q == m || b) ≡ (q == n || (q == m || b))
same_or q n m b e = subst (λ k. (q == m || b) ≡ (q == k || (q == m || b))) (sym e) (twice (q == m) b)
  where
    twice : (a b : Bool) → (a || b) ≡ (a || (a || b))
    twice true b = refl
    twice false b = refl

turn : (a b c : Bool) → (b || (a || c)) ≡ (a || (b || c))
turn true true c = refl
turn true false c = refl
turn false true c = refl
turn false false c = refl

pub in_added : (q n : ℕ) (ns : List ℕ) → is_in q (insert_key nat_cmp ns n) ≡ (q == n || is_in q ns)
in_added q n [] = refl
in_added q n (m ∷ ns) = by_order (nat_cmp n m) refl (in_added q n ns)
  where
    by_order : (o : Ordering) → nat_cmp n m ≡ o → is_in q (insert_key nat_cmp ns n) ≡ (q == n || is_in q ns)
        → is_in q (match_ordering o (n ∷ m ∷ ns) (m ∷ ns) (m ∷ insert_key nat_cmp ns n)) ≡ (q == n || (q == m || is_in q ns))
    by_order Less e more = refl
    by_order Equal e more = same_or q n m (is_in q ns) (equal_at n m e)
    by_order Greater e more = ap (λ b. q == m || b) more ∙ turn (q == n) (q == m) (is_in q ns)

above_added : (l n : ℕ) (ns : List ℕ) → nat_cmp l n ≡ Less → AllByRecursion (λ m. nat_cmp l m ≡ Less) ns → AllByRecursion (λ m. nat_cmp l m ≡ Less) (insert_key nat_cmp ns n)
above_added l n [] h a = (h, tt)
above_added l n (m ∷ ns) h a = by_order (nat_cmp n m) (above_added l n ns h a.1)
  where
    by_order : (o : Ordering) → AllByRecursion (λ k. nat_cmp l k ≡ Less) (insert_key nat_cmp ns n) → AllByRecursion (λ k. nat_cmp l k ≡ Less) (match_ordering o (n ∷ m ∷ ns) (m ∷ ns) (m ∷ insert_key nat_cmp ns n))
    by_order Less more = (h, a)
    by_order Equal more = a
    by_order Greater more = (a.0, more)

pub rises_added : (n : ℕ) (ns : List ℕ) → Rises ns → Rises (insert_key nat_cmp ns n)
rises_added n [] s = rises_more n [] tt rises_none
rises_added n (m ∷ ns) s = by_order (nat_cmp n m) refl (rises_added n ns (sorted_tail nat_cmp m ns s))
  where
    above : AllByRecursion (λ k. nat_cmp m k ≡ Less) ns
    above = sorted_head nat_cmp m ns s

    by_order : (o : Ordering) → nat_cmp n m ≡ o → Rises (insert_key nat_cmp ns n) → Rises (match_ordering o (n ∷ m ∷ ns) (m ∷ ns) (m ∷ insert_key nat_cmp ns n))
    by_order Less e more = rises_more n (m ∷ ns) (e, all-weaker (λ k. nat_cmp m k ≡ Less) (λ k. nat_cmp n k ≡ Less) ns (λ k l. nat_cmp_total.trans n m k e l) above) s
    by_order Equal e more = s
    by_order Greater e more = rises_more m (insert_key nat_cmp ns n) (above_added m n ns (flip_greater n m e) above) more

rises_all : (ms ns : List ℕ) → Rises ns → Rises (add_numbers ms ns)
rises_all [] ns s = s
rises_all (m ∷ ms) ns s = rises_all ms (add_number m ns) (rises_added m ns s)

or_move : (a b c : Bool) → (b || (a || c)) ≡ ((a || b) || c)
or_move true true c = refl
or_move true false c = refl
or_move false true c = refl
or_move false false c = refl

in_all : (q : ℕ) (ms ns : List ℕ) → is_in q (add_numbers ms ns) ≡ (is_in q ms || is_in q ns)
in_all q [] ns = refl
in_all q (m ∷ ms) ns = in_all q ms (add_number m ns) ∙ ap (λ b. is_in q ms || b) (in_added q m ns) ∙ or_move (q == m) (is_in q ms) (is_in q ns)

or_none : (b : Bool) → (b || false) ≡ b
or_none true = refl
or_none false = refl

pub rises_in_order : (ns : List ℕ) → Rises (in_order ns)
rises_in_order ns = rises_all ns [] rises_none

pub in_in_order : (q : ℕ) (ns : List ℕ) → is_in q (in_order ns) ≡ is_in q ns
in_in_order q ns = in_all q ns [] ∙ or_none (is_in q ns)

-- ---- the numbers of one thing

pub in_numbers : (p n : ℕ) (pairs : List (ℕ × ℕ)) → is_in n (numbers_of p pairs) ≡ mentions pairs p n
in_numbers p n [] = refl
in_numbers p n (q ∷ pairs) = by_part (p == q.0) (in_numbers p n pairs) ∙ ap (λ b. b || mentions pairs p n) (sym (pair_at p n q.0 q.1))
  where
    by_part : (b : Bool) → is_in n (numbers_of p pairs) ≡ mentions pairs p n
        → is_in n (map (λ (r : ℕ × ℕ). r.1) (cond b (q ∷ filter (λ (r : ℕ × ℕ). p == r.0) pairs) (filter (λ (r : ℕ × ℕ). p == r.0) pairs))) ≡ ((b && n == q.1) || mentions pairs p n)
    by_part true more = ap (λ b. n == q.1 || b) more
    by_part false more = more

later : (p q n m : ℕ) → pair_cmp (p, n) (q, m) ≡ Less → (p == q) ≡ true → nat_cmp n m ≡ Less
later p q n m h e = grind (arith, nat_tests, h, e)

above_pair : (p n : ℕ) (pairs : List (ℕ × ℕ)) → AllByRecursion (λ q. pair_cmp (p, n) q ≡ Less) pairs → AllByRecursion (λ m. nat_cmp n m ≡ Less) (numbers_of p pairs)
above_pair p n [] h = tt
above_pair p n (q ∷ pairs) h = by_part (p == q.0) refl (above_pair p n pairs h.1)
  where
    by_part : (b : Bool) → (p == q.0) ≡ b → AllByRecursion (λ m. nat_cmp n m ≡ Less) (numbers_of p pairs)
        → AllByRecursion (λ m. nat_cmp n m ≡ Less) (map (λ (r : ℕ × ℕ). r.1) (cond b (q ∷ filter (λ (r : ℕ × ℕ). p == r.0) pairs) (filter (λ (r : ℕ × ℕ). p == r.0) pairs)))
    by_part true e more = (later p q.0 n q.1 h.0 e, more)
    by_part false e more = more

pub rises_numbers : (p : ℕ) (pairs : List (ℕ × ℕ)) → IsStrictlySortedBy pair_cmp pairs → Rises (numbers_of p pairs)
rises_numbers p [] s = rises_none
rises_numbers p (q ∷ pairs) s = by_part (p == q.0) refl (rises_numbers p pairs (sorted_tail pair_cmp q pairs s))
  where
    above : (p == q.0) ≡ true → AllByRecursion (λ r. pair_cmp (p, q.1) r ≡ Less) pairs
    above e = subst (λ a. AllByRecursion (λ r. pair_cmp (a, q.1) r ≡ Less) pairs) (sym (eqb-true p q.0 e)) (sorted_head pair_cmp q pairs s)

    by_part : (b : Bool) → (p == q.0) ≡ b → Rises (numbers_of p pairs)
        → Rises (map (λ (r : ℕ × ℕ). r.1) (cond b (q ∷ filter (λ (r : ℕ × ℕ). p == r.0) pairs) (filter (λ (r : ℕ × ℕ). p == r.0) pairs)))
    by_part true e more = rises_more q.1 (numbers_of p pairs) (above_pair p q.1 pairs (above e)) more
    by_part false e more = more

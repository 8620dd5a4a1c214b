-- The least key of a group, and the walk over the entries that finds the least key of the open groups.
use Rattle.std.proofs.Common.{◌≡◌, ◌⊎◌, ℕ, ◌+◌, ◌≤◌, ◌==◌, nat_lt, nat_le, Bool, true, false, cond, ◌&&◌, ◌||◌, List, [], ◌∷◌, Some, None, Option, refl, sym, ap, ◌∙◌, arith, subst, inl, inr, length, eqb-true, ap₂}
use Rattle.std.specs.Bool.{IsTrue}
use Rattle.std.specs.Option.{MatchOption, IfSome}
use Rattle.std.specs.List.{list_any, slice_get, AllByRecursion}
use Rattle.std.specs.BTreeMap.{is_at}
use Rattle.std.specs.BTreeMap.Range.{IsInRange}
use Rattle.std.specs.declared.ops.Bound.TheVariants.{Included, Unbounded}
use Rattle.std.specs.List.Sorted.{IsStrictlySortedBy}
use Rattle.std.specs.Ordering.{is_lt, is_gt, is_eq, nat_cmp}
use Rattle.std.specs.declared.cmp.Ordering.TheVariants.{Less}
use Rattle.std.proofs.lemmas.Bool.Decides.{nat_tests}
use Rattle.std.proofs.lemmas.Map.Keys.{sorted_head, sorted_tail}
use Rattle.ready_queue.specs.Keys.{key_cmp, has, at_most, IsHeadAt, IsHead, IsOpenKey, IsUpTo, IsSound, IsLooked, IsLeastOpen, IsLed, Lead, AreAlike, stops}

-- ---- (score, number) in order

pub at_most_trans : (a b c : ℕ × ℕ) → at_most a b ≡ true → at_most b c ≡ true → at_most a c ≡ true
unfolding at_most
at_most_trans a b c h k = grind (arith, nat_tests)

pub at_most_self : (a : ℕ × ℕ) → at_most a a ≡ true
unfolding at_most
at_most_self a = grind (arith, nat_tests)

pub at_most_other : (a b : ℕ × ℕ) → at_most a b ≡ false → at_most b a ≡ true
unfolding at_most
at_most_other a b h = grind (arith, nat_tests)

-- ---- the head of a group

from_start : (g s n : ℕ) → is_gt (key_cmp (g, 0, 0) (g, s, n)) ≡ false
from_start g s n = grind (arith, nat_tests)

not_after : (g s n u m : ℕ) → is_gt (key_cmp (g, s, n) (g, u, m)) ≡ false → at_most (s, n) (u, m) ≡ true
unfolding at_most
not_after g s n u m h = grind (arith, nat_tests)

beyond : (g k s n u m : ℕ) → is_gt (key_cmp (g, 0, 0) (k, s, n)) ≡ false → is_gt (key_cmp (k, s, n) (g, u, m)) ≡ false → k ≡ g
beyond g k s n u m h j = grind (arith, nat_tests)

pub head_none : (keys r : List (ℕ × ℕ × ℕ)) (g : ℕ)
    → (r ≡ [] → (q : ℕ × ℕ × ℕ) → IsInRange key_cmp (Included (g, 0, 0)) Unbounded q → list_any (is_at (key_cmp q)) keys ≡ false)
    → r ≡ [] → (s n : ℕ) → has keys g s n ≡ false
unfolding has
head_none keys r g h e s n = h e (g, s, n) (from_start g s n, tt)

pub head_found : (keys r t : List (ℕ × ℕ × ℕ)) (g k s n : ℕ)
    → IfSome (slice_get r 0) (λ x. IsInRange key_cmp (Included (g, 0, 0)) Unbounded x × IsTrue (list_any (is_at (key_cmp x)) keys))
    → ((q : ℕ × ℕ × ℕ) → IsInRange key_cmp (Included (g, 0, 0)) Unbounded q → IsTrue (list_any (is_at (key_cmp q)) keys) → IfSome (slice_get r 0) (λ x. is_gt (key_cmp x q) ≡ false))
    → r ≡ (k, s, n) ∷ t → k ≡ g → IsHeadAt keys g (s, n)
unfolding has
head_found keys r t g k s n here least e same = (
  subst (λ x. list_any (is_at (key_cmp (x, s, n))) keys ≡ true) same (subst (λ (l : List (ℕ × ℕ × ℕ)). IfSome (slice_get l 0) (λ x. IsInRange key_cmp (Included (g, 0, 0)) Unbounded x × IsTrue (list_any (is_at (key_cmp x)) keys))) e here).1,
  λ u m h. not_after g s n u m (subst (λ x. is_gt (key_cmp (x, s, n) (g, u, m)) ≡ false) same
      (subst (λ (l : List (ℕ × ℕ × ℕ)). IfSome (slice_get l 0) (λ x. is_gt (key_cmp x (g, u, m)) ≡ false)) e (least (g, u, m) (from_start g u m, tt) h))),
)

pub head_other : (keys r t : List (ℕ × ℕ × ℕ)) (g k s n : ℕ)
    → IfSome (slice_get r 0) (λ x. IsInRange key_cmp (Included (g, 0, 0)) Unbounded x × IsTrue (list_any (is_at (key_cmp x)) keys))
    → ((q : ℕ × ℕ × ℕ) → IsInRange key_cmp (Included (g, 0, 0)) Unbounded q → IsTrue (list_any (is_at (key_cmp q)) keys) → IfSome (slice_get r 0) (λ x. is_gt (key_cmp x q) ≡ false))
    → r ≡ (k, s, n) ∷ t → (k ≡ g → ⊥) → (u m : ℕ) → has keys g u m ≡ false
unfolding has
head_other keys r t g k s n here least e differs u m = by_test (list_any (is_at (key_cmp (g, u, m))) keys) refl
  where
    in_range : is_gt (key_cmp (g, 0, 0) (k, s, n)) ≡ false
    in_range = (subst (λ (l : List (ℕ × ℕ × ℕ)). IfSome (slice_get l 0) (λ x. IsInRange key_cmp (Included (g, 0, 0)) Unbounded x × IsTrue (list_any (is_at (key_cmp x)) keys))) e here).0.0

    by_test : (b : Bool) → list_any (is_at (key_cmp (g, u, m))) keys ≡ b → list_any (is_at (key_cmp (g, u, m))) keys ≡ false
    by_test true h = absurd (differs (beyond g k s n u m in_range (subst (λ (l : List (ℕ × ℕ × ℕ)). IfSome (slice_get l 0) (λ x. is_gt (key_cmp x (g, u, m)) ≡ false)) e (least (g, u, m) (from_start g u m, tt) h))))
    by_test false h = h

-- ---- one look

pub looked_none : (open_at : ℕ → Bool) (keys : List (ℕ × ℕ × ℕ)) (g : ℕ) (best : Option (ℕ × ℕ)) → ((s n : ℕ) → has keys g s n ≡ false) → IsLooked open_at keys g best best
looked_none open_at keys g best h = record { sound = λ x. x; kept = λ x w. w; within = λ s n e o. absurd (let no : true ≡ false = sym e ∙ h s n in cc) }

pub looked_no_better : (open_at : ℕ → Bool) (keys : List (ℕ × ℕ × ℕ)) (g : ℕ) (b h : ℕ × ℕ) → IsHeadAt keys g h → at_most b h ≡ true → IsLooked open_at keys g (Some b) (Some b)
looked_no_better open_at keys g b h head le = record { sound = λ x. x; kept = λ x w. w; within = λ s n e o. at_most_trans b h (s, n) le (head.1 s n e) }

pub looked_closed : (open_at : ℕ → Bool) (keys : List (ℕ × ℕ × ℕ)) (g : ℕ) (best : Option (ℕ × ℕ)) (h : ℕ × ℕ) → AreAlike open_at keys → IsHeadAt keys g h → open_at h.1 ≡ false → IsLooked open_at keys g best best
looked_closed open_at keys g best h alike head c = record {
  sound = λ x. x;
  kept = λ x w. w;
  within = λ s n e o. absurd (let no : true ≡ false = sym o ∙ alike g s n h.0 h.1 e head.0 ∙ c in cc);
}

-- what comes in place of the best is at most it
pub looked_better : (open_at : ℕ → Bool) (keys : List (ℕ × ℕ × ℕ)) (g : ℕ) (best : Option (ℕ × ℕ)) (h : ℕ × ℕ) → IsHeadAt keys g h → open_at h.1 ≡ true
    → ((x : ℕ × ℕ) → IsUpTo best x → at_most h x ≡ true) → IsLooked open_at keys g best (Some h)
looked_better open_at keys g best h head o le = record { sound = λ x. (g, head.0, o); kept = le; within = λ s n e p. head.1 s n e }

-- what the best is within, the head is too, where the best doesn't come first
pub kept_some : (best : Option (ℕ × ℕ)) (b h : ℕ × ℕ) → best ≡ Some b → at_most b h ≡ false → (x : ℕ × ℕ) → IsUpTo best x → at_most h x ≡ true
kept_some best b h e f x y = at_most_trans h b x (at_most_other b h f) (subst (λ o. IsUpTo o x) e y)

pub kept_none : (best : Option (ℕ × ℕ)) (h : ℕ × ℕ) → best ≡ None → (x : ℕ × ℕ) → IsUpTo best x → at_most h x ≡ true
kept_none best h e x y = absurd (subst (λ o. IsUpTo o x) e y)

-- ---- the walk

-- the keys that aren't within the best so far have entries among those that are left
pub record IsWalking (open_at : ℕ → Bool) (keys : List (ℕ × ℕ × ℕ)) (best : Option (ℕ × ℕ)) (left : List (ℕ × ℕ × ℕ)) : Type 0 where
  pub sound : IsSound open_at keys best
  pub sorted : IsStrictlySortedBy key_cmp left
  pub covers : (g s n : ℕ) → has keys g s n ≡ true → open_at n ≡ true → IsUpTo best (s, n) ⊎ IsLed left g s n

pub walking_start : (open_at : ℕ → Bool) (keys entries : List (ℕ × ℕ × ℕ)) → IsStrictlySortedBy key_cmp entries → Lead open_at entries keys → IsWalking open_at keys None entries
walking_start open_at keys entries s l = record { sound = tt; sorted = s; covers = λ g u m h o. inr (l g u m h o) }

pub walking_end : (open_at : ℕ → Bool) (keys : List (ℕ × ℕ × ℕ)) (best : Option (ℕ × ℕ)) → IsWalking open_at keys best [] → IsLeastOpen open_at keys best
unfolding has
walking_end open_at keys best w = record {
  sound = w.sound;
  least = λ g s n h o. elim (w.covers g s n h o) [ inl y ↦ y | inr l ↦ absurd (let no : false ≡ true = l.2 in cc) ];
}

-- an entry is the first or one of the others
first_or : (p m g a b c : ℕ) (left : List (ℕ × ℕ × ℕ)) → has ((p, m, g) ∷ left) a b c ≡ true → ((a ≡ p) × (b ≡ m) × (c ≡ g)) ⊎ (has left a b c ≡ true)
unfolding has
first_or p m g a b c left h = by_test (is_at (key_cmp (a, b, c)) (p, m, g)) refl h
  where
    equal : is_at (key_cmp (a, b, c)) (p, m, g) ≡ true → (a ≡ p) × (b ≡ m) × (c ≡ g)
    equal e = (grind (arith, nat_tests), grind (arith, nat_tests), grind (arith, nat_tests))

    by_test : (t : Bool) → is_at (key_cmp (a, b, c)) (p, m, g) ≡ t → (t || list_any (is_at (key_cmp (a, b, c))) left) ≡ true → ((a ≡ p) × (b ≡ m) × (c ≡ g)) ⊎ (list_any (is_at (key_cmp (a, b, c))) left ≡ true)
    by_test true e h = inl (equal e)
    by_test false e h = inr h

walking_more : (open_at : ℕ → Bool) (keys : List (ℕ × ℕ × ℕ)) (best new : Option (ℕ × ℕ)) (p m g : ℕ) (left : List (ℕ × ℕ × ℕ))
    → IsWalking open_at keys best ((p, m, g) ∷ left) → IsLooked open_at keys g best new → IsWalking open_at keys new left
walking_more open_at keys best new p m g left w k = record {
  sound = k.sound w.sound;
  sorted = sorted_tail key_cmp (p, m, g) left w.sorted;
  covers = λ h s n e o. covered h s n e o (w.covers h s n e o);
}
  where
    at_entry : (h s n a b : ℕ) → has keys h s n ≡ true → open_at n ≡ true → at_most (a, b) (s, n) ≡ true → ((a ≡ p) × (b ≡ m) × (h ≡ g)) ⊎ (has left a b h ≡ true) → IsUpTo new (s, n) ⊎ IsLed left h s n
    at_entry h s n a b e o le (inl q) = inl (k.within s n (subst (λ x. has keys x s n ≡ true) q.2 e) o)
    at_entry h s n a b e o le (inr q) = inr (a, b, q, le)

    covered : (h s n : ℕ) → has keys h s n ≡ true → open_at n ≡ true → IsUpTo best (s, n) ⊎ IsLed ((p, m, g) ∷ left) h s n → IsUpTo new (s, n) ⊎ IsLed left h s n
    covered h s n e o (inl y) = inl (k.kept (s, n) y)
    covered h s n e o (inr l) = at_entry h s n l.0 l.1 e o l.3 (first_or p m g l.0 l.1 h left l.2)

less_first : (p m g x y z : ℕ) → key_cmp (p, m, g) (x, y, z) ≡ Less → at_most (p, m) (x, y) ≡ true
unfolding at_most
less_first p m g x y z h = grind (arith, nat_tests)

-- all entries of a list that is in order come no earlier than its first
before_all : (p m g a b c : ℕ) (left : List (ℕ × ℕ × ℕ)) → AllByRecursion (λ q. key_cmp (p, m, g) q ≡ Less) left → has left a b c ≡ true → at_most (p, m) (a, b) ≡ true
unfolding has
before_all p m g a b c [] s h = absurd (let no : false ≡ true = h in cc)
before_all p m g a b c ((x, y, z) ∷ left) s h = by_case (first_or x y z a b c left h) (before_all p m g a b c left s.1)
  where
    here : (a ≡ x) × (b ≡ y) → at_most (p, m) (a, b) ≡ true
    here e = subst (λ q. at_most (p, m) q ≡ true) (sym (ap₂ (λ x y. (x, y)) e.0 e.1)) (less_first p m g x y z s.0)

    by_case : ((a ≡ x) × (b ≡ y) × (c ≡ z)) ⊎ (list_any (is_at (key_cmp (a, b, c))) left ≡ true) → (list_any (is_at (key_cmp (a, b, c))) left ≡ true → at_most (p, m) (a, b) ≡ true) → at_most (p, m) (a, b) ≡ true
    by_case (inl e) more = here (e.0, e.1)
    by_case (inr e) more = more e

-- where the best comes no later than the next entry, the walk may stop
walking_first : (open_at : ℕ → Bool) (keys : List (ℕ × ℕ × ℕ)) (b : ℕ × ℕ) (p m g : ℕ) (left : List (ℕ × ℕ × ℕ))
    → IsWalking open_at keys (Some b) ((p, m, g) ∷ left) → at_most b (p, m) ≡ true → IsLeastOpen open_at keys (Some b)
walking_first open_at keys b p m g left w le = record {
  sound = w.sound;
  least = λ h s n e o. elim (w.covers h s n e o) [ inl y ↦ y | inr l ↦ at_most_trans b (p, m) (s, n) le (from h s n l (first_or p m g l.0 l.1 h left l.2)) ];
}
  where
    from : (h s n : ℕ) (l : IsLed ((p, m, g) ∷ left) h s n) → ((l.0 ≡ p) × (l.1 ≡ m) × (h ≡ g)) ⊎ (has left l.0 l.1 h ≡ true) → at_most (p, m) (s, n) ≡ true
    from h s n l (inl e) = subst (λ x. at_most x (s, n) ≡ true) (ap₂ (λ x y. (x, y)) e.0 e.1) l.3
    from h s n l (inr e) = at_most_trans (p, m) (l.0, l.1) (s, n) (before_all p m g l.0 l.1 h left (sorted_head key_cmp (p, m, g) left w.sorted) e) l.3

stop_some : (open_at : ℕ → Bool) (keys : List (ℕ × ℕ × ℕ)) (best : Option (ℕ × ℕ)) (e : ℕ × ℕ × ℕ) (left : List (ℕ × ℕ × ℕ))
    → IsWalking open_at keys best (e ∷ left) → stops best (e.0, e.1) ≡ true → IsLeastOpen open_at keys best
stop_some open_at keys None e left w h = absurd (let no : false ≡ true = h in cc)
stop_some open_at keys (Some b) e left w h = walking_first open_at keys b e.0 e.1 e.2 left w h

pub walking_stop : (open_at : ℕ → Bool) (keys : List (ℕ × ℕ × ℕ)) (best : Option (ℕ × ℕ)) (e : ℕ × ℕ × ℕ) (all left : List (ℕ × ℕ × ℕ))
    → IsWalking open_at keys best all → all ≡ e ∷ left → stops best (e.0, e.1) ≡ true → IsLeastOpen open_at keys best
walking_stop open_at keys best e all left w is h = stop_some open_at keys best e left (subst (λ (l : List (ℕ × ℕ × ℕ)). IsWalking open_at keys best l) is w) h

pub walking_on : (open_at : ℕ → Bool) (keys : List (ℕ × ℕ × ℕ)) (best new : Option (ℕ × ℕ)) (e : ℕ × ℕ × ℕ) (all left : List (ℕ × ℕ × ℕ))
    → IsWalking open_at keys best all → all ≡ e ∷ left → IsLooked open_at keys e.2 best new → IsWalking open_at keys new left
walking_on open_at keys best new e all left w is k = walking_more open_at keys best new e.0 e.1 e.2 left (subst (λ (l : List (ℕ × ℕ × ℕ)). IsWalking open_at keys best l) is w) k

pub walking_done : (open_at : ℕ → Bool) (keys : List (ℕ × ℕ × ℕ)) (best : Option (ℕ × ℕ)) (all : List (ℕ × ℕ × ℕ)) → IsWalking open_at keys best all → all ≡ [] → IsLeastOpen open_at keys best
walking_done open_at keys best all w is = walking_end open_at keys best (subst (λ (l : List (ℕ × ℕ × ℕ)). IsWalking open_at keys best l) is w)

-- an entry's look is paid by what is left
pub fewer : (was now start most : ℕ) (e : ℕ × ℕ × ℕ) (all left : List (ℕ × ℕ × ℕ)) → was + length all ≤ start + most → all ≡ e ∷ left → now ≤ was + 1 → now + length left ≤ start + most
fewer was now start most e all left h is one = let n = ap length is in grind arith

-- where the best comes no later than a group's least, a look changes nothing
pub looked_stop : (open_at : ℕ → Bool) (keys : List (ℕ × ℕ × ℕ)) (g : ℕ) (best : Option (ℕ × ℕ)) (h : ℕ × ℕ) → IsHeadAt keys g h → stops best h ≡ true → IsLooked open_at keys g best best
looked_stop open_at keys g None h head e = absurd (let no : false ≡ true = e in cc)
looked_stop open_at keys g (Some b) h head e = looked_no_better open_at keys g b h head e

pub kept_past : (best : Option (ℕ × ℕ)) (h : ℕ × ℕ) → stops best h ≡ false → (x : ℕ × ℕ) → IsUpTo best x → at_most h x ≡ true
kept_past None h f x y = absurd y
kept_past (Some b) h f x y = at_most_trans h b x (at_most_other b h f) y

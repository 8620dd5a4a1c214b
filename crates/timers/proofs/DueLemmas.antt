-- The dues of a list when an entry comes or goes, and the first of them.
use Rattle.std.proofs.Common.{◌≡◌, ℕ, ◌<◌, ◌==◌, Bool, true, false, cond, not, List, [], ◌∷◌, ◌++◌, Some, None, Option, refl, sym, ap, ◌∙◌, arith, map}
use Rattle.std.specs.Bool.{⊤}
use Rattle.std.specs.List.{find, filter, slice_get, AllByRecursion}
use Rattle.std.specs.Option.{option_map, IfSome}
use Rattle.std.specs.Ordering.{is_lt}
use Rattle.std.proofs.lemmas.Bool.{cond-true, cond-false}
use Rattle.std.proofs.lemmas.Bool.Decides.{nat_tests}
use Rattle.lists.specs.Entries.{has, without, key_of, pair_cmp, insert_in, AreApart}
use Rattle.lists.proofs.Elements.{all-filter, all-weaker}
use Rattle.lists.proofs.Keyed.{cond_none, filter_none, find_without}
use Rattle.kinds.specs.Stores.{due_moment, due_number, due_run, due_at, insert_due}
use Rattle.kinds.specs.declared.store.Due.{Due}
use Rattle.timers.specs.Dues.{put_due, dues_of, DueEntry, comes_before, earlier, with_due, least_due, as_due, seen_as, earlier_of}

-- ---- the order of dues

abbrev before : Due → Due → Bool
before a b = is_lt (pair_cmp (key_of due_moment due_number a) (key_of due_moment due_number b))

back : (a b : Due) → before a b ≡ true → before b a ≡ false
back a b h = grind (arith, nat_tests)

forth : (a b : Due) → (a.number == b.number) ≡ false → before a b ≡ false → before b a ≡ true
forth a b n h = grind (arith, nat_tests)

through : (a b c : Due) → before a b ≡ true → before c b ≡ false → before a c ≡ true
through a b c h k = grind (arith, nat_tests)

not_through : (a b c : Due) → before a b ≡ true → before c b ≡ false → before c a ≡ false
not_through a b c h k = grind (arith, nat_tests)

both_before : (a b c : Due) → before a b ≡ true → before b c ≡ true → before a c ≡ true
both_before a b c h k = grind (arith, nat_tests)

at_front : (d e : Due) (es : List Due) → before d e ≡ true → insert_due d (e ∷ es) ≡ d ∷ e ∷ es
at_front d e es t = cond-true (before d e) (d ∷ e ∷ es) (e ∷ insert_due d es) t

behind : (d e : Due) (es : List Due) → before d e ≡ false → insert_due d (e ∷ es) ≡ e ∷ insert_due d es
behind d e es f = cond-false (before d e) (d ∷ e ∷ es) (e ∷ insert_due d es) f

-- ---- two that come

swap_in_order : (d e : Due) (ds : List Due) → before d e ≡ true → insert_due d (insert_due e ds) ≡ insert_due e (insert_due d ds)
swap_in_order d e [] h = at_front d e [] h ∙ sym (behind e d [] (back d e h))
swap_in_order d e (c ∷ cs) h = by_tests (before e c) (before d c) refl refl (swap_in_order d e cs h)
  where
    over : (l : List Due) → insert_due e (c ∷ cs) ≡ l → before d c ≡ true → insert_due e (insert_due d (c ∷ cs)) ≡ d ∷ l
    over l s t = ap (insert_due e) (at_front d c cs t) ∙ behind e d (c ∷ cs) (back d e h) ∙ ap (λ r. d ∷ r) s

    by_tests : (x y : Bool) → before e c ≡ x → before d c ≡ y → insert_due d (insert_due e cs) ≡ insert_due e (insert_due d cs) → insert_due d (insert_due e (c ∷ cs)) ≡ insert_due e (insert_due d (c ∷ cs))
    by_tests true y s t more =
        ap (insert_due d) (at_front e c cs s) ∙ at_front d e (c ∷ cs) h
        ∙ sym (over (e ∷ c ∷ cs) (at_front e c cs s) (both_before d e c h s))
    by_tests false true s t more =
        ap (insert_due d) (behind e c cs s) ∙ at_front d c (insert_due e cs) t
        ∙ sym (over (c ∷ insert_due e cs) (behind e c cs s) t)
    by_tests false false s t more =
        ap (insert_due d) (behind e c cs s) ∙ behind d c (insert_due e cs) t ∙ ap (λ r. c ∷ r) more
        ∙ sym (ap (insert_due e) (behind d c cs t) ∙ behind e c (insert_due d cs) s)

swap : (d e : Due) (ds : List Due) → (d.number == e.number) ≡ false → insert_due d (insert_due e ds) ≡ insert_due e (insert_due d ds)
swap d e ds n = by_test (before d e) refl
  where
    by_test : (b : Bool) → before d e ≡ b → insert_due d (insert_due e ds) ≡ insert_due e (insert_due d ds)
    by_test true t = swap_in_order d e ds t
    by_test false f = sym (swap_in_order e d ds (forth d e n f))

put_swap : (o p : Option ℕ) (n r m q : ℕ) (ds : List Due) → (n == m) ≡ false → put_due o n r (put_due p m q ds) ≡ put_due p m q (put_due o n r ds)
put_swap None p n r m q ds h = refl
put_swap (Some d) None n r m q ds h = refl
put_swap (Some d) (Some e) n r m q ds h = swap (due_at d n r) (due_at e m q) ds h

-- ---- those that pass

-- each stands before all that are greater
abbrev Rise : List Due → Type 0
Rise [] = ⊤
Rise (d ∷ ds) = AllByRecursion (λ e. before e d ≡ false) ds × Rise ds

all_inserted : (P : Due → Type 0) (d : Due) (ds : List Due) → P d → AllByRecursion P ds → AllByRecursion P (insert_due d ds)
all_inserted P d [] p a = (p, a)
all_inserted P d (e ∷ es) p a = by_test (before d e) (all_inserted P d es p a.1)
  where
    by_test : (b : Bool) → AllByRecursion P (insert_due d es) → AllByRecursion P (cond b (d ∷ e ∷ es) (e ∷ insert_due d es))
    by_test true more = (p, a)
    by_test false more = (a.0, more)

rise_inserted : (d : Due) (ds : List Due) → Rise ds → Rise (insert_due d ds)
rise_inserted d [] r = (tt, tt)
rise_inserted d (e ∷ es) r = by_test (before d e) refl (rise_inserted d es r.1)
  where
    by_test : (b : Bool) → before d e ≡ b → Rise (insert_due d es) → Rise (cond b (d ∷ e ∷ es) (e ∷ insert_due d es))
    by_test true t more = ((back d e t, all-weaker (λ c. before c e ≡ false) (λ c. before c d ≡ false) es (λ c h. not_through d e c t h) r.0), r)
    by_test false f more = (all_inserted (λ c. before c e ≡ false) d es f r.0, more)

all_front : (d : Due) (ds : List Due) → AllByRecursion (λ e. before d e ≡ true) ds → insert_due d ds ≡ d ∷ ds
all_front d [] a = refl
all_front d (e ∷ es) a = at_front d e es a.0

kept_inserted : (p : Due → Bool) (d : Due) (ds : List Due) → Rise ds → filter p (insert_due d ds) ≡ cond (p d) (insert_due d (filter p ds)) (filter p ds)
kept_inserted p d [] r = refl
kept_inserted p d (e ∷ es) r = by_test (before d e) refl (kept_inserted p d es r.1)
  where
    kept_behind : (x y : Bool) (l : List Due) → before d e ≡ false → l ≡ cond y (insert_due d (filter p es)) (filter p es) → cond x (e ∷ l) l ≡ cond y (insert_due d (cond x (e ∷ filter p es) (filter p es))) (cond x (e ∷ filter p es) (filter p es))
    kept_behind true true l f h = ap (λ r. e ∷ r) h ∙ sym (behind d e (filter p es) f)
    kept_behind true false l f h = ap (λ r. e ∷ r) h
    kept_behind false true l f h = h
    kept_behind false false l f h = h

    by_test : (b : Bool) → before d e ≡ b → filter p (insert_due d es) ≡ cond (p d) (insert_due d (filter p es)) (filter p es)
        → filter p (cond b (d ∷ e ∷ es) (e ∷ insert_due d es)) ≡ cond (p d) (insert_due d (filter p (e ∷ es))) (filter p (e ∷ es))
    by_test true t more = ap (λ l. cond (p d) l (filter p (e ∷ es)))
        (sym (all_front d (filter p (e ∷ es)) (all-filter (λ c. before d c ≡ true) p (e ∷ es)
        (t, all-weaker (λ c. before c e ≡ false) (λ c. before d c ≡ true) es (λ c h. through d e c t h) r.0))))
    by_test false f more = kept_behind (p e) (p d) (filter p (insert_due d es)) f more

kept_put : (p : Due → Bool) (b : Bool) (o : Option ℕ) (n r : ℕ) (ds : List Due) → ((d : ℕ) → p (due_at d n r) ≡ b) → Rise ds → filter p (put_due o n r ds) ≡ cond b (put_due o n r (filter p ds)) (filter p ds)
kept_put p true None n r ds h s = refl
kept_put p false None n r ds h s = refl
kept_put p b (Some d) n r ds h s = kept_inserted p (due_at d n r) ds s ∙ ap (λ t. cond t (insert_due (due_at d n r) (filter p ds)) (filter p ds)) (h d)

rise_put : (o : Option ℕ) (n r : ℕ) (ds : List Due) → Rise ds → Rise (put_due o n r ds)
rise_put None n r ds s = s
rise_put (Some d) n r ds s = rise_inserted (due_at d n r) ds s

-- ---- the dues of a list

pub below_none : {X : Type 0} (number : X → ℕ) (n : ℕ) (xs : List X) → AllByRecursion (λ e. number e < n) xs → find (has number n) xs ≡ None
below_none number n [] a = refl
below_none number n (x ∷ xs) a = rw (differ (number x) a.0) (below_none number n xs a.1)
  where
    differ : (m : ℕ) → m < n → (n == m) ≡ false
    differ m h = grind (arith, nat_tests, h)

pub all_others : {X : Type 0} (number : X → ℕ) (n : ℕ) (xs : List X) → find (has number n) xs ≡ None → AllByRecursion (λ e. (n == number e) ≡ false) xs
all_others number n [] h = tt
all_others number n (x ∷ xs) h = let parts = cond_none (n == number x) x (find (has number n) xs) h in (parts.0, all_others number n xs parts.1)

module _ {X : Type 0} (due : X → Option ℕ) (number run : X → ℕ) where
  dues_rise : (xs : List X) → Rise (dues_of due number run xs)
  dues_rise [] = tt
  dues_rise (x ∷ xs) = rise_put (due x) (number x) (run x) (dues_of due number run xs) (dues_rise xs)

  -- an entry comes behind others
  pub dues_added : (x : X) (xs : List X) → AllByRecursion (λ e. number e < number x) xs → dues_of due number run (xs ++ x ∷ []) ≡ put_due (due x) (number x) (run x) (dues_of due number run xs)
  dues_added x [] a = refl
  dues_added x (e ∷ es) a =
      ap (put_due (due e) (number e) (run e)) (dues_added x es a.1)
      ∙ put_swap (due e) (due x) (number e) (run e) (number x) (run x) (dues_of due number run es) (differ (number e) (number x) a.0)
    where
      differ : (n m : ℕ) → n < m → (n == m) ≡ false
      differ n m h = grind (arith, nat_tests, h)

  -- entries go, and their dues
  pub dues_kept : (p : Due → Bool) (q : X → Bool) → ((x : X) (d : ℕ) → p (due_at d (number x) (run x)) ≡ q x) → (xs : List X) → filter p (dues_of due number run xs) ≡ dues_of due number run (filter q xs)
  dues_kept p q same [] = refl
  dues_kept p q same (x ∷ xs) =
      kept_put p (q x) (due x) (number x) (run x) (dues_of due number run xs) (same x) (dues_rise xs)
      ∙ ap (λ l. cond (q x) (put_due (due x) (number x) (run x) l) l) (dues_kept p q same xs)
      ∙ by_test (q x)
    where
      by_test : (b : Bool) → cond b (put_due (due x) (number x) (run x) (dues_of due number run (filter q xs))) (dues_of due number run (filter q xs)) ≡ dues_of due number run (cond b (x ∷ filter q xs) (filter q xs))
      by_test true = refl
      by_test false = refl

  -- an entry comes in its place
  pub dues_inserted : (rank : X → ℕ) (x : X) (xs : List X) → find (has number (number x)) xs ≡ None → dues_of due number run (insert_in rank number x xs) ≡ put_due (due x) (number x) (run x) (dues_of due number run xs)
  dues_inserted rank x [] none = refl
  dues_inserted rank x (e ∷ es) none = let parts = cond_none (number x == number e) e (find (has number (number x)) es) none in by_place (is_lt (pair_cmp (key_of rank number x) (key_of rank number e))) (flip (number x) (number e) parts.0) (dues_inserted rank x es parts.1)
    where
      flip : (n m : ℕ) → (n == m) ≡ false → (m == n) ≡ false
      flip n m h = grind (arith, nat_tests)

      by_place : (b : Bool) → (number e == number x) ≡ false → dues_of due number run (insert_in rank number x es) ≡ put_due (due x) (number x) (run x) (dues_of due number run es)
          → dues_of due number run (cond b (x ∷ e ∷ es) (e ∷ insert_in rank number x es)) ≡ put_due (due x) (number x) (run x) (put_due (due e) (number e) (run e) (dues_of due number run es))
      by_place true n more = refl
      by_place false n more = ap (put_due (due e) (number e) (run e)) more ∙ put_swap (due e) (due x) (number e) (run e) (number x) (run x) (dues_of due number run es) n

  -- an entry goes by its number
  pub dues_without : (n : ℕ) (xs : List X) → without due_number n (dues_of due number run xs) ≡ dues_of due number run (without number n xs)
  dues_without n xs = dues_kept (λ d. not (has due_number n d)) (λ x. not (has number n x)) (λ x d. refl) xs

  -- the entries of a run go
  pub dues_without_run : (r : ℕ) (xs : List X) → without due_run r (dues_of due number run xs) ≡ dues_of due number run (without run r xs)
  dues_without_run r xs = dues_kept (λ d. not (has due_run r d)) (λ x. not (has run r x)) (λ x d. refl) xs

  -- none of the entries has a number, so no due has it
  pub dues_none : (n : ℕ) (xs : List X) → find (has number n) xs ≡ None → find (has due_number n) (dues_of due number run xs) ≡ None
  dues_none n xs none =
      ap (find (has due_number n)) (sym (dues_without n xs ∙ ap (dues_of due number run) (filter_none (has number n) xs none)))
      ∙ find_without (has due_number n) (dues_of due number run xs)

  -- ---- the first of them

  pub least_all : (P : X → Type 0) (xs : List X) → AllByRecursion P xs → IfSome (least_due due number xs) (λ b. P b.entry)
  least_all P [] a = tt
  least_all P (x ∷ xs) a = by_due (due x) (least_due due number xs) (least_all P xs a.1)
    where
      by_test : (t : Bool) (e b : DueEntry X) → P e.entry → P b.entry → IfSome (cond t (Some b) (Some e)) (λ b. P b.entry)
      by_test true e b p q = q
      by_test false e b p q = p

      by_due : (d : Option ℕ) (o : Option (DueEntry X)) → IfSome o (λ b. P b.entry) → IfSome (with_due number x d o) (λ b. P b.entry)
      by_due None o more = more
      by_due (Some d) None more = a.0
      by_due (Some d) (Some b) more = by_test (comes_before number b (record { due = d; entry = x })) (record { due = d; entry = x }) b a.0 more

  inserted_first : (d : Due) (ds : List Due) (e : Due) → slice_get ds 0 ≡ Some e → slice_get (insert_due d ds) 0 ≡ cond (before d e) (Some d) (Some e)
  inserted_first d [] e h = cc
  inserted_first d (c ∷ cs) e h = by_test (before d c) refl
    where
      same : c ≡ e
      same = ap (λ (o : Option Due). elim o as (λ _. Due) [ None ↦ c | Some x ↦ x ]) h

      by_test : (b : Bool) → before d c ≡ b → slice_get (cond b (d ∷ c ∷ cs) (c ∷ insert_due d cs)) 0 ≡ cond (before d e) (Some d) (Some e)
      by_test true t = sym (cond-true (before d e) (Some d) (Some e) (sym (ap (before d) same) ∙ t))
      by_test false f = ap (λ x. Some x) same ∙ sym (cond-false (before d e) (Some d) (Some e) (sym (ap (before d) same) ∙ f))

  none_first : (ds : List Due) (d : Due) → slice_get ds 0 ≡ None → slice_get (insert_due d ds) 0 ≡ Some d
  none_first [] d h = refl
  none_first (c ∷ cs) d h = cc

  pub first_is : (xs : List X) → AreApart number xs → slice_get (dues_of due number run xs) 0 ≡ option_map (as_due number run) (least_due due number xs)
  first_is [] a = refl
  first_is (x ∷ xs) a = by_due (due x) (least_due due number xs) (first_is xs a.1) (least_all (λ e. (number x == number e) ≡ false) xs (all_others number (number x) xs a.0))
    where
      turned : (d c n m : ℕ) (r q : ℕ) (e b : DueEntry X) → e.due ≡ d → b.due ≡ c → number e.entry ≡ n → number b.entry ≡ m → (n == m) ≡ false → comes_before number b e ≡ not (before (due_at d n r) (due_at c m q))
      turned d c n m r q e b h k i j f = grind (arith, nat_tests)

      by_test : (t : Bool) (e b : DueEntry X) → cond t (Some (as_due number run e)) (Some (as_due number run b)) ≡ option_map (as_due number run) (cond (not t) (Some b) (Some e))
      by_test true e b = refl
      by_test false e b = refl

      by_due : (d : Option ℕ) (o : Option (DueEntry X)) → slice_get (dues_of due number run xs) 0 ≡ option_map (as_due number run) o → IfSome o (λ b. (number x == number b.entry) ≡ false)
          → slice_get (put_due d (number x) (run x) (dues_of due number run xs)) 0 ≡ option_map (as_due number run) (with_due number x d o)
      by_due None o more other = more
      by_due (Some d) None more other = none_first (dues_of due number run xs) (due_at d (number x) (run x)) more
      by_due (Some d) (Some b) more other =
          let e : DueEntry X = record { due = d; entry = x } in
          inserted_first (due_at d (number x) (run x)) (dues_of due number run xs) (as_due number run b) more
          ∙ by_test (before (as_due number run e) (as_due number run b)) e b
          ∙ ap (λ t. option_map (as_due number run) (cond t (Some b) (Some e))) (sym (turned d b.due (number x) (number b.entry) (run x) (run b.entry) e b refl refl refl refl other))

-- ---- entries of one kind among others

module _ {X Y : Type 0} (due : Y → Option ℕ) (number run : Y → ℕ) (f : X → Y) where
  pub dues_mapped : (xs : List X) → dues_of due number run (map f xs) ≡ dues_of (λ x. due (f x)) (λ x. number (f x)) (λ x. run (f x)) xs
  dues_mapped [] = refl
  dues_mapped (x ∷ xs) = ap (put_due (due (f x)) (number (f x)) (run (f x))) (dues_mapped xs)

  pub least_mapped : (xs : List X) → least_due due number (map f xs) ≡ option_map (seen_as f) (least_due (λ x. due (f x)) (λ x. number (f x)) xs)
  least_mapped [] = refl
  least_mapped (x ∷ xs) = ap (with_due number (f x) (due (f x))) (least_mapped xs) ∙ by_due (due (f x)) (least_due (λ x. due (f x)) (λ x. number (f x)) xs)
    where
      by_test : (t : Bool) (a b : DueEntry X) → cond t (Some (seen_as f b)) (Some (seen_as f a)) ≡ option_map (seen_as f) (cond t (Some b) (Some a))
      by_test true a b = refl
      by_test false a b = refl

      by_due : (d : Option ℕ) (o : Option (DueEntry X)) → with_due number (f x) d (option_map (seen_as f) o) ≡ option_map (seen_as f) (with_due (λ x. number (f x)) x d o)
      by_due None o = refl
      by_due (Some d) None = refl
      by_due (Some d) (Some b) = by_test (comes_before number (seen_as f b) (record { due = d; entry = f x })) (record { due = d; entry = x }) b

module _ {X : Type 0} (number : X → ℕ) where
  on_then : (a b c : DueEntry X) → comes_before number b a ≡ true → comes_before number c b ≡ true → comes_before number c a ≡ true
  on_then a b c h k = grind (arith, nat_tests)

  off_then : (a b c : DueEntry X) → comes_before number b a ≡ false → comes_before number c b ≡ false → comes_before number c a ≡ false
  off_then a b c h k = grind (arith, nat_tests)

  chosen : (a b c : DueEntry X) → earlier_of number (earlier number a (Some b)) (Some c) ≡ earlier number a (earlier number b (Some c))
  chosen a b c = left (comes_before number b a) ∙ both (comes_before number b a) (comes_before number c b) (comes_before number c a) (on_then a b c) (off_then a b c) ∙ sym (right (comes_before number c b))
    where
      left : (x : Bool) → earlier_of number (cond x (Some b) (Some a)) (Some c) ≡ cond x (cond (comes_before number c b) (Some c) (Some b)) (cond (comes_before number c a) (Some c) (Some a))
      left true = refl
      left false = refl

      right : (y : Bool) → earlier number a (cond y (Some c) (Some b)) ≡ cond y (cond (comes_before number c a) (Some c) (Some a)) (cond (comes_before number b a) (Some b) (Some a))
      right true = refl
      right false = refl

      both : (x y z : Bool) → (x ≡ true → y ≡ true → z ≡ true) → (x ≡ false → y ≡ false → z ≡ false)
          → cond x (cond y (Some c) (Some b)) (cond z (Some c) (Some a)) ≡ cond y (cond z (Some c) (Some a)) (cond x (Some b) (Some a))
      both true true z h k = sym (cond-true z (Some c) (Some a) (h refl refl))
      both true false z h k = refl
      both false true z h k = refl
      both false false z h k = cond-false z (Some c) (Some a) (k refl refl)

  joined : (x : X) (d : Option ℕ) (o p : Option (DueEntry X)) → earlier_of number (with_due number x d o) p ≡ with_due number x d (earlier_of number o p)
  joined x None o p = refl
  joined x (Some d) None p = refl
  joined x (Some d) (Some b) (Some c) = chosen (record { due = d; entry = x }) b c
  joined x (Some d) (Some b) None = by_test (comes_before number b (record { due = d; entry = x }))
    where
      by_test : (t : Bool) → earlier_of number (cond t (Some b) (Some (record { due = d; entry = x }))) None ≡ cond t (Some b) (Some (record { due = d; entry = x }))
      by_test true = refl
      by_test false = refl

  -- what is due first of two lists in a row
  pub least_joined : (due : X → Option ℕ) (xs ys : List X) → least_due due number (xs ++ ys) ≡ earlier_of number (least_due due number xs) (least_due due number ys)
  least_joined due [] ys = refl
  least_joined due (x ∷ xs) ys = ap (with_due number x (due x)) (least_joined due xs ys) ∙ sym (joined x (due x) (least_due due number xs) (least_due due number ys))

-- Runs that have ended, in two parts: those before the last thousand, and these.
use Rattle.std.proofs.Common.{◌≡◌, ℕ, zero, suc, ◌+◌, ◌-◌, ◌<◌, ◌≤◌, ◌==◌, nat_le, Bool, true, false, cond, not, ◌||◌, List, [], ◌∷◌, ◌++◌, map, filter, find, length, take, drop, Option, Some, None, is_some, option_map, refl, sym, ap, ◌∙◌, arith, subst, append_assoc, length-append}
use Rattle.std.specs.Borrow.{Bor}
use Rattle.std.specs.List.{list_any, slice_get}
use Rattle.std.specs.Option.{option_copied}
use Rattle.std.proofs.lemmas.Bool.Decides.{nat_tests}
use Rattle.lists.proofs.Keyed.{cond_none, filter_none}
use Rattle.lists.specs.Entries.{has, without, in_order, pair_cmp, AreApart}
use Rattle.std.specs.List.Sorted.{IsStrictlySortedBy}
use Rattle.runs.specs.Ended.{IsSplit, ended_events, ended_names, ended_number, is_another, is_ended, last_ended, last_or, outgoing}
use Rattle.runs.specs.Mentions.{numbers_of, IsJoined, IsParted, IsTold}
use Rattle.runs.specs.declared.ended.EndedRun.{EndedRun}
use Rattle.runs.proofs.Told.{told_empty, told_in_order, told_last, told_left}

-- ---- parts of a list

take_front : {X : Type 0} (xs ys : List X) → take (length xs) (xs ++ ys) ≡ xs
take_front [] ys = refl
take_front (x ∷ xs) ys = ap (λ r. x ∷ r) (take_front xs ys)

drop_front : {X : Type 0} (xs ys : List X) → drop (length xs) (xs ++ ys) ≡ ys
drop_front [] ys = refl
drop_front (x ∷ xs) ys = drop_front xs ys

get_front : {X : Type 0} (xs ys : List X) (y : X) → slice_get (xs ++ y ∷ ys) (length xs) ≡ Some y
get_front [] ys y = refl
get_front (x ∷ xs) ys y = get_front xs ys y

-- how many stand before the last thousand
count : (a b : ℕ) → b ≤ 1000 → (0 < a → b ≡ 1000) → (a + b) - 1000 ≡ a
count a b few full = by_first a few full
  where
    by_first : (a : ℕ) → b ≤ 1000 → (0 < a → b ≡ 1000) → (a + b) - 1000 ≡ a
    by_first zero few full = omega (arith, few)
    by_first (suc a) few full = let whole : b ≡ 1000 = full (omega arith) in omega (arith, whole)

-- ---- one run

pub none_front : (t : EndedRun → Bool) (xs ys : List EndedRun) → find t (xs ++ ys) ≡ None → (find t xs ≡ None) × (find t ys ≡ None)
none_front t [] ys h = (refl, h)
none_front t (x ∷ xs) ys h =
    let none = cond_none (t x) x (find t (xs ++ ys)) h in
    let more = none_front t xs ys none.1 in
    (rw none.0 more.0, more.1)

none_both : (t : EndedRun → Bool) (xs ys : List EndedRun) → find t xs ≡ None → find t ys ≡ None → find t (xs ++ ys) ≡ None
none_both t [] ys h k = k
none_both t (x ∷ xs) ys h k = let none = cond_none (t x) x (find t xs) h in rw none.0 (none_both t xs ys none.1 k)

none_filter : (t p : EndedRun → Bool) (xs : List EndedRun) → find t xs ≡ None → find t (filter p xs) ≡ None
none_filter t p [] h = refl
none_filter t p (x ∷ xs) h = let none = cond_none (t x) x (find t xs) h in by_test (p x) none.0 (none_filter t p xs none.1)
  where
    by_test : (b : Bool) → t x ≡ false → find t (filter p xs) ≡ None → find t (cond b (x ∷ filter p xs) (filter p xs)) ≡ None
    by_test true e more = rw e more
    by_test false e more = more

-- ---- each run once

flip_false : (n m : ℕ) → (n == m) ≡ false → (m == n) ≡ false
flip_false n m h = grind (arith, nat_tests, h)

same_self : (n : ℕ) → (n == n) ≡ true
same_self n = grind (arith, nat_tests)

apart_back : (xs ys : List EndedRun) → AreApart ended_number (xs ++ ys) → AreApart ended_number ys
apart_back [] ys a = a
apart_back (x ∷ xs) ys a = apart_back xs ys a.1

-- a run of the back isn't in the front
apart_across : (xs ys : List EndedRun) (y : EndedRun) → AreApart ended_number (xs ++ y ∷ ys) → find (has ended_number y.run) xs ≡ None
apart_across [] ys y a = refl
apart_across (x ∷ xs) ys y a =
    let back = none_front (has ended_number x.run) xs (y ∷ ys) a.0 in
    let other = cond_none (x.run == y.run) y (find (has ended_number x.run) ys) back.1 in
    rw (flip_false x.run y.run other.0) (apart_across xs ys y a.1)

apart_last : (xs : List EndedRun) (x : EndedRun) → AreApart ended_number xs → find (has ended_number x.run) xs ≡ None → AreApart ended_number (xs ++ x ∷ [])
apart_last [] x a h = (refl, tt)
apart_last (y ∷ xs) x a h =
    let none = cond_none (x.run == y.run) y (find (has ended_number x.run) xs) h in
    (none_both (has ended_number y.run) xs (x ∷ []) a.0 (rw (flip_false x.run y.run none.0) refl), apart_last xs x a.1 none.1)

apart_dropped : (p : EndedRun → Bool) (xs ys : List EndedRun) → AreApart ended_number (xs ++ ys) → AreApart ended_number (filter p xs ++ ys)
apart_dropped p [] ys a = a
apart_dropped p (x ∷ xs) ys a = by_test (p x) (apart_dropped p xs ys a.1)
  where
    by_test : (b : Bool) → AreApart ended_number (filter p xs ++ ys) → AreApart ended_number (cond b (x ∷ filter p xs) (filter p xs) ++ ys)
    by_test true more = let none = none_front (has ended_number x.run) xs ys a.0 in (none_both (has ended_number x.run) (filter p xs) ys (none_filter (has ended_number x.run) p xs none.0) none.1, more)
    by_test false more = more

length_filter : (p : EndedRun → Bool) (xs : List EndedRun) → length (filter p xs) ≤ length xs
length_filter p [] = omega arith
length_filter p (x ∷ xs) = by_test (p x) (length_filter p xs)
  where
    by_test : (b : Bool) → length (filter p xs) ≤ length xs → length (cond b (x ∷ filter p xs) (filter p xs)) ≤ length (x ∷ xs)
    by_test true more = omega (arith, more)
    by_test false more = omega (arith, more)

pub copied_some : {X : Type 0} (o : Option (Bor X)) → is_some o ≡ is_some (option_copied o)
copied_some None = refl
copied_some (Some x) = refl

pub split_empty : (early last : List EndedRun) (pairs : List (ℕ × ℕ)) → early ≡ [] → last ≡ [] → pairs ≡ [] → IsSplit early last pairs
split_empty early last pairs a b c = subst (λ xs. IsSplit xs last pairs) (sym a) (subst (λ ys. IsSplit [] ys pairs) (sym b) (record {
  few = omega arith;
  full = λ h. absurd (omega (arith, h));
  apart = tt;
  told = told_empty ended_number ended_events pairs c;
}))

module _ (early last : List EndedRun) (pairs : List (ℕ × ℕ)) (s : IsSplit early last pairs) where
  before : length (early ++ last) - 1000 ≡ length early
  before = ap (λ n. n - 1000) (length-append early last) ∙ count (length early) (length last) s.few s.full

  pub split_last : last_ended (early ++ last) ≡ last
  split_last = ap (λ n. drop n (early ++ last)) before ∙ drop_front early last

  split_first : take (length (early ++ last) - 1000) (early ++ last) ≡ early
  split_first = ap (λ n. take n (early ++ last)) before ∙ take_front early last

  -- ---- what is looked up

  any_found : (t : EndedRun → Bool) (xs : List EndedRun) → is_some (find t xs) ≡ list_any t xs
  any_found t [] = refl
  any_found t (x ∷ xs) = by_test (t x) (any_found t xs)
    where
      by_test : (b : Bool) → is_some (find t xs) ≡ list_any t xs → is_some (cond b (Some x) (find t xs)) ≡ (b || list_any t xs)
      by_test true more = refl
      by_test false more = more

  pub split_is_last : (run : ℕ) → is_some (find (has ended_number run) last) ≡ list_any (is_ended run) (last_ended (early ++ last))
  split_is_last run = any_found (has ended_number run) last ∙ ap (list_any (is_ended run)) (sym split_last)

  pub split_get : (run : ℕ) → find (has ended_number run) last ≡ find (is_ended run) (last_ended (early ++ last))
  split_get run = ap (find (is_ended run)) (sym split_last)

  pub split_of_event : (event : ℕ) → IsStrictlySortedBy pair_cmp pairs → numbers_of event pairs ≡ in_order (map ended_number (filter (ended_names event) (last_ended (early ++ last))))
  split_of_event event o =
      told_in_order ended_number ended_events event last pairs s.told o
      ∙ ap (λ xs. in_order (map ended_number (filter (ended_names event) xs))) (sym split_last)

  -- ---- one is dropped

  pub split_dropped : (run : ℕ) (fewer : List EndedRun) → fewer ≡ without ended_number run early → (fewer ++ last ≡ last_or (is_another run) 1000 (early ++ last)) × IsSplit fewer last pairs
  split_dropped run fewer e = (
    ap (λ xs. xs ++ last) (e ∙ ap (filter (is_another run)) (sym split_first)) ∙ ap (λ ys. filter (is_another run) (take (length (early ++ last) - 1000) (early ++ last)) ++ ys) (sym split_last),
    subst (λ xs. IsSplit xs last pairs) (sym e) (record {
      few = s.few;
      full = λ h. s.full (let less = length_filter (is_another run) early in omega (arith, h, less));
      apart = apart_dropped (is_another run) early last s.apart;
      told = s.told;
    }),
  )

  -- ---- one comes

  module _ (x : EndedRun) (more : List EndedRun) (joined : List (ℕ × ℕ)) (new : find (has ended_number x.run) (early ++ last) ≡ None) (e : more ≡ last ++ x ∷ []) (j : IsJoined x.events x.run pairs joined) where
    pub last_new : find (has ended_number x.run) last ≡ None
    last_new = (none_front (has ended_number x.run) early last new).1

    longer : length more ≡ length last + 1
    longer = ap length e ∙ length-append last (x ∷ [])

    whole : early ++ more ≡ (early ++ last) ++ x ∷ []
    whole = ap (λ xs. early ++ xs) e ∙ sym (append_assoc early last (x ∷ []))

    apart_more : AreApart ended_number (early ++ more)
    apart_more = subst (AreApart ended_number) (sym whole) (apart_last (early ++ last) x s.apart new)

    told_more : IsTold ended_number ended_events more joined
    told_more = subst (λ xs. IsTold ended_number ended_events xs joined) (sym e) (told_last ended_number ended_events x last pairs joined s.told j)

    none_out : length more ≤ 1000 → nat_le 1000 (length (early ++ last)) ≡ false
    none_out h = by_early early (length-append early last) s.full
      where
        by_early : (xs : List EndedRun) → length (early ++ last) ≡ length xs + length last → (0 < length xs → length last ≡ 1000) → nat_le 1000 (length (early ++ last)) ≡ false
        by_early [] n full = let l = longer in let less : length (early ++ last) < 1000 = omega (arith, n, l, h) in grind (arith, nat_tests, less)
        by_early (y ∷ ys) n full = let l = longer in let all : length last ≡ 1000 = full (omega arith) in absurd (omega (arith, all, l, h))

    pub split_more : length more ≤ 1000 → (early ++ more ≡ (early ++ last) ++ x ∷ []) × (None ≡ outgoing (early ++ last)) × IsSplit early more joined
    split_more h = (
      whole,
      sym (ap (λ b. cond b (option_map ended_number (slice_get (early ++ last) (length (early ++ last) - 1000))) None) (none_out h)),
      record {
        few = h;
        full = λ some. let all = s.full some in let l = longer in absurd (omega (arith, all, l, h));
        apart = apart_more;
        told = told_more;
      },
    )

    -- it isn't empty
    pub some_first : more ≡ [] → ⊥
    some_first h = let l = longer in let none = ap length h in omega (arith, l, none)

    module _ (first : EndedRun) (rest : List EndedRun) (m : more ≡ first ∷ rest) (h : 1000 < length more) where
      filled : length last ≡ 1000
      filled = let l = longer in let f = s.few in omega (arith, l, f, h)

      shorter : length more ≡ length rest + 1
      shorter = let l = ap length m in omega (arith, l)

      apart_first : AreApart ended_number (early ++ first ∷ rest)
      apart_first = subst (λ xs. AreApart ended_number (early ++ xs)) m apart_more

      pub first_new : find (has ended_number first.run) early ≡ None
      first_new = apart_across early rest first apart_first

      regroup : (xs ys : List EndedRun) (y : EndedRun) → (xs ++ y ∷ []) ++ ys ≡ xs ++ y ∷ ys
      regroup xs ys y = append_assoc xs (y ∷ []) ys

      -- the first of the last thousand before
      first_last : (zs : List EndedRun) → length zs ≡ 1000 → zs ++ x ∷ [] ≡ first ∷ rest → slice_get zs 0 ≡ Some first
      first_last [] l q = absurd (omega (arith, l))
      first_last (z ∷ zs) l q = same_first z first (zs ++ x ∷ []) rest q
        where
          same_first : (a b : EndedRun) (xs ys : List EndedRun) → a ∷ xs ≡ b ∷ ys → Some a ≡ Some b
          same_first a b xs ys h = cc

      get_back : (xs ys : List EndedRun) → slice_get (xs ++ ys) (length xs) ≡ slice_get ys 0
      get_back [] ys = refl
      get_back (z ∷ xs) ys = get_back xs ys

      long_enough : nat_le 1000 (length (early ++ last)) ≡ true
      long_enough = let n = length-append early last in let f = filled in let enough : 1000 ≤ length (early ++ last) = omega (arith, n, f) in grind (arith, nat_tests, enough)

      out : Some first.run ≡ outgoing (early ++ last)
      out =
          ap (option_map ended_number) (sym (ap (slice_get (early ++ last)) before ∙ get_back early last ∙ first_last last filled (sym e ∙ m)))
          ∙ sym (ap (λ b. cond b (option_map ended_number (slice_get (early ++ last) (length (early ++ last) - 1000))) None) long_enough)

      rest_told : (parted : List (ℕ × ℕ)) → IsParted first.events first.run joined parted → IsTold ended_number ended_events rest parted
      rest_told parted p =
          let apart : AreApart ended_number (first ∷ rest) = apart_back early (first ∷ rest) apart_first in
          let told = subst (λ xs. IsTold ended_number ended_events xs joined) m told_more in
          let found : find (has ended_number first.run) (first ∷ rest) ≡ Some first = ap (λ b. cond b (Some first) (find (has ended_number first.run) rest)) (same_self first.run) in
          let left : without ended_number first.run (first ∷ rest) ≡ rest =
          ap (λ b. cond (not b) (first ∷ without ended_number first.run rest) (without ended_number first.run rest)) (same_self first.run)
          ∙ filter_none (has ended_number first.run) rest apart.0 in
          subst (λ xs. IsTold ended_number ended_events xs parted) left (told_left ended_number ended_events first.run first (first ∷ rest) joined parted apart told found p)

      pub split_out : (longer_early : List EndedRun) (parted : List (ℕ × ℕ)) → longer_early ≡ early ++ first ∷ [] → IsParted first.events first.run joined parted
          → (longer_early ++ rest ≡ (early ++ last) ++ x ∷ []) × (Some first.run ≡ outgoing (early ++ last)) × IsSplit longer_early rest parted
      split_out longer_early parted l p =
          let size : length rest ≡ 1000 = let a = longer in let b = shorter in let f = filled in omega (arith, a, b, f) in
          let all : longer_early ++ rest ≡ early ++ first ∷ rest = ap (λ xs. xs ++ rest) l ∙ regroup early rest first in (
            all ∙ ap (λ xs. early ++ xs) (sym m) ∙ whole,
            out,
            record {
              few = omega (arith, size);
              full = λ some. size;
              apart = subst (AreApart ended_number) (sym all) apart_first;
              told = rest_told parted p;
            },
          )

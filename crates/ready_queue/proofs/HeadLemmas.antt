-- The first items of groups are enough, and there are no more of them than groups.
use Rattle.std.proofs.Common.{◌≡◌, ℕ, ◌+◌, ◌≤◌, nat_le, Bool, true, false, cond, not, ◌&&◌, ◌||◌, List, [], ◌∷◌, Option, Some, None, refl, sym, ap, ap₂, ◌∙◌, subst, arith, length, map}
use Rattle.std.specs.List.{AllByRecursion, list_any, filter}
use Rattle.std.specs.List.Sorted.{IsStrictlySortedBy}
use Rattle.std.specs.Option.{option_map}
use Rattle.std.specs.Ordering.{nat_cmp, int_cmp, ordering_reverse, is_eq, is_lt, is_gt}
use Rattle.std.specs.declared.cmp.Ordering.{Ordering}
use Rattle.std.specs.declared.cmp.Ordering.TheVariants.{Less, Equal, Greater}
use Rattle.std.proofs.lemmas.Map.Keys.{sorted_head, sorted_tail}
use Rattle.lists.proofs.Elements.{all-weaker}
use Rattle.kinds.proofs.CellLemmas.{group_tied}
use Rattle.kinds.specs.Queue.{number_of, group_cmp, group_of, same_group, group_firsts, groups_of, item_cmp, lesser, least, is_admissible}
use Rattle.kinds.specs.declared.cell.Cell.{Cell}
use Rattle.kinds.specs.declared.cell.CellLimit.{CellLimit}
use Rattle.kinds.specs.declared.store.Item.{Item}
use Rattle.ready_queue.specs.Heads.{has_lesser, leads, rank, rank_cmp, joined, least_rank, second}
use Rattle.ready_queue.proofs.RankLemmas.{Rank, IsUpTo, IsWithin, bound, found, behind, same_rank, rank_total, then_equal}

apart_bools : true ≡ false → ⊥
apart_bools e = cc

and_parts : (a b : Bool) → (a && b) ≡ true → (a ≡ true) × (b ≡ true)
and_parts true b h = (refl, h)
and_parts false b h = cc

not_true : (b : Bool) → not b ≡ true → b ≡ false
not_true true h = cc
not_true false h = refl

is_equal : (o : Ordering) → is_eq o ≡ true → o ≡ Equal
is_equal Less h = cc
is_equal Equal h = refl
is_equal Greater h = cc

pub group_same : (a b : Item) → same_group a b ≡ true → group_of a ≡ group_of b
group_same a b h = group_tied (group_of a) (group_of b) (is_equal (group_cmp (group_of a) (group_of b)) h)

-- ---- the definition by ranks

least_ranks : (p : Item → Bool) (xs : List Item) → option_map rank (least p xs) ≡ least_rank p xs
unfolding least least_rank
least_ranks p [] = refl
least_ranks p (i ∷ is) = by_test (p i) (least_ranks p is)
  where
    first : (o : Option Item) (r : Option Rank) → option_map rank o ≡ r → option_map rank (lesser i o) ≡ joined (Some (rank i)) r
    first None r h = subst (λ r. Some (rank i) ≡ joined (Some (rank i)) r) h refl
    first (Some x) r h = subst (λ r. option_map rank (lesser i (Some x)) ≡ joined (Some (rank i)) r) h (by_order (is_gt (rank_cmp (rank i) (rank x))))
      where
        by_order : (g : Bool) → option_map rank (cond g (Some x) (Some i)) ≡ cond g (Some (rank x)) (Some (rank i))
        by_order true = refl
        by_order false = refl

    by_test : (b : Bool) → option_map rank (least p is) ≡ least_rank p is → option_map rank (cond b (lesser i (least p is)) (least p is)) ≡ cond b (joined (Some (rank i)) (least_rank p is)) (least_rank p is)
    by_test true h = first (least p is) (least_rank p is) h
    by_test false h = h

seconds : (o : Option Item) → second (option_map rank o) ≡ option_map number_of o
seconds None = refl
seconds (Some x) = refl

pub least_second : (p : Item → Bool) (xs : List Item) → second (least_rank p xs) ≡ option_map number_of (least p xs)
least_second p xs = ap second (sym (least_ranks p xs)) ∙ seconds (least p xs)

-- ---- items of a list

-- whatever test the item passes, one of the list's does
abbrev pub IsIn : List Item → Item → Type 0
IsIn xs x = (t : Item → Bool) → t x ≡ true → list_any t xs ≡ true

or_right : (a b : Bool) → b ≡ true → (a || b) ≡ true
or_right true b h = refl
or_right false b h = h

or_left : (a b : Bool) → a ≡ true → (a || b) ≡ true
or_left true b h = refl
or_left false b h = cc

pub all_in : (xs : List Item) → AllByRecursion (IsIn xs) xs
all_in [] = tt
all_in (x ∷ xs) = (
  λ t h. or_left (t x) (list_any t xs) h,
  all-weaker (IsIn xs) (IsIn (x ∷ xs)) xs (λ y f t h. or_right (t x) (list_any t xs) (f t h)) (all_in xs),
)

pub record IsAny (P : Item → Type 0) (t : Item → Bool) : Type 0 where
  pub item : Item
  pub holds : P item
  pub passes : t item ≡ true

any_of : (P : Item → Type 0) (t : Item → Bool) (xs : List Item) → AllByRecursion P xs → list_any t xs ≡ true → IsAny P t
any_of P t [] all h = cc
any_of P t (x ∷ xs) all h = by_test (t x) refl (any_of P t xs all.1) h
  where
    by_test : (b : Bool) → t x ≡ b → (list_any t xs ≡ true → IsAny P t) → (b || list_any t xs) ≡ true → IsAny P t
    by_test true e more k = record { item = x; holds = all.0; passes = e }
    by_test false e more k = more k

-- ---- the first of its group is enough

module _ (gate : List CellLimit → Option Cell → Bool) (t : ℕ) (items : List Item) where
  abbrev passes : Item → Bool
  passes = is_admissible gate t

  abbrev heads : Item → Bool
  heads x = leads t items x && passes x

  abbrev Bounds : Item → Type 0
  Bounds x = (passes x ≡ true → IsWithin (least_rank passes items) (rank x)) × (heads x ≡ true → IsWithin (least_rank heads items) (rank x))

  both_bounds : (xs : List Item) → AllByRecursion (λ x. passes x ≡ true → IsWithin (least_rank passes items) (rank x)) xs → AllByRecursion (λ x. heads x ≡ true → IsWithin (least_rank heads items) (rank x)) xs
      → AllByRecursion Bounds xs
  both_bounds [] a b = tt
  both_bounds (x ∷ xs) a b = ((a.0, b.0), both_bounds xs a.1 b.1)

  bounds : AllByRecursion Bounds items
  bounds = both_bounds items (bound passes items) (bound heads items)

  -- what passes and comes first of all leads its group
  first_leads : (x : Item) (b : Rank) → passes x ≡ true → rank x ≡ b → least_rank passes items ≡ Some b → has_lesser t items x ≡ true → ⊥
  unfolding has_lesser
  first_leads x b p e h l =
      let other = any_of Bounds (λ (y : Item). nat_le y.due t && (is_lt (item_cmp y x) && same_group y x)) items bounds l in
      let one = and_parts (nat_le other.item.due t) (is_lt (item_cmp other.item x) && same_group other.item x) other.passes in
      let two = and_parts (is_lt (item_cmp other.item x)) (same_group other.item x) one.1 in
      let open_too : gate other.item.cells other.item.start ≡ true = ap (λ (g : List CellLimit × Option Cell). gate g.0 g.1) (group_same other.item x two.1) ∙ (and_parts (nat_le x.due t) (gate x.cells x.start) p).1 in
      let within : IsWithin (Some b) (rank other.item) = subst (λ o. IsWithin o (rank other.item)) h (other.holds.0 (ap₂ (λ u v. u && v) one.0 open_too)) in
      apart_bools (sym (behind (rank other.item) (rank x) two.0) ∙ ap (λ r. is_gt (rank_cmp r (rank other.item))) e ∙ within)

  leading : (x : Item) → passes x ≡ true → (has_lesser t items x ≡ true → ⊥) → heads x ≡ true
  unfolding leads
  leading x p n = by_test (has_lesser t items x) refl
    where
      by_test : (b : Bool) → has_lesser t items x ≡ b → ((nat_le x.due t && not b) && passes x) ≡ true
      by_test true h = absurd (n h)
      by_test false h = ap₂ (λ u v. u && v) (ap (λ u. u && true) (and_parts (nat_le x.due t) (gate x.cells x.start) p).0) p

  pub heads_least : least_rank heads items ≡ least_rank passes items
  heads_least = by_both (least_rank heads items) (least_rank passes items) refl refl
    where
      by_both : (r s : Option Rank) → least_rank heads items ≡ r → least_rank passes items ≡ s → r ≡ s
      by_both None None h k = refl
      by_both (Some a) None h k =
          let x = found Bounds heads items a bounds h in
          absurd (subst (λ o. IsWithin o (rank x.item)) k (x.holds.0 (and_parts (leads t items x.item) (passes x.item) x.passes).1))
      by_both None (Some b) h k =
          let x = found Bounds passes items b bounds k in
          absurd (subst (λ o. IsWithin o (rank x.item)) h (x.holds.1 (leading x.item x.passes (first_leads x.item b x.passes x.is k))))
      by_both (Some a) (Some b) h k =
          let x = found Bounds heads items a bounds h in
          let y = found Bounds passes items b bounds k in
          let low : IsUpTo b a = subst (λ o. IsWithin o a) k (subst (λ r. IsWithin (least_rank passes items) r) x.is (x.holds.0 (and_parts (leads t items x.item) (passes x.item) x.passes).1)) in
          let high : IsUpTo a b = subst (λ o. IsWithin o b) h (subst (λ r. IsWithin (least_rank heads items) r) y.is (y.holds.1 (leading y.item y.passes (first_leads y.item b y.passes y.is k)))) in
          ap Some (same_rank a b high low)

-- ---- no more of them than groups

-- no two of the items that pass are of one group
abbrev pub Apart : (Item → Bool) → List Item → Type 0
Apart p [] = Unit {0}
Apart p (x ∷ xs) = (p x ≡ true → AllByRecursion (λ y. p y ≡ true → same_group x y ≡ false) xs) × Apart p xs

apart_fewer : (p n : Item → Bool) (xs : List Item) → Apart p xs → Apart (λ x. p x && n x) xs
apart_fewer p n [] a = tt
apart_fewer p n (x ∷ xs) a = (
  λ h.
      all-weaker (λ y. p y ≡ true → same_group x y ≡ false) (λ y. (p y && n y) ≡ true → same_group x y ≡ false) xs (λ y f k. f (and_parts (p y) (n y) k).0)
      (a.0 (and_parts (p x) (n x) h).0),
  apart_fewer p n xs a.1,
)

filter_twice : (q n : Item → Bool) (xs : List Item) → filter q (filter n xs) ≡ filter (λ x. q x && n x) xs
filter_twice q n [] = refl
filter_twice q n (x ∷ xs) = by_tests (n x) (q x) refl (filter_twice q n xs)
  where
    by_tests : (a b : Bool) → q x ≡ b → filter q (filter n xs) ≡ filter (λ y. q y && n y) xs → filter q (cond a (x ∷ filter n xs) (filter n xs)) ≡ cond (b && a) (x ∷ filter (λ y. q y && n y) xs) (filter (λ y. q y && n y) xs)
    by_tests true true e more = rw e (ap (λ r. x ∷ r) more)
    by_tests true false e more = rw e more
    by_tests false true e more = more
    by_tests false false e more = more

-- what the others of a group lose
others : (p n : Item → Bool) (xs : List Item) → AllByRecursion (λ y. p y ≡ true → n y ≡ true) xs → filter (λ x. p x && n x) xs ≡ filter p xs
others p n [] all = refl
others p n (x ∷ xs) all = by_tests (p x) (n x) all.0 (others p n xs all.1)
  where
    by_tests : (a b : Bool) → (a ≡ true → b ≡ true) → filter (λ y. p y && n y) xs ≡ filter p xs → cond (a && b) (x ∷ filter (λ y. p y && n y) xs) (filter (λ y. p y && n y) xs) ≡ cond a (x ∷ filter p xs) (filter p xs)
    by_tests true true f more = ap (λ r. x ∷ r) more
    by_tests true false f more = absurd (apart_bools (sym (f refl)))
    by_tests false b f more = more

-- the items that are of another group than i
abbrev pub other : Item → Item → Bool
other i j = not (same_group i j)

alike : (i x y : Item) → same_group x y ≡ true → same_group i x ≡ same_group i y
alike i x y h = ap (λ g. is_eq (group_cmp (group_of i) g)) (group_same x y h)

at_most_one : (p : Item → Bool) (i : Item) (xs : List Item) → Apart p xs → length (filter p xs) ≤ 1 + length (filter (λ x. p x && other i x) xs)
at_most_one p i [] a = omega arith
at_most_one p i (x ∷ xs) a = by_tests (p x) (same_group i x) refl refl (at_most_one p i xs a.1)
  where
    by_tests : (b c : Bool) → p x ≡ b → same_group i x ≡ c → length (filter p xs) ≤ 1 + length (filter (λ y. p y && other i y) xs)
        → length (cond b (x ∷ filter p xs) (filter p xs)) ≤ 1 + length (cond (b && not c) (x ∷ filter (λ y. p y && other i y) xs) (filter (λ y. p y && other i y) xs))
    by_tests false c h k more = more
    by_tests true false h k more = omega (arith, more)
    by_tests true true h k more =
        let same = others p (other i) xs (all-weaker (λ y. p y ≡ true → same_group x y ≡ false) (λ y. p y ≡ true → other i y ≡ true) xs
        (λ y f e. ap not (ap (λ g. is_eq (group_cmp g (group_of y))) (group_same i x k) ∙ f e)) (a.0 h)) in
        let sizes = ap length same in
        omega (arith, sizes)

everywhere : (P : Item → Type 0) → ((x : Item) → P x) → (xs : List Item) → AllByRecursion P xs
everywhere P f [] = tt
everywhere P f (x ∷ xs) = (f x, everywhere P f xs)

few : (p q : Item → Bool) (xs : List Item) → Apart p xs → ((x : Item) → p x ≡ true → q x ≡ true) → ((x y : Item) → same_group x y ≡ true → q x ≡ q y)
    → length (filter p xs) ≤ length (filter q (group_firsts xs))
unfolding group_firsts
few p q [] a within groups = omega arith
few p q (i ∷ is) a within groups =
    let fewer = few (λ x. p x && other i x) (λ x. q x && other i x) is (apart_fewer p (other i) is a.1)
    (λ x h. let parts = and_parts (p x) (other i x) h in ap₂ (λ u v. u && v) (within x parts.0) parts.1) (λ x y h. ap₂ (λ u v. u && not v) (groups x y h) (alike i x y h)) in
    let same = few p q is a.1 within groups in
    by_tests (p i) (q i) refl refl fewer same
  where
    by_tests : (b c : Bool) → p i ≡ b → q i ≡ c → length (filter (λ x. p x && other i x) is) ≤ length (filter (λ x. q x && other i x) (group_firsts is)) → length (filter p is) ≤ length (filter q (group_firsts is))
        → length (cond b (i ∷ filter p is) (filter p is)) ≤ length (cond c (i ∷ filter q (filter (other i) (group_firsts is))) (filter q (filter (other i) (group_firsts is))))
    by_tests true true h k fewer same =
        let all = ap length (others p (other i) is (all-weaker (λ y. p y ≡ true → same_group i y ≡ false) (λ y. p y ≡ true → other i y ≡ true) is (λ y f e. ap not (f e)) (a.0 h))) in
        let twice = ap length (filter_twice q (other i) (group_firsts is)) in
        omega (arith, all, twice, fewer)
    by_tests true false h k fewer same = absurd (apart_bools (sym (within i h) ∙ k))
    by_tests false true h k fewer same =
        let one = at_most_one p i is a.1 in
        let twice = ap length (filter_twice q (other i) (group_firsts is)) in
        omega (arith, one, twice, fewer)
    by_tests false false h k fewer same =
        let none : (y : Item) → q y ≡ true → other i y ≡ true = λ y e. by_group y e (same_group i y) refl in
        let all = ap length (others q (other i) (group_firsts is) (everywhere (λ y. q y ≡ true → other i y ≡ true) none (group_firsts is))) in
        let twice = ap length (filter_twice q (other i) (group_firsts is)) in
        omega (arith, all, twice, same)
      where
        by_group : (y : Item) → q y ≡ true → (b : Bool) → same_group i y ≡ b → not b ≡ true
        by_group y e true s = absurd (apart_bools (sym e ∙ sym (groups i y s) ∙ k))
        by_group y e false s = refl

keep_all : (xs : List Item) → filter (λ _. true) xs ≡ xs
keep_all [] = refl
keep_all (x ∷ xs) = ap (λ r. x ∷ r) (keep_all xs)

pub leaders_few : (p : Item → Bool) (xs : List Item) → Apart p xs → length (filter p xs) ≤ groups_of xs
leaders_few p xs a =
    let all = few p (λ _. true) xs a (λ x h. refl) (λ x y h. refl) in
    let kept = ap length (keep_all (group_firsts xs)) in
    omega (arith, all, kept)

-- ---- leaders are of different groups

module _ (t : ℕ) (items : List Item) where
  ahead_of : (x y : Item) → IsIn items x → leads t items x ≡ true → leads t items y ≡ true → is_lt (item_cmp x y) ≡ true → same_group x y ≡ true → ⊥
  unfolding leads has_lesser
  ahead_of x y in_x lx ly l s =
      let due = (and_parts (nat_le x.due t) (not (has_lesser t items x)) lx).0 in
      let none = not_true (has_lesser t items y) (and_parts (nat_le y.due t) (not (has_lesser t items y)) ly).1 in
      apart_bools (sym (in_x (λ (other : Item). nat_le other.due t && (is_lt (item_cmp other y) && same_group other y)) (ap₂ (λ u v. u && v) due (ap₂ (λ u v. u && v) l s))) ∙ none)

  flip : (x y : Item) → same_group x y ≡ true → same_group y x ≡ true
  flip x y h =
      let e = group_same x y h in
      ap (λ g. is_eq (group_cmp g (group_of x))) (sym e) ∙ ap (λ g. is_eq (group_cmp (group_of x) g)) e ∙ h

  two_leaders : (x y : Item) → IsIn items x → IsIn items y → nat_cmp x.number y.number ≡ Less → leads t items x ≡ true → leads t items y ≡ true → same_group x y ≡ false
  two_leaders x y in_x in_y less lx ly = by_group (same_group x y) refl
    where
      by_order : (o : Ordering) → item_cmp x y ≡ o → same_group x y ≡ true → ⊥
      by_order Less e h = ahead_of x y in_x lx ly (ap is_lt e) h
      by_order Equal e h = unequal (sym less ∙ (then_equal (int_cmp x.score y.score) (nat_cmp x.number y.number) e).1)
        where
          unequal : Less ≡ Equal → ⊥
          unequal u = cc
      by_order Greater e h = ahead_of y x in_y ly lx (ap is_lt (rank_total.antisymm (rank y) (rank x) ∙ ap ordering_reverse e)) (flip x y h)

      by_group : (b : Bool) → same_group x y ≡ b → b ≡ false
      by_group true h = absurd (by_order (item_cmp x y) refl h)
      by_group false h = refl

  later : (x : Item) (xs : List Item) → IsIn items x → leads t items x ≡ true → AllByRecursion (IsIn items) xs → AllByRecursion (λ q. nat_cmp x.number q ≡ Less) (map number_of xs)
      → AllByRecursion (λ y. leads t items y ≡ true → same_group x y ≡ false) xs
  later x [] in_x lx all less = tt
  later x (y ∷ ys) in_x lx all less = (λ ly. two_leaders x y in_x all.0 less.0 lx ly, later x ys in_x lx all.1 less.1)

  leaders_apart : (xs : List Item) → AllByRecursion (IsIn items) xs → IsStrictlySortedBy nat_cmp (map number_of xs) → Apart (leads t items) xs
  leaders_apart [] all s = tt
  leaders_apart (x ∷ xs) all s = (
    λ lx. later x xs all.0 lx all.1 (sorted_head nat_cmp (number_of x) (map number_of xs) s),
    leaders_apart xs all.1 (sorted_tail nat_cmp (number_of x) (map number_of xs) s),
  )

  pub heads_few : IsStrictlySortedBy nat_cmp (map number_of items) → length (filter (leads t items) items) ≤ groups_of items
  heads_few s = leaders_few (leads t items) items (leaders_apart items (all_in items) s)

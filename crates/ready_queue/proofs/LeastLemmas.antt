-- The least of what is ready is the first of the items that are due and for which the gate is open.
use Rattle.std.proofs.Common.{◌≡◌, ◌⊎◌, inl, inr, ℕ, ℤ, ◌+ℤ◌, pos, ◌+◌, ◌<◌, ◌≤◌, ◌==◌, nat_lt, nat_le, Bool, true, false, cond, not, ◌&&◌, ◌||◌, List, [], ◌∷◌, Some, None, Option, refl, sym, ap, ap₂, ◌∙◌, arith, map, length, subst}
use Rattle.std.specs.Prelude.{◌<ℤ◌, ◌≤ℤ◌, ◌-ℤ◌, negsuc, unsigned_abs}
use Rattle.std.specs.Option.{option_map}
use Rattle.std.specs.BTreeMap.{is_at}
use Rattle.std.specs.List.{find, filter, AllByRecursion, list_any}
use Rattle.std.specs.List.Sorted.{IsStrictlySortedBy}
use Rattle.std.specs.Map.{lookup, values_of}
use Rattle.std.specs.Ordering.{nat_cmp, int_cmp, ordering_then, is_gt, is_eq, MatchOrdering}
use Rattle.std.specs.declared.cmp.Ordering.{Ordering}
use Rattle.std.specs.declared.cmp.Ordering.TheVariants.{Less, Equal, Greater}
use Rattle.std.proofs.lemmas.Bool.Decides.{nat_tests}
use Rattle.std.proofs.lemmas.Cmp.{int_ranked, ranked}
use Rattle.std.proofs.lemmas.Int.{ints}
use Rattle.std.proofs.Common.{SFits, w64}
use Rattle.std.proofs.lemmas.Map.Keys.{sorted_head, sorted_tail}
use Rattle.lists.proofs.Elements.{all-weaker}
use Rattle.lists.proofs.Stored.{IsStored, numbered_found}
use Rattle.kinds.specs.Cells.{IsStart}
use Rattle.kinds.specs.Queue.{number_of, has_number, group_of, group_cmp, same_group, group_firsts, least, is_admissible, least_admissible}
use Rattle.kinds.specs.declared.store.Item.{Item}
use Rattle.ready_queue.specs.Heads.{rank, rank_cmp, least_rank, second}
use Rattle.ready_queue.specs.Held.{Group, Held, IsLeastHeld, IsOf, AreOf, HasEach, is_of}
use Rattle.ready_queue.specs.Keys.{at_most, IsUpTo as IsBest}
use Rattle.ready_queue.specs.Opens.{Gates, HaveStarts}
use Rattle.ready_queue.specs.Pool.{has_pair, is_held, IsReady, IsPool}
use Rattle.ready_queue.specs.Store.{least_score, lifted, IsScore, IsStore}
use Rattle.ready_queue.proofs.HeadLemmas.{least_second, group_same}
use Rattle.ready_queue.proofs.RankLemmas.{Rank, IsUpTo, IsWithin, bound, found}

some_same : (x y : Item) → Some x ≡ Some y → x ≡ y
some_same x y e = cc

apart : true ≡ false → ⊥
apart e = cc

-- ---- items by their numbers

-- what holds of all holds of what is found
pub all_found : (P : Item → Type 0) (t : Item → Bool) (xs : List Item) (x : Item) → AllByRecursion P xs → find t xs ≡ Some x → P x
all_found P t [] x all h = cc
all_found P t (y ∷ ys) x all h = by_test (t y) h (all_found P t ys x all.1)
  where
    by_test : (b : Bool) → cond b (Some y) (find t ys) ≡ Some x → (find t ys ≡ Some x → P x) → P x
    by_test true e more = subst P (some_same y x e) all.0
    by_test false e more = more e

abbrev IsIn : List Item → Item → Type 0
IsIn xs x = find (has_number x.number) xs ≡ Some x

abbrev IsInOrder : List Item → Type 0
IsInOrder xs = IsStrictlySortedBy nat_cmp (map number_of xs)

same_number : (n : ℕ) → (n == n) ≡ true
same_number n = grind (arith, nat_tests)

less_apart : (k n : ℕ) → nat_cmp k n ≡ Less → (n == k) ≡ false
less_apart k n h = grind (arith, nat_tests)

both : (P Q : Item → Type 0) (xs : List Item) → AllByRecursion P xs → AllByRecursion Q xs → AllByRecursion (λ x. P x × Q x) xs
both P Q [] a b = tt
both P Q (x ∷ xs) a b = ((a.0, b.0), both P Q xs a.1 b.1)

above : (k : ℕ) (xs : List Item) → AllByRecursion (λ n. nat_cmp k n ≡ Less) (map number_of xs) → AllByRecursion (λ (x : Item). nat_cmp k x.number ≡ Less) xs
above k [] h = tt
above k (x ∷ xs) h = (h.0, above k xs h.1)

pub all_in : (xs : List Item) → IsInOrder xs → AllByRecursion (IsIn xs) xs
all_in [] s = tt
all_in (y ∷ ys) s = (
  ap (λ b. cond b (Some y) (find (has_number y.number) ys)) (same_number y.number),
  all-weaker (λ (x : Item). (nat_cmp y.number x.number ≡ Less) × IsIn ys x) (IsIn (y ∷ ys)) ys
      (λ x h. ap (λ b. cond b (Some y) (find (has_number x.number) ys)) (less_apart y.number x.number h.0) ∙ h.1)
      (both (λ (x : Item). nat_cmp y.number x.number ≡ Less) (IsIn ys) ys (above y.number ys (sorted_head nat_cmp y.number (map number_of ys) s)) (all_in ys (sorted_tail nat_cmp y.number (map number_of ys) s))),
)

-- ---- scores

counted : (p q : ℕ) (m : ℤ) → (m +ℤ pos p) <ℤ (m +ℤ pos q) → p < q
counted p q m h = omega (arith, ints, h)

lifted_less : (a b : ℤ) → IsScore a → IsScore b → a <ℤ b → lifted a < lifted b
unfolding IsScore
lifted_less a b x y h = counted (lifted a) (lifted b) least_score (subst (λ z. (least_score +ℤ pos (lifted a)) <ℤ z) (sym y) (subst (λ z. z <ℤ b) (sym x) h))

abs_back : (z : ℤ) → pos 0 ≤ℤ z → pos (unsigned_abs z) ≡ z
abs_back (pos k) h = refl
abs_back (negsuc k) h = absurd (below k h)
  where
    below : (k : ℕ) → pos 0 ≤ℤ negsuc k → ⊥
    below k h = omega (arith, ints, h)

counted_back : (z m : ℤ) → m ≤ℤ z → m +ℤ pos (unsigned_abs (z -ℤ m)) ≡ z
counted_back z m h = ap (λ w. m +ℤ w) (abs_back (z -ℤ m) (past z m h)) ∙ back z m
  where
    past : (z m : ℤ) → m ≤ℤ z → pos 0 ≤ℤ (z -ℤ m)
    past z m h = omega (arith, ints, h)

    back : (z m : ℤ) → m +ℤ (z -ℤ m) ≡ z
    back z m = omega (arith, ints)

low : (z : ℤ) → SFits w64 z → least_score ≤ℤ z
low (pos n) f = omega (arith, ints)
low (negsuc n) f = omega (arith, ints, f)

pub is_score : (z : ℤ) → SFits w64 z → IsScore z
unfolding IsScore lifted
is_score z f = counted_back z least_score (low z f)

-- the first by score and number is the least as counted
meets : (a b : ℤ) (n m : ℕ) → IsScore a → IsScore b → at_most (lifted b, m) (lifted a, n) ≡ true → is_gt (rank_cmp (a, n) (b, m)) ≡ false → m ≡ n
unfolding at_most
meets a b n m x y le h = by_order (int_cmp a b) (nat_cmp n m) refl refl h
  where
    not_less : (p q : ℕ) → p < q → (nat_lt q p || (q == p && nat_le m n)) ≡ true → ⊥
    not_less p q l e = grind (arith, nat_tests)

    not_more : (p : ℕ) → (nat_lt p p || (p == p && nat_le m n)) ≡ true → m ≤ n
    not_more p e = grind (arith, nat_tests)

    same : (o : Ordering) → nat_cmp n m ≡ o → is_gt o ≡ false → m ≤ n → m ≡ n
    same o e g l = grind (arith, nat_tests)

    by_order : (o q : Ordering) → int_cmp a b ≡ o → nat_cmp n m ≡ q → is_gt (ordering_then o q) ≡ false → m ≡ n
    by_order Less q e f g = absurd (not_less (lifted a) (lifted b) (lifted_less a b x y (subst (λ o. MatchOrdering o (a <ℤ b) (a ≡ b) (b <ℤ a)) e (int_ranked a b (int_cmp a b) refl))) le)
    by_order Equal q e f g =
        let equal : a ≡ b = subst (λ o. MatchOrdering o (a <ℤ b) (a ≡ b) (b <ℤ a)) e (int_ranked a b (int_cmp a b) refl) in
        same q f g (not_more (lifted b) (subst (λ z. (nat_lt (lifted b) (lifted z) || (lifted b == lifted z && nat_le m n)) ≡ true) equal le))
    by_order Greater q e f g = absurd (apart g)

-- ---- the least

pub record IsCurrent (items : List Item) (held : Held) (horizon t : ℕ) : Type 0 where
  pub ready : (k : Group) (s n : ℕ) → held k s n ≡ true → IsReady items horizon k s n
  pub before : horizon ≤ t
  pub due : (n : ℕ) (item : Item) → find (has_number n) items ≡ Some item → item.due ≤ t → is_held held item n ≡ true

-- where nothing that waits is due, what is due is ready
pub current : (items : List Item) (held : Held) (waiting : List (ℕ × ℕ)) (horizon clear t : ℕ) → IsPool items held waiting horizon clear → horizon ≤ t → t ≤ clear → IsCurrent items held horizon t
current items held waiting horizon clear t q before none = record {
  ready = q.ready;
  before = before;
  due = λ n item f le. elim (q.kept n item f) [ inl y ↦ y | inr w ↦ absurd (let late = q.late item.due n w in omega arith) ];
}

and_parts : (a b : Bool) → (a && b) ≡ true → (a ≡ true) × (b ≡ true)
and_parts true b h = (refl, h)
and_parts false b h = cc

due_then : (d t : ℕ) → nat_le d t ≡ true → d ≤ t
due_then d t h = grind (arith, nat_tests)

due_by : (d h t : ℕ) → d ≤ h → h ≤ t → nat_le d t ≡ true
due_by d h t x y = grind (arith, nat_tests)

pub found_number : (n : ℕ) (xs : List Item) (x : Item) → find (has_number n) xs ≡ Some x → n ≡ x.number
found_number n [] x h = cc
found_number n (y ∷ ys) x h = by_test (n == y.number) refl h (found_number n ys x)
  where
    equal : (n == y.number) ≡ true → n ≡ y.number
    equal t = grind (arith, nat_tests)

    by_test : (b : Bool) → (n == y.number) ≡ b → cond b (Some y) (find (has_number n) ys) ≡ Some x → (find (has_number n) ys ≡ Some x → n ≡ x.number) → n ≡ x.number
    by_test true t e more = equal t ∙ ap number_of (some_same y x e)
    by_test false t e more = more e

module _ (gate : Gates) (t horizon : ℕ) (items : List Item) (held : Held) (order : IsInOrder items) (scores : AllByRecursion (λ (i : Item). IsScore i.score) items) (c : IsCurrent items held horizon t) where
  abbrev passes : Item → Bool
  passes = is_admissible gate t

  abbrev Known : Item → Type 0
  Known x = (IsIn items x × IsScore x.score) × (passes x ≡ true → IsWithin (least_rank passes items) (rank x))

  known : AllByRecursion Known items
  known = both (λ x. IsIn items x × IsScore x.score) (λ x. passes x ≡ true → IsWithin (least_rank passes items) (rank x)) items (both (IsIn items) (λ (x : Item). IsScore x.score) items (all_in items order) scores) (bound passes items)

  -- an item that passes isn't before the least that is held
  best : (r : Option (ℕ × ℕ)) → IsLeastHeld gate held r → (z : Item) → Known z → passes z ≡ true → IsBest r (lifted z.score, z.number)
  best r l z k p =
      let parts = and_parts (nat_le z.due t) (gate z.cells z.start) p in
      l.least (group_of z) (lifted z.score) z.number (c.due z.number z k.0.0 (due_then z.due t parts.0)) parts.1

  record IsFor (b : ℕ × ℕ) : Type 0 where
    item : Item
    knows : Known item
    passing : passes item ≡ true
    score : lifted item.score ≡ b.0
    number : item.number ≡ b.1

  for_held : (b : ℕ × ℕ) → IsLeastHeld gate held (Some b) → IsFor b
  for_held b l =
      let k = l.sound.0 in
      let is = c.ready k b.0 b.1 l.sound.1 in
      let open_too : gate is.item.cells is.item.start ≡ true = ap (λ (g : Group). gate g.0 g.1) is.group ∙ l.sound.2 in
      record {
        item = is.item;
        knows = all_found Known (has_number b.1) items is.item known is.found;
        passing = ap₂ (λ u v. u && v) (due_by is.item.due horizon t is.due c.before) open_too;
        score = is.score;
        number = sym (found_number b.1 items is.item is.found);
      }

  by_both : (r : Option (ℕ × ℕ)) (o : Option Rank) → IsLeastHeld gate held r → least_rank passes items ≡ o → second r ≡ second o
  by_both None None l e = refl
  by_both None (Some a) l e = let z = found Known passes items a known e in absurd (best None l z.item z.holds z.passes)
  by_both (Some b) None l e = let x = for_held b l in absurd (subst (λ o. IsWithin o (rank x.item)) e (x.knows.1 x.passing))
  by_both (Some b) (Some a) l e =
      let z = found Known passes items a known e in
      let x = for_held b l in
      let low : at_most (lifted x.item.score, x.item.number) (lifted z.item.score, z.item.number) ≡ true = subst (λ n. at_most (lifted x.item.score, n) (lifted z.item.score, z.item.number) ≡ true) (sym x.number)
      (subst (λ s. at_most (s, b.1) (lifted z.item.score, z.item.number) ≡ true) (sym x.score) (best (Some b) l z.item z.holds z.passes)) in
      let high : IsUpTo a (rank x.item) = subst (λ o. IsWithin o (rank x.item)) e (x.knows.1 x.passing) in
      ap Some (sym x.number ∙ meets z.item.score x.item.score z.item.number x.item.number z.holds.0.1 x.knows.0.1 low (subst (λ (q : Rank). IsUpTo q (rank x.item)) (sym z.is) high) ∙ ap (λ (q : Rank). q.1) z.is)

  pub current_least : (r : Option (ℕ × ℕ)) → IsLeastHeld gate held r → second r ≡ least_admissible gate t items
  current_least r l = by_both r (least_rank passes items) l refl ∙ least_second passes items

pub pool_least : (gate : Gates) (t : ℕ) (pairs : List (ℕ × Item)) (items : List Item) (held : Held) (waiting : List (ℕ × ℕ)) (horizon clear : ℕ) (r : Option (ℕ × ℕ)) → IsStore pairs → values_of pairs ≡ items
    → IsPool items held waiting horizon clear → horizon ≤ t → t ≤ clear → IsLeastHeld gate held r → second r ≡ least_admissible gate t items
pool_least gate t pairs items held waiting horizon clear r st e p before after l = subst (λ (is : List Item). IsPool is held waiting horizon clear → second r ≡ least_admissible gate t is) e
    (λ q. current_least gate t horizon (values_of pairs) held st.stored.ordered st.scores (current (values_of pairs) held waiting horizon clear t q before after) r l) p

-- ---- what the search asks

or_true : (b : Bool) → (b || true) ≡ true
or_true true = refl
or_true false = refl

found_of : (n : ℕ) (k : Group) (xs : List Item) (x : Item) → find (has_number n) xs ≡ Some x → is_of k x ≡ true → list_any (is_of k) xs ≡ true
found_of n k [] x h e = cc
found_of n k (y ∷ ys) x h e = by_test (n == y.number) h (λ f. found_of n k ys x f e)
  where
    by_test : (b : Bool) → cond b (Some y) (find (has_number n) ys) ≡ Some x → (find (has_number n) ys ≡ Some x → list_any (is_of k) ys ≡ true) → (is_of k y || list_any (is_of k) ys) ≡ true
    by_test true f more = ap (λ b. b || list_any (is_of k) ys) (ap (is_of k) (some_same y x f) ∙ e)
    by_test false f more = ap (λ b. is_of k y || b) (more f) ∙ or_true (is_of k y)

-- an item of a group stays among the others where it isn't of the first's
stays : (k : Group) (i : Item) (xs : List Item) → list_any (is_of k) xs ≡ true → is_of k i ≡ false → list_any (is_of k) (filter (λ j. not (same_group i j)) xs) ≡ true
stays k i [] h n = cc
stays k i (x ∷ xs) h n = by_tests (same_group i x) (is_of k x) refl refl h (λ f. stays k i xs f n)
  where
    by_tests : (b c : Bool) → same_group i x ≡ b → is_of k x ≡ c → (c || list_any (is_of k) xs) ≡ true → (list_any (is_of k) xs ≡ true → list_any (is_of k) (filter (λ j. not (same_group i j)) xs) ≡ true)
        → list_any (is_of k) (cond (not b) (x ∷ filter (λ j. not (same_group i j)) xs) (filter (λ j. not (same_group i j)) xs)) ≡ true
    by_tests true true s e f more = absurd (apart (sym e ∙ sym (ap (λ g. is_at (group_cmp k) g) (group_same i x s)) ∙ n))
    by_tests true false s e f more = more f
    by_tests false true s e f more = ap (λ b. b || list_any (is_of k) (filter (λ j. not (same_group i j)) xs)) e
    by_tests false false s e f more = ap (λ b. is_of k x || b) (more f) ∙ or_true (is_of k x)

first_of : (k : Group) (xs : List Item) → list_any (is_of k) xs ≡ true → list_any (is_of k) (group_firsts xs) ≡ true
unfolding group_firsts
first_of k [] h = h
first_of k (x ∷ xs) h = by_test (is_of k x) refl h (first_of k xs)
  where
    by_test : (b : Bool) → is_of k x ≡ b → (b || list_any (is_of k) xs) ≡ true → (list_any (is_of k) xs ≡ true → list_any (is_of k) (group_firsts xs) ≡ true)
        → (is_of k x || list_any (is_of k) (filter (λ j. not (same_group x j)) (group_firsts xs))) ≡ true
    by_test true e f more = ap (λ b. b || list_any (is_of k) (filter (λ j. not (same_group x j)) (group_firsts xs))) e
    by_test false e f more = ap (λ b. is_of k x || b) (stays k x (group_firsts xs) (more f) e) ∙ or_true (is_of k x)

pub each_first : (items : List Item) (held : Held) (horizon : ℕ) → ((k : Group) → is_at (group_cmp k) k ≡ true) → ((k : Group) (s n : ℕ) → held k s n ≡ true → IsReady items horizon k s n) → HasEach (group_firsts items) held
each_first items held horizon itself ready k s n h =
    let is = ready k s n h in
    first_of k items (found_of n k items is.item is.found (ap (λ g. is_at (group_cmp k) g) is.group ∙ itself k))

module _ (pairs : List (ℕ × Item)) (st : IsStore pairs) where
  pub are_of : (held : Held) (horizon : ℕ) → ((k : Group) (s n : ℕ) → held k s n ≡ true → IsReady (values_of pairs) horizon k s n) → AreOf pairs held
  are_of held horizon ready k s n h = let is = ready k s n h in (is.item, numbered_found number_of pairs n st.stored ∙ is.found, is.group)

  pub have_starts : HaveStarts pairs
  have_starts n item h = all_found (λ (i : Item). IsStart i.start) (has_number n) (values_of pairs) item st.starts (sym (numbered_found number_of pairs n st.stored) ∙ h)

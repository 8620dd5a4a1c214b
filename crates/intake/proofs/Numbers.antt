-- A timeline's map and set after an entry came or went, and what its oldest moment tells.
use Rattle.std.proofs.Common.{◌≡◌, ℕ, ◌-◌, ◌<◌, ◌≤◌, ◌==◌, nat_lt, Bool, true, false, cond, not, ◌&&◌, List, [], ◌∷◌, Some, None, Option, refl, sym, ap, ◌∙◌, arith, map, length, subst, eqb-true}
use mathlib.Core.Path.{fun_ext}
use Rattle.std.specs.Bool.{IsTrue}
use Rattle.std.specs.Option.{MatchOption}
use Rattle.std.specs.List.{find, filter, AllByRecursion, list_any}
use Rattle.std.specs.Map.{keys_of, values_of, lookup, remove_entry}
use Rattle.std.specs.BTreeMap.{insert_entry, is_at}
use Rattle.std.specs.List.Sorted.{IsStrictlySortedBy}
use Rattle.std.specs.Ordering.{is_lt, is_gt, nat_cmp}
use Rattle.std.specs.declared.cmp.Ordering.TheVariants.{Less}
use Rattle.std.proofs.lemmas.Bool.{cond-true, cond-false}
use Rattle.std.proofs.lemmas.Bool.Decides.{nat_tests}
use Rattle.std.proofs.lemmas.Cmp.{nat_cmp_total}
use Rattle.std.proofs.lemmas.Map.Keys.{sorted_head, sorted_tail}
use Rattle.std.proofs.lemmas.Option.{same_Some}
use Rattle.kinds.specs.declared.seen.SeenEntry.{SeenEntry}
use Rattle.kinds.specs.Seen.{insert_seen, is_remembered, remembered, window}
use Rattle.intake.specs.Number.{has_number, number_of, without_number}
use Rattle.intake.specs.Order.{AreListed, IsInOrder, pair_cmp, has_part, moment_of, under_numbers, IsTimeline}
use Rattle.lists.proofs.Keyed.{Inserts, filter_none, find_without, find_filter, values_of-keyed, keys_of-keyed, lookup-keyed, keyed-insert, keyed-remove, find-insert}

lt_same : (a b : ℕ) → nat_lt a b ≡ is_lt (nat_cmp a b)
lt_same a b = grind (arith, nat_tests)

at_same : (a b : ℕ) → is_at (nat_cmp a) b ≡ (a == b)
at_same a b = grind (arith, nat_tests)

pair_at : (a b c d : ℕ) → is_at (pair_cmp (a, b)) (c, d) ≡ ((a == c) && (b == d))
pair_at a b c d = grind (arith, nat_tests)

pub seen_inserts : Inserts nat_cmp number_of insert_seen
seen_inserts = record {
  empty = λ x. refl;
  place = λ x y ys. ap (λ b. cond b (x ∷ y ∷ ys) (y ∷ insert_seen x ys)) (lt_same x.number y.number);
}

test_same : (n : ℕ) (e : SeenEntry) → is_at (nat_cmp n) e.number ≡ has_number n e
test_same n e = at_same n e.number

find_same : (n : ℕ) (es : List SeenEntry) → find (λ (e : SeenEntry). is_at (nat_cmp n) e.number) es ≡ find (has_number n) es
find_same n es = ap (λ t. find t es) (fun_ext (test_same n))

filter_same : (n : ℕ) (es : List SeenEntry) → filter (λ (e : SeenEntry). not (is_at (nat_cmp n) e.number)) es ≡ without_number n es
filter_same n es = ap (λ (t : SeenEntry → Bool). filter (λ e. not (t e)) es) (fun_ext (test_same n))

pub found_number : (n : ℕ) (es : List SeenEntry) (e : SeenEntry) → find (has_number n) es ≡ Some e → n ≡ e.number
found_number n [] e h = cc
found_number n (x ∷ es) e h = by_test (n == x.number) refl (found_number n es e) h
  where
    by_test : (b : Bool) → (n == x.number) ≡ b → (find (has_number n) es ≡ Some e → n ≡ e.number) → cond b (Some x) (find (has_number n) es) ≡ Some e → n ≡ e.number
    by_test true t more h = eqb-true n x.number t ∙ ap number_of (some_same h)
      where
        some_same : Some x ≡ Some e → x ≡ e
        some_same h = cc
    by_test false t more h = more h

-- ---- the map

pub keyed_added : (pairs after : List (ℕ × SeenEntry)) (e : SeenEntry) → pairs ≡ under_numbers (values_of pairs) → find (has_number e.number) (values_of pairs) ≡ None
    → after ≡ insert_entry nat_cmp pairs e.number e → after ≡ under_numbers (insert_seen e (values_of pairs))
keyed_added pairs after e k none h =
    h ∙ ap (λ r. insert_entry nat_cmp r e.number e) k ∙ keyed-insert nat_cmp number_of seen_inserts e (values_of pairs) (find_same e.number (values_of pairs) ∙ none)

pub keyed_removed : (pairs after : List (ℕ × SeenEntry)) (n : ℕ) → pairs ≡ under_numbers (values_of pairs) → IsInOrder (values_of pairs)
    → after ≡ remove_entry (is_at (nat_cmp n)) pairs → after ≡ under_numbers (without_number n (values_of pairs))
keyed_removed pairs after n k s h =
    h ∙ ap (remove_entry (is_at (nat_cmp n))) k ∙ keyed-remove nat_cmp number_of nat_cmp_total n (values_of pairs) s ∙ ap under_numbers (filter_same n (values_of pairs))

pub keyed_found : (pairs : List (ℕ × SeenEntry)) (n : ℕ) → pairs ≡ under_numbers (values_of pairs) → lookup (is_at (nat_cmp n)) pairs ≡ find (has_number n) (values_of pairs)
keyed_found pairs n k = ap (lookup (is_at (nat_cmp n))) k ∙ lookup-keyed nat_cmp number_of (is_at (nat_cmp n)) (values_of pairs) ∙ find_same n (values_of pairs)

pub keyed_values : (pairs : List (ℕ × SeenEntry)) (es : List SeenEntry) → pairs ≡ under_numbers es → values_of pairs ≡ es
keyed_values pairs es h = ap values_of h ∙ values_of-keyed nat_cmp number_of es

-- ---- the whole

-- what a set's `updates` says of a pair that came or went
unfoldable pub Changes : ℕ → ℕ → Bool → List (ℕ × ℕ) → List (ℕ × ℕ) → Type 0
Changes m n b old new = (q : ℕ × ℕ) → list_any (is_at (pair_cmp q)) new ≡ cond (is_at (pair_cmp (m, n)) q) b (list_any (is_at (pair_cmp q)) old)

module _ (part : SeenEntry → ℕ) where
  added_case : (m n : ℕ) (e : SeenEntry) (o : Option SeenEntry) → (n ≡ e.number → o ≡ None) → cond (part e == m && e.number == n) true (has_part part m o) ≡ has_part part m (cond (n == e.number) (Some e) o)
  added_case m n e None h = grind (arith, nat_tests)
  added_case m n e (Some x) h = grind (arith, nat_tests)

  pub listed_added : (e : SeenEntry) (es : List SeenEntry) (old new : List (ℕ × ℕ)) → find (has_number e.number) es ≡ None → Changes (part e) e.number true old new → AreListed part old es → AreListed part new (insert_seen e es)
  unfolding Changes
  listed_added e es old new none u l m n =
      u (m, n)
      ∙ ap (λ b. cond b true (list_any (is_at (pair_cmp (m, n))) old)) (pair_at (part e) e.number m n)
      ∙ ap (cond (part e == m && e.number == n) true) (l m n)
      ∙ added_case m n e (find (has_number n) es) (λ t. ap (λ k. find (has_number k) es) t ∙ none)
      ∙ sym (ap (has_part part m) (find-insert nat_cmp number_of seen_inserts (has_number n) e es (λ t. ap (λ k. find (has_number k) es) (eqb-true n e.number t) ∙ none)))

  removed_same : (m n : ℕ) (r : SeenEntry) → cond (part r == m && n == n) false (m == part r) ≡ false
  removed_same m n r = grind (arith, nat_tests)

  removed_other : (m n k : ℕ) (r : SeenEntry) (x : Bool) → (k == n) ≡ false → cond (part r == m && n == k) false x ≡ x
  removed_other m n k r x f = grind (arith, nat_tests)

  removed_case : (m k n : ℕ) (r : SeenEntry) (es : List SeenEntry) → find (has_number n) es ≡ Some r → cond (part r == m && n == k) false (has_part part m (find (has_number k) es)) ≡ has_part part m (find (has_number k) (without_number n es))
  removed_case m k n r es h = by_test (k == n) refl
    where
      other : (k == n) ≡ false → (x : SeenEntry) → has_number k x ≡ true → not (has_number n x) ≡ true
      other f x t = grind (arith, nat_tests)

      by_test : (b : Bool) → (k == n) ≡ b → cond (part r == m && n == k) false (has_part part m (find (has_number k) es)) ≡ has_part part m (find (has_number k) (without_number n es))
      by_test true t = let same = eqb-true k n t in
          subst (λ q. cond (part r == m && n == q) false (has_part part m (find (has_number q) es)) ≡ has_part part m (find (has_number q) (without_number n es))) (sym same)
          (ap (λ o. cond (part r == m && n == n) false (has_part part m o)) h ∙ removed_same m n r ∙ sym (ap (has_part part m) (find_without (has_number n) es)))
      by_test false f = removed_other m n k r (has_part part m (find (has_number k) es)) f ∙ sym (ap (has_part part m) (find_filter (has_number k) (λ x. not (has_number n x)) (other f) es))

  pub listed_removed : (r : SeenEntry) (n : ℕ) (es : List SeenEntry) (old new : List (ℕ × ℕ)) → find (has_number n) es ≡ Some r → Changes (part r) n false old new → AreListed part old es → AreListed part new (without_number n es)
  unfolding Changes
  listed_removed r n es old new found u l m k =
      u (m, k)
      ∙ ap (λ b. cond b false (list_any (is_at (pair_cmp (m, k))) old)) (pair_at (part r) n m k)
      ∙ ap (cond (part r == m && n == k) false) (l m k)
      ∙ removed_case m k n r es found

  undone_case : (m n a b : ℕ) (x : Bool) → (a ≡ m → b ≡ n → x ≡ false) → cond (a == m && b == n) false (cond (a == m && b == n) true x) ≡ x
  undone_case m n a b true h = grind (arith, nat_tests)
  undone_case m n a b false h = grind (arith, nat_tests)

  -- a pair that came and went
  pub listed_undone : (e : SeenEntry) (es : List SeenEntry) (old mid new : List (ℕ × ℕ)) → find (has_number e.number) es ≡ None → Changes (part e) e.number true old mid → Changes (part e) e.number false mid new → AreListed part old es → AreListed part new es
  unfolding Changes
  listed_undone e es old mid new none u v l m n =
      v (m, n)
      ∙ ap (cond (is_at (pair_cmp (part e, e.number)) (m, n)) false) (u (m, n))
      ∙ ap (λ b. cond b false (cond b true (list_any (is_at (pair_cmp (m, n))) old))) (pair_at (part e) e.number m n)
      ∙ undone_case m n (part e) e.number (list_any (is_at (pair_cmp (m, n))) old) (λ s t. l m n ∙ ap (has_part part m) (ap (λ k. find (has_number k) es) (sym t) ∙ none))
      ∙ l m n

timeline_from : (pairs : List (ℕ × SeenEntry)) (moments : List (ℕ × ℕ)) (es : List SeenEntry) → pairs ≡ under_numbers es → IsStrictlySortedBy nat_cmp (keys_of pairs) → AreListed moment_of moments es → IsTimeline pairs moments
timeline_from pairs moments es k s l =
    let v = keyed_values pairs es k in
    record {
      keyed = k ∙ ap under_numbers (sym v);
      ordered = subst (IsStrictlySortedBy nat_cmp) (ap keys_of k ∙ keys_of-keyed nat_cmp number_of es ∙ ap (map number_of) (sym v)) s;
      listed = λ m n. l m n ∙ ap (λ r. has_part moment_of m (find (has_number n) r)) (sym v);
    }

-- after an entry came
pub timeline_added : (pairs after : List (ℕ × SeenEntry)) (old new : List (ℕ × ℕ)) (e : SeenEntry) → IsTimeline pairs old → find (has_number e.number) (values_of pairs) ≡ None
    → after ≡ insert_entry nat_cmp pairs e.number e → IsStrictlySortedBy nat_cmp (keys_of after) → Changes e.moment e.number true old new → IsTimeline after new
timeline_added pairs after old new e t none h s u = timeline_from after new (insert_seen e (values_of pairs)) (keyed_added pairs after e t.keyed none h) s (listed_added moment_of e (values_of pairs) old new none u t.listed)

-- after an entry went
pub timeline_removed : (pairs after : List (ℕ × SeenEntry)) (old new : List (ℕ × ℕ)) (n : ℕ) (r : SeenEntry) → IsTimeline pairs old → find (has_number n) (values_of pairs) ≡ Some r
    → after ≡ remove_entry (is_at (nat_cmp n)) pairs → IsStrictlySortedBy nat_cmp (keys_of after) → Changes r.moment n false old new → IsTimeline after new
timeline_removed pairs after old new n r t found h s u = timeline_from after new (without_number n (values_of pairs)) (keyed_removed pairs after n t.keyed t.ordered h) s (listed_removed moment_of r n (values_of pairs) old new found u t.listed)

-- after an entry's moment came and went
pub timeline_undone : (pairs after : List (ℕ × SeenEntry)) (old mid new : List (ℕ × ℕ)) (e : SeenEntry) → IsTimeline pairs old → find (has_number e.number) (values_of pairs) ≡ None
    → after ≡ pairs → Changes e.moment e.number true old mid → Changes e.moment e.number false mid new → IsTimeline after new
timeline_undone pairs after old mid new e t none same u v =
    subst (λ r. IsTimeline r new) (sym same)
    (record { keyed = t.keyed; ordered = t.ordered; listed = listed_undone moment_of e (values_of pairs) old mid new none u v t.listed })

-- ---- the oldest moment

-- what is found is above what is below all
pub found_above : (t : SeenEntry → Bool) (k : ℕ) (es : List SeenEntry) (e : SeenEntry) → AllByRecursion (λ q. nat_cmp k q ≡ Less) (map number_of es) → find t es ≡ Some e → nat_cmp k e.number ≡ Less
found_above t k [] e a h = cc
found_above t k (x ∷ es) e a h = by_test (t x) (found_above t k es e a.1) h
  where
    some_same : Some x ≡ Some e → x ≡ e
    some_same h = cc

    by_test : (b : Bool) → (find t es ≡ Some e → nat_cmp k e.number ≡ Less) → cond b (Some x) (find t es) ≡ Some e → nat_cmp k e.number ≡ Less
    by_test true more h = subst (λ (y : SeenEntry). nat_cmp k y.number ≡ Less) (some_same h) a.0
    by_test false more h = more h

pub less_apart : (k n : ℕ) → nat_cmp k n ≡ Less → (n == k) ≡ false
less_apart k n h = grind (arith, nat_tests)

same_number : (n : ℕ) → (n == n) ≡ true
same_number n = grind (arith, nat_tests)

-- what is found is found by its number
pub found_by_number : (t : SeenEntry → Bool) (es : List SeenEntry) (r : SeenEntry) → IsInOrder es → find t es ≡ Some r
    → find (has_number r.number) es ≡ Some r
found_by_number t [] r s h = cc
found_by_number t (x ∷ es) r s h = by_test (t x) (found_by_number t es r (sorted_tail nat_cmp x.number (map number_of es) s)) h
  where
    above : AllByRecursion (λ q. nat_cmp x.number q ≡ Less) (map number_of es)
    above = sorted_head nat_cmp x.number (map number_of es) s

    by_test : (b : Bool) → (find t es ≡ Some r → find (has_number r.number) es ≡ Some r) → cond b (Some x) (find t es) ≡ Some r
        → find (has_number r.number) (x ∷ es) ≡ Some r
    by_test true more h =
        subst (λ (y : SeenEntry). find (has_number y.number) (x ∷ es) ≡ Some y) (same_Some x r h)
        (cond-true (x.number == x.number) (Some x) (find (has_number x.number) es) (same_number x.number))
    by_test false more h =
        cond-false (r.number == x.number) (Some x) (find (has_number r.number) es)
        (less_apart x.number r.number (found_above t x.number es r above h)) ∙ more h

-- a test that each entry passes which its number finds
pub filter_found : (p : SeenEntry → Bool) (es : List SeenEntry) → IsInOrder es → ((e : SeenEntry) → find (has_number e.number) es ≡ Some e → p e ≡ true) → filter p es ≡ es
filter_found p [] s h = refl
filter_found p (x ∷ es) s h =
    let here : p x ≡ true = h x (cond-true (x.number == x.number) (Some x) (find (has_number x.number) es) (same_number x.number)) in
    let above = sorted_head nat_cmp x.number (map number_of es) s in
    let more = filter_found p es (sorted_tail nat_cmp x.number (map number_of es) s)
    (λ e f. h e (cond-false (e.number == x.number) (Some x) (find (has_number e.number) es) (less_apart x.number e.number (found_above (has_number e.number) x.number es e above f)) ∙ f)) in
    cond-true (p x) (x ∷ filter p es) (filter p es) here ∙ ap (λ r. x ∷ r) more

not_after : (a b c d : ℕ) → is_gt (pair_cmp (a, b) (c, d)) ≡ false → a ≤ c
not_after a b c d h = grind (arith, nat_tests)

-- where the oldest moment is inside the window, all are
pub oldest_inside : (pairs : List (ℕ × SeenEntry)) (moments : List (ℕ × ℕ)) (accepted number moment : ℕ) → IsTimeline pairs moments
    → ((q : ℕ × ℕ) → IsTrue (list_any (is_at (pair_cmp q)) moments) → is_gt (pair_cmp (accepted, number) q) ≡ false)
    → nat_lt (moment - accepted) window ≡ true → remembered moment (values_of pairs) ≡ values_of pairs
oldest_inside pairs moments accepted number moment t least inside =
    filter_found (is_remembered moment) (values_of pairs) t.ordered
    (λ e f. within accepted e.moment moment inside (not_after accepted number e.moment e.number (least (e.moment, e.number) (t.listed e.moment e.number ∙ ap (has_part moment_of e.moment) f ∙ same_number e.moment))))
  where
    within : (a b m : ℕ) → nat_lt (m - a) window ≡ true → a ≤ b → nat_lt (m - b) window ≡ true
    within a b m h k = grind (arith, nat_tests)

-- where there is no moment, there is no entry
pub none_listed : (pairs : List (ℕ × SeenEntry)) (moments : List (ℕ × ℕ)) (p : SeenEntry → Bool) → IsTimeline pairs moments → moments ≡ [] → filter p (values_of pairs) ≡ values_of pairs
none_listed pairs moments p t h =
    filter_found p (values_of pairs) t.ordered
    (λ e f. let no : true ≡ false = sym (ap (has_part moment_of e.moment) f ∙ same_number e.moment) ∙ sym (t.listed e.moment e.number) ∙ ap (list_any (is_at (pair_cmp (e.moment, e.number)))) h in cc)

-- what a number finds, where the moment beside it is outside the window
pub found_outside : (moment accepted number : ℕ) (es : List SeenEntry) (r : Option SeenEntry) → has_part moment_of accepted (find (has_number number) es) ≡ true → nat_lt (moment - accepted) window ≡ false
    → r ≡ find (has_number number) es → MatchOption r (remembered moment es ≡ es) (λ e. (find (has_number e.number) es ≡ Some e) × (is_remembered moment e ≡ false))
found_outside moment accepted number es None h out f = absurd (let no : false ≡ true = ap (has_part moment_of accepted) f ∙ h in cc)
found_outside moment accepted number es (Some e) h out f = (
  subst (λ n. find (has_number n) es ≡ Some e) (found_number number es e (sym f)) (sym f),
  subst (λ m. nat_lt (moment - m) window ≡ false) (eqb-true accepted e.moment (ap (has_part moment_of accepted) f ∙ h)) out,
)

pub found_left : (number : ℕ) (es new : List SeenEntry) (r : Option SeenEntry) → r ≡ find (has_number number) es → new ≡ without_number number es
    → MatchOption r (new ≡ es) (λ e. new ≡ without_number e.number es)
found_left number es new None f h = h ∙ filter_none (has_number number) es (sym f)
found_left number es new (Some e) f h = h ∙ ap (λ n. without_number n es) (found_number number es e (sym f))

pub none_from_variant : {X : Type 0} (xs : List X) → (0 < length xs → false ≡ true) → xs ≡ []
none_from_variant [] h = refl
none_from_variant (x ∷ xs) h = absurd (let no : false ≡ true = h (omega arith) in cc)

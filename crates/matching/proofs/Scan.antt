-- The fields of a name, one by one in order, and the numbers that each adds.
use Rattle.std.proofs.Common.{◌≡◌, ◌⊎◌, inl, inr, ℕ, ◌<◌, ◌==◌, Bool, true, false, cond, not, ◌&&◌, ◌||◌, List, [], ◌∷◌, filter, length, Option, Some, None, Result, Ok, Err, refl, sym, ap, ◌∙◌, subst, arith}
use Rattle.std.specs.Cmp.Lexicographic.{slice_cmp}
use Rattle.std.specs.Option.{option_cmp}
use Rattle.std.specs.Str.{bytes_eq}
use Rattle.std.specs.Result.{OnOk}
use Rattle.std.specs.List.{list_any, AllByRecursion}
use Rattle.std.specs.List.Sorted.{IsStrictlySortedBy}
use Rattle.std.specs.BTreeMap.{is_at}
use Rattle.std.specs.BTreeMap.Range.{range_contains}
use Rattle.std.specs.Ordering.{nat_cmp, ordering_then, ordering_reverse, is_lt, is_le, is_gt, is_eq}
use Rattle.std.specs.declared.cmp.Ordering.{Ordering}
use Rattle.std.specs.declared.cmp.Ordering.TheVariants.{Less, Equal, Greater}
use Rattle.std.specs.declared.ops.Bound.TheVariants.{Included, Unbounded}
use Rattle.std.proofs.lemmas.Bool.Decides.{nat_tests}
use Rattle.lists.proofs.Elements.{all-weaker}
use Rattle.std.proofs.lemmas.Cmp.{nat_list_cmp_total}
use Rattle.std.proofs.lemmas.Map.Text.{is_eq-slice_cmp}
use Rattle.lists.proofs.Texts.{bytes_self, bytes_same, bytes_flip}
use Rattle.kinds.specs.declared.event.Event.{Event}
use Rattle.kinds.specs.Stores.{Values, is_value}
use Rattle.ordered.specs.Indexes.{group_cmp}
use Rattle.ordered.proofs.Listed.{group_at}
use Rattle.matching.specs.declared.place.Field.{Field}
use Rattle.matching.specs.Places.{field_cmp, place_cmp, field_after, has_number, is_wanted, is_near, value_for, IsNext}
use Rattle.matching.proofs.Order.{any_same, any_or, fewer, before, less, none_kept, first_kept}
use Rattle.matching.proofs.Fields.{field_total, field_same, field_behind}

-- ---- one field

both_true : (a b : Bool) → (a && b) ≡ true → (a ≡ true) × (b ≡ true)
both_true true true h = (refl, refl)
both_true true false h = cc
both_true false b h = cc

-- the places of one value of a field are those of it that are looked at
at_value : (values : Values) (event : Event) (f : Field) (v : List ℕ) (n : ℕ) → f.name ≡ event.name → value_for values event f.path ≡ Some v → (q : (Field × List ℕ) × ℕ)
    → is_at (group_cmp place_cmp ((f, v), n)) q ≡ (is_eq (field_cmp f q.0.0) && is_wanted values event n q)
at_value values event f v n m e ((g, w), k) = group_at place_cmp (f, v) (g, w) n k ∙ by_field (field_cmp f g) refl
  where
    wanted : f ≡ g → bytes_eq g.name event.name ≡ true
    wanted s = ap (λ (x : Field). bytes_eq x.name event.name) (sym s) ∙ ap (λ x. bytes_eq x event.name) m ∙ bytes_self event.name

    by_field : (o : Ordering) → field_cmp f g ≡ o → (is_eq (ordering_then o (slice_cmp nat_cmp v w)) && (n == k)) ≡ (is_eq o && (is_near values event (g, w) && (n == k)))
    by_field Less h = refl
    by_field Equal h =
        let s = field_same f g (ap is_eq h) in
        ap (λ b. b && (n == k)) (
        is_eq-slice_cmp v w ∙ bytes_flip v w
        ∙ ap (is_value w) (sym e ∙ ap (λ (x : Field). value_for values event x.path) s)
        ∙ sym (ap (λ b. b && is_value w (value_for values event g.path)) (wanted s))
        )
    by_field Greater h = refl

pub looked : (values : Values) (event : Event) (f : Field) (v : List ℕ) (n : ℕ) → f.name ≡ event.name → value_for values event f.path ≡ Some v → (keys : List ((Field × List ℕ) × ℕ))
    → list_any (is_at (group_cmp place_cmp ((f, v), n))) keys ≡ list_any (λ q. is_eq (field_cmp f q.0.0) && is_wanted values event n q) keys
looked values event f v n m e [] = refl
looked values event f v n m e (q ∷ keys) = ap (λ b. b || list_any (is_at (group_cmp place_cmp ((f, v), n))) keys) (at_value values event f v n m e q) ∙ ap (λ b. (is_eq (field_cmp f q.0.0) && is_wanted values event n q) || b) (looked values event f v n m e keys)

-- without the value nothing of the field is looked at
pub overlooked : (values : Values) (event : Event) (f : Field) (n : ℕ) → value_for values event f.path ≡ None → (keys : List ((Field × List ℕ) × ℕ))
    → list_any (λ q. is_eq (field_cmp f q.0.0) && is_wanted values event n q) keys ≡ false
overlooked values event f n e [] = refl
overlooked values event f n e (((g, w), k) ∷ keys) = ap (λ b. b || list_any (λ q. is_eq (field_cmp f q.0.0) && is_wanted values event n q) keys) (by_field (field_cmp f g) refl) ∙ overlooked values event f n e keys
  where
    no_value : (b c : Bool) (o : Option (List ℕ)) → o ≡ None → ((b && is_value w o) && c) ≡ false
    no_value true c o h = rw h refl
    no_value false c o h = refl

    by_field : (o : Ordering) → field_cmp f g ≡ o → (is_eq o && is_wanted values event n ((g, w), k)) ≡ false
    by_field Less h = refl
    by_field Equal h = no_value (bytes_eq g.name event.name) (n == k) (value_for values event g.path) (ap (λ (x : Field). value_for values event x.path) (sym (field_same f g (ap is_eq h))) ∙ e)
    by_field Greater h = refl

-- ---- all fields of a name

-- what was found is what is looked at before a field
pub record IsScanning (values : Values) (event : Event) (keys : List ((Field × List ℕ) × ℕ)) (found : List ℕ) (from : Field) : Type 0 where
  pub named : from.name ≡ event.name
  pub same : (n : ℕ) → has_number found n ≡ list_any (λ q. is_wanted values event n q && is_lt (field_cmp q.0.0 from)) keys

not_first : (o : Ordering) (p : Option (List (List ℕ))) → is_eq o ≡ true → is_lt (ordering_then o (option_cmp (slice_cmp (slice_cmp nat_cmp)) p None)) ≡ false
not_first Less p h = cc
not_first Equal None h = refl
not_first Equal (Some p) h = refl
not_first Greater p h = cc

pub scanning_starts : (values : Values) (event : Event) (keys : List ((Field × List ℕ) × ℕ)) → IsScanning values event keys [] (record { name = event.name; path = None })
scanning_starts values event keys = record { named = refl; same = λ n. sym (none n keys) }
  where
    by_name : (b c d l : Bool) → (b ≡ true → l ≡ false) → (((b && c) && d) && l) ≡ false
    by_name true true true l h = h refl
    by_name true true false l h = refl
    by_name true false d l h = refl
    by_name false c d l h = refl

    none : (n : ℕ) (keys : List ((Field × List ℕ) × ℕ)) → list_any (λ q. is_wanted values event n q && is_lt (field_cmp q.0.0 (record { name = event.name; path = None }))) keys ≡ false
    none n [] = refl
    none n (((g, w), k) ∷ keys) = ap (λ b. b || list_any (λ q. is_wanted values event n q && is_lt (field_cmp q.0.0 (record { name = event.name; path = None }))) keys)
        (by_name (bytes_eq g.name event.name) (is_value w (value_for values event g.path)) (n == k) _ (λ e. not_first (slice_cmp nat_cmp g.name event.name) g.path (is_eq-slice_cmp g.name event.name ∙ e))) ∙ none n keys

-- the least field from `from` on adds its numbers, and the scan stands behind it
pub scanning_on : (values : Values) (event : Event) (keys : List ((Field × List ℕ) × ℕ)) (found new : List ℕ) (from f : Field) → IsScanning values event keys found from → IsNext from keys (Some f)
    → ((n : ℕ) → has_number new n ≡ (has_number found n || list_any (λ q. is_eq (field_cmp f q.0.0) && is_wanted values event n q) keys)) → IsScanning values event keys new (field_after f)
scanning_on values event keys found new from f i x u = record {
  named = x.0 ∙ i.named;
  same = λ n.
      u n
      ∙ ap (λ b. b || list_any (λ q. is_eq (field_cmp f q.0.0) && is_wanted values event n q) keys) (i.same n)
      ∙ any_or _ _ (λ q. is_wanted values event n q && is_lt (field_cmp q.0.0 (field_after f))) keys (all-weaker _ (λ q. ((is_wanted values event n q && is_lt (field_cmp q.0.0 from)) || (is_eq (field_cmp f q.0.0) && is_wanted values event n q)) ≡ (is_wanted values event n q && is_lt (field_cmp q.0.0 (field_after f)))) keys (λ q e. each n q e) x.3);
}
  where
    sides : (w l e a : Bool) → ((l || e) ≡ a) → ((w && l) || (e && w)) ≡ (w && a)
    sides true true e a h = h
    sides true false true a h = h
    sides true false false a h = h
    sides false l true a h = refl
    sides false l false a h = refl

    by_reverse : (o : Ordering) → is_gt o ≡ false → is_eq o ≡ not (is_gt (ordering_reverse o))
    by_reverse Less h = refl
    by_reverse Equal h = refl
    by_reverse Greater h = cc

    not_less : (o : Ordering) → ordering_reverse o ≡ Less → is_gt o ≡ false → true ≡ false
    not_less Less h k = cc
    not_less Equal h k = cc
    not_less Greater h k = cc

    at_least : (o : Ordering) → is_lt (ordering_reverse o) ≡ false → is_gt o ≡ false
    at_least Less h = refl
    at_least Equal h = refl
    at_least Greater h = cc

    reverse_gt : (o : Ordering) → o ≡ Less → (is_lt o || false) ≡ not (is_gt o)
    reverse_gt o h = rw h refl

    from_first : is_gt (field_cmp from f) ≡ false
    from_first = at_least (field_cmp from f) (ap is_lt (sym (field_total.antisymm f from)) ∙ x.1)

    below : (g : Field) → is_lt (field_cmp g from) ≡ true → (is_lt (field_cmp g from) || is_eq (field_cmp f g)) ≡ not (is_gt (field_cmp g f))
    below g l =
        let under = before field_total g from f (less (field_cmp g from) l) from_first in
        ap (λ b. b || is_eq (field_cmp f g)) l ∙ sym (ap (λ o. not (is_gt o)) under)

    above : (g : Field) → is_gt (field_cmp f g) ≡ false → (is_lt (field_cmp g from) || is_eq (field_cmp f g)) ≡ not (is_gt (field_cmp g f))
    above g a = by_less (is_lt (field_cmp g from)) refl
      where
        by_less : (b : Bool) → is_lt (field_cmp g from) ≡ b → (b || is_eq (field_cmp f g)) ≡ not (is_gt (field_cmp g f))
        by_less true l =
            let under = before field_total g from f (less (field_cmp g from) l) from_first in
            sym (ap (λ o. not (is_gt o)) under)
        by_less false l = by_reverse (field_cmp f g) a ∙ ap (λ o. not (is_gt o)) (sym (field_total.antisymm g f))

    either : (g : Field) → (is_lt (field_cmp g from) ≡ true) ⊎ (is_gt (field_cmp f g) ≡ false) → (is_lt (field_cmp g from) || is_eq (field_cmp f g)) ≡ not (is_gt (field_cmp g f))
    either g (inl l) = below g l
    either g (inr a) = above g a

    each : (n : ℕ) (q : (Field × List ℕ) × ℕ) → (is_lt (field_cmp q.0.0 from) ≡ true) ⊎ (is_gt (field_cmp f q.0.0) ≡ false)
        → ((is_wanted values event n q && is_lt (field_cmp q.0.0 from)) || (is_eq (field_cmp f q.0.0) && is_wanted values event n q)) ≡ (is_wanted values event n q && is_lt (field_cmp q.0.0 (field_after f)))
    each n q e = sides (is_wanted values event n q) (is_lt (field_cmp q.0.0 from)) (is_eq (field_cmp f q.0.0)) _ (either q.0.0 e ∙ sym (field_behind q.0.0 f))

pub scanning_done : (values : Values) (event : Event) (keys : List ((Field × List ℕ) × ℕ)) (found : List ℕ) (from : Field) → IsScanning values event keys found from → IsNext from keys None
    → (n : ℕ) → has_number found n ≡ list_any (is_wanted values event n) keys
scanning_done values event keys found from i x n =
    i.same n
    ∙ any_same _ (is_wanted values event n) keys (all-weaker _ (λ q. (is_wanted values event n q && is_lt (field_cmp q.0.0 from)) ≡ is_wanted values event n q) keys (λ q e. each q (λ b. e (ap (bytes_eq q.0.0.name) i.named ∙ b))) x)
  where
    by_name : (b c d l : Bool) → (b ≡ true → l ≡ true) → (((b && c) && d) && l) ≡ ((b && c) && d)
    by_name true true true l h = h refl
    by_name true true false l h = refl
    by_name true false d l h = refl
    by_name false c d l h = refl

    each : (q : (Field × List ℕ) × ℕ) → (bytes_eq q.0.0.name event.name ≡ true → is_lt (field_cmp q.0.0 from) ≡ true) → (is_wanted values event n q && is_lt (field_cmp q.0.0 from)) ≡ is_wanted values event n q
    each q e = by_name (bytes_eq q.0.0.name event.name) (is_value q.0.1 (value_for values event q.0.0.path)) (n == q.1) (is_lt (field_cmp q.0.0 from)) e

-- the places from a field on
abbrev pub left_from : Field → List ((Field × List ℕ) × ℕ) → List ((Field × List ℕ) × ℕ)
left_from from keys = filter (λ q. not (is_lt (field_cmp q.0.0 from))) keys

-- fewer are left behind a field that is there
pub fewer_left : (keys : List ((Field × List ℕ) × ℕ)) (from f : Field) → IsNext from keys (Some f) → length (left_from (field_after f) keys) < length (left_from from keys)
fewer_left keys from f x = fewer (λ q. not (is_lt (field_cmp q.0.0 (field_after f)))) (λ q. not (is_lt (field_cmp q.0.0 from))) (λ q. is_eq (field_cmp f q.0.0)) keys
    (λ q h. narrower q.0.0 h) (λ q h. its q.0.0 h) x.2
  where
    flipped : (b c : Bool) → (c ≡ true → b ≡ true) → not b ≡ true → not c ≡ true
    flipped true c h k = cc
    flipped false true h k = let no = h refl in cc
    flipped false false h k = refl

    not_gt_less : (o : Ordering) → o ≡ Less → not (is_gt o) ≡ true
    not_gt_less o h = rw h refl

    at_least : (o : Ordering) → is_lt (ordering_reverse o) ≡ false → is_gt o ≡ false
    at_least Less h = refl
    at_least Equal h = refl
    at_least Greater h = cc

    from_first : is_gt (field_cmp from f) ≡ false
    from_first = at_least (field_cmp from f) (ap is_lt (sym (field_total.antisymm f from)) ∙ x.1)

    narrower : (g : Field) → not (is_lt (field_cmp g (field_after f))) ≡ true → not (is_lt (field_cmp g from)) ≡ true
    narrower g h = flipped (is_lt (field_cmp g (field_after f))) (is_lt (field_cmp g from)) (λ l. field_behind g f ∙ not_gt_less (field_cmp g f) (before field_total g from f (less (field_cmp g from) l) from_first)) h

    its : (g : Field) → is_eq (field_cmp f g) ≡ true → (not (is_lt (field_cmp g (field_after f))) ≡ false) × (not (is_lt (field_cmp g from)) ≡ true)
    its g h =
        let same = field_same f g h in (
          ap (λ (y : Field). not (is_lt (field_cmp y (field_after f)))) (sym same) ∙ ap not (field_behind f f) ∙ ap (λ o. not (not (is_gt o))) (self f),
          ap (λ (y : Field). not (is_lt (field_cmp y from))) (sym same) ∙ ap not x.1,
        )
      where
        self_by : (o : Ordering) → o ≡ ordering_reverse o → o ≡ Equal
        self_by Less h = cc
        self_by Equal h = refl
        self_by Greater h = cc

        self : (f : Field) → field_cmp f f ≡ Equal
        self f = self_by (field_cmp f f) (field_total.antisymm f f)

-- ---- the next field

in_place : (o : Ordering) (w : List ℕ) (k : ℕ) → (is_le (ordering_then (ordering_then o (slice_cmp nat_cmp [] w)) (nat_cmp 0 k)) && true) ≡ not (is_gt o)
in_place Less w k = refl
in_place Equal [] k = grind (arith, nat_tests)
in_place Equal (b ∷ w) k = refl
in_place Greater w k = refl

abbrev pub from_start : Field → (Field × List ℕ) × ℕ → Bool
from_start from q = range_contains (group_cmp place_cmp) (Included ((from, []), 0)) Unbounded q

at_start : (from : Field) (q : (Field × List ℕ) × ℕ) → from_start from q ≡ not (is_gt (field_cmp from q.0.0))
at_start from ((g, w), k) = in_place (field_cmp from g) w k

lt_of : (o : Ordering) → not (is_gt (ordering_reverse o)) ≡ false → is_lt o ≡ true
lt_of Less h = refl
lt_of Equal h = cc
lt_of Greater h = cc

not_lt_of : (o : Ordering) → not (is_gt (ordering_reverse o)) ≡ true → is_lt o ≡ false
not_lt_of Less h = cc
not_lt_of Equal h = refl
not_lt_of Greater h = refl

under : (from : Field) (q : (Field × List ℕ) × ℕ) → from_start from q ≡ false → is_lt (field_cmp q.0.0 from) ≡ true
under from q h = lt_of (field_cmp q.0.0 from) (ap (λ o. not (is_gt o)) (sym (field_total.antisymm from q.0.0)) ∙ sym (at_start from q) ∙ h)

pub none_next : (from : Field) (keys : List ((Field × List ℕ) × ℕ)) → filter (from_start from) keys ≡ [] → IsNext from keys None
none_next from keys h = all-weaker _ (λ q. bytes_eq q.0.0.name from.name ≡ true → is_lt (field_cmp q.0.0 from) ≡ true) keys (λ q e b. under from q e) (none_kept (from_start from) keys h)

left_side : (o p r : Ordering) → ordering_then (ordering_then o p) r ≡ Less → is_gt o ≡ false
left_side Less p r h = refl
left_side Equal p r h = refl
left_side Greater p r h = cc

eq_self : (f : Field) → is_gt (field_cmp f f) ≡ false
eq_self f = self_by (field_cmp f f) (field_total.antisymm f f)
  where
    self_by : (o : Ordering) → o ≡ ordering_reverse o → is_gt o ≡ false
    self_by Less h = cc
    self_by Equal h = refl
    self_by Greater h = cc

is_first : (from : Field) (k : (Field × List ℕ) × ℕ) (keys t : List ((Field × List ℕ) × ℕ)) → IsStrictlySortedBy (group_cmp place_cmp) keys → filter (from_start from) keys ≡ k ∷ t
    → AllByRecursion (λ q. (is_lt (field_cmp q.0.0 from) ≡ true) ⊎ (is_gt (field_cmp k.0.0 q.0.0) ≡ false)) keys
is_first from k keys t s h = all-weaker _ (λ q. (is_lt (field_cmp q.0.0 from) ≡ true) ⊎ (is_gt (field_cmp k.0.0 q.0.0) ≡ false)) keys (λ q e. each q e) (first_kept (group_cmp place_cmp) (from_start from) k keys t s h)
  where
    each : (q : (Field × List ℕ) × ℕ) → (from_start from q ≡ false) ⊎ ((q ≡ k) ⊎ (group_cmp place_cmp k q ≡ Less)) → (is_lt (field_cmp q.0.0 from) ≡ true) ⊎ (is_gt (field_cmp k.0.0 q.0.0) ≡ false)
    each q (inl e) = inl (under from q e)
    each q (inr (inl e)) = inr (ap (λ (x : (Field × List ℕ) × ℕ). is_gt (field_cmp k.0.0 x.0.0)) e ∙ eq_self k.0.0)
    each q (inr (inr e)) = inr (left_side (field_cmp k.0.0 q.0.0) (slice_cmp nat_cmp k.0.1 q.0.1) (nat_cmp k.1 q.1) e)

eq_by : (o : Ordering) → o ≡ ordering_reverse o → is_eq o ≡ true
eq_by Less h = cc
eq_by Equal h = refl
eq_by Greater h = cc

head_of : {A : Type 0} (x y : A) (xs ys : List A) → x ∷ xs ≡ y ∷ ys → x ≡ y
head_of x y xs ys h = cc

or_true : (a b : Bool) → b ≡ true → (a || b) ≡ true
or_true true b h = refl
or_true false b h = h

kept : (from : Field) (k : (Field × List ℕ) × ℕ) (keys t : List ((Field × List ℕ) × ℕ)) → filter (from_start from) keys ≡ k ∷ t → (from_start from k ≡ true) × (list_any (λ q. is_eq (field_cmp k.0.0 q.0.0)) keys ≡ true)
kept from k [] t h = cc
kept from k (x ∷ xs) t h = by_test (from_start from x) refl h (kept from k xs t)
  where
    by_test : (b : Bool) → from_start from x ≡ b → cond b (x ∷ filter (from_start from) xs) (filter (from_start from) xs) ≡ k ∷ t → (filter (from_start from) xs ≡ k ∷ t → (from_start from k ≡ true) × (list_any (λ q. is_eq (field_cmp k.0.0 q.0.0)) xs ≡ true))
        → (from_start from k ≡ true) × ((is_eq (field_cmp k.0.0 x.0.0) || list_any (λ q. is_eq (field_cmp k.0.0 q.0.0)) xs) ≡ true)
    by_test true e h more =
        let same = head_of x k (filter (from_start from) xs) t h in (
          ap (from_start from) (sym same) ∙ e,
          ap (λ (y : (Field × List ℕ) × ℕ). is_eq (field_cmp k.0.0 y.0.0) || list_any (λ q. is_eq (field_cmp k.0.0 q.0.0)) xs) same
              ∙ ap (λ b. b || list_any (λ q. is_eq (field_cmp k.0.0 q.0.0)) xs) (eq_by (field_cmp k.0.0 k.0.0) (field_total.antisymm k.0.0 k.0.0)),
        )
    by_test false e h more = ((more h).0, or_true (is_eq (field_cmp k.0.0 x.0.0)) _ (more h).1)

-- the first place from the start on is of this name
some_next : (from : Field) (k : (Field × List ℕ) × ℕ) (keys t : List ((Field × List ℕ) × ℕ)) → IsStrictlySortedBy (group_cmp place_cmp) keys → filter (from_start from) keys ≡ k ∷ t → bytes_eq k.0.0.name from.name ≡ true → IsNext from keys (Some k.0.0)
some_next from k keys t s h b = (
  bytes_same k.0.0.name from.name b,
  not_lt_of (field_cmp k.0.0 from) (ap (λ o. not (is_gt o)) (sym (field_total.antisymm from k.0.0)) ∙ sym (at_start from k) ∙ (kept from k keys t h).0),
  (kept from k keys t h).1,
  is_first from k keys t s h,
)

-- a name between two others that are the same
squeezed : (o p : Ordering) → o ≡ ordering_reverse p → is_gt o ≡ false → is_gt p ≡ false → is_eq p ≡ true
squeezed o Less e h k = let no : true ≡ false = ap is_gt (sym e) ∙ h in cc
squeezed o Equal e h k = refl
squeezed o Greater e h k = cc

name_first : (o p : Ordering) → is_gt (ordering_then o p) ≡ false → is_gt o ≡ false
name_first Less p h = refl
name_first Equal p h = refl
name_first Greater p h = cc

not_true : (b : Bool) → not b ≡ true → b ≡ false
not_true true h = cc
not_true false h = refl

-- another name's place comes first, so this name has none from the start on
other_next : (from : Field) (k : (Field × List ℕ) × ℕ) (keys t : List ((Field × List ℕ) × ℕ)) → IsStrictlySortedBy (group_cmp place_cmp) keys → filter (from_start from) keys ≡ k ∷ t → bytes_eq k.0.0.name from.name ≡ false → IsNext from keys None
other_next from k keys t s h b = all-weaker _ (λ q. bytes_eq q.0.0.name from.name ≡ true → is_lt (field_cmp q.0.0 from) ≡ true) keys (λ q e n. each q e n) (is_first from k keys t s h)
  where
    from_k : is_gt (slice_cmp nat_cmp from.name k.0.0.name) ≡ false
    from_k = name_first (slice_cmp nat_cmp from.name k.0.0.name) _ (not_true (is_gt (field_cmp from k.0.0)) (sym (at_start from k) ∙ (kept from k keys t h).0))

    k_from : (q : (Field × List ℕ) × ℕ) → is_gt (field_cmp k.0.0 q.0.0) ≡ false → bytes_eq q.0.0.name from.name ≡ true → is_gt (slice_cmp nat_cmp k.0.0.name from.name) ≡ false
    k_from q a n = ap (λ x. is_gt (slice_cmp nat_cmp k.0.0.name x)) (sym (bytes_same q.0.0.name from.name n)) ∙ name_first (slice_cmp nat_cmp k.0.0.name q.0.0.name) _ a

    each : (q : (Field × List ℕ) × ℕ) → (is_lt (field_cmp q.0.0 from) ≡ true) ⊎ (is_gt (field_cmp k.0.0 q.0.0) ≡ false) → bytes_eq q.0.0.name from.name ≡ true → is_lt (field_cmp q.0.0 from) ≡ true
    each q (inl l) n = l
    each q (inr a) n =
        let no : true ≡ false = sym (squeezed (slice_cmp nat_cmp from.name k.0.0.name) (slice_cmp nat_cmp k.0.0.name from.name) (nat_list_cmp_total.antisymm from.name k.0.0.name) from_k (k_from q a n)) ∙ is_eq-slice_cmp k.0.0.name from.name ∙ b in cc

-- ---- as a range from a start gives them

starts : (start : (Field × List ℕ) × ℕ) (keys rest : List ((Field × List ℕ) × ℕ)) → start ≡ ((start.0.0, []), 0) → rest ≡ filter (range_contains (group_cmp place_cmp) (Included start) Unbounded) keys → filter (from_start start.0.0) keys ≡ rest
starts start keys rest e h = sym (ap (λ x. filter (range_contains (group_cmp place_cmp) (Included x) Unbounded) keys) e) ∙ sym h

pub next_none : (start : (Field × List ℕ) × ℕ) (keys rest : List ((Field × List ℕ) × ℕ)) → start ≡ ((start.0.0, []), 0) → rest ≡ filter (range_contains (group_cmp place_cmp) (Included start) Unbounded) keys → rest ≡ [] → IsNext start.0.0 keys None
next_none start keys rest e h z = none_next start.0.0 keys (starts start keys rest e h ∙ z)

pub next_some : (start k : (Field × List ℕ) × ℕ) (keys rest t : List ((Field × List ℕ) × ℕ)) → start ≡ ((start.0.0, []), 0) → rest ≡ filter (range_contains (group_cmp place_cmp) (Included start) Unbounded) keys → IsStrictlySortedBy (group_cmp place_cmp) keys → rest ≡ k ∷ t
    → bytes_eq k.0.0.name start.0.0.name ≡ true → IsNext start.0.0 keys (Some k.0.0)
next_some start k keys rest t e h s z b = some_next start.0.0 k keys t s (starts start keys rest e h ∙ z) b

pub next_other : (start k : (Field × List ℕ) × ℕ) (keys rest t : List ((Field × List ℕ) × ℕ)) → start ≡ ((start.0.0, []), 0) → rest ≡ filter (range_contains (group_cmp place_cmp) (Included start) Unbounded) keys → IsStrictlySortedBy (group_cmp place_cmp) keys → rest ≡ k ∷ t
    → bytes_eq k.0.0.name start.0.0.name ≡ false → IsNext start.0.0 keys None
next_other start k keys rest t e h s z b = other_next start.0.0 k keys t s (starts start keys rest e h ∙ z) b

-- ---- what a look leaves

pub nothing_more : (a b : Bool) → b ≡ false → a ≡ (a || b)
nothing_more true b h = refl
nothing_more false b h = sym h

pub on_ok : {A E : Type 0} (r : Result A E) (P Q : Type 0) → (P → Q) → OnOk r P → OnOk r Q
on_ok (Ok a) P Q f h = f h
on_ok (Err e) P Q f h = h

-- ---- as the loop over starts sees it

module _ (values : Values) (event : Event) (keys : List ((Field × List ℕ) × ℕ)) where
  abbrev pub StandsAt : List ℕ → (Field × List ℕ) × ℕ → Type 0
  StandsAt found start = IsScanning values event keys found start.0.0 × (start ≡ ((start.0.0, []), 0))

  pub stands_first : (name found : List ℕ) (start : (Field × List ℕ) × ℕ) → name ≡ event.name → found ≡ [] → start ≡ ((record { name = name; path = None }, []), 0) → StandsAt found start
  stands_first name found start m z h =
      subst (StandsAt found) (sym h)
      (subst (λ f. IsScanning values event keys f (record { name = name; path = None })) (sym z) (subst (λ n. IsScanning values event keys [] (record { name = n; path = None })) (sym m) (scanning_starts values event keys)), refl)

  pub stands_next : (found new : List ℕ) (old start : (Field × List ℕ) × ℕ) (f : Field) → StandsAt found old → IsNext old.0.0 keys (Some f)
      → ((n : ℕ) → has_number new n ≡ (has_number found n || list_any (λ q. is_eq (field_cmp f q.0.0) && is_wanted values event n q) keys)) → start ≡ ((field_after f, []), 0) → StandsAt new start
  stands_next found new old start f i x u h = subst (StandsAt new) (sym h) (scanning_on values event keys found new old.0.0 f i.0 x u, refl)

  pub stands_nearer : (from : Field) (start : (Field × List ℕ) × ℕ) (f : Field) → IsNext from keys (Some f) → start ≡ ((field_after f, []), 0) → length (left_from start.0.0 keys) < length (left_from from keys)
  stands_nearer from start f x h = subst (λ (s : (Field × List ℕ) × ℕ). length (left_from s.0.0 keys) < length (left_from from keys)) (sym h) (fewer_left keys from f x)

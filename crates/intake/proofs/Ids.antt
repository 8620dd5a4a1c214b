-- The entries and their weight after an id was noted or forgotten.
use Rattle.std.proofs.Common.{◌≡◌, ℕ, ◌+◌, ◌-◌, ◌<◌, ◌≤◌, ◌==◌, nat_lt, Bool, true, false, cond, not, ◌&&◌, List, [], ◌∷◌, Some, None, Option, refl, sym, ap, ◌∙◌, arith, map, length, subst}
use Rattle.std.specs.Option.{option_map, MatchOption, SomeIff}
use Rattle.std.specs.List.{find, filter, AllByRecursion}
use Rattle.std.specs.Ordering.{nat_cmp}
use Rattle.std.specs.declared.cmp.Ordering.TheVariants.{Less}
use Rattle.std.proofs.lemmas.Bool.{cond-true, cond-false}
use Rattle.std.proofs.lemmas.Bool.Decides.{nat_tests}
use Rattle.std.proofs.lemmas.List.Filters.{length-filter_both}
use Rattle.std.proofs.lemmas.Cmp.{nat_cmp_total}
use Rattle.std.proofs.lemmas.Map.Keys.{sorted_head, sorted_tail}
use Rattle.kinds.specs.declared.seen.SeenEntry.{SeenEntry}
use Rattle.kinds.specs.Seen.{has_id, without_id, insert_seen, note_seen, is_remembered, remembered, find_seen, weight_of}
use Rattle.lists.proofs.Texts.{bytes_flip, bytes_self, bytes_same}
use Rattle.intake.specs.Number.{has_number, number_of, without_number}
use Rattle.intake.specs.Order.{IsInOrder}
use Rattle.intake.specs.Places.{AreApart, IsSeen, is_of}
use Rattle.lists.proofs.Keyed.{cond_none, filter_none, find_without, find-insert, filter-insert}
use Rattle.intake.proofs.Numbers.{seen_inserts, found_above, found_number, less_apart}

-- ---- entries with ids apart

find_narrower : (t p : SeenEntry → Bool) (es : List SeenEntry) → find t es ≡ None → find (λ e. t e && p e) es ≡ None
find_narrower t p [] h = refl
find_narrower t p (e ∷ es) h = let parts = cond_none (t e) e (find t es) h in rw parts.0 (find_narrower t p es parts.1)

-- what an entry with an id tells at a moment
abbrev pub seen_at : ℕ → Option SeenEntry → Option ℕ
seen_at moment None = None
seen_at moment (Some e) = cond (is_remembered moment e) (Some e.number) None

pub find_seen_at : (id : List ℕ) (moment : ℕ) (es : List SeenEntry) → AreApart es → find_seen id moment es ≡ seen_at moment (find (has_id id) es)
find_seen_at id moment [] a = refl
find_seen_at id moment (e ∷ es) a = by_test (has_id id e) refl (find_seen_at id moment es a.1)
  where
    by_window : (r : Bool) → find (λ x. has_id id x && is_remembered moment x) es ≡ None → option_map number_of (cond r (Some e) (find (λ x. has_id id x && is_remembered moment x) es)) ≡ cond r (Some e.number) None
    by_window true h = refl
    by_window false h = ap (option_map number_of) h

    by_test : (b : Bool) → has_id id e ≡ b → find_seen id moment es ≡ seen_at moment (find (has_id id) es)
        → option_map number_of (cond (b && is_remembered moment e) (Some e) (find (λ x. has_id id x && is_remembered moment x) es)) ≡ seen_at moment (cond b (Some e) (find (has_id id) es))
    by_test true t more = by_window (is_remembered moment e) (find_narrower (has_id id) (is_remembered moment) es (ap (λ r. find (has_id r) es) (bytes_same id e.id t) ∙ a.0))
    by_test false t more = more

-- ---- one entry more, or less

none_filter : (t p : SeenEntry → Bool) (es : List SeenEntry) → find t es ≡ None → find t (filter p es) ≡ None
none_filter t p [] h = refl
none_filter t p (e ∷ es) h = let parts = cond_none (t e) e (find t es) h in grind (arith, parts.0, none_filter t p es parts.1)

apart_filter : (p : SeenEntry → Bool) (es : List SeenEntry) → AreApart es → AreApart (filter p es)
apart_filter p [] a = tt
apart_filter p (e ∷ es) a = by_test (p e) (apart_filter p es a.1)
  where
    by_test : (b : Bool) → AreApart (filter p es) → AreApart (cond b (e ∷ filter p es) (filter p es))
    by_test true more = (none_filter (has_id e.id) p es a.0, more)
    by_test false more = more

apart_insert : (x : SeenEntry) (es : List SeenEntry) → AreApart es → find (has_id x.id) es ≡ None → AreApart (insert_seen x es)
apart_insert x [] a h = (refl, tt)
apart_insert x (e ∷ es) a h =
    let parts = cond_none (has_id x.id e) e (find (has_id x.id) es) h in
    by_place (nat_lt x.number e.number) parts.0 (apart_insert x es a.1 parts.1)
  where
    by_place : (b : Bool) → has_id x.id e ≡ false → AreApart (insert_seen x es) → AreApart (cond b (x ∷ e ∷ es) (e ∷ insert_seen x es))
    by_place true n more = (h, a)
    by_place false n more =
        (find-insert nat_cmp number_of seen_inserts (has_id e.id) x es (λ _. a.0) ∙ cond-false (has_id e.id x) (Some x) (find (has_id e.id) es) (bytes_flip e.id x.id ∙ n) ∙ a.0, more)

weight_insert : (x : SeenEntry) (es : List SeenEntry) → weight_of (insert_seen x es) ≡ length x.id + 64 + weight_of es
weight_insert x [] = refl
weight_insert x (e ∷ es) = by_place (nat_lt x.number e.number) (weight_insert x es)
  where
    by_place : (b : Bool) → weight_of (insert_seen x es) ≡ length x.id + 64 + weight_of es → weight_of (cond b (x ∷ e ∷ es) (e ∷ insert_seen x es)) ≡ length x.id + 64 + weight_of (e ∷ es)
    by_place true more = refl
    by_place false more = omega (arith, more)

-- the first of an id is its only one
without_later : (id : List ℕ) (e : SeenEntry) (es : List SeenEntry) → find (has_id e.id) es ≡ None → has_id id e ≡ true → without_id id es ≡ es
without_later id e es h t = filter_none (has_id id) es (ap (λ r. find (has_id r) es) (bytes_same id e.id t) ∙ h)

weight_without : (id : List ℕ) (es : List SeenEntry) (r : SeenEntry) → AreApart es → find (has_id id) es ≡ Some r → weight_of (without_id id es) + (length r.id + 64) ≡ weight_of es
weight_without id [] r a h = cc
weight_without id (e ∷ es) r a h = by_test (has_id id e) refl (weight_without id es r a.1) h
  where
    some_same : Some e ≡ Some r → e ≡ r
    some_same h = cc

    by_test : (b : Bool) → has_id id e ≡ b → (find (has_id id) es ≡ Some r → weight_of (without_id id es) + (length r.id + 64) ≡ weight_of es)
        → cond b (Some e) (find (has_id id) es) ≡ Some r → weight_of (cond (not b) (e ∷ without_id id es) (without_id id es)) + (length r.id + 64) ≡ weight_of (e ∷ es)
    by_test true t more h =
        let same = ap weight_of (without_later id e es a.0 t) in
        let size = ap (λ (x : SeenEntry). length x.id) (some_same h) in
        omega (arith, same, size)
    by_test false t more h = let less = more h in omega (arith, less)

pub found_id : (id : List ℕ) (es : List SeenEntry) (r : SeenEntry) → find (has_id id) es ≡ Some r → id ≡ r.id
found_id id [] r h = cc
found_id id (e ∷ es) r h = by_test (has_id id e) refl (found_id id es r) h
  where
    some_same : Some e ≡ Some r → e ≡ r
    some_same h = cc

    by_test : (b : Bool) → has_id id e ≡ b → (find (has_id id) es ≡ Some r → id ≡ r.id) → cond b (Some e) (find (has_id id) es) ≡ Some r → id ≡ r.id
    by_test true t more h = bytes_same id e.id t ∙ ap (λ (x : SeenEntry). x.id) (some_same h)
    by_test false t more h = more h

-- what a number finds, its id finds
found_by_id : (n : ℕ) (es : List SeenEntry) (r : SeenEntry) → AreApart es → find (has_number n) es ≡ Some r → find (has_id r.id) es ≡ Some r
found_by_id n [] r a h = cc
found_by_id n (e ∷ es) r a h = by_test (has_number n e) (found_by_id n es r a.1) h
  where
    some_same : Some e ≡ Some r → e ≡ r
    some_same h = cc

    other : (xs : List SeenEntry) → find (has_id e.id) xs ≡ None → find (has_id r.id) xs ≡ Some r → has_id r.id e ≡ false
    other xs none found = by_both (has_id r.id e) refl
      where
        by_both : (b : Bool) → has_id r.id e ≡ b → b ≡ false
        by_both true t = let no : None ≡ Some r = sym none ∙ ap (λ i. find (has_id i) xs) (sym (bytes_same r.id e.id t)) ∙ found in cc
        by_both false t = refl

    by_test : (b : Bool) → (find (has_number n) es ≡ Some r → find (has_id r.id) es ≡ Some r) → cond b (Some e) (find (has_number n) es) ≡ Some r → find (has_id r.id) (e ∷ es) ≡ Some r
    by_test true more h = subst (λ (x : SeenEntry). find (has_id x.id) (e ∷ es) ≡ Some x) (some_same h) (cond-true (has_id e.id e) (Some e) (find (has_id e.id) es) (bytes_self e.id))
    by_test false more h = cond-false (has_id r.id e) (Some e) (find (has_id r.id) es) (other es a.0 (more h)) ∙ more h

-- a number below all others is found among none of them
none_below : (k : ℕ) (es : List SeenEntry) → AllByRecursion (λ q. nat_cmp k q ≡ Less) (map number_of es) → find (has_number k) es ≡ None
none_below k [] a = refl
none_below k (e ∷ es) a = cond-false (k == e.number) (Some e) (find (has_number k) es) (apart_numbers a.0) ∙ none_below k es a.1
  where
    apart_numbers : nat_cmp k e.number ≡ Less → (k == e.number) ≡ false
    apart_numbers h = grind (arith, nat_tests)

pub same_without : (id : List ℕ) (es : List SeenEntry) (r : SeenEntry) → IsInOrder es → AreApart es → find (has_id id) es ≡ Some r → without_number r.number es ≡ without_id id es
same_without id [] r s a h = refl
same_without id (e ∷ es) r s a h = by_test (has_id id e) refl (same_without id es r (sorted_tail nat_cmp e.number (map number_of es) s) a.1) h
  where
    above : AllByRecursion (λ q. nat_cmp e.number q ≡ Less) (map number_of es)
    above = sorted_head nat_cmp e.number (map number_of es) s

    some_same : Some e ≡ Some r → e ≡ r
    some_same h = cc

    self_number : (n : ℕ) → (n == n) ≡ true
    self_number n = grind (arith, nat_tests)

    by_test : (b : Bool) → has_id id e ≡ b → (find (has_id id) es ≡ Some r → without_number r.number es ≡ without_id id es)
        → cond b (Some e) (find (has_id id) es) ≡ Some r → without_number r.number (e ∷ es) ≡ cond (not b) (e ∷ without_id id es) (without_id id es)
    by_test true t more h =
        subst (λ (x : SeenEntry). without_number x.number (e ∷ es) ≡ without_id id es) (some_same h)
        (ap (λ b. cond (not b) (e ∷ without_number e.number es) (without_number e.number es)) (self_number e.number)
        ∙ filter_none (has_number e.number) es (none_below e.number es above) ∙ sym (without_later id e es a.0 t))
    by_test false t more h =
        ap (λ b. cond (not b) (e ∷ without_number r.number es) (without_number r.number es)) (less_apart e.number r.number (found_above (has_id id) e.number es r above h))
        ∙ ap (λ xs. e ∷ xs) (more h)

-- ---- the calls

-- what has the id is its entry
pub entry_of : (id : List ℕ) (es : List SeenEntry) (o : Option SeenEntry) → AreApart es
    → MatchOption o (find (has_id id) es ≡ None) (λ e. (find (has_number e.number) es ≡ Some e) × (has_id id e ≡ true))
    → o ≡ find (has_id id) es
entry_of id es None a h = sym h
entry_of id es (Some e) a h =
    sym (ap (λ i. find (has_id i) es) (bytes_same id e.id h.1) ∙ found_by_id e.number es e a h.0)

-- a new id
pub seen_added : (x : SeenEntry) (es after : List SeenEntry) (w grown : ℕ) → IsSeen es w → find (has_id x.id) es ≡ None
    → after ≡ insert_seen x es → grown ≡ w + (length x.id + 64) → (after ≡ note_seen x es) × IsSeen after grown
seen_added x es after w grown s none h g =
    let weighed = weight_insert x es in (
      h ∙ ap (insert_seen x) (sym (filter_none (has_id x.id) es none)),
      subst (λ xs. IsSeen xs grown) (sym h)
          (record { apart = apart_insert x es s.apart none; weighed = omega (arith, weighed, s.weighed, g) }),
    )

-- an id that is still held
replaced : (x r : SeenEntry) (es : List SeenEntry) (w : ℕ) → IsSeen es w → find (has_id x.id) es ≡ Some r → IsSeen (note_seen x es) w
replaced x r es w s found =
    let weighed = weight_insert x (without_id x.id es) in
    let before = weight_without x.id es r s.apart found in
    let size = ap length (found_id x.id es r found) in
    let rest = apart_filter (λ e. not (has_id x.id e)) es s.apart in
    record {
      apart = apart_insert x (without_id x.id es) rest (find_without (has_id x.id) es);
      weighed = omega (arith, weighed, before, size, s.weighed);
    }

-- a number that none has isn't that of what is found
other_number : (n : ℕ) (t : SeenEntry → Bool) (es : List SeenEntry) (r : SeenEntry) → find (has_number n) es ≡ None → find t es ≡ Some r → (r.number == n) ≡ false
other_number n t [] r none h = cc
other_number n t (e ∷ es) r none h =
    let parts = cond_none (n == e.number) e (find (has_number n) es) none in
    by_test (t e) parts.0 (other_number n t es r parts.1) h
  where
    some_same : Some e ≡ Some r → e ≡ r
    some_same h = cc

    flipped : (k : ℕ) → (n == k) ≡ false → (k == n) ≡ false
    flipped k h = grind (arith, nat_tests)

    by_test : (b : Bool) → (n == e.number) ≡ false → (find t es ≡ Some r → (r.number == n) ≡ false) → cond b (Some e) (find t es) ≡ Some r → (r.number == n) ≡ false
    by_test true apart more h = subst (λ (x : SeenEntry). (x.number == n) ≡ false) (some_same h) (flipped e.number apart)
    by_test false apart more h = more h

-- the new entry, and then the old one of its id taken out
pub note_replaced : (x r : SeenEntry) (es : List SeenEntry) → IsInOrder es → AreApart es → find (has_number x.number) es ≡ None → find (has_id x.id) es ≡ Some r
    → without_number r.number (insert_seen x es) ≡ note_seen x es
note_replaced x r es s a fresh found =
    filter-insert nat_cmp number_of seen_inserts nat_cmp_total (λ e. not (has_number r.number e)) x es s
    ∙ ap (λ b. cond (not b) (insert_seen x (without_number r.number es)) (without_number r.number es)) (other_number x.number (has_id x.id) es r fresh found)
    ∙ ap (insert_seen x) (same_without x.id es r s a found)

-- the number of an entry that has an id is that of the id's entry
held_by : (id : List ℕ) (n : ℕ) (es : List SeenEntry) → AreApart es → is_of id (find (has_number n) es) ≡ true
    → (r : SeenEntry) × (find (has_id id) es ≡ Some r) × (n ≡ r.number)
held_by id n es a t = by_found (find (has_number n) es) refl t
  where
    by_found : (o : Option SeenEntry) → find (has_number n) es ≡ o → is_of id o ≡ true → (r : SeenEntry) × (find (has_id id) es ≡ Some r) × (n ≡ r.number)
    by_found None e t = cc
    by_found (Some r) e t = (r, ap (λ i. find (has_id i) es) (bytes_same id r.id t) ∙ found_by_id n es r a e, found_number n es r e)

pub seen_replaced : (x : SeenEntry) (es mid after : List SeenEntry) (w n : ℕ) → IsSeen es w → IsInOrder es → find (has_number x.number) es ≡ None
    → is_of x.id (find (has_number n) es) ≡ true → mid ≡ insert_seen x es → after ≡ without_number n mid
    → (after ≡ note_seen x es) × IsSeen after w
seen_replaced x es mid after w n s order fresh held h g =
    let old = held_by x.id n es s.apart held in
    let noted = g ∙ ap (λ k. without_number k mid) old.2 ∙ ap (without_number old.0.number) h ∙ note_replaced x old.0 es order s.apart fresh old.1 in
    (noted, subst (λ xs. IsSeen xs w) (sym noted) (replaced x old.0 es w s old.1))

-- the entry of a number went
pub seen_dropped : (r : SeenEntry) (es after : List SeenEntry) (w size : ℕ) → IsSeen es w → IsInOrder es → find (has_number r.number) es ≡ Some r
    → after ≡ without_number r.number es → size ≡ length r.id → IsSeen after (w - (size + 64))
seen_dropped r es after w size s order found h g =
    let by_id = found_by_id r.number es r s.apart found in
    let same = h ∙ same_without r.id es r order s.apart by_id in
    let before = weight_without r.id es r s.apart by_id in
    subst (λ xs. IsSeen xs (w - (size + 64))) (sym same)
    (record { apart = apart_filter (λ e. not (has_id r.id e)) es s.apart; weighed = omega (arith, before, s.weighed, g) })

pub grown_by : (r : Option ℕ) (g v : ℕ) (P : Type 0) → SomeIff r P v → r ≡ Some g → g ≡ v
grown_by None g v P h e = cc
grown_by (Some x) g v P h e = some_same e ∙ h.1
  where
    some_same : Some x ≡ Some g → g ≡ x
    some_same h = cc

pub weight_found : (r : SeenEntry) (es : List SeenEntry) (w : ℕ) → IsSeen es w → find (has_number r.number) es ≡ Some r → length r.id + 64 ≤ w
weight_found r es w s found =
    let before = weight_without r.id es r s.apart (found_by_id r.number es r s.apart found) in
    omega (arith, before, s.weighed)

-- a filter that drops what went
filter_dropped : (p : SeenEntry → Bool) (r : SeenEntry) (es : List SeenEntry) → AreApart es → find (has_id r.id) es ≡ Some r → p r ≡ false → filter p (without_id r.id es) ≡ filter p es
filter_dropped p r [] a h n = refl
filter_dropped p r (e ∷ es) a h n = by_test (has_id r.id e) refl (λ f. filter_dropped p r es a.1 f n) h
  where
    some_same : Some e ≡ Some r → e ≡ r
    some_same h = cc

    by_test : (b : Bool) → has_id r.id e ≡ b → (find (has_id r.id) es ≡ Some r → filter p (without_id r.id es) ≡ filter p es)
        → cond b (Some e) (find (has_id r.id) es) ≡ Some r → filter p (cond (not b) (e ∷ without_id r.id es) (without_id r.id es)) ≡ filter p (e ∷ es)
    by_test true t more h = ap (filter p) (without_later r.id e es a.0 t) ∙ sym (cond-false (p e) (e ∷ filter p es) (filter p es) (ap p (some_same h) ∙ n))
    by_test false t more h = ap (λ xs. cond (p e) (e ∷ xs) xs) (more h)

pub remembered_dropped : (moment : ℕ) (r : SeenEntry) (es : List SeenEntry) → IsInOrder es → AreApart es → find (has_number r.number) es ≡ Some r → is_remembered moment r ≡ false
    → remembered moment (without_number r.number es) ≡ remembered moment es
remembered_dropped moment r es s a found n =
    let by_id = found_by_id r.number es r a found in
    ap (remembered moment) (same_without r.id es r s a by_id) ∙ filter_dropped (is_remembered moment) r es a by_id n

some_passes : (t : SeenEntry → Bool) (es : List SeenEntry) (r : SeenEntry) → find t es ≡ Some r → 0 < length (filter t es)
some_passes t [] r h = cc
some_passes t (e ∷ es) r h = grind (arith, some_passes t es r)

pub fewer_without : (t : SeenEntry → Bool) (es : List SeenEntry) (r : SeenEntry) → find t es ≡ Some r → length (filter (λ e. not (t e)) es) < length es
fewer_without t es r h = omega (arith, some_passes t es r h, length-filter_both t (λ e. not (t e)) (λ e. refl) es)

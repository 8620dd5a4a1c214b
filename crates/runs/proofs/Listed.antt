-- Runs under their numbers with what is kept beside them: one that comes, goes or changes.
use Rattle.std.proofs.Common.{◌≡◌, ℕ, ◌+◌, ◌-◌, ◌≤◌, ◌<◌, ◌==◌, nat_lt, nat_le, Bool, true, false, cond, not, ◌||◌, List, [], ◌∷◌, ◌++◌, map, filter, find, length, Option, Some, None, is_some, refl, sym, ap, ◌∙◌, arith, subst, eqb-true}
use Rattle.std.specs.BTreeMap.{insert_entry, is_at}
use Rattle.std.specs.List.{list_any, AllByRecursion}
use Rattle.std.specs.List.Sorted.{IsStrictlySortedBy}
use Rattle.std.specs.Bool.{OnTrue, OnFalse}
use Rattle.std.specs.Option.{SomeIff}
use Rattle.std.specs.Map.{keys_of, values_of, remove_entry}
use Rattle.std.specs.Ordering.{nat_cmp, is_lt}
use Rattle.std.specs.declared.cmp.Ordering.TheVariants.{Less}
use Rattle.std.proofs.lemmas.Bool.Decides.{nat_tests}
use Rattle.std.proofs.lemmas.Map.Keys.{sorted_head, sorted_tail}
use Rattle.std.proofs.lemmas.Option.{same_Some}
use Rattle.kinds.specs.RunSteps.{RunSteps, adds, known, full, is_pending, is_planned, is_recorded, keep_step, names, most_names, record_step}
use Rattle.kinds.specs.declared.store.StepEntry.{StepEntry}
use Rattle.lists.proofs.Keyed.{cond_none, filter_none, find_without, keyed, keys_of-keyed}
use Rattle.ordered.proofs.Apart.{found}
use Rattle.lists.proofs.Stored.{IsStored, InsertsByNumber, stored_empty, stored_from, numbered_put, numbered_left, numbered_found}
use Rattle.lists.specs.Entries.{has, without, insert_by, AreApart, pair_cmp}
use Rattle.runs.specs.Changes.{changed, if_new, keep_in, naming_in, naming_of, record_in, result_for, with_result}
use Rattle.runs.specs.Indexes.{IsIndexed, changed_at, held}
use Rattle.runs.specs.Counts.{count_of, IsCounted, IsLowered, IsRaised}
use Rattle.runs.specs.Mentions.{mentions, numbers_of, IsJoined, IsParted, IsTold}
use Rattle.runs.specs.Runs.{Run, AreDisjoint, with_run, bytes_of_results, bytes_of_steps, events_of, has_version, names_event, run_at, run_number, version_of}
use Rattle.runs.specs.declared.naming.Naming.{Naming}
use Rattle.runs.specs.declared.naming.Naming.TheVariants.{New, Known, Full}
use Rattle.runs.proofs.Counting.{counted_any, counted_changed, counted_empty, counted_left, counted_put}
use Rattle.runs.proofs.Numbers.{Rises}
use Rattle.runs.proofs.Told.{told_changed, told_empty, told_left, told_none, told_numbers, told_put, told_some}

-- ---- a list's run that changes

at_same : (a b : ℕ) → is_at (nat_cmp a) b ≡ (a == b)
at_same a b = grind (arith, nat_tests)

above_other : (a b : ℕ) → nat_cmp a b ≡ Less → (a == b) ≡ false
above_other a b h = grind (arith, nat_tests, h)

absent_above : (n : ℕ) (xs : List Run) → AllByRecursion (λ m. nat_cmp n m ≡ Less) (map run_number xs) → find (has run_number n) xs ≡ None
absent_above n [] h = refl
absent_above n (x ∷ xs) h = rw (above_other n x.number h.0) (absent_above n xs h.1)

pub apart_rising : (xs : List Run) → Rises (map run_number xs) → AreApart run_number xs
apart_rising [] s = tt
apart_rising (x ∷ xs) s = (absent_above x.number xs (sorted_head nat_cmp x.number (map run_number xs) s), apart_rising xs (sorted_tail nat_cmp x.number (map run_number xs) s))

pub changed_absent : (number : ℕ) (f : Run → Run) (xs : List Run) → find (has run_number number) xs ≡ None → changed number f xs ≡ xs
changed_absent number f [] h = refl
changed_absent number f (x ∷ xs) h =
    let none = cond_none (number == x.number) x (find (has run_number number) xs) h in
    rw none.0 (ap (λ r. x ∷ r) (changed_absent number f xs none.1))

tail_absent : (number : ℕ) (x : Run) (xs : List Run) → AreApart run_number (x ∷ xs) → (number == x.number) ≡ true → find (has run_number number) xs ≡ None
tail_absent number x xs a e = ap (λ k. find (has run_number k) xs) (eqb-true number x.number e) ∙ a.0

-- only the run that is found changes
pub changed_alike : (number : ℕ) (f g : Run → Run) (r : Run) (xs : List Run) → AreApart run_number xs → find (has run_number number) xs ≡ Some r → f r ≡ g r → changed number f xs ≡ changed number g xs
changed_alike number f g r [] a h e = refl
changed_alike number f g r (x ∷ xs) a h e = by_test (number == x.number) refl h (changed_alike number f g r xs a.1)
  where
    by_test : (b : Bool) → (number == x.number) ≡ b → cond b (Some x) (find (has run_number number) xs) ≡ Some r → (find (has run_number number) xs ≡ Some r → f r ≡ g r → changed number f xs ≡ changed number g xs)
        → cond b (f x) x ∷ changed number f xs ≡ cond b (g x) x ∷ changed number g xs
    by_test true t h more =
        let none = tail_absent number x xs a t in
        let same = same_Some x r h in
        ap (λ y. y ∷ changed number f xs) (ap f same ∙ e ∙ ap g (sym same))
        ∙ ap (λ ys. g x ∷ ys) (changed_absent number f xs none ∙ sym (changed_absent number g xs none))
    by_test false t h more = ap (λ ys. x ∷ ys) (more h e)

-- ---- runs under their numbers

module _ (number : ℕ) (f : Run → Run) (same : (r : Run) → (f r).number ≡ r.number) where
  changed_keyed : (xs : List Run) → Rises (map run_number xs) → changed_at number f (keyed nat_cmp run_number xs) ≡ keyed nat_cmp run_number (changed number f xs)
  changed_keyed [] s = refl
  changed_keyed (x ∷ xs) s = by_test (is_at (nat_cmp number) x.number) (at_same number x.number) (changed_keyed xs (sorted_tail nat_cmp x.number (map run_number xs) s))
    where
      here : (number == x.number) ≡ true → (x.number, f x) ∷ keyed nat_cmp run_number xs ≡ keyed nat_cmp run_number (f x ∷ changed number f xs)
      here e =
          ap (λ k. (k, f x) ∷ keyed nat_cmp run_number xs) (sym (same x))
          ∙ ap (λ ys. ((f x).number, f x) ∷ keyed nat_cmp run_number ys) (sym (changed_absent number f xs (ap (λ k. find (has run_number k) xs) (eqb-true number x.number e) ∙ absent_above x.number xs (sorted_head nat_cmp x.number (map run_number xs) s))))

      by_test : (b : Bool) → b ≡ (number == x.number) → changed_at number f (keyed nat_cmp run_number xs) ≡ keyed nat_cmp run_number (changed number f xs)
          → cond b ((x.number, f x) ∷ keyed nat_cmp run_number xs) ((x.number, x) ∷ changed_at number f (keyed nat_cmp run_number xs)) ≡ keyed nat_cmp run_number (changed number f (x ∷ xs))
      by_test true e more = here (sym e) ∙ ap (λ b. keyed nat_cmp run_number (cond b (f x) x ∷ changed number f xs)) e
      by_test false e more = ap (λ r. (x.number, x) ∷ r) more ∙ ap (λ b. keyed nat_cmp run_number (cond b (f x) x ∷ changed number f xs)) e

  numbers_changed : (xs : List Run) → map run_number (changed number f xs) ≡ map run_number xs
  numbers_changed [] = refl
  numbers_changed (x ∷ xs) = by_test (number == x.number) ∙ ap (λ r. x.number ∷ r) (numbers_changed xs)
    where
      by_test : (b : Bool) → (cond b (f x) x).number ∷ map run_number (changed number f xs) ≡ x.number ∷ map run_number (changed number f xs)
      by_test true = ap (λ k. k ∷ map run_number (changed number f xs)) (same x)
      by_test false = refl

  pub stored_changed : (old new : List (ℕ × Run)) → IsStored nat_cmp run_number old → new ≡ changed_at number f old → (values_of new ≡ changed number f (values_of old)) × IsStored nat_cmp run_number new
  stored_changed old new k e =
      let ys = changed number f (values_of old) in
      let pairs : new ≡ keyed nat_cmp run_number ys = e ∙ ap (changed_at number f) k.keyed ∙ changed_keyed (values_of old) k.ordered in
      stored_from nat_cmp run_number new ys pairs (subst Rises (sym (ap keys_of pairs ∙ keys_of-keyed nat_cmp run_number ys ∙ numbers_changed (values_of old))) k.ordered)

-- ---- bytes

bytes_last : (es : List StepEntry) (e : StepEntry) → bytes_of_steps (es ++ e ∷ []) ≡ bytes_of_steps es + length e.result
bytes_last [] e = omega arith
bytes_last (x ∷ es) e = let more = bytes_last es e in omega (arith, more)

pub bytes_recorded : (name text : List ℕ) (s : RunSteps) → bytes_of_steps (record_step name text s).recorded ≡ bytes_of_steps s.recorded + length text
bytes_recorded name text s = bytes_last s.recorded (record { hash = name; result = text })

abbrev bytes_of : Run → ℕ
bytes_of r = bytes_of_steps r.steps.recorded

pub bytes_same : (number : ℕ) (f : Run → Run) → ((r : Run) → bytes_of (f r) ≡ bytes_of r) → (xs : List Run) → bytes_of_results (changed number f xs) ≡ bytes_of_results xs
bytes_same number f h [] = refl
bytes_same number f h (x ∷ xs) = by_test (number == x.number) (bytes_same number f h xs)
  where
    by_test : (b : Bool) → bytes_of_results (changed number f xs) ≡ bytes_of_results xs → bytes_of (cond b (f x) x) + bytes_of_results (changed number f xs) ≡ bytes_of x + bytes_of_results xs
    by_test true more = let one = h x in omega (arith, one, more)
    by_test false more = omega (arith, more)

pub bytes_more : (number : ℕ) (f : Run → Run) (n : ℕ) (r : Run) (xs : List Run) → AreApart run_number xs → find (has run_number number) xs ≡ Some r → bytes_of (f r) ≡ bytes_of r + n
    → bytes_of_results (changed number f xs) ≡ bytes_of_results xs + n
bytes_more number f n r [] a h e = cc
bytes_more number f n r (x ∷ xs) a h e = by_test (number == x.number) refl h (bytes_more number f n r xs a.1)
  where
    by_test : (b : Bool) → (number == x.number) ≡ b → cond b (Some x) (find (has run_number number) xs) ≡ Some r
        → (find (has run_number number) xs ≡ Some r → bytes_of (f r) ≡ bytes_of r + n → bytes_of_results (changed number f xs) ≡ bytes_of_results xs + n)
        → bytes_of (cond b (f x) x) + bytes_of_results (changed number f xs) ≡ bytes_of x + bytes_of_results xs + n
    by_test true t h more =
        let rest = ap bytes_of_results (changed_absent number f xs (tail_absent number x xs a t)) in
        let one : bytes_of (f x) ≡ bytes_of x + n = subst (λ y. bytes_of (f y) ≡ bytes_of y + n) (sym (same_Some x r h)) e in
        omega (arith, rest, one)
    by_test false t h more = let rest = more h e in omega (arith, rest)

pub bytes_put : (r : Run) (xs : List Run) → bytes_of_results (insert_by run_number r xs) ≡ bytes_of_results xs + bytes_of r
bytes_put r [] = omega arith
bytes_put r (x ∷ xs) = by_place (is_lt (nat_cmp r.number x.number)) (bytes_put r xs)
  where
    by_place : (b : Bool) → bytes_of_results (insert_by run_number r xs) ≡ bytes_of_results xs + bytes_of r → bytes_of_results (cond b (r ∷ x ∷ xs) (x ∷ insert_by run_number r xs)) ≡ bytes_of x + bytes_of_results xs + bytes_of r
    by_place true more = omega arith
    by_place false more = omega (arith, more)

pub bytes_left : (number : ℕ) (r : Run) (xs : List Run) → AreApart run_number xs → find (has run_number number) xs ≡ Some r → bytes_of_results xs ≡ bytes_of_results (without run_number number xs) + bytes_of r
bytes_left number r [] a h = cc
bytes_left number r (x ∷ xs) a h = by_test (number == x.number) refl h (bytes_left number r xs a.1)
  where
    by_test : (b : Bool) → (number == x.number) ≡ b → cond b (Some x) (find (has run_number number) xs) ≡ Some r
        → (find (has run_number number) xs ≡ Some r → bytes_of_results xs ≡ bytes_of_results (without run_number number xs) + bytes_of r)
        → bytes_of x + bytes_of_results xs ≡ bytes_of_results (cond (not b) (x ∷ without run_number number xs) (without run_number number xs)) + bytes_of r
    by_test true t h more =
        let rest = ap bytes_of_results (filter_none (has run_number number) xs (tail_absent number x xs a t)) in
        let one = ap bytes_of (same_Some x r h) in
        omega (arith, rest, one)
    by_test false t h more = let rest = more h in omega (arith, rest)

-- ---- all that is kept

pub indexed_empty : (entries : List (ℕ × Run)) (events versions : List (ℕ × ℕ)) → entries ≡ [] → events ≡ [] → versions ≡ [] → IsIndexed entries 0 events versions
indexed_empty entries events versions e a b = subst (λ es. IsIndexed es 0 events versions) (sym e) (record {
  stored = stored_empty nat_cmp run_number [] refl;
  summed = refl;
  named = told_empty run_number events_of events a;
  of_version = counted_empty run_number version_of versions b;
})

lt_same : (a b : ℕ) → is_lt (nat_cmp a b) ≡ nat_lt a b
lt_same a b = grind (arith, nat_tests)

by_number : InsertsByNumber run_number (insert_by run_number)
by_number = record { empty = λ x. refl; place = λ x y ys. ap (λ b. cond b (x ∷ y ∷ ys) (y ∷ insert_by run_number x ys)) (lt_same x.number y.number) }

module _ (old : List (ℕ × Run)) (bytes : ℕ) (events versions : List (ℕ × ℕ)) (i : IsIndexed old bytes events versions) where
  pub held_found : (number : ℕ) → held number old ≡ run_at number (values_of old)
  held_found number = numbered_found run_number old number i.stored

  pub indexed_apart : AreApart run_number (values_of old)
  indexed_apart = apart_rising (values_of old) i.stored.ordered

  put_at : (new : List (ℕ × Run)) (r : Run) (n : ℕ) (more others : List (ℕ × ℕ)) → run_at r.number (values_of old) ≡ None → new ≡ insert_entry nat_cmp old r.number r → IsStrictlySortedBy nat_cmp (keys_of new)
      → n ≡ bytes + bytes_of r → IsJoined r.events r.number events more → IsRaised r.version versions others
      → (values_of new ≡ insert_by run_number r (values_of old)) × IsIndexed new n more others
  put_at new r n more others none e s b j k =
      let put = numbered_put run_number by_number old new r i.stored none e s in (
        put.0,
        record {
          stored = put.1;
          summed = b ∙ ap (λ m. m + bytes_of r) i.summed ∙ sym (bytes_put r (values_of old)) ∙ ap bytes_of_results (sym put.0);
          named = subst (λ xs. IsTold run_number events_of xs more) (sym put.0) (told_put run_number events_of r (values_of old) events more i.named j);
          of_version = subst (λ xs. IsCounted version_of xs others) (sym put.0) (counted_put run_number version_of r (values_of old) versions others i.of_version k);
        },
      )

  -- a run comes, by what the calls say of it
  pub indexed_put : (new : List (ℕ × Run)) (r : Run) (k n size v : ℕ) (evs : List ℕ) (more others : List (ℕ × ℕ)) → k ≡ r.number → evs ≡ r.events → v ≡ r.version → size ≡ bytes_of r
      → run_at r.number (values_of old) ≡ None → new ≡ insert_entry nat_cmp old k r → IsStrictlySortedBy nat_cmp (keys_of new) → n ≡ bytes + size → IsJoined evs k events more → IsRaised v versions others
      → (values_of new ≡ insert_by run_number r (values_of old)) × IsIndexed new n more others
  indexed_put new r k n size v evs more others same a b c none e s sum j l =
      put_at new r n more others none (e ∙ ap (λ q. insert_entry nat_cmp old q r) same) s (sum ∙ ap (λ m. bytes + m) c)
      (subst (λ q. IsJoined r.events q events more) same (subst (λ xs. IsJoined xs k events more) a j))
      (subst (λ q. IsRaised q versions others) b l)

  left_at : (new : List (ℕ × Run)) (number : ℕ) (r : Run) (n : ℕ) (fewer others : List (ℕ × ℕ)) → Some r ≡ held number old → new ≡ remove_entry (is_at (nat_cmp number)) old → IsStrictlySortedBy nat_cmp (keys_of new)
      → n ≡ bytes - bytes_of r → IsParted r.events number events fewer → IsLowered r.version versions others
      → (values_of new ≡ without run_number number (values_of old)) × IsIndexed new n fewer others
  left_at new number r n fewer others h e s b j k =
      let left = numbered_left run_number old new number i.stored e s in
      let found : run_at number (values_of old) ≡ Some r = sym (h ∙ held_found number) in
      let all = bytes_left number r (values_of old) indexed_apart found in
      let whole = i.summed in
      let rest : n ≡ bytes_of_results (without run_number number (values_of old)) = omega (arith, all, whole, b) in (
        left.0,
        record {
          stored = left.1;
          summed = rest ∙ ap bytes_of_results (sym left.0);
          named = subst (λ xs. IsTold run_number events_of xs fewer) (sym left.0) (told_left run_number events_of number r (values_of old) events fewer indexed_apart i.named found j);
          of_version = subst (λ xs. IsCounted version_of xs others) (sym left.0) (counted_left run_number version_of number r (values_of old) versions others indexed_apart i.of_version found k);
        },
      )

  -- a run goes, by what the calls say of it
  pub indexed_left : (new : List (ℕ × Run)) (number : ℕ) (r : Run) (n size v : ℕ) (evs : List ℕ) (fewer others : List (ℕ × ℕ)) → evs ≡ r.events → v ≡ r.version → size ≡ bytes_of r
      → Some r ≡ held number old → new ≡ remove_entry (is_at (nat_cmp number)) old → IsStrictlySortedBy nat_cmp (keys_of new) → n ≡ bytes - size → IsParted evs number events fewer → IsLowered v versions others
      → (values_of new ≡ without run_number number (values_of old)) × IsIndexed new n fewer others
  indexed_left new number r n size v evs fewer others a b c h e s less j l =
      left_at new number r n fewer others h e s (less ∙ ap (λ m. bytes - m) c)
      (subst (λ xs. IsParted xs number events fewer) a j)
      (subst (λ q. IsLowered q versions others) b l)

  pub indexed_bytes : (number : ℕ) (r : Run) → Some r ≡ held number old → bytes_of r ≤ bytes
  indexed_bytes number r h =
      let all = bytes_left number r (values_of old) indexed_apart (sym (h ∙ held_found number)) in
      let whole = i.summed in
      omega (arith, all, whole)

  changed_with : (new : List (ℕ × Run)) (number : ℕ) (f : Run → Run) (n : ℕ) → ((r : Run) → (f r).number ≡ r.number) → ((r : Run) → (f r).events ≡ r.events) → ((r : Run) → (f r).version ≡ r.version)
      → new ≡ changed_at number f old → n ≡ bytes_of_results (changed number f (values_of old))
      → (values_of new ≡ changed number f (values_of old)) × IsIndexed new n events versions
  changed_with new number f n same names version e b =
      let at = stored_changed number f same old new i.stored e in (
        at.0,
        record {
          stored = at.1;
          summed = b ∙ ap bytes_of_results (sym at.0);
          named = subst (λ xs. IsTold run_number events_of xs events) (sym at.0) (told_changed run_number events_of f number same names (values_of old) events i.named);
          of_version = subst (λ xs. IsCounted version_of xs versions) (sym at.0) (counted_changed run_number version_of f number version (values_of old) versions i.of_version);
        },
      )

  -- a run changes and has the results that it had
  pub indexed_changed : (new : List (ℕ × Run)) (number : ℕ) (f : Run → Run) → ((r : Run) → (f r).number ≡ r.number) → ((r : Run) → (f r).events ≡ r.events) → ((r : Run) → (f r).version ≡ r.version)
      → ((r : Run) → bytes_of (f r) ≡ bytes_of r) → new ≡ changed_at number f old
      → (values_of new ≡ changed number f (values_of old)) × IsIndexed new bytes events versions
  indexed_changed new number f same names version results e =
      changed_with new number f bytes same names version e (i.summed ∙ sym (bytes_same number f results (values_of old)))

  -- a run records a result that fits
  pub indexed_recorded : (new : List (ℕ × Run)) (number : ℕ) (name text fitted : List ℕ) (r : Run) (n : ℕ) → Some r ≡ held number old → fitted ≡ result_for text r → n ≡ bytes + length fitted
      → new ≡ changed_at number (with_result name fitted) old
      → (values_of new ≡ changed number (record_in name text) (values_of old)) × IsIndexed new n events versions
  indexed_recorded new number name text fitted r n h fits b e =
      let found : run_at number (values_of old) ≡ Some r = sym (h ∙ held_found number) in
      let f = with_result name fitted in
      let at = changed_with new number (with_result name fitted) n (λ x. refl) (λ x. refl) (λ x. refl) e
      (b ∙ ap (λ m. m + length fitted) i.summed ∙ sym (bytes_more number (with_result name fitted) (length fitted) r (values_of old) indexed_apart found (bytes_recorded name fitted r.steps))) in (
        at.0 ∙ changed_alike number (with_result name fitted) (record_in name text) r (values_of old) indexed_apart found (ap (λ t. with_result name t r) fits),
        at.1,
      )

-- ---- names

-- whether a name is new doesn't lie in its result
pub keeps_alike : (name text fitted : List ℕ) (s : RunSteps) → naming_of (keep_step name fitted s) ≡ naming_of (keep_step name text s)
keeps_alike name text fitted s = by_tests (is_recorded name s || is_pending name s) (is_planned name s) (nat_le most_names (names s))
  where
    by_tests : (a b c : Bool) → naming_of (cond a known (cond b (adds (record_step name fitted s)) (cond c full (adds (record_step name fitted s)))))
        ≡ naming_of (cond a known (cond b (adds (record_step name text s)) (cond c full (adds (record_step name text s)))))
    by_tests true b c = refl
    by_tests false true c = refl
    by_tests false false true = refl
    by_tests false false false = refl

pub keeps_alike_in : (name text fitted : List ℕ) (o : Option Run) → naming_in (keep_in name fitted) o ≡ naming_in (keep_in name text) o
keeps_alike_in name text fitted None = refl
keeps_alike_in name text fitted (Some r) = keeps_alike name text fitted r.steps

-- ---- tests of a list by its pairs

module _ (old : List (ℕ × Run)) (bytes : ℕ) (events versions : List (ℕ × ℕ)) (i : IsIndexed old bytes events versions) where
  any_by : (b t : Bool) → OnTrue b (t ≡ true) → OnFalse b (t ≡ false) → b ≡ t
  any_by true t h k = sym h
  any_by false t h k = sym k

  on_true : (b t : Bool) (p : ℕ) (pairs : List (ℕ × ℕ)) → OnTrue b ((n : ℕ) × (mentions pairs p n ≡ true)) → ((n : ℕ) → mentions pairs p n ≡ true → t ≡ true) → OnTrue b (t ≡ true)
  on_true true t p pairs h f = f h.0 h.1
  on_true false t p pairs h f = tt

  on_false : (b t : Bool) (p : ℕ) (pairs : List (ℕ × ℕ)) → OnFalse b ((n : ℕ) → mentions pairs p n ≡ false) → (((n : ℕ) → mentions pairs p n ≡ false) → t ≡ false) → OnFalse b (t ≡ false)
  on_false true t p pairs h f = tt
  on_false false t p pairs h f = f h

  pub indexed_names : (event : ℕ) (b : Bool) → OnTrue b ((n : ℕ) × (mentions events event n ≡ true)) → OnFalse b ((n : ℕ) → mentions events event n ≡ false) → b ≡ list_any (names_event event) (values_of old)
  indexed_names event b h k =
      any_by b (list_any (names_event event) (values_of old))
      (on_true b (list_any (names_event event) (values_of old)) event events h (λ n t. told_some run_number events_of event n (values_of old) events i.named t))
      (on_false b (list_any (names_event event) (values_of old)) event events k (λ f. told_none run_number events_of event (values_of old) events i.named f))

  pub indexed_version : (version : ℕ) → nat_lt 0 (count_of version versions) ≡ list_any (has_version version) (values_of old)
  indexed_version version = counted_any run_number version_of version (values_of old) versions i.of_version

  pub indexed_of_event : (event : ℕ) → IsStrictlySortedBy pair_cmp events → numbers_of event events ≡ map run_number (filter (names_event event) (values_of old))
  indexed_of_event event s = told_numbers run_number events_of event (values_of old) events i.named s i.stored.ordered

-- a checked sum
pub sum_by : (o : Option ℕ) (n m : ℕ) (P : Type 0) → SomeIff o P m → o ≡ Some n → n ≡ m
sum_by None n m P h e = cc
sum_by (Some x) n m P h e = some_same e ∙ h.1
  where
    some_same : Some x ≡ Some n → n ≡ x
    some_same h = cc

-- ---- a run behind all others

comes_after : (a b : ℕ) → b < a → is_lt (nat_cmp a b) ≡ false
comes_after a b h = grind (arith, nat_tests, h)

other_below : (a b : ℕ) → b < a → (a == b) ≡ false
other_below a b h = grind (arith, nat_tests, h)

pub put_last : (r : Run) (xs : List Run) → AllByRecursion (λ (x : Run). x.number < r.number) xs → insert_by run_number r xs ≡ xs ++ r ∷ []
put_last r [] h = refl
put_last r (x ∷ xs) h = rw (comes_after r.number x.number h.0) (ap (λ ys. x ∷ ys) (put_last r xs h.1))

pub absent_below : (r : Run) (xs : List Run) → AllByRecursion (λ (x : Run). x.number < r.number) xs → run_at r.number xs ≡ None
absent_below r [] h = refl
absent_below r (x ∷ xs) h = rw (other_below r.number x.number h.0) (absent_below r xs h.1)

-- ---- two lists

pub found_changed : (number k : ℕ) (f : Run → Run) → ((r : Run) → (f r).number ≡ r.number) → (xs : List Run) → is_some (run_at k (changed number f xs)) ≡ is_some (run_at k xs)
found_changed number k f same [] = refl
found_changed number k f same (x ∷ xs) = by_number (number == x.number) (found_changed number k f same xs)
  where
    step : (b : Bool) (y z : Run) (o p : Option Run) → is_some o ≡ is_some p → is_some (cond b (Some y) o) ≡ is_some (cond b (Some z) p)
    step true y z o p h = refl
    step false y z o p h = h

    by_number : (b : Bool) → is_some (run_at k (changed number f xs)) ≡ is_some (run_at k xs) → is_some (run_at k (cond b (f x) x ∷ changed number f xs)) ≡ is_some (run_at k (x ∷ xs))
    by_number true h = ap (λ m. is_some (cond (k == m) (Some (f x)) (run_at k (changed number f xs)))) (same x) ∙ step (k == x.number) (f x) x (run_at k (changed number f xs)) (run_at k xs) h
    by_number false h = step (k == x.number) x x (run_at k (changed number f xs)) (run_at k xs) h

pub disjoint_changed : (number : ℕ) (f : Run → Run) → ((r : Run) → (f r).number ≡ r.number) → (live new closing : List Run) → new ≡ changed number f live → AreDisjoint live closing → AreDisjoint new closing
disjoint_changed number f same live new closing e d = record { once = λ k h. d.once k (sym (found_changed number k f same live) ∙ ap (λ xs. is_some (run_at k xs)) (sym e) ∙ h) }

pub disjoint_if_new : (n : Naming) (number : ℕ) (f : Run → Run) → ((r : Run) → (f r).number ≡ r.number) → (live new closing : List Run) → new ≡ if_new n (changed number f live) live → AreDisjoint live closing → AreDisjoint new closing
disjoint_if_new New number f same live new closing e d = disjoint_changed number f same live new closing e d
disjoint_if_new Known number f same live new closing e d = subst (λ xs. AreDisjoint xs closing) (sym e) d
disjoint_if_new Full number f same live new closing e d = subst (λ xs. AreDisjoint xs closing) (sym e) d

pub disjoint_cond : (b : Bool) (number : ℕ) (f : Run → Run) → ((r : Run) → (f r).number ≡ r.number) → (live new closing : List Run) → new ≡ cond b (changed number f live) live → AreDisjoint live closing → AreDisjoint new closing
disjoint_cond true number f same live new closing e d = disjoint_changed number f same live new closing e d
disjoint_cond false number f same live new closing e d = subst (λ xs. AreDisjoint xs closing) (sym e) d

pub disjoint_no_live : (live closing : List Run) → live ≡ [] → AreDisjoint live closing
disjoint_no_live live closing e = subst (λ xs. AreDisjoint xs closing) (sym e) (record { once = λ k h. let no : false ≡ true = h in cc })

pub disjoint_no_closing : (live closing : List Run) → closing ≡ [] → AreDisjoint live closing
disjoint_no_closing live closing e = subst (AreDisjoint live) (sym e) (record { once = λ k h. refl })

-- which run is found after one came
found_put : (k : ℕ) (r : Run) (xs : List Run) → is_some (run_at k (insert_by run_number r xs)) ≡ ((k == r.number) || is_some (run_at k xs))
found_put k r [] = by_test (k == r.number)
  where
    by_test : (b : Bool) → is_some (cond b (Some r) None) ≡ (b || false)
    by_test true = refl
    by_test false = refl
found_put k r (x ∷ xs) = by_place (is_lt (nat_cmp r.number x.number)) (found_put k r xs)
  where
    some_of : (b : Bool) (y : Run) (o : Option Run) → is_some (cond b (Some y) o) ≡ (b || is_some o)
    some_of true y o = refl
    some_of false y o = refl

    turn : (a b c : Bool) → (a || (b || c)) ≡ (b || (a || c))
    turn true true c = refl
    turn true false c = refl
    turn false true c = refl
    turn false false c = refl

    by_place : (b : Bool) → is_some (run_at k (insert_by run_number r xs)) ≡ ((k == r.number) || is_some (run_at k xs)) → is_some (run_at k (cond b (r ∷ x ∷ xs) (x ∷ insert_by run_number r xs))) ≡ ((k == r.number) || is_some (run_at k (x ∷ xs)))
    by_place true h = some_of (k == r.number) r (run_at k (x ∷ xs))
    by_place false h =
        some_of (k == x.number) x (run_at k (insert_by run_number r xs))
        ∙ ap (λ b. (k == x.number) || b) h
        ∙ turn (k == x.number) (k == r.number) (is_some (run_at k xs))
        ∙ ap (λ b. (k == r.number) || b) (sym (some_of (k == x.number) x (run_at k xs)))

none_of : (o : Option Run) → is_some o ≡ false → o ≡ None
none_of None h = refl
none_of (Some r) h = cc

either : (a b : Bool) → (a || b) ≡ true → (a ≡ true → ⊥) → b ≡ true
either true b h f = absurd (f refl)
either false b h f = h

pub disjoint_put : (r : Run) (live new closing : List Run) → new ≡ insert_by run_number r live → run_at r.number closing ≡ None → AreDisjoint live closing → AreDisjoint new closing
disjoint_put r live new closing e none d = record { once = λ k h. by_number k (k == r.number) refl (sym (ap (λ xs. is_some (run_at k xs)) e ∙ found_put k r live) ∙ h) }
  where
    by_number : (k : ℕ) (b : Bool) → (k == r.number) ≡ b → ((k == r.number) || is_some (run_at k live)) ≡ true → run_at k closing ≡ None
    by_number k true t h = ap (λ m. run_at m closing) (eqb-true k r.number t) ∙ none
    by_number k false t h = d.once k (sym (ap (λ b. b || is_some (run_at k live)) t) ∙ h)

some_over : (b : Bool) (x : Run) (o : Option Run) → is_some o ≡ true → is_some (cond b (Some x) o) ≡ true
some_over true x o h = refl
some_over false x o h = h

-- what isn't found isn't found among fewer
found_fewer : (k number : ℕ) (xs : List Run) → is_some (run_at k (without run_number number xs)) ≡ true → is_some (run_at k xs) ≡ true
found_fewer k number [] h = h
found_fewer k number (x ∷ xs) h = by_test (number == x.number) h (found_fewer k number xs)
  where
    here : (b : Bool) (o p : Option Run) → is_some (cond b (Some x) o) ≡ true → (is_some o ≡ true → is_some p ≡ true) → is_some (cond b (Some x) p) ≡ true
    here true o p h f = refl
    here false o p h f = f h

    by_test : (c : Bool) → is_some (run_at k (cond (not c) (x ∷ without run_number number xs) (without run_number number xs))) ≡ true
        → (is_some (run_at k (without run_number number xs)) ≡ true → is_some (run_at k xs) ≡ true) → is_some (run_at k (x ∷ xs)) ≡ true
    by_test true h more = some_over (k == x.number) x (run_at k xs) (more h)
    by_test false h more = here (k == x.number) (run_at k (without run_number number xs)) (run_at k xs) h more

none_fewer : (k number : ℕ) (xs : List Run) → run_at k xs ≡ None → run_at k (without run_number number xs) ≡ None
none_fewer k number xs h = by_found (run_at k (without run_number number xs)) (found_fewer k number xs)
  where
    by_found : (o : Option Run) → (is_some o ≡ true → is_some (run_at k xs) ≡ true) → o ≡ None
    by_found None f = refl
    by_found (Some r) f = let no : false ≡ true = ap is_some (sym h) ∙ f refl in cc

pub disjoint_fewer : (number : ℕ) (live new closing : List Run) → new ≡ without run_number number live → AreDisjoint live closing → AreDisjoint new closing
disjoint_fewer number live new closing e d = record { once = λ k h. d.once k (found_fewer k number live (ap (λ xs. is_some (run_at k xs)) (sym e) ∙ h)) }

pub disjoint_closed : (number : ℕ) (live closing new : List Run) → new ≡ without run_number number closing → AreDisjoint live closing → AreDisjoint live new
disjoint_closed number live closing new e d = record { once = λ k h. ap (run_at k) e ∙ none_fewer k number closing (d.once k h) }

found_number : (number : ℕ) (r : Run) (xs : List Run) → Some r ≡ run_at number xs → number ≡ r.number
found_number number r xs h = eqb-true number r.number (found (has run_number number) xs r (sym h))

-- a run that has not ended isn't among the others
pub closing_free : (number : ℕ) (r : Run) (live closing : List Run) → Some r ≡ run_at number live → AreDisjoint live closing → run_at r.number closing ≡ None
closing_free number r live closing h d = ap (λ k. run_at k closing) (sym (found_number number r live h)) ∙ d.once number (ap is_some (sym h))

pub disjoint_moved : (number : ℕ) (r : Run) (live new closing more : List Run) → new ≡ without run_number number live → Some r ≡ run_at number live → more ≡ insert_by run_number r closing → AreDisjoint live closing → AreDisjoint new more
disjoint_moved number r live new closing more e f g d = record { once = λ k h. by_number k (k == r.number) refl (ap (λ xs. is_some (run_at k xs)) (sym e) ∙ h) }
  where
    gone : (k : ℕ) → (k == r.number) ≡ true → run_at k (without run_number number live) ≡ None
    gone k t = ap (λ m. run_at m (without run_number number live)) (eqb-true k r.number t ∙ sym (found_number number r live f)) ∙ find_without (has run_number number) live

    by_number : (k : ℕ) (b : Bool) → (k == r.number) ≡ b → is_some (run_at k (without run_number number live)) ≡ true → run_at k more ≡ None
    by_number k true t h = let no : false ≡ true = ap is_some (sym (gone k t)) ∙ h in cc
    by_number k false t h =
        let was = d.once k (found_fewer k number live h) in
        none_of (run_at k more) (ap (λ xs. is_some (run_at k xs)) g ∙ found_put k r closing ∙ ap (λ b. b || is_some (run_at k closing)) t ∙ ap is_some was)

-- where it was found it goes to the others
pub with_found : (number : ℕ) (r : Run) (live closing more : List Run) → Some r ≡ run_at number live → more ≡ insert_by run_number r closing → more ≡ with_run (run_at number live) closing
with_found number r live closing more f g = g ∙ ap (λ o. with_run o closing) f

pub with_none : (number : ℕ) (live closing : List Run) → None ≡ run_at number live → closing ≡ with_run (run_at number live) closing
with_none number live closing f = ap (λ o. with_run o closing) f

-- the same, of what the calls say

pub closing_free_at : (number : ℕ) (r : Run) (live closing before : List Run) → before ≡ closing → Some r ≡ run_at number live → AreDisjoint live closing → run_at r.number before ≡ None
closing_free_at number r live closing before e h d = ap (run_at r.number) e ∙ closing_free number r live closing h d

pub disjoint_moved_at : (number : ℕ) (r : Run) (live new closing before more : List Run) → new ≡ without run_number number live → Some r ≡ run_at number live → before ≡ closing → more ≡ insert_by run_number r before → AreDisjoint live closing
    → AreDisjoint new more
disjoint_moved_at number r live new closing before more e f b g d = disjoint_moved number r live new closing more e f (g ∙ ap (insert_by run_number r) b) d

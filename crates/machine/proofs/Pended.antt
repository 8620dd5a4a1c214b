-- A name that waits, and is recorded at once.
use Rattle.std.proofs.Common.{◌≡◌, ℕ, ◌<◌, ◌==◌, Bool, true, false, cond, ◌||◌, List, [], ◌∷◌, map, find, Option, Some, None, bytes_eq, refl, sym, ap, ◌∙◌, arith, subst, eqb-true}
use Rattle.std.specs.Prelude.{is_some}
use Rattle.std.specs.BTreeMap.{insert_entry, is_at}
use Rattle.std.specs.Cmp.Lexicographic.{slice_cmp}
use Rattle.std.specs.Map.{lookup, remove_entry}
use Rattle.std.specs.Ordering.{is_eq, match_ordering, nat_cmp}
use Rattle.std.specs.declared.cmp.Ordering.{Ordering}
use Rattle.std.specs.declared.cmp.Ordering.TheVariants.{Less, Equal, Greater}
use Rattle.std.proofs.lemmas.Slice.Eq.{bytes_eq-Decides}
use Rattle.std.proofs.lemmas.Map.Text.{is_eq-slice_cmp}
use Rattle.std.specs.List.{AllByRecursion}
use Rattle.std.specs.List.Sorted.{IsStrictlySortedBy}
use Rattle.std.specs.Option.{option_map}
use Rattle.std.proofs.lemmas.Map.Keys.{sorted_head, sorted_tail}
use Rattle.kinds.specs.RunSteps.{RunSteps, Noting, known, is_pending, is_planned, is_recorded, note_pending, pend_step, record_step, with_room}
use Rattle.kinds.specs.declared.store.Pending.{Pending}
use Rattle.lists.proofs.Elements.{all-weaker}
use Rattle.lists.proofs.Keyed.{cond_none}
use Rattle.runs.specs.Changes.{changed, is_pending_in, naming_of, record_in, result_for, with_pending}
use Rattle.runs.specs.Runs.{Run, run_number}
use Rattle.runs.specs.declared.naming.Naming.TheVariants.{New}
use Rattle.run_model.specs.Recording.{change_run, record_result, without_item}
use Rattle.run_model.specs.State.{State, live_run}
use Rattle.run_model.proofs.SettlingLists.{find-map, found-passes}
use Rattle.machine.proofs.Discovered.{above-head}

same-bytes : (name : List ℕ) → bytes_eq name name ≡ true
same-bytes name = (bytes_eq-Decides name name).1 refl

module _ (name : List ℕ) (kind : Pending) where
  abbrev has : List ℕ → Bool
  has = is_at (slice_cmp nat_cmp name)

  abbrev put : List (List ℕ × Pending) → List (List ℕ × Pending)
  put es = insert_entry (slice_cmp nat_cmp) es name kind

  its-own : has name ≡ true
  its-own = is_eq-slice_cmp name name ∙ same-bytes name

  put-found-by : (o : Ordering) (e : List ℕ × Pending) (es : List (List ℕ × Pending)) → slice_cmp nat_cmp name e.0 ≡ o
      → is_some (lookup has (put es)) ≡ true
      → is_some (lookup has (match_ordering o ((name, kind) ∷ e ∷ es) ((e.0, kind) ∷ es) (e ∷ put es))) ≡ true
  put-found-by Less e es is rest = ap (λ b. is_some (cond b (Some kind) (lookup has (e ∷ es)))) its-own
  put-found-by Equal e es is rest = ap (λ o. is_some (cond (is_eq o) (Some kind) (lookup has es))) is
  put-found-by Greater e es is rest = ap (λ o. is_some (cond (is_eq o) (Some e.1) (lookup has (put es)))) is ∙ rest

  pub put-found : (es : List (List ℕ × Pending)) → is_some (lookup has (put es)) ≡ true
  put-found [] = ap (λ b. is_some (cond b (Some kind) None)) its-own
  put-found (e ∷ es) = put-found-by (slice_cmp nat_cmp name e.0) e es refl (put-found es)

  put-removed-by : (o : Ordering) (e : List ℕ × Pending) (es : List (List ℕ × Pending)) → slice_cmp nat_cmp name e.0 ≡ o
      → has e.0 ≡ false → remove_entry has (put es) ≡ es
      → remove_entry has (match_ordering o ((name, kind) ∷ e ∷ es) ((e.0, kind) ∷ es) (e ∷ put es)) ≡ e ∷ es
  put-removed-by Less e es is other rest =
      ap (λ b. cond b (e ∷ es) ((name, kind) ∷ remove_entry has (e ∷ es))) its-own
  put-removed-by Equal e es is other rest = let clash : true ≡ false = sym (ap is_eq is) ∙ other in cc
  put-removed-by Greater e es is other rest =
      ap (λ b. cond b (put es) (e ∷ remove_entry has (put es))) other ∙ ap (λ xs. e ∷ xs) rest

  put-removed : (es : List (List ℕ × Pending)) → lookup has es ≡ None → remove_entry has (put es) ≡ es
  put-removed [] none = ap (λ b. cond b [] ((name, kind) ∷ [])) its-own
  put-removed (e ∷ es) none =
      let parts = cond_none (has e.0) e.1 (lookup has es) none in
      put-removed-by (slice_cmp nat_cmp name e.0) e es refl parts.0 (put-removed es parts.1)

  none-removed : (es : List (List ℕ × Pending)) → lookup has es ≡ None → remove_entry has es ≡ es
  none-removed [] none = refl
  none-removed (e ∷ es) none =
      let parts = cond_none (has e.0) e.1 (lookup has es) none in
      ap (λ b. cond b es (e ∷ remove_entry has es)) parts.0 ∙ ap (λ xs. e ∷ xs) (none-removed es parts.1)

  pub recorded-pended : (result : List ℕ) (s : RunSteps) → lookup has s.pending ≡ None
      → record_step name result (pend_step name kind s) ≡ record_step name result s
  recorded-pended result s none =
      ap (λ es. record (record_step name result s) { pending = es })
      (put-removed s.pending none ∙ sym (none-removed s.pending none))

-- ## A name that was new

pending-by : {X : Type 0} (found : Option X) → is_some found ≡ false → found ≡ None
pending-by None h = refl
pending-by (Some x) h = cc

new-by : (a b c : Bool) (n : Noting) → naming_of (cond (a || b || c) known n) ≡ New → c ≡ false
new-by true b c n h = cc
new-by false true c n h = cc
new-by false false true n h = cc
new-by false false false n h = refl

not-pending : (name : List ℕ) (kind : Pending) (s : RunSteps) → naming_of (note_pending name kind s) ≡ New
    → lookup (is_at (slice_cmp nat_cmp name)) s.pending ≡ None
not-pending name kind s new =
    pending-by (lookup (is_at (slice_cmp nat_cmp name)) s.pending)
    (new-by (is_recorded name s) (is_planned name s) (is_pending name s) (with_room (pend_step name kind s) s) new)

-- ## A run that changes twice

-- no other run has the number
only-one : (number : ℕ) (r : Run) (live : List Run) → IsStrictlySortedBy nat_cmp (map run_number live)
    → find (λ (q : Run). number == q.number) live ≡ Some r
    → AllByRecursion (λ (q : Run). (number == q.number) ≡ true → q ≡ r) live
only-one number r [] sorted found = tt
only-one number r (q ∷ live) sorted found =
    by_test (number == q.number) refl found
    (only-one number r live (sorted_tail nat_cmp q.number (map run_number live) sorted))
  where
    apart : (n m : ℕ) → (number == n) ≡ true → n < m → (number == m) ≡ true → ⊥
    apart n m same low other = omega (arith, low, sym (eqb-true number n same) ∙ eqb-true number m other)

    by_test : (b : Bool) → (number == q.number) ≡ b
        → cond b (Some q) (find (λ (x : Run). number == x.number) live) ≡ Some r
        → (find (λ (x : Run). number == x.number) live ≡ Some r
        → AllByRecursion (λ (x : Run). (number == x.number) ≡ true → x ≡ r) live)
        → ((number == q.number) ≡ true → q ≡ r) × AllByRecursion (λ (x : Run). (number == x.number) ≡ true → x ≡ r) live
    by_test true e found rest = (
      (λ same. let is : q ≡ r = cc in is),
      all-weaker (λ (x : Run). q.number < x.number) (λ (x : Run). (number == x.number) ≡ true → x ≡ r) live
          (λ (x : Run) (low : q.number < x.number) same. absurd (apart q.number x.number e low same))
          (above-head q live (sorted_head nat_cmp q.number (map run_number live) sorted)),
    )
    by_test false e found rest = (
      (λ same. let clash : true ≡ false = sym same ∙ e in cc),
      rest found,
    )

twice-by : (number : ℕ) (f g : Run → Run) (q : Run) → (g q).number ≡ q.number
    → ((number == q.number) ≡ true → f (g q) ≡ f q) → (b : Bool) → (number == q.number) ≡ b
    → cond (number == (cond b (g q) q).number) (f (cond b (g q) q)) (cond b (g q) q) ≡ cond b (f q) q
twice-by number f g q same last true e =
    ap (λ b. cond b (f (g q)) (g q)) (ap (λ n. number == n) same ∙ e) ∙ last e
twice-by number f g q same last false e = ap (λ b. cond b (f q) q) e

changed-twice : (number : ℕ) (f g : Run → Run) (live : List Run) → ((q : Run) → (g q).number ≡ q.number)
    → AllByRecursion (λ (q : Run). (number == q.number) ≡ true → f (g q) ≡ f q) live
    → changed number f (changed number g live) ≡ changed number f live
changed-twice number f g [] same last = refl
changed-twice number f g (q ∷ live) same last =
    ap (λ r. r ∷ changed number f (changed number g live))
    (twice-by number f g q (same q) last.0 (number == q.number) refl)
    ∙ ap (λ rs. cond (number == q.number) (f q) q ∷ rs) (changed-twice number f g live same last.1)

abbrev recorded_as : List ℕ → List ℕ → RunSteps → Run → Run
recorded_as name result steps r = record r { steps = record_step name (result_for result r) steps; wanted = true }

-- it is recorded as if it hadn't waited
pub pended-then : (run : ℕ) (name result : List ℕ) (kind : Pending) (r : Run) (s : State)
    → IsStrictlySortedBy nat_cmp (map run_number s.live) → live_run run s ≡ Some r
    → naming_of (note_pending name kind r.steps) ≡ New
    → record_result run name result (change_run run (with_pending name kind) s) ≡ record_result run name result s
pended-then run name result kind r s sorted found new =
    ap (λ live. record s { live = live; items = without_item run name s.items })
    (changed-twice run (record_in name result) (with_pending name kind) s.live (λ q. refl)
    (all-weaker (λ (q : Run). (run == q.number) ≡ true → q ≡ r)
    (λ (q : Run). (run == q.number) ≡ true
    → record_in name result (with_pending name kind q) ≡ record_in name result q) s.live
    (λ (q : Run) one same. subst
    (λ (x : Run). record_in name result (with_pending name kind x) ≡ record_in name result x) (sym (one same))
    (ap (λ steps. record r { steps = steps; wanted = true })
    (recorded-pended name kind (result_for result r) r.steps (not-pending name kind r.steps new))))
    (only-one run r s.live sorted found)))

-- and it waits meanwhile
pub pended-waits : (run : ℕ) (name : List ℕ) (kind : Pending) (r : Run) (s : State) → live_run run s ≡ Some r
    → is_pending_in name (live_run run (change_run run (with_pending name kind) s)) ≡ true
pended-waits run name kind r s found =
    ap (is_pending_in name)
    (find-map (λ (q : Run). run == q.number) (λ (q : Run). cond (run == q.number) (with_pending name kind q) q) s.live
    (λ q. same-number q (run == q.number)) ∙ ap (option_map (λ (q : Run). cond (run == q.number) (with_pending name kind q) q)) found)
    ∙ ap (λ b. is_pending name (cond b (with_pending name kind r) r).steps)
    (found-passes (λ (q : Run). run == q.number) s.live r found)
    ∙ put-found name kind r.steps.pending
  where
    same-number : (q : Run) (b : Bool) → (run == (cond b (with_pending name kind q) q).number) ≡ (run == q.number)
    same-number q true = refl
    same-number q false = refl

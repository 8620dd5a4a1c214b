-- One item more: of what is found so far, and of the next moment so far. The map of items after one came or went.
use Rattle.std.proofs.Common.{◌≡◌, ℕ, ◌+◌, ◌<◌, ◌≤◌, nat_le, nat_lt, Bool, true, false, cond, not, ◌&&◌, List, [], ◌∷◌, Option, Some, None, refl, sym, ap, ap₂, ◌∙◌, subst, arith, length, min}
use Rattle.std.specs.BTreeMap.{insert_entry, is_at}
use Rattle.std.specs.List.{AllByRecursion, filter, find}
use Rattle.std.specs.List.Sorted.{IsStrictlySortedBy}
use Rattle.std.specs.Map.{keys_of, values_of, remove_entry}
use Rattle.std.specs.Ordering.{nat_cmp}
use Rattle.std.proofs.lemmas.Bool.Decides.{nat_tests}
use Rattle.lists.proofs.Elements.{all-filter}
use Rattle.lists.proofs.Keyed.{keyed}
use Rattle.lists.proofs.Stored.{InsertsByNumber, stored_from, stored_empty, numbered_put, numbered_left}
use Rattle.kinds.specs.Cells.{IsStart}
use Rattle.kinds.specs.Queue.{number_of, has_number, without_number, insert_item, is_admissible, moment_of, sooner, next_item}
use Rattle.kinds.specs.declared.cell.Cell.{Cell}
use Rattle.kinds.specs.declared.cell.CellLimit.{CellLimit}
use Rattle.kinds.specs.declared.cell.IssueEntry.{IssueEntry}
use Rattle.kinds.specs.declared.cell.StartEntry.{StartEntry}
use Rattle.kinds.specs.declared.store.Item.{Item}
use Rattle.ready_queue.specs.Heads.{has_lesser, leads, rank, joined, least_rank, IsStep}
use Rattle.ready_queue.specs.Store.{IsScore, IsStore}
use Rattle.ready_queue.proofs.RankLemmas.{Rank, joined_none, joined_joined}

-- ---- a step

kept : (b : Bool) (best r : Option Rank) → (b ≡ true → r ≡ best) → best ≡ cond b r best
kept true best r h = sym (h refl)
kept false best r h = refl

pub step_kept : (heads passes : Item → Bool) (item : Item) (best : Option Rank) (was : ℕ) → ((heads item && passes item) ≡ true → joined best (Some (rank item)) ≡ best)
    → IsStep heads passes item best best was was
step_kept heads passes item best was h = (kept (heads item && passes item) best (joined best (Some (rank item))) h, omega arith)

and_false : (a : Bool) → (a && false) ≡ false
and_false true = refl
and_false false = refl

no_way : {A : Type 0} → false ≡ true → A
no_way e = cc

pub late : (t : ℕ) (items : List Item) (item : Item) → t < item.due → leads t items item ≡ false
unfolding leads
late t items item h = ap (λ b. b && not (has_lesser t items item)) (past t item.due h)
  where
    past : (t d : ℕ) → t < d → nat_le d t ≡ false
    past t d h = grind (arith, nat_tests)

pub behind_lesser : (t : ℕ) (items : List Item) (item : Item) → has_lesser t items item ≡ true → leads t items item ≡ false
unfolding leads
behind_lesser t items item h = ap (λ b. nat_le item.due t && not b) h ∙ and_false (nat_le item.due t)

pub step_idle : (heads passes : Item → Bool) (item : Item) (best : Option Rank) (was : ℕ) → heads item ≡ false → IsStep heads passes item best best was was
step_idle heads passes item best was h = step_kept heads passes item best was (λ e. no_way (sym (ap (λ b. b && passes item) h) ∙ e))

is_due : (t d : ℕ) → d ≤ t → nat_le d t ≡ true
is_due t d h = grind (arith, nat_tests)

leading : (t : ℕ) (items : List Item) (item : Item) → item.due ≤ t → has_lesser t items item ≡ false → leads t items item ≡ true
unfolding leads
leading t items item h n = ap₂ (λ u v. u && not v) (is_due t item.due h) n

pub step_open : (t : ℕ) (items : List Item) (gate : List CellLimit → Option Cell → Bool) (item : Item) (best : Option Rank) (was now : ℕ) → item.due ≤ t → has_lesser t items item ≡ false
    → joined best (Some (rank item)) ≡ Some (rank item) → gate item.cells item.start ≡ true → now ≡ was + 1 → IsStep (leads t items) (is_admissible gate t) item best (Some (rank item)) was now
step_open t items gate item best was now d n j g s =
    let leads_it = leading t items item d n in (
      sym j ∙ sym (ap (λ b. cond b (joined best (Some (rank item))) best) (ap₂ (λ u v. u && v) leads_it (ap₂ (λ u v. u && v) (is_due t item.due d) g))),
      (let one : cond {A = ℕ} (leads t items item) 1 0 ≡ 1 = ap (λ b. cond {A = ℕ} b 1 0) leads_it in omega (arith, one, s)),
    )

pub step_closed : (t : ℕ) (items : List Item) (gate : List CellLimit → Option Cell → Bool) (item : Item) (best : Option Rank) (was now : ℕ) → item.due ≤ t → has_lesser t items item ≡ false
    → gate item.cells item.start ≡ false → now ≡ was + 1 → IsStep (leads t items) (is_admissible gate t) item best best was now
step_closed t items gate item best was now d n g s =
    let leads_it = leading t items item d n in (
      sym (ap (λ b. cond b (joined best (Some (rank item))) best) (ap₂ (λ u v. u && v) leads_it (ap₂ (λ u v. u && v) (is_due t item.due d) g))),
      (let one : cond {A = ℕ} (leads t items item) 1 0 ≡ 1 = ap (λ b. cond {A = ℕ} b 1 0) leads_it in omega (arith, one, s)),
    )

-- ---- the walk

pub record IsWalking (heads passes : Item → Bool) (all left : List Item) (best : Option Rank) (was now : ℕ) : Type 0 where
  pub first : joined best (least_rank (λ i. heads i && passes i) left) ≡ least_rank (λ i. heads i && passes i) all
  pub asked : now + length (filter heads left) ≤ was + length (filter heads all)
  pub starts : AllByRecursion (λ (i : Item). IsStart i.start) left

pub walking_start : (heads passes : Item → Bool) (all left : List Item) (was : ℕ) → left ≡ all → AllByRecursion (λ (i : Item). IsStart i.start) all → IsWalking heads passes all left None was was
walking_start heads passes all left was e s = subst (λ l. IsWalking heads passes all l None was was) (sym e) (record { first = refl; asked = omega arith; starts = s })

count_more : (b : Bool) (n m x : ℕ) (xs : List Item) (e : Item) → n + length (cond b (e ∷ xs) xs) ≤ x → m ≤ n + cond b 1 0 → m + length xs ≤ x
count_more true n m x xs e h k = omega (arith, h, k)
count_more false n m x xs e h k = omega (arith, h, k)

pub walking_on : (heads passes : Item → Bool) (all left : List Item) (e : Item) (rest : List Item) (best new : Option Rank) (was now next : ℕ) → IsWalking heads passes all left best was now → left ≡ e ∷ rest
    → IsStep heads passes e best new now next → IsWalking heads passes all rest new was next
unfolding least_rank
walking_on heads passes all left e rest best new was now next w h s =
    let v = subst (λ l. IsWalking heads passes all l best was now) h w in
    record {
      first = ap (λ b. joined b (least_rank (λ i. heads i && passes i) rest)) s.0 ∙ by_test (heads e && passes e) ∙ v.first;
      asked = count_more (heads e) now next (was + length (filter heads all)) (filter heads rest) e v.asked s.1;
      starts = v.starts.1;
    }
  where
    by_test : (b : Bool) → joined (cond b (joined best (Some (rank e))) best) (least_rank (λ i. heads i && passes i) rest)
        ≡ joined best (cond b (joined (Some (rank e)) (least_rank (λ i. heads i && passes i) rest)) (least_rank (λ i. heads i && passes i) rest))
    by_test true = joined_joined best (rank e) (least_rank (λ i. heads i && passes i) rest)
    by_test false = refl

pub walking_end : (heads passes : Item → Bool) (all left : List Item) (best : Option Rank) (was now : ℕ) → IsWalking heads passes all left best was now → left ≡ []
    → (best ≡ least_rank (λ i. heads i && passes i) all) × (now ≤ was + length (filter heads all))
unfolding least_rank
walking_end heads passes all left best was now w h =
    let v = subst (λ l. IsWalking heads passes all l best was now) h w in
    (sym (joined_none best) ∙ v.first, (let a = v.asked in omega (arith, a)))

pub start_of : (heads passes : Item → Bool) (all left : List Item) (e : Item) (rest : List Item) (best : Option Rank) (was now : ℕ) → IsWalking heads passes all left best was now → left ≡ e ∷ rest → IsStart e.start
start_of heads passes all left e rest best was now w h = (subst (AllByRecursion (λ (i : Item). IsStart i.start)) h w.starts).0

-- ---- the next moment

sooner_sooner : (a b c : Option ℕ) → sooner (sooner a b) c ≡ sooner a (sooner b c)
sooner_sooner None b c = refl
sooner_sooner (Some a) None c = refl
sooner_sooner (Some a) (Some b) None = refl
sooner_sooner (Some a) (Some b) (Some c) = ap Some (least_three a b c)
  where
    least_three : (a b c : ℕ) → min (min a b) c ≡ min a (min b c)
    least_three a b c = omega arith

sooner_none : (a : Option ℕ) → sooner a None ≡ a
sooner_none None = refl
sooner_none (Some a) = refl

pub record IsNext (issues : List IssueEntry) (entries : List StartEntry) (t : ℕ) (all left : List Item) (next : Option ℕ) : Type 0 where
  pub least : sooner next (next_item issues entries t left) ≡ next_item issues entries t all
  pub starts : AllByRecursion (λ (i : Item). IsStart i.start) left

pub next_start : (issues : List IssueEntry) (entries : List StartEntry) (t : ℕ) (all left : List Item) → left ≡ all → AllByRecursion (λ (i : Item). IsStart i.start) all → IsNext issues entries t all left None
next_start issues entries t all left e s = subst (λ l. IsNext issues entries t all l None) (sym e) (record { least = refl; starts = s })

pub next_on : (issues : List IssueEntry) (entries : List StartEntry) (t : ℕ) (all left : List Item) (e : Item) (rest : List Item) (next new : Option ℕ) → IsNext issues entries t all left next → left ≡ e ∷ rest
    → new ≡ sooner next (moment_of issues entries t e) → IsNext issues entries t all rest new
unfolding next_item
next_on issues entries t all left e rest next new n h s =
    let m = subst (λ l. IsNext issues entries t all l next) h n in
    record {
      least = ap (λ o. sooner o (next_item issues entries t rest)) s ∙ sooner_sooner next (moment_of issues entries t e) (next_item issues entries t rest) ∙ m.least;
      starts = m.starts.1;
    }

pub next_end : (issues : List IssueEntry) (entries : List StartEntry) (t : ℕ) (all left : List Item) (next : Option ℕ) → IsNext issues entries t all left next → left ≡ [] → next ≡ next_item issues entries t all
unfolding next_item
next_end issues entries t all left next n h =
    let m = subst (λ l. IsNext issues entries t all l next) h n in
    sym (sooner_none next) ∙ m.least

pub next_start_of : (issues : List IssueEntry) (entries : List StartEntry) (t : ℕ) (all left : List Item) (e : Item) (rest : List Item) (next : Option ℕ) → IsNext issues entries t all left next → left ≡ e ∷ rest → IsStart e.start
next_start_of issues entries t all left e rest next n h = (subst (AllByRecursion (λ (i : Item). IsStart i.start)) h n.starts).0

-- ---- the map

by_number : InsertsByNumber number_of insert_item
by_number = record { empty = λ x. refl; place = λ x y ys. refl }

abbrev HasStart : Item → Type 0
HasStart i = IsStart i.start

abbrev HasScore : Item → Type 0
HasScore i = IsScore i.score

all_put : (P : Item → Type 0) (x : Item) (xs : List Item) → P x → AllByRecursion P xs → AllByRecursion P (insert_item x xs)
all_put P x [] h all = (h, tt)
all_put P x (y ∷ ys) h all = by_place (nat_lt x.number y.number) (all_put P x ys h all.1)
  where
    by_place : (b : Bool) → AllByRecursion P (insert_item x ys) → AllByRecursion P (cond b (x ∷ y ∷ ys) (y ∷ insert_item x ys))
    by_place true more = (h, all)
    by_place false more = (all.0, more)

pub store_empty : (pairs : List (ℕ × Item)) → pairs ≡ [] → IsStore pairs
store_empty pairs e = subst IsStore (sym e) (record { stored = stored_empty nat_cmp number_of [] refl; starts = tt; scores = tt })

pub store_put : (old new : List (ℕ × Item)) (x : Item) → IsStore old → find (has_number x.number) (values_of old) ≡ None → IsStart x.start → IsScore x.score → new ≡ insert_entry nat_cmp old x.number x
    → IsStrictlySortedBy nat_cmp (keys_of new) → (values_of new ≡ insert_item x (values_of old)) × IsStore new
store_put old new x q none h k e s =
    let put = numbered_put number_of by_number old new x q.stored none e s in (
      put.0,
      record {
        stored = put.1;
        starts = subst (AllByRecursion HasStart) (sym put.0) (all_put HasStart x (values_of old) h q.starts);
        scores = subst (AllByRecursion HasScore) (sym put.0) (all_put HasScore x (values_of old) k q.scores);
      },
    )

pub store_left : (old new : List (ℕ × Item)) (n : ℕ) → IsStore old → new ≡ remove_entry (is_at (nat_cmp n)) old → IsStrictlySortedBy nat_cmp (keys_of new)
    → (values_of new ≡ without_number n (values_of old)) × IsStore new
store_left old new n q e s =
    let left = numbered_left number_of old new n q.stored e s in (
      left.0,
      record {
        stored = left.1;
        starts = subst (AllByRecursion HasStart) (sym left.0) (all-filter HasStart (λ i. not (has_number n i)) (values_of old) q.starts);
        scores = subst (AllByRecursion HasScore) (sym left.0) (all-filter HasScore (λ i. not (has_number n i)) (values_of old) q.scores);
      },
    )

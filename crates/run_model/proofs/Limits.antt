-- No more calls of a cell are open than its limits allow, call by call, at each change and so through each step.
use Rattle.std.proofs.Common.{◌≡◌, ◌≢◌, ℕ, inl, inr, ◌+◌, ◌≤◌, ◌==◌, Bool, true, false, not, ◌&&◌, ◌||◌, cond, List, [], ◌∷◌, ◌++◌, map, filter, find, length, Option, Some, None, IfSome, option_map, refl, sym, ap, ◌∙◌, subst, append_assoc, append-nil, nat_le, arith, eqb-true}
use Rattle.std.specs.List.{AllByRecursion, list_any}
use Rattle.std.specs.Ordering.{is_gt}
use Rattle.kinds.specs.Cells.{are_free, counts_in, is_full, may_start, open_in}
use Rattle.kinds.specs.Inputs.{reading}
use Rattle.kinds.specs.Queue.{admits, has_number, is_admissible, item_cmp, least, lesser, number_of}
use Rattle.kinds.specs.declared.cell.Cell.{Cell}
use Rattle.kinds.specs.declared.cell.CellLimit.{CellLimit}
use Rattle.kinds.specs.declared.cell.IssueEntry.{IssueEntry}
use Rattle.kinds.specs.declared.event.EventIn.{EventIn}
use Rattle.kinds.specs.declared.input.Input.{Input}
use Rattle.kinds.specs.declared.limits.Limits.{Limits}
use Rattle.kinds.specs.declared.store.Item.{Item}
use Rattle.lists.proofs.Elements.{all-weaker}
use Rattle.run_model.specs.Events.{add_event, event_with}
use Rattle.run_model.specs.Fit.{AreDifferent}
use Rattle.run_model.specs.Laws.{IsIn}
use Rattle.run_model.specs.Machine.{fold, state_after, step}
use Rattle.run_model.specs.Requests.{remember}
use Rattle.run_model.specs.Settle.{issue, issued, item_at, next_issued}
use Rattle.run_model.specs.Sound.{KeepLimits, KeepsLimits}
use Rattle.run_model.specs.State.{State, Issue, empty, in_cells, issue_entries, moment_at, tidied}
use Rattle.run_model.proofs.Apart.{Beside, apart-drops, apart-issue, apart-tidied, keeps-apart}
use Rattle.run_model.proofs.FitWindows.{and-first, not-true}
use Rattle.run_model.proofs.Kept.{Keeps, freely, keeps-both}
use Rattle.run_model.proofs.KeptReplies.{KeepsCalls, dropping}
use Rattle.run_model.proofs.KeptSteps.{KeepsSteps, kept-step}
use Rattle.run_model.proofs.Members.{in-all, in-found}
use Rattle.run_model.proofs.SettlingLists.{found-passes, same-some}

-- ## How many calls are open in a cell

counted : Cell → IssueEntry → ℕ
counted c e = length (filter (counts_in c) (e ∷ []))

counted-one : (c : Cell) (e : IssueEntry) → counted c e ≤ 1
unfolding counted
counted-one c e =
    elim (counts_in c e) as (λ b. length (cond b (e ∷ []) []) ≤ 1) [ true ↦ omega arith | false ↦ omega arith ]

open-last : (c : Cell) (es : List IssueEntry) (e : IssueEntry)
    → open_in c (es ++ e ∷ []) ≡ open_in c es + counted c e
unfolding counted
open-last c [] e = omega arith
open-last c (x ∷ xs) e = by_test (counts_in c x) (open-last c xs e)
  where
    by_test : (b : Bool)
        → length (filter (counts_in c) (xs ++ e ∷ []))
        ≡ length (filter (counts_in c) xs) + length (filter (counts_in c) (e ∷ []))
        → length (cond b (x ∷ filter (counts_in c) (xs ++ e ∷ [])) (filter (counts_in c) (xs ++ e ∷ [])))
        ≡ length (cond b (x ∷ filter (counts_in c) xs) (filter (counts_in c) xs))
        + length (filter (counts_in c) (e ∷ []))
    by_test true more = omega (arith, more)
    by_test false more = more

-- ## Calls that end

abbrev HasFewer : List IssueEntry → List IssueEntry → Type 0
HasFewer fewer es = (c : Cell) → open_in c fewer ≤ open_in c es

limits-fewer : (fewer es : List IssueEntry) (e : IssueEntry) → HasFewer fewer es → KeepsLimits es e
    → KeepsLimits fewer e
limits-fewer fewer es e few h =
    all-weaker (λ (l : CellLimit). open_in l.cell es ≤ l.limit) (λ (l : CellLimit). open_in l.cell fewer ≤ l.limit)
    e.cells
    (λ l (low : open_in l.cell es ≤ l.limit). let less = few l.cell in omega (arith, less, low)) h

fewer-last : (fewer es : List IssueEntry) (e : IssueEntry) → HasFewer fewer es
    → HasFewer (fewer ++ e ∷ []) (es ++ e ∷ [])
fewer-last fewer es e few c =
    let a = open-last c fewer e in
    let b = open-last c es e in
    let less = few c in
    omega (arith, a, b, less)

fewer-before : (fewer es : List IssueEntry) (e : IssueEntry) → HasFewer fewer es → HasFewer fewer (es ++ e ∷ [])
fewer-before fewer es e few c =
    let b = open-last c es e in
    let less = few c in
    omega (arith, b, less)

limits-filter : (test : Issue → Bool) (fewer before : List IssueEntry) (issues : List Issue)
    → HasFewer fewer before → KeepLimits before (map in_cells issues)
    → KeepLimits fewer (map in_cells (filter test issues))
limits-filter test fewer before [] few h = tt
limits-filter test fewer before (i ∷ issues) few h =
    let more : List IssueEntry = before ++ in_cells i ∷ [] in
    elim (test i)
    as (λ b. KeepLimits fewer (map in_cells (cond b (i ∷ filter test issues) (filter test issues)))) [
      | true ↦ (
        limits-fewer (fewer ++ in_cells i ∷ []) more (in_cells i) (fewer-last fewer before (in_cells i) few) h.0,
        limits-filter test (fewer ++ in_cells i ∷ []) more issues (fewer-last fewer before (in_cells i) few) h.1,
      )
      | false ↦ limits-filter test fewer more issues (fewer-before fewer before (in_cells i) few) h.1
    ]

-- ## A call that is made

abbrev LetsOneMore : List IssueEntry → IssueEntry → Type 0
LetsOneMore es e = AllByRecursion (λ (l : CellLimit). open_in l.cell es + 1 ≤ l.limit) e.cells

limits-last : (before es : List IssueEntry) (e : IssueEntry) → KeepLimits before es → LetsOneMore (before ++ es) e
    → KeepLimits before (es ++ e ∷ [])
limits-last before [] e h lets = (
  all-weaker (λ (l : CellLimit). open_in l.cell (before ++ []) + 1 ≤ l.limit)
      (λ (l : CellLimit). open_in l.cell (before ++ e ∷ []) ≤ l.limit) e.cells
      (λ l (low : open_in l.cell (before ++ []) + 1 ≤ l.limit).
      let all = ap (open_in l.cell) (append-nil before) in
      let last = open-last l.cell before e in
      let one = counted-one l.cell e in
      omega (arith, low, all, last, one)) lets,
  tt,
)
limits-last before (x ∷ es) e h lets = (
  h.0,
  limits-last (before ++ x ∷ []) es e h.1
      (subst (λ all. LetsOneMore all e) (sym (append_assoc before (x ∷ []) es)) lets),
)

free-lets : (es : List IssueEntry) (e : IssueEntry) → are_free e.cells es ≡ true → LetsOneMore es e
free-lets es e free = by_cells e.cells (not-true (list_any (is_full es) e.cells) free)
  where
    not-over : (most n : ℕ) → nat_le most n ≡ false → n + 1 ≤ most
    not-over most n e = grind (arith, e)

    or-none : (a b : Bool) → (a || b) ≡ false → (a ≡ false) × (b ≡ false)
    or-none true b h = absurd (cc)
    or-none false b h = (refl, h)

    by_cells : (ls : List CellLimit) → list_any (is_full es) ls ≡ false
        → AllByRecursion (λ (l : CellLimit). open_in l.cell es + 1 ≤ l.limit) ls
    by_cells [] h = tt
    by_cells (l ∷ ls) h =
        let parts : (is_full es l ≡ false) × (list_any (is_full es) ls ≡ false) =
        or-none (is_full es l) (list_any (is_full es) ls) h in
        (not-over l.limit (open_in l.cell es) parts.0, by_cells ls parts.1)

-- ## The item that is issued

-- the least that passes does, and is one of them
abbrev IsOne : (Item → Bool) → List Item → Item → Type 0
IsOne passes items i = (passes i ≡ true) × IsIn i items

least-one : (passes : Item → Bool) (items : List Item) → IfSome (least passes items) (IsOne passes items)
unfolding least
least-one passes [] = tt
least-one passes (i ∷ items) = by_test (passes i) refl (least passes items) (least-one passes items)
  where
    behind : (found : Option Item) → IfSome found (IsOne passes items) → IfSome found (IsOne passes (i ∷ items))
    behind None h = tt
    behind (Some j) h = (h.0, inr h.1)

    of_two : (found : Option Item) → passes i ≡ true → IfSome found (IsOne passes items)
        → IfSome (lesser i found) (IsOne passes (i ∷ items))
    of_two None own h = (own, inl refl)
    of_two (Some j) own h =
        elim (is_gt (item_cmp i j)) as (λ b. IfSome (cond b (Some j) (Some i)) (IsOne passes (i ∷ items)))
        [ true ↦ (h.0, inr h.1) | false ↦ (own, inl refl) ]

    by_test : (b : Bool) → passes i ≡ b → (found : Option Item) → IfSome found (IsOne passes items)
        → IfSome (cond b (lesser i found) found) (IsOne passes (i ∷ items))
    by_test true own found h = of_two found own h
    by_test false own found h = behind found h

-- where numbers differ, items of one number are the same
pub same-item : (i j : Item) (items : List Item) → IsIn i items → IsIn j items → AreDifferent items
    → i.number ≡ j.number → i ≡ j
same-item i j [] a b h same = absurd a
same-item i j (k ∷ items) (inl a) (inl b) h same = sym a ∙ b
same-item i j (k ∷ items) (inl a) (inr b) h same =
    absurd (in-all (λ (other : Item). k.number ≢ other.number) j items b h.0
    (ap (λ (m : Item). m.number) a ∙ same))
same-item i j (k ∷ items) (inr a) (inl b) h same =
    absurd (in-all (λ (other : Item). k.number ≢ other.number) i items a h.0
    (ap (λ (m : Item). m.number) b ∙ sym same))
same-item i j (k ∷ items) (inr a) (inr b) h same = same-item i j items a b h.1 same

of-number : (passes : Item → Bool) (items : List Item) (found : Option Item) (number : ℕ) (i : Item)
    → IfSome found (IsOne passes items) → option_map number_of found ≡ Some number → AreDifferent items
    → find (has_number number) items ≡ Some i → passes i ≡ true
of-number passes items None number i h e different there = absurd (cc)
of-number passes items (Some j) number i h e different there =
    let own : number ≡ i.number =
    eqb-true number i.number (found-passes (has_number number) items i there) in
    let named : j.number ≡ number = same-some j.number number e in
    subst (λ k. passes k ≡ true)
    (same-item j i items h.1 (in-found (has_number number) items i there) different (named ∙ own)) h.0

abbrev pub may_be_issued : State → Item → Bool
may_be_issued s = is_admissible (admits (issue_entries s) s.starts s.moment) s.moment

pub issued-passes : (number : ℕ) (i : Item) (s : State) → AreDifferent s.items → next_issued s ≡ Some number
    → item_at number s ≡ Some i → may_be_issued s i ≡ true
issued-passes number i s different next there =
    of-number (may_be_issued s) s.items (least (may_be_issued s) s.items) number i
    (least-one (may_be_issued s) s.items) next different there

and-second : (a b : Bool) → (a && b) ≡ true → b ≡ true
and-second true b h = h
and-second false b h = absurd (cc)

is-free : (due gate : Bool) (cells start : Bool) → gate ≡ (cells && start) → (due && gate) ≡ true → cells ≡ true
is-free due gate cells start same h =
    and-first cells start (sym same ∙ and-second due gate h)

-- ## The changes

abbrev Limited : State → Type 0
Limited s = KeepLimits [] (issue_entries s)

limited-accepted : (event : EventIn) (id : Option (List ℕ)) (s : State) → Limited s
    → Limited (add_event (event_with event s) (remember id s))
limited-accepted event None s h = h
limited-accepted event (Some id) s h = h

keeps-limited : Keeps Limited
keeps-limited = freely Limited (record {
  accepts = λ event id s new h. limited-accepted event id s h;
  starts = λ f event parent s there given h. h;
  fills = λ f r value event s may full h. h;
  fires = λ f w s there stands h. h;
  joins = λ f r value event s may full h. h;
  windows_go = λ number s h. h;
  rules = λ r event c s there e h. h;
  finds_out = λ r s there h. h;
  wants = λ r s live h. h;
  plans = λ r name s live new h. h;
  sleeps = λ r name t s live new h. h;
  waits = λ r name event t cond s live new h. h;
  pends = λ r name s live new h. h;
  invokes = λ r name child t s there h. h;
  ends = λ r status s live h. h;
}) (record {
  records = λ run name result s h. h;
  sleeps_go = λ test s h. h;
  waits_go = λ test s h. h;
  invocations_go = λ test s h. h;
  rules_go = λ test s h. h;
})

abbrev LimitedBeside : List Item → State → Type 0
LimitedBeside is s = Beside is s × Limited s

limited-calls : KeepsCalls LimitedBeside
limited-calls = dropping LimitedBeside (record {
  runs = λ is. keeps-both (Beside is) Limited (keeps-apart is) keeps-limited;
  closes = λ i s there h. (
    apart-drops.closes i s there h.0,
    limits-filter (λ (other : Issue). not (i.call == other.call)) [] [] s.issues
        (λ c. omega arith) h.1,
  );
  reopens = λ s h. (apart-drops.reopens s h.0, tt);
  drops = λ i is s h. (apart-drops.drops i is s h.0, h.1);
  retries = λ i is a r s live new h. (apart-drops.retries i is a r s live new h.0, h.1);
  requeues = λ i is r s live new h. (apart-drops.requeues i is r s live new h.0, h.1);
})

pub map-last : {X Y : Type 0} (f : X → Y) (xs : List X) (x : X) → map f (xs ++ x ∷ []) ≡ map f xs ++ f x ∷ []
map-last f [] x = refl
map-last f (y ∷ ys) x = ap (λ zs. f y ∷ zs) (map-last f ys x)

limited-issue : (number : ℕ) (i : Item) (s : State) → next_issued s ≡ Some number → item_at number s ≡ Some i
    → LimitedBeside [] s → Limited (issue i s)
limited-issue number i s next there h =
    let passes : may_be_issued s i ≡ true = issued-passes number i s h.0.queued next there in
    let free : are_free i.cells (issue_entries s) ≡ true =
    is-free (nat_le i.due s.moment) (admits (issue_entries s) s.starts s.moment i.cells i.start)
    (are_free i.cells (issue_entries s)) (may_start i.start s.moment s.starts) refl passes in
    subst (λ es. KeepLimits [] es) (sym (map-last in_cells s.issues (issued i s)))
    (limits-last [] (issue_entries s) (in_cells (issued i s)) h.1
    (free-lets (issue_entries s) (in_cells (issued i s)) free))

limited-tidied : (s : State) → Limited s → Limited (tidied s)
unfolding tidied
limited-tidied s h = h

limited-steps : (bound : ℕ) → KeepsSteps bound (λ input. Unit {0}) LimitedBeside
limited-steps bound = record {
  calls = limited-calls;
  counts = λ s h. h;
  moves = λ t next s low e h. h;
  arrives = λ t s low on before h. h;
  issues = λ number i s next there h.
      (apart-issue number i s there h.0, limited-issue number i s next there h);
  registers = λ at app s asked h. h;
  tidies = λ s h. (apart-tidied s h.0, limited-tidied s h.1);
}

-- ## Histories

limited-after : (inputs : List Input) (s : State) → LimitedBeside [] s → LimitedBeside [] (state_after s inputs)
limited-after [] s h = h
limited-after (input ∷ inputs) s h =
    let bound : ℕ = moment_at (reading input) s in
    limited-after inputs (step s input).state
    (kept-step bound (λ input. Unit {0}) LimitedBeside (limited-steps bound) s input (omega arith) tt h)

pub limited-fold : (limits : Limits) (inputs : List Input) → KeepLimits [] (issue_entries (fold limits inputs))
limited-fold limits inputs =
    (limited-after inputs (empty limits) (record { given = tt; queued = tt; aside = tt; called = tt }, tt)).1

-- What holds of the states that the generator's inputs lead to, and what each change leaves of it.
use Rattle.std.proofs.Common.{◌≡◌, ℕ, suc, ◌+◌, ◌*◌, ◌<◌, ◌≤◌, ◌==◌, Bool, true, false, not, cond, nat_lt, List, [], ◌∷◌, ◌++◌, codes, find, length, Option, Some, None, IfSome, refl, sym, ap, subst, ◌∙◌, eqb-true, eq-eqb, arith}
use Rattle.std.specs.Prelude.{decimal}
use Rattle.std.specs.BTreeMap.{is_at}
use Rattle.std.specs.Cmp.Lexicographic.{slice_cmp}
use Rattle.std.specs.List.{AllByRecursion}
use Rattle.std.specs.Map.{remove_entry}
use Rattle.std.specs.Ordering.{nat_cmp}
use Rattle.std.specs.Set.{remove_key}
use Rattle.std.proofs.lemmas.Bool.Decides.{nat_tests}
use Rattle.kinds.specs.Limits.{shipped}
use Rattle.kinds.specs.Queue.{has_number, has_run, insert_item, number_of, without_number}
use Rattle.kinds.specs.Seen.{has_id, insert_seen, is_remembered, without_id}
use Rattle.kinds.specs.declared.cell.CellLimit.{CellLimit}
use Rattle.kinds.specs.declared.event.Event.{Event}
use Rattle.kinds.specs.declared.seen.SeenEntry.{SeenEntry}
use Rattle.kinds.specs.declared.store.Item.{Item}
use Rattle.kinds.specs.declared.store.RunStatus.{RunStatus}
use Rattle.kinds.specs.declared.store.StepEntry.{StepEntry}
use Rattle.functions.specs.declared.entry.FunctionEntry.{FunctionEntry}
use Rattle.lists.proofs.Elements.{all-filter, all-last, all-weaker}
use Rattle.run_model.specs.Ends.{end_run}
use Rattle.run_model.specs.Events.{add_event}
use Rattle.run_model.specs.Machine.{count_input}
use Rattle.run_model.specs.Making.{is_item_of, new_item, queue_new, step_target, unless}
use Rattle.run_model.specs.Recording.{most_bytes, record_in, record_result, result_for, without_item}
use Rattle.run_model.specs.Replies.{close}
use Rattle.run_model.specs.Requests.{remember}
use Rattle.run_model.specs.Settle.{called, issue, issued, item_at, started_at}
use Rattle.run_model.specs.State.{State, Run, Issue, EventText, at_moment, is_named, live_run, tidied, without_closed}
use Rattle.runs.specs.Runs.{bytes_of_steps, run_number}
use Rattle.admission.specs.Issues.{call_of}
use Rattle.run_model.proofs.FitEvents.{all-noted}
use Rattle.run_model.proofs.FitRuns.{all-changed, all-queued}
use Rattle.run_model.proofs.Members.{all-found}
use Rattle.run_model.proofs.SettlingLists.{found-passes}
use Rattle.generator.specs.Inputs.{function}
use Rattle.generator.proofs.Sums.{AreNumbered, all-changed-one, count, count-none, none-left, numbered-changed, numbered-last, numbered-left, numbered-more, once-beside, low-more, one_if, sum-changed, sum-last, sum-left, sum-out, sum-same, sum_of}

-- ## What never changes, or is never there

abbrev pub entry : FunctionEntry
entry = record { version = 1; app = codes "a"; function = function }

abbrev pub plain : State → State
plain s = record s {
  limits = shipped;
  versions = 1;
  functions = entry ∷ [];
  retired = [];
  sleeps = [];
  waits = [];
  invocations = [];
  rules = [];
  windows = [];
  starts = [];
}

-- ## Parts

abbrev pub one : {X : Type 0} → X → ℕ
one x = 1

abbrev pub text_size : EventText → ℕ
text_size e = length e.text

abbrev pub seen_size : SeenEntry → ℕ
seen_size e = length e.id + 64

-- the id of one of the events so far
abbrev pub IsId : ℕ → SeenEntry → Type 0
IsId events e = (k : ℕ) × (k ≤ events) × (e.id ≡ codes "g" ++ decimal k)

-- the replies that a run has still to come
abbrev pub credit : Run → ℕ
credit r = cond (nat_lt 0 (length r.steps.recorded)) 1 2

abbrev pub MayOpen : CellLimit → Type 0
MayOpen l = 0 < l.limit

pub record IsRun (r : Run) : Type 0 where
  pub parent : r.parent ≡ None
  pub start : r.start ≡ None
  pub planned : r.steps.planned ≡ []
  pub pending : r.steps.pending ≡ []
  pub results : bytes_of_steps r.steps.recorded ≤ 100
  pub cells : AllByRecursion MayOpen r.cells

pub record IsItem (moment : ℕ) (i : Item) : Type 0 where
  pub target : i.target ≡ step_target
  pub start : i.start ≡ None
  pub due : i.due ≤ moment
  pub cells : AllByRecursion MayOpen i.cells

pub record IsIssue (i : Issue) : Type 0 where
  pub target : i.item.target ≡ step_target
  pub due : 1000000 < i.due

abbrev pub is_run : ℕ → Run → Bool
is_run k r = k == r.number

abbrev pub is_call_of : ℕ → Issue → Bool
is_call_of k i = k == i.item.run

-- a run that has neither an item nor an open call, where there is one
abbrev pub aside : Option ℕ → ℕ → ℕ
aside None k = 0
aside (Some m) k = one_if (k == m)

abbrev pub total : Option ℕ → ℕ
total None = 0
total (Some m) = 1

-- ## The state

-- After so many inputs, events and replies: so many replies are still to come.
pub record Stands (n e r c : ℕ) (a : Option ℕ) (s : State) : Type 0 where
  pub constant : s ≡ plain s
  pub dated : s.moment ≤ 1000000
  pub inputs : s.inputs ≡ n
  pub events : s.events ≡ e
  pub runs : s.runs ≡ e
  pub calls : s.calls ≡ r + sum_of one s.issues
  pub room : s.calls + sum_of one s.items + total a ≤ e + r
  pub entries : s.entries + total a ≤ e + r + s.calls
  pub texts : sum_of text_size s.texts ≤ 200 * e
  pub seen : sum_of seen_size s.seen ≤ 80 * e
  pub ids : AllByRecursion (IsId e) s.seen
  pub credits : sum_of credit s.live ≡ c
  pub each_run : AllByRecursion IsRun s.live
  pub each_item : AllByRecursion (IsItem s.moment) s.items
  pub each_issue : AllByRecursion IsIssue s.issues
  pub live_numbers : AreNumbered run_number s.runs s.live
  pub item_numbers : AreNumbered number_of s.entries s.items
  pub call_numbers : AreNumbered call_of s.calls s.issues
  pub balance : (k : ℕ) → count (is_run k) s.live
      ≡ count (has_run k) s.items + count (is_call_of k) s.issues + aside a k

-- ## Items that are queued

sum-queued : (g : Item → ℕ) (i : Item) (is : List Item) → sum_of g (insert_item i is) ≡ g i + sum_of g is
sum-queued g i [] = omega arith
sum-queued g i (j ∷ is) =
    let more = sum-queued g i is in
    elim (nat_lt i.number j.number) as (λ b. sum_of g (cond b (i ∷ j ∷ is) (j ∷ insert_item i is))
    ≡ g i + (g j + sum_of g is))
    [ true ↦ omega arith | false ↦ omega (arith, more) ]

numbered-queued : (given n : ℕ) (i : Item) (is : List Item) → given < n → i.number ≡ n
    → AreNumbered number_of given is → AreNumbered number_of n (insert_item i is)
numbered-queued given n i is l e h = record {
  low = all-queued (λ j. number_of j ≤ n) i is (omega (arith, e))
      (low-more number_of given n is (omega (arith, l)) h.low);
  once = λ k.
      let beside = once-beside number_of given n is l h k in
      let added = sum-queued (λ j. one_if (k == number_of j)) i is in
      let own : one_if (k == i.number) ≡ one_if (k == n) = ap (λ m. one_if (k == m)) e in
      omega (arith, beside, added, own);
}

-- ## Time goes on

later : (moment t : ℕ) (items : List Item) → moment ≤ t → AllByRecursion (IsItem moment) items
    → AllByRecursion (IsItem t) items
later moment t items l h =
    all-weaker (IsItem moment) (IsItem t) items
    (λ i k. record { target = k.target; start = k.start; due = omega (arith, k.due, l); cells = k.cells }) h

pub stands-later : (n e r c t : ℕ) (s : State) → s.moment ≤ t → t ≤ 1000000 → Stands n e r c None s
    → Stands (n + 1) e r c None (at_moment t (count_input s))
stands-later n e r c t s l most h = record {
  constant = subst (λ z. at_moment t (count_input z) ≡ plain (at_moment t (count_input z))) (sym h.constant) refl;
  dated = most;
  inputs = ap (λ m. m + 1) h.inputs;
  events = h.events;
  runs = h.runs;
  calls = h.calls;
  room = h.room;
  entries = h.entries;
  texts = h.texts;
  seen = let fewer = sum-left seen_size (is_remembered t) s.seen in omega (arith, fewer, h.seen);
  ids = all-filter (IsId e) (is_remembered t) s.seen h.ids;
  credits = h.credits;
  each_run = h.each_run;
  each_item = later s.moment t s.items l h.each_item;
  each_issue = h.each_issue;
  live_numbers = h.live_numbers;
  item_numbers = h.item_numbers;
  call_numbers = h.call_numbers;
  balance = h.balance;
}

-- ## An event comes, and its run

sum-noted : (g : SeenEntry → ℕ) (i : SeenEntry) (is : List SeenEntry)
    → sum_of g (insert_seen i is) ≡ g i + sum_of g is
sum-noted g i [] = omega arith
sum-noted g i (j ∷ is) =
    let more = sum-noted g i is in
    elim (nat_lt i.number j.number) as (λ b. sum_of g (cond b (i ∷ j ∷ is) (j ∷ insert_seen i is))
    ≡ g i + (g j + sum_of g is))
    [ true ↦ omega arith | false ↦ omega (arith, more) ]

more-ids : (e : ℕ) (seen : List SeenEntry) → AllByRecursion (IsId e) seen → AllByRecursion (IsId (suc e)) seen
more-ids e seen h =
    all-weaker (IsId e) (IsId (suc e)) seen (λ i k. (k.0, omega (arith, k.1), k.2)) h

-- the event is remembered and kept
abbrev pub received : Event → List ℕ → State → State
received event id s = add_event event (remember (Some id) s)

-- the run is there, without an item so far
abbrev pub with_new : Run → State → State
with_new r s = record s { runs = s.runs + 1; live = s.live ++ r ∷ [] }

pub stands-event : (n e r c : ℕ) (event : Event) (id : List ℕ) (x : Run) (s : State) → event.number ≡ s.events + 1
    → length event.text ≤ 200 → id ≡ codes "g" ++ decimal (suc e) → length id ≤ 16 → x.number ≡ s.runs + 1
    → IsRun x → credit x ≡ 2 → Stands n e r c None s
    → Stands n (suc e) r (c + 2) (Some x.number) (with_new x (received event id s))
stands-event n e r c event id x s next small named short new own fresh h =
    let noted : SeenEntry = record { id = id; number = s.events + 1; moment = s.moment } in
    record {
      constant =
          subst (λ z. with_new x (received event id z) ≡ plain (with_new x (received event id z)))
          (sym h.constant) refl;
      dated = h.dated;
      inputs = h.inputs;
      events = let before = h.events in omega (arith, next, before);
      runs = let before = h.runs in omega (arith, before);
      calls = h.calls;
      room = let before = h.room in omega (arith, before);
      entries = let before = h.entries in omega (arith, before);
      texts =
          let added = sum-last text_size s.texts (record { number = event.number; text = event.text }) in
          omega (arith, added, small, h.texts);
      seen =
          let added = sum-noted seen_size noted (without_id id s.seen) in
          let fewer = sum-left seen_size (λ i. not (has_id id i)) s.seen in
          omega (arith, added, fewer, short, h.seen);
      ids =
          all-noted (IsId (suc e)) noted (without_id id s.seen) (suc e, omega arith, named)
          (all-filter (IsId (suc e)) (λ i. not (has_id id i)) s.seen (more-ids e s.seen h.ids));
      credits = let added = sum-last credit s.live x in omega (arith, added, fresh, h.credits);
      each_run = all-last IsRun s.live x h.each_run own;
      each_item = h.each_item;
      each_issue = h.each_issue;
      live_numbers = numbered-last run_number s.runs (s.runs + 1) s.live x (omega arith) new h.live_numbers;
      item_numbers = h.item_numbers;
      call_numbers = h.call_numbers;
      balance = λ k.
          let added = sum-last (λ y. one_if (is_run k y)) s.live x in
          let before = h.balance k in omega (arith, added, before);
    }

-- ## An item is queued

unless-none : {X : Type 0} (b : Bool) → unless {X = X} b None ≡ None
unless-none true = refl
unless-none false = refl

pub stands-queued : (n e r c : ℕ) (x : Run) (s : State) → IsRun x → Stands n e r c (Some x.number) s
    → Stands n e r c None (queue_new x step_target s)
stands-queued n e r c x s own h =
    let i : Item = new_item x step_target s in
    record {
      constant =
          subst (λ z. queue_new x step_target z ≡ plain (queue_new x step_target z)) (sym h.constant) refl;
      dated = h.dated;
      inputs = h.inputs;
      events = h.events;
      runs = h.runs;
      calls = h.calls;
      room = let added = sum-queued one i s.items in let before = h.room in omega (arith, added, before);
      entries = let before = h.entries in omega (arith, before);
      texts = h.texts;
      seen = h.seen;
      ids = h.ids;
      credits = h.credits;
      each_run = h.each_run;
      each_item =
          all-queued (IsItem s.moment) i s.items
          (record {
            target = refl;
            start = subst (λ o. unless x.started o ≡ None) (sym own.start) (unless-none x.started);
            due = omega arith;
            cells = own.cells;
          }) h.each_item;
      each_issue = h.each_issue;
      live_numbers = h.live_numbers;
      item_numbers = numbered-queued s.entries (s.entries + 1) i s.items (omega arith) refl h.item_numbers;
      call_numbers = h.call_numbers;
      balance = λ k.
          let added = sum-queued (λ j. one_if (has_run k j)) i s.items in
          let before = h.balance k in omega (arith, added, before);
    }

-- ## A call ends

pub stands-closed : (n e r c : ℕ) (o : Issue) (s : State) → find (λ (i : Issue). o.call == i.call) s.issues ≡ Some o
    → Stands n e r c None s → Stands n e (r + 1) c (Some o.item.run) (close o.call s)
stands-closed n e r c o s found h =
    let once = h.call_numbers.once o.call in
    record {
      constant = subst (λ z. close o.call z ≡ plain (close o.call z)) (sym h.constant) refl;
      dated = h.dated;
      inputs = h.inputs;
      events = h.events;
      runs = h.runs;
      calls =
          let out = sum-out one (λ (i : Issue). o.call == i.call) s.issues o found once in
          let before = h.calls in omega (arith, out, before);
      room = let before = h.room in omega (arith, before);
      entries = let before = h.entries in omega (arith, before);
      texts = h.texts;
      seen = h.seen;
      ids = h.ids;
      credits = h.credits;
      each_run = h.each_run;
      each_item = h.each_item;
      each_issue = all-filter IsIssue (λ (i : Issue). not (o.call == i.call)) s.issues h.each_issue;
      live_numbers = h.live_numbers;
      item_numbers = h.item_numbers;
      call_numbers = numbered-left call_of s.calls (λ (i : Issue). not (o.call == i.call)) s.issues h.call_numbers;
      balance = λ k.
          let out = sum-out (λ i. one_if (is_call_of k i)) (λ (i : Issue). o.call == i.call) s.issues o found once in
          let before = h.balance k in omega (arith, out, before);
    }

-- ## A run that is aside has no item

pub no-items : (n e r c m : ℕ) (s : State) → Stands n e r c (Some m) s
    → AllByRecursion (λ i. has_run m i ≡ false) s.items
no-items n e r c m s h =
    let most = h.live_numbers.once m in
    let before = h.balance m in
    let own : one_if (m == m) ≡ 1 = ap one_if (eq-eqb m m refl) in
    count-none (has_run m) s.items (omega (arith, most, before, own))

-- ## A run ends

pub stands-ended : (n e r c : ℕ) (x : Run) (status : RunStatus) (s : State) → live_run x.number s ≡ Some x
    → credit x ≡ 1 → Stands n e r (c + 1) (Some x.number) s → Stands n e r c None (end_run x status s)
stands-ended n e r c x status s found begun h =
    let once = h.live_numbers.once x.number in
    let left = none-left (has_run x.number) s.items (no-items n e r (c + 1) x.number s h) in
    record {
      constant = subst (λ z. end_run x status z ≡ plain (end_run x status z)) (sym h.constant) refl;
      dated = h.dated;
      inputs = h.inputs;
      events = h.events;
      runs = h.runs;
      calls = h.calls;
      room = let same = ap (sum_of one) left in let before = h.room in omega (arith, same, before);
      entries = let before = h.entries in omega (arith, before);
      texts = h.texts;
      seen = h.seen;
      ids = h.ids;
      credits =
          let out = sum-out credit (is_run x.number) s.live x found once in
          let before = h.credits in omega (arith, out, before, begun);
      each_run = all-filter IsRun (λ y. not (is_run x.number y)) s.live h.each_run;
      each_item = all-filter (IsItem s.moment) (λ i. not (has_run x.number i)) s.items h.each_item;
      each_issue = h.each_issue;
      live_numbers = numbered-left run_number s.runs (λ y. not (is_run x.number y)) s.live h.live_numbers;
      item_numbers = numbered-left number_of s.entries (λ i. not (has_run x.number i)) s.items h.item_numbers;
      call_numbers = h.call_numbers;
      balance = λ k.
          let out = sum-out (λ y. one_if (is_run k y)) (is_run x.number) s.live x found once in
          let same = ap (count (has_run k)) left in
          let before = h.balance k in omega (arith, out, same, before);
    }

-- ## A step is recorded

result-kept : (x : Run) (result : List ℕ) → x.steps.recorded ≡ [] → length result ≤ 90
    → result_for result x ≡ result
result-kept x result new short = rw (few (length result) short) refl
  where
    few : (k : ℕ) → k ≤ 90 → nat_lt most_bytes (bytes_of_steps x.steps.recorded + k) ≡ false
    few k l = let none = ap bytes_of_steps new in grind (arith, nat_tests, none, l)

abbrev recorded_as : Run → List ℕ → List ℕ → StepEntry
recorded_as x name result = record { hash = name; result = result_for result x }

run-recorded : (x : Run) (name result : List ℕ) → x.steps.recorded ≡ [] → length result ≤ 90 → IsRun x
    → IsRun (record_in name result x)
run-recorded x name result new short own = record {
  parent = own.parent;
  start = own.start;
  planned = ap (remove_key (is_at (slice_cmp nat_cmp name))) own.planned;
  pending = ap (remove_entry (is_at (slice_cmp nat_cmp name))) own.pending;
  results =
      subst (λ es. bytes_of_steps (es ++ recorded_as x name result ∷ []) ≤ 100) (sym new)
      (let kept = ap (length {A = ℕ}) (result-kept x result new short) in omega (arith, kept, short));
  cells = own.cells;
}

credit-recorded : (x : Run) (name result : List ℕ) → x.steps.recorded ≡ [] → credit (record_in name result x) ≡ 1
credit-recorded x name result new =
    ap (λ es. cond (nat_lt 0 (length (es ++ recorded_as x name result ∷ []))) 1 2) new

pub not-of : (m : ℕ) (name : List ℕ) (i : Item) → has_run m i ≡ false → is_item_of m name i ≡ false
not-of m name i h = rw h refl

pub keeps-number : (m : ℕ) (f : Run → Run) → ((y : Run) → (f y).number ≡ y.number) → (y : Run)
    → (cond (m == y.number) (f y) y).number ≡ y.number
keeps-number m f same y =
    elim (m == y.number) as (λ b. (cond b (f y) y).number ≡ y.number) [ true ↦ same y | false ↦ refl ]

pub stands-recorded : (n e r c : ℕ) (x : Run) (name result : List ℕ) (s : State)
    → live_run x.number s ≡ Some x → x.steps.recorded ≡ [] → length result ≤ 90 → IsRun x
    → Stands n e r (c + 1) (Some x.number) s
    → Stands n e r c (Some x.number) (record_result x.number name result s)
stands-recorded n e r c x name result s found new short own h =
    let once = h.live_numbers.once x.number in
    let f : Run → Run = record_in name result in
    let changes : Run → Run = λ y. cond (is_run x.number y) (f y) y in
    let same : (y : Run) → (changes y).number ≡ y.number = keeps-number x.number f (λ y. refl) in
    let left : without_item x.number name s.items ≡ s.items =
    none-left (is_item_of x.number name) s.items
    (all-weaker (λ i. has_run x.number i ≡ false) (λ i. is_item_of x.number name i ≡ false) s.items
    (not-of x.number name) (no-items n e r (c + 1) x.number s h)) in
    record {
      constant =
          subst (λ z. record_result x.number name result z ≡ plain (record_result x.number name result z))
          (sym h.constant) refl;
      dated = h.dated;
      inputs = h.inputs;
      events = h.events;
      runs = h.runs;
      calls = h.calls;
      room = let same_items = ap (sum_of one) left in let before = h.room in omega (arith, same_items, before);
      entries = h.entries;
      texts = h.texts;
      seen = h.seen;
      ids = h.ids;
      credits =
          let out = sum-changed credit (is_run x.number) f s.live x found once in
          let was : credit x ≡ 2 = ap (λ (es : List StepEntry). cond (nat_lt 0 (length es)) 1 2) new in
          let now = credit-recorded x name result new in
          let before = h.credits in omega (arith, out, was, now, before);
      each_run =
          all-changed-one IsRun (is_run x.number) f s.live x found once (run-recorded x name result new short own)
          h.each_run;
      each_item = all-filter (IsItem s.moment) (λ i. not (is_item_of x.number name i)) s.items h.each_item;
      each_issue = h.each_issue;
      live_numbers = numbered-changed run_number s.runs changes s.live same h.live_numbers;
      item_numbers =
          numbered-left number_of s.entries (λ i. not (is_item_of x.number name i)) s.items h.item_numbers;
      call_numbers = h.call_numbers;
      balance = λ k.
          let runs = sum-same (λ y. one_if (is_run k y)) changes s.live (λ y. ap (λ m. one_if (k == m)) (same y)) in
          let items = ap (count (has_run k)) left in
          let before = h.balance k in omega (arith, runs, items, before);
    }

-- ## A call is made

called-run : (target : List ℕ) (y : Run) → IsRun y → IsRun (called target y)
called-run target y k = record {
  parent = k.parent;
  start = k.start;
  planned = k.planned;
  pending = k.pending;
  results = k.results;
  cells = k.cells;
}

same-credit : (m : ℕ) (target : List ℕ) (y : Run)
    → credit (cond (m == y.number) (called target y) y) ≡ credit y
same-credit m target y =
    elim (m == y.number) as (λ b. credit (cond b (called target y) y) ≡ credit y) [ true ↦ refl | false ↦ refl ]

issued-plain : (i : Item) (s : State) → i.start ≡ None → s ≡ plain s → issue i s ≡ plain (issue i s)
issued-plain i s none h =
    subst (λ z. issue i z ≡ plain (issue i z)) (sym h)
    (ap (λ o. record (issue i (plain s)) { starts = started_at o s.moment [] }) none)

pub stands-issued : (n e r c number : ℕ) (i : Item) (s : State) → item_at number s ≡ Some i
    → Stands n e r c None s → Stands n e r c None (issue i s)
stands-issued n e r c number i s there h =
    let is_number : number ≡ i.number = eqb-true number i.number (found-passes (has_number number) s.items i there) in
    let found : find (has_number i.number) s.items ≡ Some i =
    subst (λ m. find (has_number m) s.items ≡ Some i) is_number there in
    let own : IsItem s.moment i =
    subst (λ o. IfSome o (IsItem s.moment)) there
    (all-found (IsItem s.moment) (has_number number) s.items h.each_item) in
    let once = h.item_numbers.once i.number in
    let call : Issue = issued i s in
    let changes : Run → Run = λ y. cond (is_run i.run y) (called i.target y) y in
    let same : (y : Run) → (changes y).number ≡ y.number = keeps-number i.run (called i.target) (λ y. refl) in
    record {
      constant = issued-plain i s own.start h.constant;
      dated = h.dated;
      inputs = h.inputs;
      events = h.events;
      runs = h.runs;
      calls = let more = sum-last one s.issues call in let before = h.calls in omega (arith, more, before);
      room =
          let out = sum-out one (has_number i.number) s.items i found once in
          let before = h.room in omega (arith, out, before);
      entries = let before = h.entries in omega (arith, before);
      texts = h.texts;
      seen = h.seen;
      ids = h.ids;
      credits = sum-same credit changes s.live (same-credit i.run i.target) ∙ h.credits;
      each_run = all-changed IsRun i.run (called i.target) s.live (called-run i.target) h.each_run;
      each_item = all-filter (IsItem s.moment) (λ j. not (has_number i.number j)) s.items h.each_item;
      each_issue = all-last IsIssue s.issues call h.each_issue (record { target = own.target; due = omega arith });
      live_numbers = numbered-changed run_number s.runs changes s.live same h.live_numbers;
      item_numbers =
          numbered-more number_of s.entries (s.entries + 1) (without_number i.number s.items) (omega arith)
          (numbered-left number_of s.entries (λ j. not (has_number i.number j)) s.items h.item_numbers);
      call_numbers = numbered-last call_of s.calls (s.calls + 1) s.issues call (omega arith) refl h.call_numbers;
      balance = λ k.
          let runs = sum-same (λ y. one_if (is_run k y)) changes s.live (λ y. ap (λ m. one_if (k == m)) (same y)) in
          let out = sum-out (λ j. one_if (has_run k j)) (has_number i.number) s.items i found once in
          let more = sum-last (λ j. one_if (is_call_of k j)) s.issues call in
          let before = h.balance k in omega (arith, runs, out, more, before);
    }

-- ## What names nothing goes

pub stands-tidied : (n e r c : ℕ) (s : State) → Stands n e r c None s → Stands n e r c None (tidied s)
unfolding tidied
stands-tidied n e r c s h = record {
  constant = subst (λ z. tidied z ≡ plain (tidied z)) (sym h.constant) refl;
  dated = h.dated;
  inputs = h.inputs;
  events = h.events;
  runs = h.runs;
  calls = h.calls;
  room = h.room;
  entries = h.entries;
  texts =
      let fewer = sum-left text_size (is_named (without_closed s)) s.texts in omega (arith, fewer, h.texts);
  seen = h.seen;
  ids = h.ids;
  credits = h.credits;
  each_run = h.each_run;
  each_item = h.each_item;
  each_issue = h.each_issue;
  live_numbers = h.live_numbers;
  item_numbers = h.item_numbers;
  call_numbers = h.call_numbers;
  balance = h.balance;
}

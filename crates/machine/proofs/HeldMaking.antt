-- The parts after an item is queued.
use Rattle.std.proofs.Common.{◌≡◌, ℕ, ◌+◌, ◌≤◌, ◌==◌, Bool, true, false, not, cond, ◌&&◌, ◌||◌, List, [], ◌∷◌, find, Option, Some, None, Result, Ok, Err, OnOk, option_map, nat_lt, refl, sym, ap, ◌∙◌, arith, subst}
use Rattle.std.specs.List.{AllByRecursion, list_any}
use Rattle.std.proofs.lemmas.Bool.{cond-false}
use Rattle.std.proofs.lemmas.Bool.Decides.{nat_tests}
use Rattle.admission.specs.Admission.{Admission}
use Rattle.kinds.specs.Cells.{IsStart}
use Rattle.kinds.specs.Queue.{has_number, insert_item}
use Rattle.kinds.specs.declared.store.Item.{Item}
use Rattle.lists.proofs.Elements.{all-weaker}
use Rattle.run_model.specs.Fit.{IsItemFit, IsRunFit}
use Rattle.run_model.specs.Making.{is_item_of, new_item, queue_new, step_target}
use Rattle.run_model.specs.State.{Run, Issue, live_run}
use Rattle.run_model.proofs.FitRuns.{fit-new, start-unless}
use Rattle.run_model.proofs.Members.{in-all, in-found}
use Rattle.machine.specs.Held.{AreWantsNoted, Becomes, IsHeld, is_left}
use Rattle.machine.specs.Numbers as numbers
use Rattle.machine.specs.View.{state_of}
use Rattle.machine.specs.Words.{queue_at}
use Rattle.machine.specs.declared.counts.Counts.{Counts}
use Rattle.machine.specs.declared.parts.Parts.{Parts}

-- ## Items that come

exchange : (a b c : Bool) → (b || (a || c)) ≡ (a || (b || c))
exchange true true c = refl
exchange true false c = refl
exchange false b c = refl

any-by : (p : Item → Bool) (i j : Item) (is inserted : List Item) → list_any p inserted ≡ (p i || list_any p is)
    → (b : Bool) → list_any p (cond b (i ∷ j ∷ is) (j ∷ inserted)) ≡ (p i || (p j || list_any p is))
any-by p i j is inserted rest true = refl
any-by p i j is inserted rest false = ap (λ b. p j || b) rest ∙ exchange (p i) (p j) (list_any p is)

pub any-inserted : (p : Item → Bool) (i : Item) (is : List Item)
    → list_any p (insert_item i is) ≡ (p i || list_any p is)
any-inserted p i [] = refl
any-inserted p i (j ∷ is) =
    any-by p i j is (insert_item i is) (any-inserted p i is) (nat_lt i.number j.number)

fewer : (w a b c : Bool) → (w && not ((a || b) || c)) ≡ true → (w && not (b || c)) ≡ true
fewer true true b c h = cc
fewer false true b c h = cc
fewer w false b c h = h

pub left-before : (i : Item) (items : List Item) (issues : List Issue) (r : Run)
    → is_left (insert_item i items) issues r ≡ true → is_left items issues r ≡ true
left-before i items issues r h =
    fewer r.wanted (is_item_of r.number step_target i) (list_any (is_item_of r.number step_target) items)
    (list_any (λ (c : Issue). is_item_of r.number step_target c.item) issues)
    (subst (λ b. (r.wanted && not (b || list_any (λ (c : Issue). is_item_of r.number step_target c.item) issues))
    ≡ true) (any-inserted (is_item_of r.number step_target) i items) h)

pub wants-queued : (i : Item) (live : List Run) (items : List Item) (issues : List Issue) (wanting : List ℕ)
    → AreWantsNoted live items issues wanting → AreWantsNoted live (insert_item i items) issues wanting
wants-queued i live items issues wanting h = record {
  ordered = h.ordered;
  noted = all-weaker
      (λ r. is_left items issues r ≡ true → numbers.has_number wanting r.number ≡ true)
      (λ r. is_left (insert_item i items) issues r ≡ true → numbers.has_number wanting r.number ≡ true)
      live (λ r noted left. noted (left-before i items issues r left)) h.noted;
}

-- ## A new item

greater : (n m : ℕ) → m ≤ n → (n + 1 == m) ≡ false
greater n m h = grind (arith, nat_tests, h)

pub fresh-number : (entries : ℕ) (items : List Item) → AllByRecursion (IsItemFit entries) items
    → find (has_number (entries + 1)) items ≡ None
fresh-number entries [] h = refl
fresh-number entries (i ∷ is) h =
    cond-false (entries + 1 == i.number) (Some i) (find (has_number (entries + 1)) is)
    (greater entries i.number h.0.number) ∙ fresh-number entries is h.1

pub start-live : (m : Parts) (run : ℕ) (r : Run) → live_run run (state_of m) ≡ Some r → IsHeld m
    → IsStart r.start
start-live m run r found h =
    (in-all (IsRunFit m.counts.runs m.counts.events m.counts.versions) r m.runs.live
    (in-found (λ (q : Run). run == q.number) m.runs.live r found) h.fit.live_fit).start

pub start-new : (m : Parts) (run : ℕ) (r : Run) (target : List ℕ) → live_run run (state_of m) ≡ Some r
    → IsHeld m → IsStart (new_item r target (state_of m)).start
start-new m run r target found h = start-unless r.started r.start (start-live m run r found h)

pub held-queue_new : (m : Parts) (r : Run) (target : List ℕ) (counts : Counts) (a : Admission)
    → counts ≡ record m.counts { entries = m.counts.entries + 1 }
    → a ≡ record m.admission { items = insert_item (new_item r target (state_of m)) m.admission.items }
    → IsStart r.start → IsHeld m
    → Becomes (queue_new r target (state_of m)) m (record m { counts = counts; admission = a })
held-queue_new m r target counts a counted queued start h =
    subst (λ (c : Counts). Becomes (queue_new r target (state_of m)) m (record m { counts = c; admission = a }))
    (sym counted)
    (subst (λ (b : Admission). Becomes (queue_new r target (state_of m)) m
    (record m { counts = record m.counts { entries = m.counts.entries + 1 }; admission = b })) (sym queued)
    (record {
      state = refl;
      held = record {
        fit = fit-new r target (state_of m) start h.fit;
        wants = wants-queued (new_item r target (state_of m)) m.runs.live m.admission.items m.admission.issues
            m.wanting h.wants;
        events = h.events;
        versions = h.versions;
        ends = h.ends;
        clock = h.clock;
      };
      clock = refl;
    }))

-- ## The item of a run that may not be there

pub some-mapped : {X Y : Type 0} (f : X → Y) (found : Option X) (y : Y) → Some y ≡ option_map f found
    → (x : X) × (found ≡ Some x) × (y ≡ f x)
some-mapped f None y h = cc
some-mapped f (Some x) y h = (x, refl, cc)

abbrev pub IsNewItem : Parts → ℕ → List ℕ → Item → Type 0
IsNewItem m run target item =
    Some item ≡ option_map (λ r. new_item r target (state_of m)) (live_run run (state_of m))

pub queued-fresh : (m : Parts) (run : ℕ) (target : List ℕ) (item : Item) → IsNewItem m run target item → IsHeld m
    → find (has_number item.number) m.admission.items ≡ None
queued-fresh m run target item is h =
    let found = some-mapped (λ r. new_item r target (state_of m)) (live_run run (state_of m)) item is in
    subst (λ (i : Item). find (has_number i.number) m.admission.items ≡ None) (sym found.2)
    (fresh-number m.counts.entries m.admission.items h.fit.calls_fit.queued)

pub queued-start : (m : Parts) (run : ℕ) (target : List ℕ) (item : Item) → IsNewItem m run target item → IsHeld m
    → IsStart item.start
queued-start m run target item is h =
    let found = some-mapped (λ r. new_item r target (state_of m)) (live_run run (state_of m)) item is in
    subst (λ (i : Item). IsStart i.start) (sym found.2) (start-new m run found.0 target found.1 h)

pub held-queued : (m : Parts) (run : ℕ) (target : List ℕ) (item : Item) (counts : Counts) (a : Admission)
    → IsNewItem m run target item → counts ≡ record m.counts { entries = m.counts.entries + 1 }
    → a ≡ record m.admission { items = insert_item item m.admission.items } → IsHeld m
    → Becomes (queue_at (live_run run (state_of m)) target (state_of m)) m
    (record m { counts = counts; admission = a })
held-queued m run target item counts a is counted queued h =
    let found = some-mapped (λ r. new_item r target (state_of m)) (live_run run (state_of m)) item is in
    subst (λ o. Becomes (queue_at o target (state_of m)) m (record m { counts = counts; admission = a })) (sym found.1)
    (held-queue_new m found.0 target counts a counted
    (queued ∙ ap (λ i. record m.admission { items = insert_item i m.admission.items }) found.2)
    (start-live m run found.0 found.1 h) h)

pub on-ok : {A E : Type 0} (r : Result A E) (P Q : Type 0) → (P → Q) → OnOk r P → OnOk r Q
on-ok (Ok a) P Q f h = f h
on-ok (Err e) P Q f h = tt

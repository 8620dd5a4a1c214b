-- No two items have one number, queued or of open calls, at each change and so through each step.
use Rattle.std.proofs.Common.{◌≡◌, ◌≢◌, ℕ, inl, inr, ◌+◌, ◌≤◌, ◌==◌, Bool, true, false, not, cond, List, [], ◌∷◌, ◌++◌, map, filter, find, Option, Some, None, refl, sym, ap, subst, append-nil, nat_lt, arith, eq-eqb, eqb-true}
use Rattle.std.specs.List.{AllByRecursion}
use Rattle.kinds.specs.Inputs.{reading}
use Rattle.kinds.specs.Queue.{has_number, has_run, insert_item, without_number}
use Rattle.kinds.specs.declared.event.EventIn.{EventIn}
use Rattle.kinds.specs.declared.input.Input.{Input}
use Rattle.kinds.specs.declared.limits.Limits.{Limits}
use Rattle.kinds.specs.declared.reply.Op.{Op}
use Rattle.kinds.specs.declared.store.Item.{Item}
use Rattle.kinds.specs.declared.window.WindowRule.{WindowRule}
use Rattle.functions.specs.declared.entry.FunctionEntry.{FunctionEntry}
use Rattle.lists.proofs.Elements.{all-both, all-filter, all-last, all-weaker, filter-passes}
use Rattle.run_model.specs.Events.{add_event, event_with, takes_number, window_of}
use Rattle.run_model.specs.Fit.{AreDifferent, HasOwnNumbers, IsAside, IsAsideOf, StandApart, item_of}
use Rattle.run_model.specs.Laws.{IsIn}
use Rattle.run_model.specs.Machine.{fold, state_after, step}
use Rattle.run_model.specs.Making.{is_item_of, new_item, step_target}
use Rattle.run_model.specs.Replies.{Taking, again, close, take_operations}
use Rattle.run_model.specs.Requests.{remember}
use Rattle.run_model.specs.Settle.{issue, issued, item_at}
use Rattle.run_model.specs.Sound.{ArePairwise}
use Rattle.run_model.specs.State.{State, Issue, empty, moment_at, open_issue, tidied}
use Rattle.run_model.proofs.FitRuns.{all-queued}
use Rattle.run_model.proofs.FitWindows.{not-true, pairs-filter}
use Rattle.run_model.proofs.Kept.{Keeps, freely, window_after, with_offer}
use Rattle.run_model.proofs.KeptReplies.{Drops, KeepsCalls, dropping, kept-take_operations}
use Rattle.run_model.proofs.KeptSteps.{KeepsSteps, kept-step}
use Rattle.run_model.proofs.Members.{all-map, in-all, in-found}

-- ## Numbers that differ

pub not-same : (a b : ℕ) → a ≢ b → (a == b) ≡ false
not-same a b differs = by_test (a == b) refl
  where
    by_test : (c : Bool) → (a == b) ≡ c → c ≡ false
    by_test true e = absurd (differs (eqb-true a b e))
    by_test false e = refl

pub differs : (a b : ℕ) → (a == b) ≡ false → a ≢ b
differs a b e same = let no : (a == b) ≡ true = eq-eqb a b same in absurd (cc)

flipped : (a b : ℕ) → a ≢ b → b ≢ a
flipped a b different same = different (sym same)

-- nothing is found where no item passes
pub none-all : {X : Type 0} (p : X → Bool) (xs : List X) → find p xs ≡ None
    → AllByRecursion (λ x. p x ≡ false) xs
none-all p [] e = tt
none-all p (x ∷ xs) e = by_test (p x) refl e (none-all p xs)
  where
    by_test : (b : Bool) → p x ≡ b → cond b (Some x) (find p xs) ≡ None
        → (find p xs ≡ None → AllByRecursion (λ y. p y ≡ false) xs)
        → (p x ≡ false) × AllByRecursion (λ y. p y ≡ false) xs
    by_test true own e more = absurd (cc)
    by_test false own e more = (own, more e)

pub all-none : {X : Type 0} (p : X → Bool) (xs : List X) → AllByRecursion (λ x. p x ≡ false) xs
    → find p xs ≡ None
all-none p [] h = refl
all-none p (x ∷ xs) h = rw h.0 (all-none p xs h.1)

pub all-unmap : {X Y : Type 0} (P : Y → Type 0) (f : X → Y) (xs : List X) → AllByRecursion P (map f xs)
    → AllByRecursion (λ x. P (f x)) xs
all-unmap P f [] h = tt
all-unmap P f (x ∷ xs) h = (h.0, all-unmap P f xs h.1)

pub pairs-map : {X Y : Type 0} (R : Y → Y → Type 0) (f : X → Y) (xs : List X)
    → ArePairwise (λ x later. R (f x) (f later)) xs → ArePairwise R (map f xs)
pairs-map R f [] h = tt
pairs-map R f (x ∷ xs) h = (all-map (R (f x)) f xs h.0, pairs-map R f xs h.1)

pub pairs-unmap : {X Y : Type 0} (R : Y → Y → Type 0) (f : X → Y) (xs : List X) → ArePairwise R (map f xs)
    → ArePairwise (λ x later. R (f x) (f later)) xs
pairs-unmap R f [] h = tt
pairs-unmap R f (x ∷ xs) h = (all-unmap (R (f x)) f xs h.0, pairs-unmap R f xs h.1)

pub pairs-last : {X : Type 0} (R : X → X → Type 0) (xs : List X) (x : X) → ArePairwise R xs
    → AllByRecursion (λ y. R y x) xs → ArePairwise R (xs ++ x ∷ [])
pairs-last R [] x h k = (tt, tt)
pairs-last R (y ∷ ys) x h k = (all-last (R y) ys x h.0 k.0, pairs-last R ys x h.1 k.1)

-- ## The queue

different-inserted : (x : Item) (is : List Item) → AllByRecursion (λ (i : Item). x.number ≢ i.number) is
    → AreDifferent is → AreDifferent (insert_item x is)
different-inserted x [] h apart = (tt, tt)
different-inserted x (i ∷ is) h apart =
    elim (nat_lt x.number i.number) as (λ b. AreDifferent (cond b (x ∷ i ∷ is) (i ∷ insert_item x is))) [
      | true ↦ (h, apart)
      | false ↦ (
        all-queued (λ (j : Item). i.number ≢ j.number) x is (flipped x.number i.number h.0) apart.0,
        different-inserted x is h.1 apart.1,
      )
    ]

aside-inserted : (entries : ℕ) (items : List Item) (x i : Item) → i.number ≢ x.number
    → IsAsideOf entries items i → IsAsideOf entries (insert_item x items) i
aside-inserted entries items x i different h = record {
  given = h.given;
  unqueued = all-none (has_number i.number) (insert_item x items)
      (all-queued (λ j. has_number i.number j ≡ false) x items (not-same i.number x.number different)
      (none-all (has_number i.number) items h.unqueued));
}

aside-more : (entries : ℕ) (items : List Item) (i : Item) → IsAsideOf entries items i
    → IsAsideOf (entries + 1) items i
aside-more entries items i h = record { given = omega (arith, h.given); unqueued = h.unqueued }

aside-filter : (entries : ℕ) (items : List Item) (test : Item → Bool) (i : Item) → IsAsideOf entries items i
    → IsAsideOf entries (filter test items) i
aside-filter entries items test i h = record {
  given = h.given;
  unqueued = all-none (has_number i.number) (filter test items)
      (all-filter (λ j. has_number i.number j ≡ false) test items
      (none-all (has_number i.number) items h.unqueued));
}

module _ (entries : ℕ) (items is : List Item) where
  apart-more : StandApart entries items is → StandApart (entries + 1) items is
  apart-more h = record {
    given = all-weaker (λ (i : Item). i.number ≤ entries) (λ (i : Item). i.number ≤ entries + 1) items
        (λ i (low : i.number ≤ entries). omega (arith, low)) h.given;
    queued = h.queued;
    aside = all-weaker (IsAsideOf entries items) (IsAsideOf (entries + 1) items) is
        (λ i k. aside-more entries items i k) h.aside;
    called = h.called;
  }

  apart-choice : (b : Bool) → StandApart entries items is → StandApart (cond b (entries + 1) entries) items is
  apart-choice true h = apart-more h
  apart-choice false h = h

  apart-filter : (test : Item → Bool) → StandApart entries items is
      → StandApart entries (filter test items) is
  apart-filter test h = record {
    given = all-filter (λ (i : Item). i.number ≤ entries) test items h.given;
    queued = pairs-filter (λ (i later : Item). i.number ≢ later.number) test items h.queued;
    aside = all-weaker (IsAsideOf entries items) (IsAsideOf entries (filter test items)) is
        (λ i k. aside-filter entries items test i k) h.aside;
    called = h.called;
  }

  -- an item with the next number is queued
  apart-new : (x : Item) → x.number ≡ entries + 1 → StandApart entries items is
      → StandApart (entries + 1) (insert_item x items) is
  apart-new x next h =
      let more : StandApart (entries + 1) items is = apart-more h in
      record {
        given = all-queued (λ (i : Item). i.number ≤ entries + 1) x items (omega (arith, next)) more.given;
        queued = different-inserted x items
            (all-weaker (λ (i : Item). i.number ≤ entries) (λ (i : Item). x.number ≢ i.number) items
            (λ i (low : i.number ≤ entries) same. omega (arith, low, next, same)) h.given) h.queued;
        aside = all-weaker (IsAsideOf entries items) (IsAsideOf (entries + 1) (insert_item x items)) is
            (λ i (k : IsAsideOf entries items i).
            aside-inserted (entries + 1) items x i (λ same. omega (arith, k.given, next, same))
            (aside-more entries items i k)) h.aside;
        called = h.called;
      }

  -- an item that was aside is queued again
  apart-again : (i x : Item) → x.number ≡ i.number → StandApart entries items (i ∷ is)
      → StandApart entries (insert_item x items) is
  apart-again i x same h =
      let own : IsAsideOf entries items i = h.aside.0 in
      record {
        given = all-queued (λ (j : Item). j.number ≤ entries) x items
            (subst (λ n. n ≤ entries) (sym same) own.given) h.given;
        queued = different-inserted x items
            (all-weaker (λ j. has_number i.number j ≡ false) (λ (j : Item). x.number ≢ j.number) items
            (λ (j : Item) k. subst (λ n. n ≢ j.number) (sym same) (differs i.number j.number k))
            (none-all (has_number i.number) items own.unqueued)) h.queued;
        aside = all-both (λ (j : Item). i.number ≢ j.number) (IsAsideOf entries items)
            (IsAsideOf entries (insert_item x items)) is
            (λ (j : Item) different k. aside-inserted entries items x j
            (subst (λ n. j.number ≢ n) (sym same) (flipped i.number j.number different)) k)
            h.called.0 h.aside.1;
        called = h.called.1;
      }

  apart-drop : (i : Item) → StandApart entries items (i ∷ is) → StandApart entries items is
  apart-drop i h = record { given = h.given; queued = h.queued; aside = h.aside.1; called = h.called.1 }

-- ## The changes

abbrev pub Beside : List Item → State → Type 0
Beside is s = StandApart s.entries s.items (is ++ map item_of s.issues)

apart-accepted : (is : List Item) (event : EventIn) (id : Option (List ℕ)) (s : State) → Beside is s
    → Beside is (add_event (event_with event s) (remember id s))
apart-accepted is event None s h = h
apart-accepted is event (Some id) s h = h

apart-offered : (is : List Item) (f : FunctionEntry) (r : WindowRule) (value : List ℕ) (event : ℕ) (s : State)
    → Beside is s → Beside is (with_offer f r value event s)
apart-offered is f r value event s h =
    apart-choice s.entries s.items (is ++ map item_of s.issues)
    (takes_number r (window_of f.version value s) (window_after f r value event s)) h

pub keeps-apart : (is : List Item) → Keeps (Beside is)
keeps-apart is = freely (Beside is) (record {
  accepts = λ event id s new h. apart-accepted is event id s h;
  starts = λ f event parent s there given h. h;
  fills = λ f r value event s may full h. apart-offered is f r value event s h;
  fires = λ f w s there stands h. h;
  joins = λ f r value event s may full h. apart-offered is f r value event s h;
  windows_go = λ number s h. h;
  rules = λ r event c s there e h. apart-more s.entries s.items (is ++ map item_of s.issues) h;
  finds_out = λ r s there h.
      apart-new s.entries s.items (is ++ map item_of s.issues) (new_item r step_target s) refl h;
  wants = λ r s live h. h;
  plans = λ r name s live new h.
      apart-new s.entries s.items (is ++ map item_of s.issues) (new_item r name s) refl h;
  sleeps = λ r name t s live new h. apart-more s.entries s.items (is ++ map item_of s.issues) h;
  waits = λ r name event t cond s live new h. apart-more s.entries s.items (is ++ map item_of s.issues) h;
  pends = λ r name s live new h. h;
  invokes = λ r name child t s there h. apart-more s.entries s.items (is ++ map item_of s.issues) h;
  ends = λ r status s live h.
      apart-filter s.entries s.items (is ++ map item_of s.issues) (λ i. not (has_run r.number i)) h;
}) (record {
  records = λ run name result s h. apart-filter s.entries s.items (is ++ map item_of s.issues)
      (λ i. not (is_item_of run name i)) h;
  sleeps_go = λ test s h. h;
  waits_go = λ test s h. h;
  invocations_go = λ test s h. h;
  rules_go = λ test s h. h;
})

-- ## Calls

abbrev AreOwn : List Issue → Type 0
AreOwn issues = ArePairwise (λ (i later : Issue). i.item.number ≢ later.item.number) issues

-- the items of the calls that stay open have other numbers than the one of the call that ends
closed-different : (i : Issue) (issues : List Issue) → IsIn i issues → AreOwn issues
    → AllByRecursion (λ (other : Issue). i.item.number ≢ other.item.number)
    (filter (λ (other : Issue). not (i.call == other.call)) issues)
closed-different i [] there h = absurd there
closed-different i (j ∷ issues) (inl same) h =
    let left : List Issue = filter (λ (other : Issue). not (i.call == other.call)) issues in
    let gone : (i.call == j.call) ≡ true = eq-eqb i.call j.call (ap (λ (k : Issue). k.call) (sym same)) in
    subst (λ b. AllByRecursion (λ (other : Issue). i.item.number ≢ other.item.number) (cond (not b) (j ∷ left) left))
    (sym gone)
    (all-filter (λ (other : Issue). i.item.number ≢ other.item.number)
    (λ (other : Issue). not (i.call == other.call)) issues
    (subst (λ (k : Issue). AllByRecursion (λ (other : Issue). k.item.number ≢ other.item.number) issues) same
    h.0))
closed-different i (j ∷ issues) (inr there) h =
    let left : List Issue = filter (λ (other : Issue). not (i.call == other.call)) issues in
    let own : j.item.number ≢ i.item.number =
    in-all (λ (other : Issue). j.item.number ≢ other.item.number) i issues there h.0 in
    let more = closed-different i issues there h.1 in
    elim (i.call == j.call)
    as (λ b. AllByRecursion (λ (other : Issue). i.item.number ≢ other.item.number) (cond (not b) (j ∷ left) left))
    [ true ↦ more | false ↦ (flipped j.item.number i.item.number own, more) ]

apart-closed : (i : Issue) (s : State) → IsIn i s.issues → Beside [] s → Beside (i.item ∷ []) (close i.call s)
apart-closed i s there h =
    let test : Issue → Bool = λ (other : Issue). not (i.call == other.call) in
    let Aside : Item → Type 0 = IsAsideOf s.entries s.items in
    let aside : AllByRecursion (λ (j : Issue). Aside j.item) s.issues = all-unmap Aside item_of s.issues h.aside in
    let own : AreOwn s.issues =
    pairs-unmap (λ (i later : Item). i.number ≢ later.number) item_of s.issues h.called in
    record {
      given = h.given;
      queued = h.queued;
      aside = (
        in-all (λ (j : Issue). Aside j.item) i s.issues there aside,
        all-map Aside item_of (filter test s.issues)
            (all-filter (λ (j : Issue). Aside j.item) test s.issues aside),
      );
      called = (
        all-map (λ (j : Item). i.item.number ≢ j.number) item_of (filter test s.issues)
            (closed-different i s.issues there own),
        pairs-map (λ (i later : Item). i.number ≢ later.number) item_of (filter test s.issues)
            (pairs-filter (λ (i later : Issue). i.item.number ≢ later.item.number) test s.issues own),
      );
    }

pub apart-drops : Drops Beside
apart-drops = record {
  runs = keeps-apart;
  closes = apart-closed;
  reopens = λ s h.
      subst (λ is. StandApart s.entries s.items is) (sym (append-nil (map item_of s.issues))) h;
  drops = λ i is s h. apart-drop s.entries s.items (is ++ map item_of s.issues) i h;
  retries = λ i is a r s live new h.
      apart-again s.entries s.items (is ++ map item_of s.issues) i (again i a s) refl h;
  requeues = λ i is r s live new h.
      apart-again s.entries s.items (is ++ map item_of s.issues) i (record i { due = s.moment }) refl h;
}

pub apart-calls : KeepsCalls Beside
apart-calls = dropping Beside apart-drops

-- a call is made: its item leaves the queue
pub apart-issue : (number : ℕ) (i : Item) (s : State) → item_at number s ≡ Some i → Beside [] s
    → Beside [] (issue i s)
apart-issue number i s found h =
    let items : List Item = without_number i.number s.items in
    let there : IsIn i s.items = in-found (has_number number) s.items i found in
    let low : i.number ≤ s.entries = in-all (λ (j : Item). j.number ≤ s.entries) i s.items there h.given in
    let left : StandApart (s.entries + 1) items (map item_of s.issues) =
    apart-filter (s.entries + 1) s.items (map item_of s.issues) (λ j. not (has_number i.number j))
    (apart-more s.entries s.items (map item_of s.issues) h) in
    let Aside : Item → Type 0 = IsAsideOf (s.entries + 1) items in
    record {
      given = left.given;
      queued = left.queued;
      aside = all-map Aside item_of (s.issues ++ issued i s ∷ [])
          (all-last (λ (j : Issue). Aside j.item) s.issues (issued i s)
          (all-unmap Aside item_of s.issues left.aside)
          (record {
            given = omega (arith, low);
            unqueued = all-none (has_number i.number) items
                (all-weaker (λ j. not (has_number i.number j) ≡ true) (λ j. has_number i.number j ≡ false) items
                (λ j k. not-true (has_number i.number j) k)
                (filter-passes (λ j. not (has_number i.number j)) s.items));
          }));
      called = pairs-map (λ (i later : Item). i.number ≢ later.number) item_of (s.issues ++ issued i s ∷ [])
          (pairs-last (λ (i later : Issue). i.item.number ≢ later.item.number) s.issues (issued i s)
          (pairs-unmap (λ (i later : Item). i.number ≢ later.number) item_of s.issues h.called)
          (all-weaker (λ (j : Issue). IsAsideOf s.entries s.items j.item)
          (λ (j : Issue). j.item.number ≢ i.number) s.issues
          (λ (j : Issue) (k : IsAsideOf s.entries s.items j.item). differs j.item.number i.number
          (in-all (λ other. has_number j.item.number other ≡ false) i s.items there
          (none-all (has_number j.item.number) s.items k.unqueued)))
          (all-unmap (IsAsideOf s.entries s.items) item_of s.issues h.aside)));
    }

pub apart-tidied : (s : State) → Beside [] s → Beside [] (tidied s)
unfolding tidied
apart-tidied s h = h

pub apart-steps : (bound : ℕ) → KeepsSteps bound (λ input. Unit {0}) Beside
apart-steps bound = record {
  calls = apart-calls;
  counts = λ s h. h;
  moves = λ t next s low e h. h;
  arrives = λ t s low on before h. h;
  issues = λ number i s next there h. apart-issue number i s there h;
  registers = λ at app s asked h. h;
  tidies = apart-tidied;
}

-- ## Steps

pub apart-step : (s : State) (input : Input) → HasOwnNumbers s → HasOwnNumbers (step s input).state
apart-step s input h =
    let bound : ℕ = moment_at (reading input) s in
    kept-step bound (λ input. Unit {0}) Beside (apart-steps bound) s input (omega arith) tt h

apart-state_after : (inputs : List Input) (s : State) → HasOwnNumbers s → HasOwnNumbers (state_after s inputs)
apart-state_after [] s h = h
apart-state_after (input ∷ inputs) s h =
    apart-state_after inputs (step s input).state (apart-step s input h)

pub apart-fold : (limits : Limits) (inputs : List Input) → HasOwnNumbers (fold limits inputs)
apart-fold limits inputs =
    apart-state_after inputs (empty limits) (record { given = tt; queued = tt; aside = tt; called = tt })

-- ## One item

-- the item of a call that ends is aside
pub aside-closed : (call : ℕ) (s : State) (i : Issue) → HasOwnNumbers s → open_issue call s ≡ Some i
    → IsAside i.item (close i.call s)
aside-closed call s i h found =
    (apart-closed i s (in-found (λ (j : Issue). call == j.call) s.issues i found) h).aside.0

aside-choice : (b : Bool) (entries : ℕ) (items : List Item) (i : Item) → IsAsideOf entries items i
    → IsAsideOf (cond b (entries + 1) entries) items i
aside-choice true entries items i h = aside-more entries items i h
aside-choice false entries items i h = h

aside-new : (entries : ℕ) (items : List Item) (i x : Item) → x.number ≡ entries + 1
    → IsAsideOf entries items i → IsAsideOf (entries + 1) (insert_item x items) i
aside-new entries items i x next h =
    aside-inserted (entries + 1) items x i (λ same. omega (arith, h.given, next, same))
    (aside-more entries items i h)

aside-accepted : (i : Item) (event : EventIn) (id : Option (List ℕ)) (s : State) → IsAside i s
    → IsAside i (add_event (event_with event s) (remember id s))
aside-accepted i event None s h = h
aside-accepted i event (Some id) s h = h

aside-offered : (i : Item) (f : FunctionEntry) (r : WindowRule) (value : List ℕ) (event : ℕ) (s : State)
    → IsAside i s → IsAside i (with_offer f r value event s)
aside-offered i f r value event s h =
    aside-choice (takes_number r (window_of f.version value s) (window_after f r value event s)) s.entries
    s.items i h

pub keeps-aside : (i : Item) → Keeps (IsAside i)
keeps-aside i = freely (IsAside i) (record {
  accepts = λ event id s new h. aside-accepted i event id s h;
  starts = λ f event parent s there given h. h;
  fills = λ f r value event s may full h. aside-offered i f r value event s h;
  fires = λ f w s there stands h. h;
  joins = λ f r value event s may full h. aside-offered i f r value event s h;
  windows_go = λ number s h. h;
  rules = λ r event c s there e h. aside-more s.entries s.items i h;
  finds_out = λ r s there h. aside-new s.entries s.items i (new_item r step_target s) refl h;
  wants = λ r s live h. h;
  plans = λ r name s live new h. aside-new s.entries s.items i (new_item r name s) refl h;
  sleeps = λ r name t s live new h. aside-more s.entries s.items i h;
  waits = λ r name event t cond s live new h. aside-more s.entries s.items i h;
  pends = λ r name s live new h. h;
  invokes = λ r name child t s there h. aside-more s.entries s.items i h;
  ends = λ r status s live h. aside-filter s.entries s.items (λ j. not (has_run r.number j)) i h;
}) (record {
  records = λ run name result s h.
      aside-filter s.entries s.items (λ j. not (is_item_of run name j)) i h;
  sleeps_go = λ test s h. h;
  waits_go = λ test s h. h;
  invocations_go = λ test s h. h;
  rules_go = λ test s h. h;
})

pub aside-operations : (i : Item) (no_retry : Bool) (os : List Op) (t : Taking) → IsAside i t.state
    → IsAside i (take_operations i no_retry os t).state
aside-operations i no_retry os t h = kept-take_operations (IsAside i) (keeps-aside i) i no_retry os t h

-- The numbers of runs that have not ended rise, and each that an item or a call has was given: what the laws on items and
-- calls know before each change.
use Rattle.std.proofs.Common.{◌≡◌, ℕ, ◌+◌, ◌<◌, ◌≤◌, ◌==◌, Bool, not, List, [], ◌∷◌, ◌++◌, filter, refl, sym, subst, arith}
use Rattle.std.specs.List.{AllByRecursion}
use Rattle.kinds.specs.Queue.{has_number, has_run, insert_item, without_run}
use Rattle.kinds.specs.declared.store.Item.{Item}
use Rattle.lists.proofs.Elements.{all-filter, all-last, all-weaker}
use Rattle.run_model.specs.Fit.{item_of}
use Rattle.run_model.specs.Laws.{IsIn}
use Rattle.run_model.specs.Making.{is_item_of, new_item, step_target}
use Rattle.run_model.specs.Recording.{change_run, changed, record_in, without_item}
use Rattle.run_model.specs.Replies.{begun, take_operations, want, with_plan}
use Rattle.run_model.specs.Settle.{called, issued}
use Rattle.run_model.specs.Sound.{RiseTo, numbers_of}
use Rattle.run_model.specs.State.{State, Run, Issue}
use Rattle.run_model.proofs.Apart.{all-unmap, pairs-last}
use Rattle.run_model.proofs.FitRuns.{all-queued}
use Rattle.run_model.proofs.Kept.{run_from}
use Rattle.run_model.proofs.Limits.{map-last}
use Rattle.run_model.proofs.Members.{all-map, in-all, in-found}
use Rattle.run_model.proofs.Rising.{rise-filter, rise-more, run_number}
use Rattle.run_model.proofs.RunsOnce.{numbers-changed}
use Rattle.soundness.proofs.Carried.{Any, Core, Carries, core, pended}
use Rattle.soundness.proofs.CarriedReplies.{CarriesSteps}

abbrev pub IsGiven : ℕ → Item → Type 0
IsGiven runs i = i.run ≤ runs

abbrev pub IsCallGiven : ℕ → Issue → Type 0
IsCallGiven runs i = i.item.run ≤ runs

pub record AreGiven (is : List Item) (runs : ℕ) (live : List Run) (items : List Item) (issues : List Issue)
    : Type 0 where
  pub rise : RiseTo runs (numbers_of live)
  pub aside : AllByRecursion (IsGiven runs) is
  pub queued : AllByRecursion (IsGiven runs) items
  pub called : AllByRecursion (IsCallGiven runs) issues

abbrev pub HasNumbers : List Item → Core → Type 0
HasNumbers is c = AreGiven is c.runs c.live c.items c.issues

-- ## Runs

rise-made : (runs : ℕ) (live : List Run) (r : Run) → r.number ≡ runs + 1 → RiseTo runs (numbers_of live)
    → RiseTo (runs + 1) (numbers_of (live ++ r ∷ []))
rise-made runs live r e h =
    subst (λ ns. RiseTo (runs + 1) ns) (sym (map-last run_number live r)) (
      pairs-last (λ n later. n < later) (numbers_of live) r.number h.0
          (all-weaker (λ n. n ≤ runs) (λ n. n < r.number) (numbers_of live)
          (λ n (low : n ≤ runs). omega (arith, low, e)) h.1),
      all-last (λ n. n ≤ runs + 1) (numbers_of live) r.number (rise-more runs (numbers_of live) h).1
          (omega (arith, e)),
    )

rise-changed : (runs number : ℕ) (f : Run → Run) (live : List Run) → ((r : Run) → (f r).number ≡ r.number)
    → RiseTo runs (numbers_of live) → RiseTo runs (numbers_of (changed number f live))
rise-changed runs number f live same h =
    subst (λ ns. RiseTo runs ns) (sym (numbers-changed number f live same)) h

pub live-given : (runs : ℕ) (r : Run) (live : List Run) → IsIn r live → RiseTo runs (numbers_of live)
    → r.number ≤ runs
live-given runs r live there h =
    in-all (λ (q : Run). q.number ≤ runs) r live there (all-unmap (λ n. n ≤ runs) run_number live h.1)

-- ## The changes

given-more : (runs : ℕ) (is : List Item) → AllByRecursion (IsGiven runs) is → AllByRecursion (IsGiven (runs + 1)) is
given-more runs is h =
    all-weaker (IsGiven runs) (IsGiven (runs + 1)) is (λ i (low : i.run ≤ runs). omega (arith, low)) h

module _ (is : List Item) (runs : ℕ) (live : List Run) (items : List Item) (issues : List Issue)
    (h : AreGiven is runs live items issues) where
  given-made : (r : Run) (i : Item) → r.number ≡ runs + 1 → i.run ≡ runs + 1
      → AreGiven is (runs + 1) (live ++ r ∷ []) (insert_item i items) issues
  given-made r i next own = record {
    rise = rise-made runs live r next h.rise;
    aside = given-more runs is h.aside;
    queued = all-queued (IsGiven (runs + 1)) i items (omega (arith, own)) (given-more runs items h.queued);
    called = all-weaker (IsCallGiven runs) (IsCallGiven (runs + 1)) issues
        (λ j (low : j.item.run ≤ runs). omega (arith, low)) h.called;
  }

  given-changed : (number : ℕ) (f : Run → Run) → ((r : Run) → (f r).number ≡ r.number)
      → AreGiven is runs (changed number f live) items issues
  given-changed number f same = record {
    rise = rise-changed runs number f live same h.rise;
    aside = h.aside;
    queued = h.queued;
    called = h.called;
  }

  given-queued : (i : Item) → i.run ≤ runs → AreGiven is runs live (insert_item i items) issues
  given-queued i low = record {
    rise = h.rise;
    aside = h.aside;
    queued = all-queued (IsGiven runs) i items low h.queued;
    called = h.called;
  }

  given-kept : (test : Item → Bool) → AreGiven is runs live (filter test items) issues
  given-kept test = record {
    rise = h.rise;
    aside = h.aside;
    queued = all-filter (IsGiven runs) test items h.queued;
    called = h.called;
  }

  given-ended : (number : ℕ) → AreGiven is runs (filter (λ (r : Run). not (number == r.number)) live) items issues
  given-ended number = record {
    rise = rise-filter run_number runs (λ (r : Run). not (number == r.number)) live h.rise;
    aside = h.aside;
    queued = h.queued;
    called = h.called;
  }

  given-closed : (i : Issue) (test : Issue → Bool) → IsIn i issues
      → AreGiven (i.item ∷ is) runs live items (filter test issues)
  given-closed i test there = record {
    rise = h.rise;
    aside = (in-all (IsCallGiven runs) i issues there h.called, h.aside);
    queued = h.queued;
    called = all-filter (IsCallGiven runs) test issues h.called;
  }

given-dropped : (i : Item) (is : List Item) (runs : ℕ) (live : List Run) (items : List Item) (issues : List Issue)
    → AreGiven (i ∷ is) runs live items issues → AreGiven is runs live items issues
given-dropped i is runs live items issues h =
    record { rise = h.rise; aside = h.aside.1; queued = h.queued; called = h.called }

given-recorded : (is : List Item) (run : ℕ) (name result : List ℕ) (s : State) → HasNumbers is (core s)
    → AreGiven is s.runs (changed run (record_in name result) s.live) (without_item run name s.items) s.issues
given-recorded is run name result s h =
    given-changed is s.runs s.live (without_item run name s.items) s.issues
    (given-kept is s.runs s.live s.items s.issues h (λ i. not (is_item_of run name i))) run (record_in name result)
    (λ r. refl)

numbers-changes : Carries Any HasNumbers
numbers-changes = record {
  accepts = λ is event s next any h. h;
  makes = λ is f events parent i s there texts own any h.
      given-made is s.runs s.live s.items s.issues h (run_from f events parent s) i refl own.0.0;
  joins = λ is f r value event s there text any h. h;
  windows_go = λ is number s any h. h;
  finds_out = λ r s there none any h.
      given-queued [] s.runs s.live s.items s.issues h (new_item r step_target s)
      (live-given s.runs r s.live there h.rise);
  wants = λ is number s any h. given-changed is s.runs s.live s.items s.issues h number want (λ q. refl);
  plans = λ i r name s live new own any h.
      let j : Item = new_item r name (change_run r.number (with_plan name) s) in
      given-changed (i ∷ []) s.runs s.live (insert_item j s.items) s.issues
      (given-queued (i ∷ []) s.runs s.live s.items s.issues h j
      (live-given s.runs r s.live (in-found (λ (q : Run). i.run == q.number) s.live r live) h.rise)) r.number
      (with_plan name) (λ q. refl);
  pends = λ i kind r name s live new own any h.
      given-changed (i ∷ []) s.runs s.live s.items s.issues h r.number (pended kind name) (λ q. refl);
  results = λ i r name result s live own any h. given-recorded (i ∷ []) r.number name result s h;
  wakes = λ is run r name result s live waits any h. given-recorded is run name result s h;
  ends = λ is r status s live any h.
      given-ended is s.runs s.live (without_run r.number s.items) s.issues
      (given-kept is s.runs s.live s.items s.issues h (λ i. not (has_run r.number i))) r.number;
}

pub numbers-steps : CarriesSteps Any HasNumbers
numbers-steps = record {
  changes = numbers-changes;
  closes = λ i s rise there any h.
      given-closed [] s.runs s.live s.items s.issues h i (λ (j : Issue). not (i.call == j.call)) there;
  reopens = λ s any h. record {
    rise = h.rise;
    aside = all-map (IsGiven s.runs) item_of s.issues h.called;
    queued = h.queued;
    called = tt;
  };
  drops = λ i is s done any h. given-dropped i is s.runs s.live s.items s.issues h;
  leaves = λ i no_retry ops s has own over any_before before any h.
      let t : State = (take_operations i no_retry ops (begun s)).state in
      given-dropped i [] t.runs t.live t.items t.issues h;
  queues = λ i j is r s its start live new any h.
      given-dropped i is s.runs s.live (insert_item j s.items) s.issues
      (given-queued (i ∷ is) s.runs s.live s.items s.issues h j (subst (λ n. n ≤ s.runs) (sym its.0) h.aside.0));
  issues = λ i s apart there any h. record {
    rise = rise-changed s.runs i.run (called i.target) s.live (λ r. refl) h.rise;
    aside = tt;
    queued = all-filter (IsGiven s.runs) (λ j. not (has_number i.number j)) s.items h.queued;
    called = all-last (IsCallGiven s.runs) s.issues (issued i s) h.called
        (in-all (IsGiven s.runs) i s.items there h.queued);
  };
  registers = λ app s any h. h;
  tidies = λ s any h. h;
}

pub numbers-empty : AreGiven [] 0 [] [] []
numbers-empty = record { rise = (tt, tt); aside = tt; queued = tt; called = tt }

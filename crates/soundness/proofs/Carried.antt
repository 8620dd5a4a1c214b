-- What the laws look at in a state, the ways in which that changes, and each word of the definition as such changes: what
-- each change keeps, each word keeps. Here are the words of making, recording, events and ends; those of replies and of
-- inputs follow in `CarriedReplies` and `CarriedSteps`, and `carried-fold` is what the laws end with.
--
-- This stands beside `Keeps` of `run_model` since these laws need more than it tells of each change. Here it is known
--   that a run gets an item that finds out what comes next only where it has none, and where no item is aside (an item is
--   aside from the end of its call until it is queued again or goes);
--   that an operation is of the run whose item is aside, and that its name is one of a step;
--   that an item that is aside goes only where its step is recorded or its run has ended, or after the operations of a
--   reply that tell of its step;
--   that the texts of its events are there when a run is made or a window takes an event;
-- and what else holds before each change, B, may be any property that the changes keep: most laws are over `RunNumbers`.
use Rattle.std.proofs.Common.{◌≡◌, ℕ, ◌+◌, ◌≤◌, ◌==◌, Bool, true, false, not, ◌&&◌, cond, List, [], ◌∷◌, ◌++◌, map, find, Option, Some, None, refl, sym, subst, arith, eq-eqb}
use Rattle.std.specs.List.{AllByRecursion}
use Rattle.kinds.specs.Queue.{insert_item}
use Rattle.kinds.specs.RunSteps.{is_pending, note_pending, note_plan, pend_step}
use Rattle.kinds.specs.Stores.{cancelled, woken}
use Rattle.kinds.specs.Windows as windows
use Rattle.kinds.specs.Windows.{after_event, is_full, is_of, joined, opened}
use Rattle.kinds.specs.declared.event.Event.{Event}
use Rattle.kinds.specs.declared.event.EventIn.{EventIn}
use Rattle.kinds.specs.declared.function.CancelEntry.{CancelEntry}
use Rattle.kinds.specs.declared.store.Item.{Item}
use Rattle.kinds.specs.declared.store.Parent.{Parent}
use Rattle.kinds.specs.declared.store.Pending.{Pending}
use Rattle.kinds.specs.declared.store.RunStatus.{RunStatus}
use Rattle.kinds.specs.declared.store.RunStatus.TheVariants.{Completed, Failed, Cancelled}
use Rattle.kinds.specs.declared.window.Window.{Window}
use Rattle.kinds.specs.declared.window.Window.TheVariants as window
use Rattle.kinds.specs.declared.window.WindowRule.{WindowRule}
use Rattle.kinds.specs.declared.window.WindowRule.TheVariants as rule
use Rattle.functions.specs.declared.entry.FunctionEntry.{FunctionEntry}
use Rattle.event_keys.specs.Expressions.{key_value}
use Rattle.lists.proofs.Elements.{all-last}
use Rattle.run_model.specs.Advance.{without_window}
use Rattle.run_model.specs.Ends.{cancelled_result, complete_run, end_run, fail_run, failed_event, first_text, is_of_failure, raise, raise_failed, record_at_parent, tell, tell_parent, without_invocation_of}
use Rattle.run_model.specs.Events.{add_event, end_wait, event_with, follow, has_wait, in_window, is_triggered, key_of, offer, offer_to, offer_to_all, wait_of, wake, wake_all, wake_by, wake_found, window_of, window_rule_of, without_wait}
use Rattle.run_model.specs.Expressions.{truth_in}
use Rattle.run_model.specs.Laws.{IsIn}
use Rattle.run_model.specs.Making.{add_rule, add_rules, discover, discover_all, discover_one, first_of, has_discovery, make_run, new_item, queue, queue_new, step_target, text_or_none, unless}
use Rattle.run_model.specs.Recording.{Discovery, at_once, at_the_end, change_run, data_result, discovered, error_result, is_pending_in, record_result, wake_step}
use Rattle.run_model.specs.Replies.{pend, plan_named, want, with_steps}
use Rattle.run_model.specs.Requests.{Answering, accept, answer_event, cancel_all, cancel_by, cancel_found, on_event, on_events, remember, repeats}
use Rattle.run_model.specs.State.{State, Run, Issue, EventText, Waiting, live_run, text_of}
use Rattle.run_model.proofs.GoingOn.{Has}
use Rattle.run_model.proofs.Kept.{Adds, AreThere, IsFunction, IsLive, Keeps, freely, kept-choice, own-number, run_from, started, window_after, with_offer}
use Rattle.run_model.proofs.KeptEvents.{kept-cancel_all, kept-offer, kept-wake_by}
use Rattle.run_model.proofs.Members.{all-front, each-in, in-all, in-found, in-front, in-last}
use Rattle.soundness.proofs.StepNames.{IsName}

-- ## What is looked at

pub record Core : Type 0 where
  pub runs : ℕ
  pub functions : List FunctionEntry
  pub retired : List FunctionEntry
  pub texts : List EventText
  pub live : List Run
  pub closing : List Run
  pub windows : List Window
  pub items : List Item
  pub issues : List Issue

abbrev pub core : State → Core
core s = record {
  runs = s.runs;
  functions = s.functions;
  retired = s.retired;
  texts = s.texts;
  live = s.live;
  closing = s.closing;
  windows = s.windows;
  items = s.items;
  issues = s.issues;
}

-- the text of an event is there
abbrev pub HasText : List EventText → ℕ → Type 0
HasText texts n = Has (λ (e : EventText). n == e.number) texts

abbrev pub HaveTexts : List EventText → List ℕ → Type 0
HaveTexts texts ns = AllByRecursion (HasText texts) ns

pub text-more : (e : EventText) (texts : List EventText) (n : ℕ) → HasText texts n → HasText (texts ++ e ∷ []) n
text-more e texts n h = (h.0, (in-front h.0 texts (e ∷ []) h.1.0, h.1.1))

pub text-own : (e : EventText) (texts : List EventText) → HasText (texts ++ e ∷ []) e.number
text-own e texts = (e, (in-last e texts, eq-eqb e.number e.number refl))

-- an item of this run, with this target
abbrev pub IsFor : ℕ → List ℕ → Item → Type 0
IsFor run target i = (i.run ≡ run) × (i.target ≡ target)

-- the first item of a run finds out what comes next, and asks for the run's start
abbrev pub IsFirst : Run → Item → Type 0
IsFirst r i = IsFor r.number step_target i × (i.start ≡ unless r.started r.start)

-- a name of a run's steps waits
abbrev pub pended : Pending → List ℕ → Run → Run
pended kind name r = with_steps (pend_step name kind r.steps) r

-- these texts are there, if those of the windows are
abbrev pub HaveTextsWith : State → List ℕ → Type 0
HaveTextsWith s ns =
    AllByRecursion (λ (w : Window). HaveTexts s.texts (windows.events_of w)) s.windows → HaveTexts s.texts ns

-- ## The changes

-- Each change keeps K, where B holds before it. Both are told which items are aside.
pub record Carries (B K : List Item → Core → Type 0) : Type 0 where
  -- an event takes its number
  pub accepts : (is : List Item) (event : Event) (s : State) → event.number ≡ s.events + 1 → B is (core s)
      → K is (core s) → K is (core (add_event event s))
  -- a run is made with its first item
  pub makes : (is : List Item) (f : FunctionEntry) (events : List ℕ) (parent : Option Parent) (i : Item) (s : State)
      → IsFunction f s → HaveTextsWith s events → IsFirst (run_from f events parent s) i → B is (core s)
      → K is (core s) → K is (core (queue i (started f events parent s)))
  -- a window takes an event and stays where it isn't full, or goes
  pub joins : (is : List Item) (f : FunctionEntry) (r : WindowRule) (value : List ℕ) (event : ℕ) (s : State)
      → IsFunction f s → HasText s.texts event → B is (core s) → K is (core s)
      → K is (core (with_offer f r value event s))
  pub windows_go : (is : List Item) (number : ℕ) (s : State) → B is (core s) → K is (core s)
      → K is (core (without_window number s))
  -- a run gets an item that finds out what comes next, or is to get one
  pub finds_out : (r : Run) (s : State) → IsIn r s.live → has_discovery s r.number ≡ false → B [] (core s)
      → K [] (core s) → K [] (core (queue_new r step_target s))
  pub wants : (is : List Item) (number : ℕ) (s : State) → B is (core s) → K is (core s)
      → K is (core (change_run number want s))
  -- an operation of the run whose item is aside: a new name is planned or waits, or a step is recorded
  pub plans : (i : Item) (r : Run) (name : List ℕ) (s : State) → live_run i.run s ≡ Some r
      → Adds (note_plan name r.steps) → IsName name → B (i ∷ []) (core s) → K (i ∷ []) (core s)
      → K (i ∷ []) (core (plan_named r name s))
  pub pends : (i : Item) (kind : Pending) (r : Run) (name : List ℕ) (s : State) → live_run i.run s ≡ Some r
      → Adds (note_pending name kind r.steps) → IsName name → B (i ∷ []) (core s) → K (i ∷ []) (core s)
      → K (i ∷ []) (core (pend kind name r s))
  pub results : (i : Item) (r : Run) (name result : List ℕ) (s : State) → live_run i.run s ≡ Some r → IsName name
      → B (i ∷ []) (core s) → K (i ∷ []) (core s) → K (i ∷ []) (core (record_result r.number name result s))
  -- what a step waits for has come
  pub wakes : (is : List Item) (run : ℕ) (r : Run) (name result : List ℕ) (s : State) → live_run run s ≡ Some r
      → is_pending name r.steps ≡ true → B is (core s) → K is (core s)
      → K is (core (record_result run name result s))
  pub ends : (is : List Item) (r : Run) (status : RunStatus) (s : State) → IsLive r s → B is (core s)
      → K is (core s) → K is (core (end_run r status s))

abbrev pub Any : List Item → Core → Type 0
Any is c = Unit {0}

-- one that is kept by itself, and one over it
pub beside-changes : (B K : List Item → Core → Type 0) → Carries Any B → Carries B K
    → Carries Any (λ is c. B is c × K is c)
beside-changes B K b k = record {
  accepts = λ is event s next any h. (b.accepts is event s next any h.0, k.accepts is event s next h.0 h.1);
  makes = λ is f events parent i s there texts own any h. (
    b.makes is f events parent i s there texts own any h.0,
    k.makes is f events parent i s there texts own h.0 h.1,
  );
  joins = λ is f r value event s there text any h.
      (b.joins is f r value event s there text any h.0, k.joins is f r value event s there text h.0 h.1);
  windows_go = λ is number s any h. (b.windows_go is number s any h.0, k.windows_go is number s h.0 h.1);
  finds_out = λ r s there none any h. (b.finds_out r s there none any h.0, k.finds_out r s there none h.0 h.1);
  wants = λ is number s any h. (b.wants is number s any h.0, k.wants is number s h.0 h.1);
  plans = λ i r name s live new own any h.
      (b.plans i r name s live new own any h.0, k.plans i r name s live new own h.0 h.1);
  pends = λ i kind r name s live new own any h.
      (b.pends i kind r name s live new own any h.0, k.pends i kind r name s live new own h.0 h.1);
  results = λ i r name result s live own any h.
      (b.results i r name result s live own any h.0, k.results i r name result s live own h.0 h.1);
  wakes = λ is run r name result s live waits any h.
      (b.wakes is run r name result s live waits any h.0, k.wakes is run r name result s live waits h.0 h.1);
  ends = λ is r status s live any h. (b.ends is r status s live any h.0, k.ends is r status s live h.0 h.1);
}

-- where something may be found out: at the end of what goes on, and at once where nothing is aside
abbrev pub MayFind : Discovery → List Item → Type 0
MayFind at_once [] = Unit {0}
MayFind at_once (i ∷ is) = ⊥
MayFind at_the_end is = Unit {0}

-- ## Functions and texts stay

-- functions are there, and an event with its text
abbrev Given : List FunctionEntry → ℕ → State → Type 0
Given fs event s = AllByRecursion (λ f. IsFunction f s) fs × ((event ≤ s.events) × HasText s.texts event)

given-accepted : (fs : List FunctionEntry) (number : ℕ) (event : EventIn) (id : Option (List ℕ)) (s : State)
    → Given fs number s → Given fs number (add_event (event_with event s) (remember id s))
given-accepted fs number event None s h = (
  h.0,
  (
    omega (arith, h.1.0),
    text-more (record { number = s.events + 1; text = (event_with event s).text }) s.texts number h.1.1,
  ),
)
given-accepted fs number event (Some id) s h = (
  h.0,
  (
    omega (arith, h.1.0),
    text-more (record { number = s.events + 1; text = (event_with event s).text }) s.texts number h.1.1,
  ),
)

keeps-given : (fs : List FunctionEntry) (number : ℕ) → Keeps (Given fs number)
keeps-given fs number = freely (Given fs number) (record {
  accepts = λ event id s new h. given-accepted fs number event id s h;
  starts = λ f event parent s there given h. h;
  fills = λ f r value event s may full h. h;
  fires = λ f w s there stands h. h;
  joins = λ f r value event s may full h. h;
  windows_go = λ n s h. h;
  rules = λ r event c s there e h. h;
  finds_out = λ r s there h. h;
  wants = λ r s live h. h;
  plans = λ r name s live new h. h;
  sleeps = λ r name t s live new h. h;
  waits = λ r name event t cond s live new h. h;
  pends = λ r name s live new h. h;
  invokes = λ r name child t s there h. h;
  ends = λ r status s live h. h;
}) (record {
  records = λ run name result s h. h;
  sleeps_go = λ test s h. h;
  waits_go = λ test s h. h;
  invocations_go = λ test s h. h;
  rules_go = λ test s h. h;
})

-- rules aren't looked at
core-rules : (r : Run) (first : ℕ) (event : List ℕ) (cs : List CancelEntry) (s : State)
    → core (add_rules r first event cs s) ≡ core s
core-rules r first event [] s = refl
core-rules r first event (c ∷ cs) s = core-rules r first event cs (add_rule r first event c s)

is-missed : (a b : Bool) → (a && not b) ≡ true → b ≡ false
is-missed true true e = absurd (cc)
is-missed true false e = refl
is-missed false b e = absurd (cc)

-- ## The texts of windows

joined-texts : (texts : List EventText) (r : WindowRule) (event t : ℕ) (w : Window) → HasText texts event
    → HaveTexts texts (windows.events_of w) → HaveTexts texts (windows.events_of (joined r event t w))
joined-texts texts (rule.Debounce d) event t (window.Debounce number version value last first due) own h =
    (own, tt)
joined-texts texts (rule.Debounce d) event t (window.Batch number version value es due) own h = h
joined-texts texts (rule.Batch b) event t (window.Debounce number version value last first due) own h = h
joined-texts texts (rule.Batch b) event t (window.Batch number version value es due) own h =
    all-last (HasText texts) es event h own

opened-texts : (texts : List EventText) (r : WindowRule) (version : ℕ) (value : List ℕ) (event t number : ℕ)
    → HasText texts event → HaveTexts texts (windows.events_of (opened r version value event t number))
opened-texts texts (rule.Debounce d) version value event t number own = (own, tt)
opened-texts texts (rule.Batch b) version value event t number own = (own, tt)

pub texts-after : (f : FunctionEntry) (r : WindowRule) (value : List ℕ) (event : ℕ) (s : State)
    → HasText s.texts event → HaveTextsWith s (windows.events_of (window_after f r value event s))
texts-after f r value event s own h = by_window (window_of f.version value s) refl
  where
    by_window : (before : Option Window) → window_of f.version value s ≡ before
        → HaveTexts s.texts
        (windows.events_of (after_event r f.version value event s.moment (s.entries + 1) before))
    by_window None e = opened-texts s.texts r f.version value event s.moment (s.entries + 1) own
    by_window (Some w) e = joined-texts s.texts r event s.moment w own
        (in-all (λ (v : Window). HaveTexts s.texts (windows.events_of v)) w s.windows
        (in-found (is_of f.version value) s.windows w e) h)

module _ (K : List Item → Core → Type 0) (keeps : Carries Any K) where
  abbrev pub P : List Item → State → Type 0
  P is s = K is (core s)

  -- ## Finding out what comes next

  carried-discover_one : (r : Run) (s : State) → IsIn r s.live → P [] s → P [] (discover_one r s)
  carried-discover_one r s there h =
      (elim (r.wanted && not (has_discovery s r.number))
      as (λ b. (r.wanted && not (has_discovery s r.number)) ≡ b → P [] (cond b (queue_new r step_target s) s)) [
        | true ↦ λ missed. keeps.finds_out r s there (is-missed r.wanted (has_discovery s r.number) missed) tt h
        | false ↦ λ e. h
      ]) refl

  carried-discover_all : (rs : List Run) (s : State) → AreThere rs s → P [] s → P [] (discover_all rs s)
  carried-discover_all [] s there h = h
  carried-discover_all (r ∷ rs) s there h = carried-discover_all rs (discover_one r s)
      (kept-choice (AreThere rs) (r.wanted && not (has_discovery s r.number)) (queue_new r step_target s) s
      there.1 there.1) (carried-discover_one r s there.0 h)

  pub carried-discover : (s : State) → P [] s → P [] (discover s)
  unfolding discover
  carried-discover s h = carried-discover_all s.live s (each-in s.live) h

  carried-discovered : (is : List Item) (d : Discovery) (s : State) → MayFind d is → P is s → P is (discovered d s)
  carried-discovered [] at_once s may h = carried-discover s h
  carried-discovered (i ∷ is) at_once s may h = absurd may
  carried-discovered is at_the_end s may h = h

  -- ## Making a run

  pub carried-made : (is : List Item) (f : FunctionEntry) (events : List ℕ) (parent : Option Parent) (s : State)
      → ((i : Item) → IsFirst (run_from f events parent s) i → P is (queue i (started f events parent s)))
      → P is (make_run f events parent s)
  unfolding make_run
  carried-made is f events parent s h =
      let r : Run = run_from f events parent s in
      let event : List ℕ = text_or_none (text_of (first_of events) s) in
      let t : State = add_rules r (first_of events) event f.function.cancels (started f events parent s) in
      let i : Item = new_item r step_target t in
      subst (λ (c : Core). K is (record c { items = insert_item i c.items }))
      (sym (core-rules r (first_of events) event f.function.cancels (started f events parent s)))
      (h i ((refl, refl), refl))

  pub carried-make_run : (is : List Item) (f : FunctionEntry) (events : List ℕ) (parent : Option Parent) (s : State)
      → IsFunction f s → HaveTextsWith s events → P is s → P is (make_run f events parent s)
  carried-make_run is f events parent s there texts h =
      carried-made is f events parent s (λ i own. keeps.makes is f events parent i s there texts own tt h)

  -- ## What waits

  pub carried-wake_step : (is : List Item) (run : ℕ) (name result : List ℕ) (s : State) → P is s
      → P is (wake_step run name result s)
  carried-wake_step is run name result s h = by_found (live_run run s) refl
    where
      by_test : (r : Run) (b : Bool) → is_pending name r.steps ≡ b → live_run run s ≡ Some r
          → P is (elim b as (λ _. State) [ true ↦ record_result run name result s | false ↦ s ])
      by_test r true e live = keeps.wakes is run r name result s live e tt h
      by_test r false e live = h

      by_found : (o : Option Run) → live_run run s ≡ o
          → P is (elim (is_pending_in name o) as (λ _. State)
          [ true ↦ record_result run name result s | false ↦ s ])
      by_found None e = h
      by_found (Some r) e = by_test r (is_pending name r.steps) refl e

  pub carried-end_wait : (is : List Item) (result : List ℕ) (w : Waiting) (s : State) → P is s
      → P is (end_wait result w s)
  carried-end_wait is result w s h =
      carried-wake_step is w.wait.run w.hash result (without_wait w.wait.number s) h

  carried-wake_found : (is : List Item) (d : Discovery) (result : List ℕ) (found : Option Waiting) (s : State)
      → MayFind d is → P is s → P is (wake_found d result found s)
  carried-wake_found is d result None s may h = h
  carried-wake_found is d result (Some w) s may h =
      carried-discovered is d (end_wait result w s) may (carried-end_wait is result w s h)

  carried-wake_all : (is : List Item) (d : Discovery) (result : List ℕ) (ns : List ℕ) (s : State) → MayFind d is
      → P is s → P is (wake_all d result ns s)
  carried-wake_all is d result [] s may h = h
  carried-wake_all is d result (n ∷ ns) s may h = carried-wake_all is d result ns (wake d result n s) may
      (carried-wake_found is d result (find (has_wait n) s.waits) s may h)

  carried-wake_by : (is : List Item) (d : Discovery) (event : Event) (s : State) → MayFind d is → P is s
      → P is (wake_by d event s)
  carried-wake_by is d event s may h =
      carried-wake_all is d (data_result event.text) (woken (truth_in s) event (map wait_of s.waits)) s may h

  -- ## Offers

  carried-in_window : (is : List Item) (f : FunctionEntry) (r : WindowRule) (value : List ℕ) (event : ℕ) (s : State)
      → IsFunction f s → HasText s.texts event → P is s
      → P is (in_window f r (window_of f.version value s) (window_after f r value event s) s)
  carried-in_window is f r value event s there text h =
      let events : List ℕ = windows.events_of (window_after f r value event s) in
      elim (is_full r (window_after f r value event s)) as (λ full. P is (elim full as (λ _. State) [
        | true ↦ make_run f (windows.events_of (window_after f r value event s)) None
            (with_offer f r value event s)
        | false ↦ with_offer f r value event s
      ])) [
        | true ↦ carried-made is f events None (with_offer f r value event s)
            (λ i own. keeps.joins is f r value event (queue i (started f events None s)) there text tt
            (keeps.makes is f events None i s there (texts-after f r value event s text) own tt h))
        | false ↦ keeps.joins is f r value event s there text tt h
      ]

  carried-offer_to : (is : List Item) (f : FunctionEntry) (r : Option WindowRule) (event : Event) (s : State)
      → IsFunction f s → HasText s.texts event.number → P is s → P is (offer_to f r event s)
  carried-offer_to is f None event s there text h =
      carried-make_run is f (event.number ∷ []) None s there (λ k. (text, tt)) h
  carried-offer_to is f (Some r) event s there text h =
      carried-in_window is f r (key_value (key_of r) event.text) event.number s there text h

  carried-offer : (is : List Item) (f : FunctionEntry) (event : Event) (s : State) → IsFunction f s
      → HasText s.texts event.number → P is s → P is (offer f event s)
  carried-offer is f event s there text h =
      elim (is_triggered event f) as (λ b. P is (elim b as (λ _. State)
      [ true ↦ offer_to f (window_rule_of f.function) event s | false ↦ s ])) [
        | true ↦ carried-offer_to is f (window_rule_of f.function) event s there text h
        | false ↦ h
      ]

  carried-offer_to_all : (is : List Item) (fs : List FunctionEntry) (event : Event) (s : State)
      → Given fs event.number s → P is s → P is (offer_to_all fs event s)
  carried-offer_to_all is [] event s given h = h
  carried-offer_to_all is (f ∷ fs) event s given h = carried-offer_to_all is fs event (offer f event s)
      (kept-offer (Given fs event.number) (keeps-given fs event.number) f event s given.0.0 given.1.0
      (given.0.1, given.1)) (carried-offer is f event s given.0.0 given.1.1 h)

  pub carried-follow : (is : List Item) (d : Discovery) (event : Event) (s : State) → MayFind d is
      → event.number ≤ s.events → HasText s.texts event.number → P is s → P is (follow d event s)
  unfolding follow
  carried-follow is d event s may low text h = carried-offer_to_all is s.functions event (wake_by d event s)
      (kept-wake_by (Given s.functions event.number) (keeps-given s.functions event.number) d event s
      (all-front s.functions s.retired, (low, text))) (carried-wake_by is d event s may h)

  -- ## Ends

  carried-record_at_parent : (is : List Item) (d : Discovery) (p : Parent) (q : Run) (result : List ℕ) (b : Bool)
      (s : State) → MayFind d is → live_run p.run s ≡ Some q → is_pending p.hash q.steps ≡ b → P is s
      → P is (record_at_parent d p result b s)
  carried-record_at_parent is d p q result true s may live waits h =
      carried-discovered is d (record_result p.run p.hash result (without_invocation_of p s)) may
      (keeps.wakes is p.run q p.hash result (without_invocation_of p s) live waits tt h)
  carried-record_at_parent is d p q result false s may live waits h = h

  carried-tell : (is : List Item) (d : Discovery) (p : Parent) (result : List ℕ) (found : Option Run) (s : State)
      → MayFind d is → live_run p.run s ≡ found → P is s → P is (tell d p result found s)
  carried-tell is d p result None s may e h = h
  carried-tell is d p result (Some q) s may e h =
      carried-record_at_parent is d p q result (is_pending p.hash q.steps) s may e refl h

  carried-tell_parent : (is : List Item) (d : Discovery) (p : Option Parent) (result : List ℕ) (s : State)
      → MayFind d is → P is s → P is (tell_parent d p result s)
  carried-tell_parent is d None result s may h = h
  carried-tell_parent is d (Some p) result s may h = carried-tell is d p result (live_run p.run s) s may refl h

  carried-raise : (is : List Item) (event : EventIn) (s : State) → P is s → P is (raise event s)
  carried-raise is event s h = carried-follow is at_the_end (event_with event s) (add_event (event_with event s) s) tt
      (omega arith)
      (text-own (record { number = s.events + 1; text = (event_with event s).text }) s.texts)
      (keeps.accepts is (event_with event s) s refl tt h)

  carried-raise_failed : (is : List Item) (r : Run) (error : List ℕ) (s : State) → P is s
      → P is (raise_failed r error s)
  carried-raise_failed is r error s h =
      elim (is_of_failure (first_text r s)) as (λ b. P is (elim b as (λ _. State)
      [ true ↦ s | false ↦ raise (failed_event r error s) s ]))
      [ true ↦ h | false ↦ carried-raise is (failed_event r error s) s h ]

  -- what follows once a run has ended
  pub carried-completed : (is : List Item) (r : Run) (output : List ℕ) (s : State) → P is (end_run r Completed s)
      → P is (complete_run r output s)
  carried-completed is r output s h =
      carried-tell_parent is at_the_end r.parent (data_result output) (end_run r Completed s) tt h

  pub carried-failed : (is : List Item) (r : Run) (error : List ℕ) (s : State) → P is (end_run r Failed s)
      → P is (fail_run r error s)
  unfolding fail_run
  carried-failed is r error s h =
      carried-raise_failed is r error (tell_parent at_the_end r.parent (error_result error) (end_run r Failed s))
      (carried-tell_parent is at_the_end r.parent (error_result error) (end_run r Failed s) tt h)

  pub carried-fail_run : (is : List Item) (r : Run) (error : List ℕ) (s : State) → IsLive r s → P is s
      → P is (fail_run r error s)
  carried-fail_run is r error s live h = carried-failed is r error s (keeps.ends is r Failed s live tt h)

  pub carried-cancel_found : (run : ℕ) (found : Option Run) (s : State) → live_run run s ≡ found → P [] s
      → P [] (cancel_found found s)
  carried-cancel_found run None s e h = h
  carried-cancel_found run (Some r) s e h =
      carried-tell_parent [] at_once r.parent cancelled_result (end_run r Cancelled s) tt
      (keeps.ends [] r Cancelled s (own-number run r s e) tt h)

  carried-cancel_all : (ns : List ℕ) (s : State) → P [] s → P [] (cancel_all ns s)
  carried-cancel_all [] s h = h
  carried-cancel_all (n ∷ ns) s h = carried-cancel_all ns (cancel_found (live_run n s) s)
      (carried-cancel_found n (live_run n s) s refl h)

  -- ## Requests

  -- an id that is remembered isn't looked at
  carried-added : (event : Event) (id : Option (List ℕ)) (s : State)
      → event.number ≡ s.events + 1 → P [] s → P [] (add_event event (remember id s))
  carried-added event None s next h = keeps.accepts [] event s next tt h
  carried-added event (Some id) s next h = keeps.accepts [] event (remember (Some id) s) next tt h

  given-added : (event : Event) (id : Option (List ℕ)) (s : State) → event.number ≡ s.events + 1
      → Given [] event.number (add_event event (remember id s))
  given-added event None s next =
      (tt, (omega arith, text-own (record { number = event.number; text = event.text }) s.texts))
  given-added event (Some id) s next =
      (tt, (omega arith, text-own (record { number = event.number; text = event.text }) s.texts))

  carried-accept : (event : Event) (id : Option (List ℕ)) (s : State)
      → event.number ≡ s.events + 1 → P [] s → P [] (accept event id s)
  carried-accept event id s next h =
      let t : State = add_event event (remember id s) in
      let met : List ℕ = cancelled (truth_in t) event t.rules in
      let given : Given [] event.number (cancel_by event t) =
      kept-cancel_all (Given [] event.number) (keeps-given [] event.number) met t (given-added event id s next) in
      carried-follow [] at_once event (cancel_by event t) tt given.1.0 given.1.1
      (carried-cancel_all met t (carried-added event id s next h))

  carried-answer_event : (event : EventIn) (number : Option ℕ) (a : Answering) → P [] a.state
      → P [] (answer_event event number a).state
  carried-answer_event event (Some number) a h = h
  carried-answer_event event None a h = carried-accept (event_with event a.state) event.id a.state refl h

  pub carried-on_events : (events : List EventIn) (a : Answering) → P [] a.state
      → P [] (on_events events a).state
  unfolding on_events
  carried-on_events [] a h = h
  carried-on_events (event ∷ events) a h = carried-on_events events (on_event event a)
      (carried-answer_event event (repeats event a.state) a h)

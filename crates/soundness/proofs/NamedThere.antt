-- The function version and the events of each run that is there and of each window are there: at each change, and so
-- through each step.
use Rattle.std.proofs.Common.{◌≡◌, ℕ, ◌⊎◌, inl, inr, ◌+◌, ◌==◌, Bool, true, false, not, ◌||◌, cond, List, [], ◌∷◌, ◌++◌, filter, find, Option, Some, None, IsSomeAnd, is_some, refl, sym, ap, subst, eq-eqb, eqb-true}
use Rattle.std.specs.List.{AllByRecursion, list_any}
use Rattle.std.specs.Ordering.{is_lt, nat_cmp}
use Rattle.kinds.specs.Windows as windows
use Rattle.kinds.specs.Windows.{after_event, is_full, is_of, others}
use Rattle.kinds.specs.declared.event.Event.{Event}
use Rattle.kinds.specs.declared.function.App.{App}
use Rattle.kinds.specs.declared.input.Input.{Input}
use Rattle.kinds.specs.declared.limits.Limits.{Limits}
use Rattle.kinds.specs.declared.store.Item.{Item}
use Rattle.kinds.specs.declared.store.Parent.{Parent}
use Rattle.kinds.specs.declared.window.Window.{Window}
use Rattle.kinds.specs.declared.window.WindowRule.{WindowRule}
use Rattle.functions.specs.Functions.{new_in, numbered, registered, stays, version_of}
use Rattle.functions.specs.declared.entry.FunctionEntry.{FunctionEntry}
use Rattle.lists.proofs.Elements.{all-both, all-filter, all-last, all-weaker}
use Rattle.lists.specs.Entries.{insert_by}
use Rattle.run_model.specs.Ends.{run_number}
use Rattle.run_model.specs.Laws.{IsIn}
use Rattle.run_model.specs.Machine.{fold, insert_all, with_functions}
use Rattle.run_model.specs.Recording.{changed, record_in}
use Rattle.run_model.specs.Replies.{want, with_plan}
use Rattle.run_model.specs.Settle.{called}
use Rattle.run_model.specs.Sound.{HasFunction, HasNamed, HasTexts, HasWindowNamed}
use Rattle.run_model.specs.State.{State, Run, EventText, has_open_call, is_in, is_named, is_used, is_version_named, without_closed, without_unnamed}
use Rattle.run_model.specs.Events.{add_event, window_of}
use Rattle.run_model.proofs.CallsOfRuns.{there-fold}
use Rattle.run_model.proofs.FitRuns.{all-changed, all-inserted}
use Rattle.run_model.proofs.FitWindows.{all-inserted_in, joined-version, opened-version}
use Rattle.run_model.proofs.GoingOn.{Has, in-kept}
use Rattle.run_model.proofs.Kept.{IsFunction, run_from, window_after, with_offer}
use Rattle.run_model.proofs.Members.{any-in, each-in, in-all, in-back, in-either, in-found, in-front}
use Rattle.run_model.proofs.SettlingLists.{all-append, any-found, or-left, or-right}
use Rattle.soundness.proofs.Carried.{Any, Core, HasText, HaveTexts, HaveTextsWith, Carries, core, pended, text-more, texts-after}
use Rattle.soundness.proofs.CarriedReplies.{CarriesSteps}
use Rattle.soundness.proofs.CarriedSteps.{carried-fold}

-- ## What holds

abbrev HasVersion : List FunctionEntry → ℕ → Type 0
HasVersion fs version = Has (λ (f : FunctionEntry). version == f.version) fs

abbrev Known : List FunctionEntry → List EventText → ℕ → List ℕ → Type 0
Known fs texts version events = HasVersion fs version × HaveTexts texts events

abbrev IsRunKnown : List FunctionEntry → List EventText → Run → Type 0
IsRunKnown fs texts r = Known fs texts r.version r.events

abbrev IsWindowKnown : List FunctionEntry → List EventText → Window → Type 0
IsWindowKnown fs texts w = Known fs texts (windows.version_of w) (windows.events_of w)

record AreKnown (fs : List FunctionEntry) (texts : List EventText) (live closing : List Run) (ws : List Window)
    : Type 0 where
  live_known : AllByRecursion (IsRunKnown fs texts) live
  closing_known : AllByRecursion (IsRunKnown fs texts) closing
  windows_known : AllByRecursion (IsWindowKnown fs texts) ws

abbrev K : List Item → Core → Type 0
K is c = AreKnown (c.functions ++ c.retired) c.texts c.live c.closing c.windows

-- ## Functions and texts that come

-- what is named is there where more is
known-more : (fs gs : List FunctionEntry) (texts more : List EventText) (live closing : List Run) (ws : List Window)
    → ((f : FunctionEntry) → IsIn f fs → IsIn f gs) → ((n : ℕ) → HasText texts n → HasText more n)
    → AreKnown fs texts live closing ws → AreKnown gs more live closing ws
known-more fs gs texts more live closing ws stays kept h = record {
  live_known = all-weaker (IsRunKnown fs texts) (IsRunKnown gs more) live (λ (r : Run) k. one r.version r.events k)
      h.live_known;
  closing_known = all-weaker (IsRunKnown fs texts) (IsRunKnown gs more) closing
      (λ (r : Run) k. one r.version r.events k) h.closing_known;
  windows_known = all-weaker (IsWindowKnown fs texts) (IsWindowKnown gs more) ws
      (λ w k. one (windows.version_of w) (windows.events_of w) k) h.windows_known;
}
  where
    one : (version : ℕ) (events : List ℕ) → Known fs texts version events → Known gs more version events
    one version events k = (
      (k.0.0, (stays k.0.0 k.0.1.0, k.0.1.1)),
      all-weaker (HasText texts) (HasText more) events kept k.1,
    )

known-added : (event : Event) (s : State) → K [] (core s) → K [] (core (add_event event s))
known-added event s h =
    let e : EventText = record { number = event.number; text = event.text } in
    known-more (s.functions ++ s.retired) (s.functions ++ s.retired) s.texts (s.texts ++ e ∷ []) s.live s.closing
    s.windows (λ f there. there) (λ n k. text-more e s.texts n k) h

-- ## Runs

module _ (fs : List FunctionEntry) (texts : List EventText) (live closing : List Run) (ws : List Window) where
  known-changed : (number : ℕ) (f : Run → Run) → ((r : Run) → IsRunKnown fs texts r → IsRunKnown fs texts (f r))
      → AreKnown fs texts live closing ws → AreKnown fs texts (changed number f live) closing ws
  known-changed number f keeps h = record {
    live_known = all-changed (IsRunKnown fs texts) number f live keeps h.live_known;
    closing_known = h.closing_known;
    windows_known = h.windows_known;
  }

  known-run : (r : Run) → IsRunKnown fs texts r → AreKnown fs texts live closing ws
      → AreKnown fs texts (live ++ r ∷ []) closing ws
  known-run r own h = record {
    live_known = all-last (IsRunKnown fs texts) live r h.live_known own;
    closing_known = h.closing_known;
    windows_known = h.windows_known;
  }

  known-windows : (others : List Window) → AllByRecursion (IsWindowKnown fs texts) others
      → AreKnown fs texts live closing ws → AreKnown fs texts live closing others
  known-windows others own h = record {
    live_known = h.live_known;
    closing_known = h.closing_known;
    windows_known = own;
  }

  known-ended : (r : Run) → IsRunKnown fs texts r → AreKnown fs texts live closing ws
      → AreKnown fs texts (filter (λ (q : Run). not (r.number == q.number)) live) (insert_by run_number r closing) ws
  known-ended r own h = record {
    live_known = all-filter (IsRunKnown fs texts) (λ (q : Run). not (r.number == q.number)) live h.live_known;
    closing_known = all-inserted (IsRunKnown fs texts) run_number r closing own h.closing_known;
    windows_known = h.windows_known;
  }

has-version : (f : FunctionEntry) (s : State) → IsFunction f s → HasVersion (s.functions ++ s.retired) f.version
has-version f s there = (f, (there, eq-eqb f.version f.version refl))

-- ## Windows

-- the texts of each window are there
windows-there : (s : State) → K [] (core s)
    → AllByRecursion (λ (w : Window). HaveTexts s.texts (windows.events_of w)) s.windows
windows-there s h =
    all-weaker (IsWindowKnown (s.functions ++ s.retired) s.texts)
    (λ (w : Window). HaveTexts s.texts (windows.events_of w)) s.windows (λ w k. k.1) h.windows_known

module _ (f : FunctionEntry) (r : WindowRule) (value : List ℕ) (event : ℕ) (s : State) (there : IsFunction f s)
    (own : HasText s.texts event)
    (h : AreKnown (s.functions ++ s.retired) s.texts s.live s.closing s.windows) where
  abbrev fs : List FunctionEntry
  fs = s.functions ++ s.retired

  version-after : (before : Option Window) → window_of f.version value s ≡ before
      → HasVersion fs (windows.version_of (after_event r f.version value event s.moment (s.entries + 1) before))
  version-after None e =
      subst (HasVersion fs) (sym (opened-version r f.version value event s.moment (s.entries + 1)))
      (has-version f s there)
  version-after (Some w) e =
      subst (HasVersion fs) (sym (joined-version r event s.moment w))
      (in-all (IsWindowKnown fs s.texts) w s.windows (in-found (is_of f.version value) s.windows w e)
      h.windows_known).0

  known-own : IsWindowKnown fs s.texts (window_after f r value event s)
  known-own = (
    version-after (window_of f.version value s) refl,
    texts-after f r value event s own (windows-there s h),
  )

  known-standing : (full : Bool) (w : Window) → IsWindowKnown fs s.texts w
      → AllByRecursion (IsWindowKnown fs s.texts)
      (cond full (others (windows.version_of w) (windows.value_of w) s.windows)
      (windows.insert_window w (others (windows.version_of w) (windows.value_of w) s.windows)))
  known-standing full w its =
      let left : AllByRecursion (IsWindowKnown fs s.texts)
      (others (windows.version_of w) (windows.value_of w) s.windows) =
      all-filter (IsWindowKnown fs s.texts) (λ v. not (is_of (windows.version_of w) (windows.value_of w) v)) s.windows
      h.windows_known in
      elim full as (λ b. AllByRecursion (IsWindowKnown fs s.texts)
      (cond b (others (windows.version_of w) (windows.value_of w) s.windows)
      (windows.insert_window w (others (windows.version_of w) (windows.value_of w) s.windows)))) [
        | true ↦ left
        | false ↦ all-inserted_in (IsWindowKnown fs s.texts) w
            (others (windows.version_of w) (windows.value_of w) s.windows) its left
      ]

  known-offered : K [] (core (with_offer f r value event s))
  known-offered = known-windows fs s.texts s.live s.closing s.windows (with_offer f r value event s).windows
      (known-standing (is_full r (window_after f r value event s)) (window_after f r value event s) known-own) h

-- ## The changes

-- a run whose function is there, with events whose texts are
known-made : (f : FunctionEntry) (events : List ℕ) (parent : Option Parent) (s : State) → IsFunction f s
    → HaveTextsWith s events → AreKnown (s.functions ++ s.retired) s.texts s.live s.closing s.windows
    → AreKnown (s.functions ++ s.retired) s.texts (s.live ++ run_from f events parent s ∷ []) s.closing s.windows
known-made f events parent s there texts h =
    known-run (s.functions ++ s.retired) s.texts s.live s.closing s.windows (run_from f events parent s)
    (has-version f s there, texts (windows-there s h)) h

-- a run that changes has its function and events still
known-run_changed : (number : ℕ) (f : Run → Run) (s : State)
    → ((r : Run) → IsRunKnown (s.functions ++ s.retired) s.texts r
    → IsRunKnown (s.functions ++ s.retired) s.texts (f r))
    → AreKnown (s.functions ++ s.retired) s.texts s.live s.closing s.windows
    → AreKnown (s.functions ++ s.retired) s.texts (changed number f s.live) s.closing s.windows
known-run_changed number f s keeps h =
    known-changed (s.functions ++ s.retired) s.texts s.live s.closing s.windows number f keeps h

known-changes : Carries Any K
known-changes = record {
  accepts = λ is event s next any h. known-added event s h;
  makes = λ is f events parent i s there texts own any h. known-made f events parent s there texts h;
  joins = λ is f r value event s there own any h. known-offered f r value event s there own h;
  windows_go = λ is number s any h.
      known-windows (s.functions ++ s.retired) s.texts s.live s.closing s.windows
      (filter (λ other. not (windows.has_number number other)) s.windows)
      (all-filter (IsWindowKnown (s.functions ++ s.retired) s.texts)
      (λ other. not (windows.has_number number other)) s.windows h.windows_known) h;
  finds_out = λ r s there none any h. h;
  wants = λ is number s any h. known-run_changed number want s (λ q k. k) h;
  plans = λ i r name s live new own any h. known-run_changed r.number (with_plan name) s (λ q k. k) h;
  pends = λ i kind r name s live new own any h. known-run_changed r.number (pended kind name) s (λ q k. k) h;
  results = λ i r name result s live own any h.
      known-run_changed r.number (record_in name result) s (λ q k. k) h;
  wakes = λ is run r name result s live waits any h. known-run_changed run (record_in name result) s (λ q k. k) h;
  ends = λ is r status s live any h.
      known-ended (s.functions ++ s.retired) s.texts s.live s.closing s.windows r
      (in-all (IsRunKnown (s.functions ++ s.retired) s.texts) r s.live
      (in-found (λ (q : Run). r.number == q.number) s.live r live) h.live_known) h;
}

-- ## Functions that are registered

in-inserted_own : (f : FunctionEntry) (es : List FunctionEntry) → IsIn f (insert_by version_of f es)
in-inserted_own f [] = inl refl
in-inserted_own f (e ∷ es) =
    elim (is_lt (nat_cmp f.version e.version)) as (λ b. IsIn f (cond b (f ∷ e ∷ es) (e ∷ insert_by version_of f es)))
    [ true ↦ inl refl | false ↦ inr (in-inserted_own f es) ]

in-inserted_more : (f g : FunctionEntry) (es : List FunctionEntry) → IsIn g es → IsIn g (insert_by version_of f es)
in-inserted_more f g [] there = absurd there
in-inserted_more f g (e ∷ es) there =
    elim (is_lt (nat_cmp f.version e.version)) as (λ b. IsIn g (cond b (f ∷ e ∷ es) (e ∷ insert_by version_of f es)))
    [ true ↦ inr there | false ↦ behind there (λ k. in-inserted_more f g es k) ]
  where
    behind : IsIn g (e ∷ es) → (IsIn g es → IsIn g (insert_by version_of f es))
        → IsIn g (e ∷ insert_by version_of f es)
    behind (inl same) more = inl same
    behind (inr k) more = inr (more k)

in-all_more : (fs es : List FunctionEntry) (g : FunctionEntry) → IsIn g es → IsIn g (insert_all fs es)
in-all_more [] es g there = there
in-all_more (f ∷ fs) es g there =
    in-all_more fs (insert_by version_of f es) g (in-inserted_more f g es there)

in-all_own : (fs es : List FunctionEntry) (g : FunctionEntry) → IsIn g fs → IsIn g (insert_all fs es)
in-all_own [] es g there = absurd there
in-all_own (f ∷ fs) es g (inl same) =
    in-all_more fs (insert_by version_of f es) g
    (subst (λ k. IsIn k (insert_by version_of f es)) same (in-inserted_own f es))
in-all_own (f ∷ fs) es g (inr there) = in-all_own fs (insert_by version_of f es) g there

-- those that are there stay, current or not
still-there : (app : App) (s : State) (f : FunctionEntry) → IsIn f (s.functions ++ s.retired)
    → IsIn f ((with_functions app s).functions ++ (with_functions app s).retired)
unfolding registered
still-there app s f there = of_either (in-either f s.functions s.retired there)
  where
    gone : List FunctionEntry
    gone = filter (λ g. not (stays app g)) s.functions

    current : List FunctionEntry
    current = filter (stays app) s.functions ++ numbered app.name s.versions (new_in app s.functions)

    of_current : (b : Bool) → stays app f ≡ b → IsIn f s.functions → IsIn f (current ++ insert_all gone s.retired)
    of_current true e own = in-front f current (insert_all gone s.retired)
        (in-front f (filter (stays app) s.functions) (numbered app.name s.versions (new_in app s.functions))
        (in-kept (stays app) f s.functions own e))
    of_current false e own = in-back f current (insert_all gone s.retired)
        (in-all_own gone s.retired f (in-kept (λ g. not (stays app g)) f s.functions own (ap not e)))

    of_either : IsIn f s.functions ⊎ IsIn f s.retired → IsIn f (current ++ insert_all gone s.retired)
    of_either (inl own) = of_current (stays app f) refl own
    of_either (inr old) = in-back f current (insert_all gone s.retired) (in-all_more gone s.retired f old)

known-registered : (app : App) (s : State) → K [] (core s) → K [] (core (with_functions app s))
known-registered app s h =
    known-more (s.functions ++ s.retired) ((with_functions app s).functions ++ (with_functions app s).retired) s.texts
    s.texts s.live s.closing s.windows (still-there app s) (λ n k. k) h

-- ## What goes at the end of a step

first-of : (a b c : Bool) → a ≡ true → (a || b || c) ≡ true
first-of a b c h = or-left (a || b) c (or-left a b h)

second-of : (a b c : Bool) → b ≡ true → (a || b || c) ≡ true
second-of a b c h = or-left (a || b) c (or-right a b h)

version-kept : (t : State) (current retired : List FunctionEntry) (version : ℕ)
    → ((f : FunctionEntry) → f.version ≡ version → is_version_named t f ≡ true)
    → HasVersion (current ++ retired) version
    → HasVersion (current ++ filter (is_version_named t) retired) version
version-kept t current retired version named h =
    (h.0, (of_either (in-either h.0 current retired h.1.0), h.1.1))
  where
    of_either : IsIn h.0 current ⊎ IsIn h.0 retired → IsIn h.0 (current ++ filter (is_version_named t) retired)
    of_either (inl own) = in-front h.0 current (filter (is_version_named t) retired) own
    of_either (inr old) = in-back h.0 current (filter (is_version_named t) retired)
        (in-kept (is_version_named t) h.0 retired old (named h.0 (sym (eqb-true version h.0.version h.1.1))))

texts-kept : (t : State) (texts : List EventText) (ns : List ℕ)
    → ((e : EventText) → is_in e.number ns ≡ true → is_named t e ≡ true)
    → HaveTexts texts ns → HaveTexts (filter (is_named t) texts) ns
texts-kept t texts ns named h =
    all-both (HasText texts) (λ n. IsIn n ns) (HasText (filter (is_named t) texts)) ns
    (λ n k there. (
      k.0,
      (
        in-kept (is_named t) k.0 texts k.1.0
            (named k.0 (any-in (λ m. k.0.number == m) n ns there
            (eq-eqb k.0.number n (sym (eqb-true n k.0.number k.1.1))))),
        k.1.1,
      ),
    )) h (each-in ns)

-- what the state that is left names is there still
kept-all : {X : Type 0} (t : State) (current retired : List FunctionEntry) (texts : List EventText) (version_of : X → ℕ)
    (events_of : X → List ℕ) (xs : List X)
    → ((x : X) → IsIn x xs → (f : FunctionEntry) → f.version ≡ version_of x → is_version_named t f ≡ true)
    → ((x : X) → IsIn x xs → (e : EventText) → is_in e.number (events_of x) ≡ true → is_named t e ≡ true)
    → AllByRecursion (λ x. Known (current ++ retired) texts (version_of x) (events_of x)) xs
    → AllByRecursion (λ x. Known (current ++ filter (is_version_named t) retired) (filter (is_named t) texts)
    (version_of x) (events_of x)) xs
kept-all t current retired texts version_of events_of xs versions events h =
    all-both (λ x. Known (current ++ retired) texts (version_of x) (events_of x)) (λ x. IsIn x xs)
    (λ x. Known (current ++ filter (is_version_named t) retired) (filter (is_named t) texts) (version_of x)
    (events_of x)) xs
    (λ x k there. (
      version-kept t current retired (version_of x) (versions x there) k.0,
      texts-kept t texts (events_of x) (events x there) k.1,
    )) h (each-in xs)

known-tidied : (s : State) → K [] (core s) → K [] (core (without_unnamed (without_closed s)))
known-tidied s h =
    let t : State = without_closed s in
    record {
      live_known = kept-all t s.functions s.retired s.texts (λ (r : Run). r.version) (λ (r : Run). r.events) t.live
          (λ r there f same. first-of _ _ _
          (any-in (λ (q : Run). f.version == q.version) r t.live there (eq-eqb f.version r.version same)))
          (λ r there e own. first-of _ _ _ (any-in (λ (q : Run). is_in e.number q.events) r t.live there own))
          h.live_known;
      closing_known = kept-all t s.functions s.retired s.texts (λ (r : Run). r.version) (λ (r : Run). r.events)
          t.closing
          (λ r there f same. second-of _ _ _
          (any-in (λ (q : Run). f.version == q.version) r t.closing there (eq-eqb f.version r.version same)))
          (λ r there e own. or-right (is_used t e) _
          (any-in (λ (q : Run). is_in e.number q.events) r t.closing there own))
          (all-filter (IsRunKnown (s.functions ++ s.retired) s.texts)
          (λ (r : Run). has_open_call s.issues r.number) s.closing h.closing_known);
      windows_known = kept-all t s.functions s.retired s.texts windows.version_of windows.events_of t.windows
          (λ w there f same. or-right (list_any (λ (r : Run). f.version == r.version) t.live
          || list_any (λ (r : Run). f.version == r.version) t.closing) _
          (any-in (λ v. f.version == windows.version_of v) w t.windows there
          (eq-eqb f.version (windows.version_of w) same)))
          (λ w there e own. or-left (is_used t e) _
          (or-right (list_any (λ (r : Run). is_in e.number r.events) t.live) _
          (any-in (λ v. is_in e.number (windows.events_of v)) w t.windows there own)))
          h.windows_known;
    }

-- ## Steps

known-steps : CarriesSteps Any K
known-steps = record {
  changes = known-changes;
  closes = λ i s rise there any h. h;
  reopens = λ s any h. h;
  drops = λ i is s done any h. h;
  leaves = λ i no_retry ops s has own over any_before before any h. h;
  queues = λ i j is r s its start live new any h. h;
  issues = λ i s apart there any h. known-run_changed i.run (called i.target) s (λ q k. k) h;
  registers = λ app s any h. known-registered app s h;
  tidies = λ s any h. known-tidied s h;
}

-- ## What follows

found-has : {X : Type 0} (p : X → Bool) (xs : List X) → Has p xs → is_some (find p xs) ≡ true
found-has {X = X} p xs h = some (find p xs) (any-found p xs (any-in p h.0 xs h.1.0 h.1.1))
  where
    some : (o : Option X) → IsSomeAnd o (λ x. p x ≡ true) → is_some o ≡ true
    some None k = absurd k
    some (Some x) k = refl

all-texts : (s : State) (ns : List ℕ) → HaveTexts s.texts ns → HasTexts s ns
all-texts s ns h = all-weaker (HasText s.texts) (λ n. is_some (find (λ (e : EventText). n == e.number) s.texts) ≡ true)
    ns (λ n k. found-has (λ (e : EventText). n == e.number) s.texts k) h

function-there : (s : State) (version : ℕ) → HasVersion (s.functions ++ s.retired) version → HasFunction s version
function-there s version h = found-has (λ (f : FunctionEntry). version == f.version) (s.functions ++ s.retired) h

pub named-fold : (limits : Limits) (inputs : List Input) → HasNamed (fold limits inputs)
named-fold limits inputs =
    let s : State = fold limits inputs in
    let h : K [] (core s) = carried-fold K known-steps limits inputs
    (record { live_known = tt; closing_known = tt; windows_known = tt }) in
    let P : Run → Type 0 = λ (r : Run). HasFunction s r.version × HasTexts s r.events in
    record {
      runs = all-append P s.live s.closing
          (all-weaker (IsRunKnown (s.functions ++ s.retired) s.texts) P s.live
          (λ (r : Run) k. (function-there s r.version k.0, all-texts s r.events k.1)) h.live_known)
          (all-weaker (IsRunKnown (s.functions ++ s.retired) s.texts) P s.closing
          (λ (r : Run) k. (function-there s r.version k.0, all-texts s r.events k.1)) h.closing_known);
      windows = all-weaker (IsWindowKnown (s.functions ++ s.retired) s.texts) (HasWindowNamed s) s.windows
          (λ w k. (
            function-there s (windows.version_of w) k.0,
            all-texts s (windows.events_of w) k.1,
          )) h.windows_known;
      issues = there-fold limits inputs;
    }

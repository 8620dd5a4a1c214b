-- A fit state stays so where windows change, and where a run is made.
use Rattle.std.proofs.Common.{◌≡◌, ℕ, ◌+◌, ◌≤◌, ◌==◌, Bool, true, false, not, ◌&&◌, ◌||◌, cond, List, [], ◌∷◌, ◌++◌, filter, length, Option, Some, None, IfSome, is_some, option_map, refl, sym, ap₂, ◌∙◌, subst, nat_le, nat_lt, arith, eq-eqb, eqb-true, bytes_eq}
use Rattle.std.specs.List.{AllByRecursion}
use Rattle.std.specs.Ordering.{is_lt}
use Rattle.kinds.specs.Cells.{IsStart}
use Rattle.kinds.specs.Moments.{last_moment}
use Rattle.kinds.specs.Windows as windows
use Rattle.kinds.specs.Windows.{IsDated, after_event, capped, has_room, insert_window, is_full, is_of, joined, opened, others}
use Rattle.kinds.specs.declared.function.Throttle.{Throttle}
use Rattle.kinds.specs.declared.store.Parent.{Parent}
use Rattle.kinds.specs.declared.window.Window.{Window}
use Rattle.kinds.specs.declared.window.Window.TheVariants as window
use Rattle.kinds.specs.declared.window.WindowRule.{WindowRule}
use Rattle.kinds.specs.declared.window.WindowRule.TheVariants as rule
use Rattle.functions.specs.declared.entry.FunctionEntry.{FunctionEntry}
use Rattle.lists.proofs.Elements.{all-filter, all-last, all-weaker, filter-passes}
use Rattle.lists.proofs.Texts.{bytes_flip}
use Rattle.lists.specs.Entries.{key_of, pair_cmp}
use Rattle.event_keys.specs.Cells.{throttle_cell}
use Rattle.run_model.specs.Advance.{without_window}
use Rattle.run_model.specs.Events.{window_of, window_rule_of}
use Rattle.run_model.specs.Fit.{AreGiven, HasRoom, IsFit, IsFunctionFit, IsRunFit, IsThrottleInRange, IsWindowFit}
use Rattle.run_model.specs.Laws.{IsIn}
use Rattle.run_model.specs.Making.{first_of, text_or_none}
use Rattle.run_model.specs.Sound.{ArePairwise, Suits, is_same_window}
use Rattle.run_model.specs.State.{State, Run, text_of}
use Rattle.run_model.proofs.FitCounts.{fit-entries, fit-live, fit-runs, fit-windows}
use Rattle.run_model.proofs.FitShifts.{shift-within}
use Rattle.run_model.proofs.Kept.{IsFunction, MayJoin, run_from, started, window_after, with_offer}
use Rattle.run_model.proofs.Members.{in-all, in-found}
use Rattle.run_model.proofs.SettlingLists.{found-passes}

-- ## A run is made

start-in-range : (id event : List ℕ) (throttle : Option Throttle) → IfSome throttle IsThrottleInRange
    → IsStart (option_map (throttle_cell id event) throttle)
start-in-range id event None h = tt
start-in-range id event (Some t) h = h

pub fit-started : (f : FunctionEntry) (events : List ℕ) (parent : Option Parent) (s : State)
    → IsFunction f s → AreGiven s.events events → IsFit s → IsFit (started f events parent s)
fit-started f events parent s there given h =
    let fits : IsFunctionFit s.versions f = h.functions_fit.each f there in
    let event : List ℕ = text_or_none (text_of (first_of events) s) in
    let r : Run = run_from f events parent s in
    let more : IsFit (record s { runs = s.runs + 1 }) = fit-runs s h in
    fit-live (s.live ++ r ∷ []) (record s { runs = s.runs + 1 })
    (all-last (IsRunFit (s.runs + 1) s.events s.versions) s.live r more.live_fit
    (record {
      number = omega arith;
      version = fits.version;
      named = given;
      moment = h.dated;
      shift = shift-within f.function.priority event;
      start = start-in-range f.function.id event f.function.throttle fits.range.throttle;
    })) more

-- ## Windows that go

pub pairs-filter : {X : Type 0} (R : X → X → Type 0) (test : X → Bool) (xs : List X) → ArePairwise R xs
    → ArePairwise R (filter test xs)
pairs-filter R test [] h = tt
pairs-filter R test (x ∷ xs) h =
    elim (test x) as (λ b. ArePairwise R (cond b (x ∷ filter test xs) (filter test xs))) [
      | true ↦ (all-filter (R x) test xs h.0, pairs-filter R test xs h.1)
      | false ↦ pairs-filter R test xs h.1
    ]

pub fit-windows_left : (test : Window → Bool) (s : State) → IsFit s
    → IsFit (record s { windows = filter test s.windows })
fit-windows_left test s h = fit-windows (filter test s.windows) s
    (record {
      each = all-filter (IsWindowFit s.events s.entries s.versions) test s.windows h.windows_fit.each;
      room = λ f there. all-filter (HasRoom f) test s.windows (h.windows_fit.room f there);
      apart = pairs-filter (λ w later. is_same_window w later ≡ false) test s.windows h.windows_fit.apart;
    }) h

pub fit-fired : (f : FunctionEntry) (w : Window) (s : State) → IsFunction f s → IsIn w s.windows → IsFit s
    → IsFit (started f (windows.events_of w) None (without_window (windows.number_of w) s))
fit-fired f w s there stands h =
    fit-started f (windows.events_of w) None (without_window (windows.number_of w) s) there
    (in-all (IsWindowFit s.events s.entries s.versions) w s.windows stands h.windows_fit.each).named
    (fit-windows_left (λ other. not (windows.has_number (windows.number_of w) other)) s h)

-- ## A window after an event

-- the window that is there before, with what holds of it
pub record IsBefore (events entries versions : ℕ) (f : FunctionEntry) (r : WindowRule) (w : Window) : Type 0 where
  pub fits : IsWindowFit events entries versions w
  pub own : f.version ≡ windows.version_of w
  pub room : Suits w r

joined-given : (events : ℕ) (r : WindowRule) (event t : ℕ) (w : Window) → event ≤ events
    → AreGiven events (windows.events_of w) → AreGiven events (windows.events_of (joined r event t w))
joined-given events (rule.Debounce d) event t (window.Debounce number version value last first due) given h =
    (given, tt)
joined-given events (rule.Debounce d) event t (window.Batch number version value es due) given h = h
joined-given events (rule.Batch b) event t (window.Debounce number version value last first due) given h = h
joined-given events (rule.Batch b) event t (window.Batch number version value es due) given h =
    all-last (λ n. n ≤ events) es event h given

joined-dated : (r : WindowRule) (event t : ℕ) (w : Window) → IsDated w → IsDated (joined r event t w)
joined-dated (rule.Debounce d) event t (window.Debounce number version value last first due) h = h
joined-dated (rule.Debounce d) event t (window.Batch number version value es due) h = h
joined-dated (rule.Batch b) event t (window.Debounce number version value last first due) h = h
joined-dated (rule.Batch b) event t (window.Batch number version value es due) h = h

pub joined-number : (r : WindowRule) (event t : ℕ) (w : Window)
    → windows.number_of (joined r event t w) ≡ windows.number_of w
joined-number (rule.Debounce d) event t (window.Debounce number version value last first due) = refl
joined-number (rule.Debounce d) event t (window.Batch number version value es due) = refl
joined-number (rule.Batch b) event t (window.Debounce number version value last first due) = refl
joined-number (rule.Batch b) event t (window.Batch number version value es due) = refl

pub joined-value : (r : WindowRule) (event t : ℕ) (w : Window)
    → windows.value_of (joined r event t w) ≡ windows.value_of w
joined-value (rule.Debounce d) event t (window.Debounce number version value last first due) = refl
joined-value (rule.Debounce d) event t (window.Batch number version value es due) = refl
joined-value (rule.Batch b) event t (window.Debounce number version value last first due) = refl
joined-value (rule.Batch b) event t (window.Batch number version value es due) = refl

pub joined-version : (r : WindowRule) (event t : ℕ) (w : Window)
    → windows.version_of (joined r event t w) ≡ windows.version_of w
joined-version (rule.Debounce d) event t (window.Debounce number version value last first due) = refl
joined-version (rule.Debounce d) event t (window.Batch number version value es due) = refl
joined-version (rule.Batch b) event t (window.Debounce number version value last first due) = refl
joined-version (rule.Batch b) event t (window.Batch number version value es due) = refl

-- a batch that isn't full has room
not-full : (size n : ℕ) → nat_le size n ≡ false → nat_lt n size ≡ true
not-full size n e = grind (arith, e)

-- the lesser of a due and a bound
capped-within : (timeout : Option ℕ) (first due : ℕ)
    → IfSome timeout (λ most. capped (option_map (λ most. first + most) timeout) due ≤ first + most)
capped-within None first due = tt
capped-within (Some most) first due = grind arith

joined-suits : (r : WindowRule) (event t : ℕ) (w : Window) → Suits w r
    → is_full r (joined r event t w) ≡ false → Suits (joined r event t w) r
joined-suits (rule.Debounce d) event t (window.Debounce number version value last first due) h e =
    capped-within d.timeout first (t + d.period)
joined-suits (rule.Debounce d) event t (window.Batch number version value es due) h e = h
joined-suits (rule.Batch b) event t (window.Debounce number version value last first due) h e = h
joined-suits (rule.Batch b) event t (window.Batch number version value es due) h e =
    not-full b.size (length (es ++ event ∷ [])) e

opened-fit : (events entries versions : ℕ) (r : WindowRule) (version : ℕ) (value : List ℕ) (event t : ℕ)
    → version ≤ versions → event ≤ events → t ≤ last_moment
    → IsWindowFit events (entries + 1) versions (opened r version value event t (entries + 1))
opened-fit events entries versions (rule.Debounce d) version value event t a b c =
    record { number = omega arith; version = a; named = (b, tt); dated = c }
opened-fit events entries versions (rule.Batch d) version value event t a b c =
    record { number = omega arith; version = a; named = (b, tt); dated = tt }

pub opened-version : (r : WindowRule) (version : ℕ) (value : List ℕ) (event t number : ℕ)
    → windows.version_of (opened r version value event t number) ≡ version
opened-version (rule.Debounce d) version value event t number = refl
opened-version (rule.Batch b) version value event t number = refl

opened-given : (events : ℕ) (r : WindowRule) (version : ℕ) (value : List ℕ) (event t number : ℕ)
    → event ≤ events → AreGiven events (windows.events_of (opened r version value event t number))
opened-given events (rule.Debounce d) version value event t number given = (given, tt)
opened-given events (rule.Batch b) version value event t number given = (given, tt)

opened-suits : (r : WindowRule) (version : ℕ) (value : List ℕ) (event t number : ℕ)
    → is_full r (opened r version value event t number) ≡ false
    → Suits (opened r version value event t number) r
opened-suits (rule.Debounce d) version value event t number e = capped-within d.timeout t (t + d.period)
opened-suits (rule.Batch b) version value event t number e = not-full b.size (length (event ∷ [])) e

-- ## The window that is there before

pub and-first : (a b : Bool) → (a && b) ≡ true → a ≡ true
and-first true b h = refl
and-first false b h = absurd (cc)

pub is-before : (f : FunctionEntry) (r : WindowRule) (value : List ℕ) (event : ℕ) (s : State)
    → MayJoin f r event s → IsFit s → (w : Window) → window_of f.version value s ≡ Some w
    → IsBefore s.events s.entries s.versions f r w
is-before f r value event s may h w e =
    let stands : IsIn w s.windows = in-found (is_of f.version value) s.windows w e in
    let own : f.version ≡ windows.version_of w =
    eqb-true f.version (windows.version_of w)
    (and-first (f.version == windows.version_of w) (bytes_eq value (windows.value_of w))
    (found-passes (is_of f.version value) s.windows w e)) in
    record {
      fits = in-all (IsWindowFit s.events s.entries s.versions) w s.windows stands h.windows_fit.each;
      own = own;
      room = subst (λ (o : Option WindowRule). IfSome o (Suits w)) may.rule
          (in-all (HasRoom f) w s.windows stands (h.windows_fit.room f may.there) own);
    }

-- ## A window that takes an event and stays

pub all-inserted_in : (P : Window → Type 0) (w : Window) (ws : List Window) → P w → AllByRecursion P ws
    → AllByRecursion P (insert_window w ws)
all-inserted_in P w [] own h = (own, tt)
all-inserted_in P w (v ∷ ws) own h =
    elim (is_lt (pair_cmp (key_of windows.kind_of windows.number_of w)
    (key_of windows.kind_of windows.number_of v)))
    as (λ b. AllByRecursion P (cond b (w ∷ v ∷ ws) (v ∷ insert_window w ws)))
    [ true ↦ (own, h) | false ↦ (h.0, all-inserted_in P w ws own h.1) ]

pub not-true : (b : Bool) → not b ≡ true → b ≡ false
not-true true e = absurd (cc)
not-true false e = refl

eqb-flip : (a b : ℕ) → (a == b) ≡ (b == a)
eqb-flip a b = by_tests (a == b) (b == a) refl refl
  where
    by_tests : (c d : Bool) → (a == b) ≡ c → (b == a) ≡ d → c ≡ d
    by_tests true true e f = refl
    by_tests true false e f = let no : (b == a) ≡ true = eq-eqb b a (sym (eqb-true a b e)) in absurd (cc)
    by_tests false true e f = let no : (a == b) ≡ true = eq-eqb a b (sym (eqb-true b a f)) in absurd (cc)
    by_tests false false e f = refl

-- which of two windows comes first makes no difference
same-flip : (v w : Window) → is_same_window w v ≡ false → is_same_window v w ≡ false
same-flip v w h =
    ap₂ (λ a b. a && b) (eqb-flip (windows.version_of v) (windows.version_of w))
    (bytes_flip (windows.value_of v) (windows.value_of w)) ∙ h

abbrev AreApart : List Window → Type 0
AreApart ws = ArePairwise (λ w later. is_same_window w later ≡ false) ws

apart-inserted : (w : Window) (ws : List Window) → AllByRecursion (λ v. is_same_window w v ≡ false) ws
    → AreApart ws → AreApart (insert_window w ws)
apart-inserted w [] h apart = (tt, tt)
apart-inserted w (v ∷ ws) h apart =
    elim (is_lt (pair_cmp (key_of windows.kind_of windows.number_of w)
    (key_of windows.kind_of windows.number_of v)))
    as (λ b. AreApart (cond b (w ∷ v ∷ ws) (v ∷ insert_window w ws))) [
      | true ↦ (h, apart)
      | false ↦ (
        all-inserted_in (λ u. is_same_window v u ≡ false) w ws (same-flip v w h.0) apart.0,
        apart-inserted w ws h.1 apart.1,
      )
    ]

abbrev pub replaced : Window → State → List Window
replaced w s = insert_window w (others (windows.version_of w) (windows.value_of w) s.windows)

fit-replaced : (f : FunctionEntry) (r : WindowRule) (w : Window) (s : State)
    → IsFunction f s → window_rule_of f.function ≡ Some r → windows.version_of w ≡ f.version
    → IsWindowFit s.events s.entries s.versions w → Suits w r → IsFit s
    → IsFit (record s { windows = replaced w s })
fit-replaced f r w s there e own fits room h =
    let test : Window → Bool = λ v. not (is_of (windows.version_of w) (windows.value_of w) v) in
    fit-windows (replaced w s) s
    (record {
      each = all-inserted_in (IsWindowFit s.events s.entries s.versions) w (filter test s.windows) fits
          (all-filter (IsWindowFit s.events s.entries s.versions) test s.windows h.windows_fit.each);
      room = λ g stands. all-inserted_in (HasRoom g) w (filter test s.windows)
          (λ same. subst (λ (k : FunctionEntry). IfSome (window_rule_of k.function) (Suits w)) (h.functions_fit.one f g there stands (sym (same ∙ own)))
          (subst (λ (o : Option WindowRule). IfSome o (Suits w)) (sym e) room))
          (all-filter (HasRoom g) test s.windows (h.windows_fit.room g stands));
      apart = apart-inserted w (filter test s.windows)
          (all-weaker (λ v. test v ≡ true) (λ v. is_same_window w v ≡ false) (filter test s.windows)
          (λ v k. not-true (is_same_window w v) k) (filter-passes test s.windows))
          (pairs-filter (λ v later. is_same_window v later ≡ false) test s.windows h.windows_fit.apart);
    }) h

-- the state with a window after an event, full or not, and one before it or not
abbrev pub with_after : Bool → Bool → Window → State → State
with_after full there w s = record s {
  windows = cond full (others (windows.version_of w) (windows.value_of w) s.windows) (replaced w s);
  entries = cond (not (there || full)) (s.entries + 1) s.entries;
}

fit-joins : (f : FunctionEntry) (r : WindowRule) (value : List ℕ) (event : ℕ) (s : State) (before : Option Window)
    → MayJoin f r event s → ((w : Window) → before ≡ Some w → IsBefore s.events s.entries s.versions f r w)
    → is_full r (after_event r f.version value event s.moment (s.entries + 1) before) ≡ false → IsFit s
    → IsFit (with_after false (is_some before)
    (after_event r f.version value event s.moment (s.entries + 1) before) s)
fit-joins f r value event s None may known e h =
    let t : State = record s { entries = s.entries + 1 } in
    let w : Window = opened r f.version value event s.moment (s.entries + 1) in
    fit-replaced f r w t may.there may.rule (opened-version r f.version value event s.moment (s.entries + 1))
    (opened-fit s.events s.entries s.versions r f.version value event s.moment
    (h.functions_fit.each f may.there).version may.given h.dated)
    (opened-suits r f.version value event s.moment (s.entries + 1) e) (fit-entries s h)
fit-joins f r value event s (Some w) may known e h =
    let was : IsBefore s.events s.entries s.versions f r w = known w refl in
    let number = joined-number r event s.moment w in
    let version = joined-version r event s.moment w in
    fit-replaced f r (joined r event s.moment w) s may.there may.rule (version ∙ sym was.own)
    (record {
      number = subst (λ n. n ≤ s.entries) (sym number) was.fits.number;
      version = subst (λ n. n ≤ s.versions) (sym version) was.fits.version;
      named = joined-given s.events r event s.moment w may.given was.fits.named;
      dated = joined-dated r event s.moment w was.fits.dated;
    }) (joined-suits r event s.moment w was.room e) h

pub fit-joined : (f : FunctionEntry) (r : WindowRule) (value : List ℕ) (event : ℕ) (s : State)
    → MayJoin f r event s → is_full r (window_after f r value event s) ≡ false → IsFit s
    → IsFit (with_offer f r value event s)
fit-joined f r value event s may e h =
    subst (λ b. IsFit (with_after b (is_some (window_of f.version value s)) (window_after f r value event s) s))
    (sym e) (fit-joins f r value event s (window_of f.version value s) may (is-before f r value event s may h) e h)

-- ## A window that is full

pub after-given : (f : FunctionEntry) (r : WindowRule) (value : List ℕ) (event : ℕ) (s : State)
    (before : Option Window) → event ≤ s.events
    → ((w : Window) → before ≡ Some w → IsBefore s.events s.entries s.versions f r w)
    → AreGiven s.events
    (windows.events_of (after_event r f.version value event s.moment (s.entries + 1) before))
after-given f r value event s None given known =
    opened-given s.events r f.version value event s.moment (s.entries + 1) given
after-given f r value event s (Some w) given known =
    joined-given s.events r event s.moment w given (known w refl).fits.named

pub full-keeps : (there : Bool) (w : Window) (s : State)
    → IsFit (record s { windows = others (windows.version_of w) (windows.value_of w) s.windows })
    → IsFit (with_after true there w s)
full-keeps true w s h = h
full-keeps false w s h = h

pub fit-filled : (f : FunctionEntry) (r : WindowRule) (value : List ℕ) (event : ℕ) (s : State)
    → MayJoin f r event s → is_full r (window_after f r value event s) ≡ true → IsFit s
    → IsFit (started f (windows.events_of (window_after f r value event s)) None (with_offer f r value event s))
fit-filled f r value event s may e h =
    let w : Window = window_after f r value event s in
    let before : Option Window = window_of f.version value s in
    fit-started f (windows.events_of w) None (with_offer f r value event s) may.there
    (after-given f r value event s before may.given (is-before f r value event s may h))
    (subst (λ b. IsFit (with_after b (is_some before) w s)) (sym e)
    (full-keeps (is_some before) w s
    (fit-windows_left (λ v. not (is_of (windows.version_of w) (windows.value_of w) v)) s h)))

-- The cells and the throttle of a run are those of its function and its first event: at each change, and so through
-- each step.
use Rattle.std.proofs.Common.{◌≡◌, ℕ, ◌⊎◌, inl, inr, ◌+◌, ◌<◌, ◌≤◌, ◌==◌, true, not, List, [], ◌∷◌, ◌++◌, filter, find, length, Option, Some, None, IfSome, refl, sym, ap, subst, arith, eq-eqb, eqb-true}
use Rattle.std.specs.List.{AllByRecursion}
use Rattle.kinds.specs.Inputs.{reading}
use Rattle.kinds.specs.Moments.{last_moment}
use Rattle.kinds.specs.Windows as windows
use Rattle.kinds.specs.declared.event.EventIn.{EventIn}
use Rattle.kinds.specs.declared.function.App.{App}
use Rattle.kinds.specs.declared.input.Input.{Input}
use Rattle.kinds.specs.declared.limits.Limits.{Limits}
use Rattle.kinds.specs.declared.store.Item.{Item}
use Rattle.kinds.specs.declared.store.Parent.{Parent}
use Rattle.kinds.specs.declared.store.RunStatus.{RunStatus}
use Rattle.functions.specs.Functions.{new_in}
use Rattle.functions.specs.declared.entry.FunctionEntry.{FunctionEntry}
use Rattle.event_keys.specs.Cells.{cells_of, start_of}
use Rattle.lists.proofs.Elements.{all-both, all-filter, all-last, all-weaker}
use Rattle.run_model.specs.Ends.{end_run, run_number}
use Rattle.run_model.specs.Events.{add_event, event_with}
use Rattle.run_model.specs.Fit.{AreRunsFit, IsFit, IsInRange, IsRunFit}
use Rattle.run_model.specs.Laws.{IsIn}
use Rattle.run_model.specs.Machine.{fold, state_after, step, with_functions}
use Rattle.run_model.specs.Making.{first_of, text_or_none}
use Rattle.run_model.specs.Recording.{change_run, record_in}
use Rattle.run_model.specs.Replies.{want, with_plan}
use Rattle.run_model.specs.Requests.{remember}
use Rattle.run_model.specs.Settle.{called}
use Rattle.run_model.specs.Sound.{HasCells, IsFixed}
use Rattle.run_model.specs.State.{State, Run, EventText, empty, function_at, has_open_call, is_in, is_named, is_version_named, tidied, without_closed}
use Rattle.run_model.proofs.Dated.{By, IsRunBy, all-named, by-empty, by-steps, keeps-by}
use Rattle.run_model.proofs.FitEvents.{find-last}
use Rattle.run_model.proofs.FitFunctions.{IsNew, IsOldOrNew, is-new, old-or-new}
use Rattle.run_model.proofs.FitRuns.{all-changed, all-inserted, first-given, fit-invocations, fit-record_result, fit-rules, fit-sleeps, fit-waits}
use Rattle.run_model.proofs.FitSteps.{FitBeside, fit-changes, fit-drops, fit-empty, keeps-calls, keeps-steps, moment-within}
use Rattle.run_model.proofs.Kept.{IsFunction, IsLive, Keeps, freely, keeps-both, run_from, started, window_after}
use Rattle.run_model.proofs.KeptReplies.{dropping}
use Rattle.run_model.proofs.KeptSteps.{KeepsSteps, kept-step}
use Rattle.run_model.proofs.Members.{any-in, each-in, in-all, in-back, in-either, in-filter, in-found, in-front}
use Rattle.run_model.proofs.SettlingLists.{all-append, find-filter, found-passes, or-left, or-right}

-- ## What holds

-- the text of a run's first event
abbrev text_in : List EventText → Run → List ℕ
text_in texts r = text_or_none (find (λ (e : EventText). first_of r.events == e.number) texts)

abbrev Fixed : List FunctionEntry → List ℕ → Run → Type 0
Fixed fs text r = (f : FunctionEntry) → IsIn f fs → f.version ≡ r.version
    → (r.cells ≡ cells_of f.function text) × (r.start ≡ start_of f.function text)

abbrev FixedIn : List FunctionEntry → List EventText → Run → Type 0
FixedIn fs texts r = Fixed fs (text_in texts r) r

abbrev AllFixed : State → Type 0
AllFixed s = AllByRecursion (FixedIn (s.functions ++ s.retired) s.texts) s.live
    × AllByRecursion (FixedIn (s.functions ++ s.retired) s.texts) s.closing

abbrev FitAndFixed : State → Type 0
FitAndFixed s = IsFit s × AllFixed s

-- ## The changes

-- a text that comes is of another event
fixed-more : (fs : List FunctionEntry) (texts : List EventText) (e : EventText) (runs events versions : ℕ)
    (rs : List Run) → e.number ≡ events + 1 → AreRunsFit runs events versions rs
    → AllByRecursion (FixedIn fs texts) rs → AllByRecursion (FixedIn fs (texts ++ e ∷ [])) rs
fixed-more fs texts e runs events versions rs next fits h =
    all-both (IsRunFit runs events versions) (FixedIn fs texts) (FixedIn fs (texts ++ e ∷ [])) rs
    (λ r (fit : IsRunFit runs events versions r) k.
    let low : first_of r.events ≤ events = first-given events r.events fit.named in
    subst (λ text. Fixed fs text r)
    (sym (ap text_or_none (find-last (λ (x : EventText). first_of r.events == x.number) texts e
    (λ same. let own = eqb-true (first_of r.events) e.number same in omega (arith, low, next, own))))) k) fits h

fixed-accepted : (event : EventIn) (id : Option (List ℕ)) (s : State) → FitAndFixed s
    → AllFixed (add_event (event_with event s) (remember id s))
fixed-accepted event None s h = (
  fixed-more (s.functions ++ s.retired) s.texts
      (record { number = s.events + 1; text = (event_with event s).text }) s.runs s.events s.versions s.live refl
      h.0.live_fit h.1.0,
  fixed-more (s.functions ++ s.retired) s.texts
      (record { number = s.events + 1; text = (event_with event s).text }) s.runs s.events s.versions s.closing refl
      h.0.closing_fit h.1.1,
)
fixed-accepted event (Some id) s h = (
  fixed-more (s.functions ++ s.retired) s.texts
      (record { number = s.events + 1; text = (event_with event s).text }) s.runs s.events s.versions s.live refl
      h.0.live_fit h.1.0,
  fixed-more (s.functions ++ s.retired) s.texts
      (record { number = s.events + 1; text = (event_with event s).text }) s.runs s.events s.versions s.closing refl
      h.0.closing_fit h.1.1,
)

fixed-started : (f : FunctionEntry) (events : List ℕ) (parent : Option Parent) (s : State) → IsFunction f s → IsFit s
    → AllFixed s → AllFixed (started f events parent s)
fixed-started f events parent s there fit h = (
  all-last (FixedIn (s.functions ++ s.retired) s.texts) s.live (run_from f events parent s) h.0 own,
  h.1,
)
  where
    own : FixedIn (s.functions ++ s.retired) s.texts (run_from f events parent s)
    own g its same = subst (λ (k : FunctionEntry).
        ((run_from f events parent s).cells ≡ cells_of k.function (text_in s.texts (run_from f events parent s)))
        × ((run_from f events parent s).start ≡ start_of k.function (text_in s.texts (run_from f events parent s))))
        (fit.functions_fit.one f g there its (sym same)) (refl, refl)

fixed-changed : (number : ℕ) (f : Run → Run) (s : State)
    → ((r : Run) → FixedIn (s.functions ++ s.retired) s.texts r → FixedIn (s.functions ++ s.retired) s.texts (f r))
    → AllFixed s → AllFixed (change_run number f s)
fixed-changed number f s keeps h =
    (all-changed (FixedIn (s.functions ++ s.retired) s.texts) number f s.live keeps h.0, h.1)

fixed-ended : (r : Run) (status : RunStatus) (s : State) → IsLive r s → AllFixed s → AllFixed (end_run r status s)
fixed-ended r status s live h = (
  all-filter (FixedIn (s.functions ++ s.retired) s.texts) (λ (q : Run). not (r.number == q.number)) s.live h.0,
  all-inserted (FixedIn (s.functions ++ s.retired) s.texts) run_number r s.closing
      (in-all (FixedIn (s.functions ++ s.retired) s.texts) r s.live
      (in-found (λ (q : Run). r.number == q.number) s.live r live) h.0) h.1,
)

keeps-fixed : Keeps FitAndFixed
keeps-fixed = freely FitAndFixed (record {
  accepts = λ event id s new h. (fit-changes.accepts event id s new h.0, fixed-accepted event id s h);
  starts = λ f event parent s there given h. (
    fit-changes.starts f event parent s there given h.0,
    fixed-started f (event ∷ []) parent s there h.0 h.1,
  );
  fills = λ f r value event s may full h. (
    fit-changes.fills f r value event s may full h.0,
    fixed-started f (windows.events_of (window_after f r value event s)) None s may.there h.0 h.1,
  );
  fires = λ f w s there stands h. (
    fit-changes.fires f w s there stands h.0,
    fixed-started f (windows.events_of w) None s there h.0 h.1,
  );
  joins = λ f r value event s may full h. (fit-changes.joins f r value event s may full h.0, h.1);
  windows_go = λ number s h. (fit-changes.windows_go number s h.0, h.1);
  rules = λ r event c s there e h. (fit-changes.rules r event c s there e h.0, h.1);
  finds_out = λ r s there h. (fit-changes.finds_out r s there h.0, h.1);
  wants = λ r s live h. (fit-changes.wants r s live h.0, fixed-changed r.number want s (λ q k. k) h.1);
  plans = λ r name s live new h.
      (fit-changes.plans r name s live new h.0, fixed-changed r.number (with_plan name) s (λ q k. k) h.1);
  sleeps = λ r name t s live new h.
      (fit-changes.sleeps r name t s live new h.0, fixed-changed r.number _ s (λ q k. k) h.1);
  waits = λ r name event t given s live new h.
      (fit-changes.waits r name event t given s live new h.0, fixed-changed r.number _ s (λ q k. k) h.1);
  pends = λ r name s live new h.
      (fit-changes.pends r name s live new h.0, fixed-changed r.number _ s (λ q k. k) h.1);
  invokes = λ r name child t s there h. (fit-changes.invokes r name child t s there h.0, h.1);
  ends = λ r status s live h. (fit-changes.ends r status s live h.0, fixed-ended r status s live h.1);
}) (record {
  records = λ run name result s h. (
    fit-record_result run name result s h.0,
    fixed-changed run (record_in name result) s (λ q k. k) h.1,
  );
  sleeps_go = λ test s h. (fit-sleeps test s h.0, h.1);
  waits_go = λ test s h. (fit-waits test s h.0, h.1);
  invocations_go = λ test s h. (fit-invocations test s h.0, h.1);
  rules_go = λ test s h. (fit-rules test s h.0, h.1);
})

-- ## Functions that come, and what goes at the end of a step

fixed-registered : (app : App) (s : State) → FitAndFixed s → AllFixed (with_functions app s)
fixed-registered app s h = (all-after s.live h.0.live_fit h.1.0, all-after s.closing h.0.closing_fit h.1.1)
  where
    of_either : (r : Run) → r.version ≤ s.versions → FixedIn (s.functions ++ s.retired) s.texts r
        → (f : FunctionEntry) → IsOldOrNew app s f → f.version ≡ r.version
        → (r.cells ≡ cells_of f.function (text_in s.texts r)) × (r.start ≡ start_of f.function (text_in s.texts r))
    of_either r low k f (inl old) same = k f old same
    of_either r low k f (inr new) same =
        let n : IsNew s.versions (s.versions + length (new_in app s.functions)) (new_in app s.functions) f =
        is-new app.name s.versions (new_in app s.functions) f new in
        absurd (omega (arith, same, low, n.over))

    all-after : (rs : List Run) → AreRunsFit s.runs s.events s.versions rs
        → AllByRecursion (FixedIn (s.functions ++ s.retired) s.texts) rs
        → AllByRecursion
        (FixedIn ((with_functions app s).functions ++ (with_functions app s).retired) s.texts) rs
    all-after rs fits k =
        all-both (IsRunFit s.runs s.events s.versions) (FixedIn (s.functions ++ s.retired) s.texts)
        (FixedIn ((with_functions app s).functions ++ (with_functions app s).retired) s.texts) rs
        (λ r (fit : IsRunFit s.runs s.events s.versions r) m f there same.
        of_either r fit.version m f (old-or-new app s f there) same) fits k

first-in : (ns : List ℕ) → 0 < length ns → is_in (first_of ns) ns ≡ true
first-in [] h = absurd (omega (arith, h))
first-in (n ∷ ns) h = or-left (n == n) (is_in n ns) (eq-eqb n n refl)

names-first : (r : Run) (e : EventText) → 0 < length r.events → (first_of r.events == e.number) ≡ true
    → is_in e.number r.events ≡ true
names-first r e some same = subst (λ n. is_in n r.events ≡ true) (eqb-true (first_of r.events) e.number same)
    (first-in r.events some)

fixed-tidied : (s : State) → By last_moment s → AllFixed s → AllFixed (tidied s)
unfolding tidied
fixed-tidied s by h = (
  all-both (λ r. IsRunBy last_moment r × IsIn r s.live) (FixedIn (s.functions ++ s.retired) s.texts)
      (FixedIn (s.functions ++ retired) texts) s.live
      (λ r own k. moved r k (λ e same. or-left _ _ (or-left _ _
      (any-in (λ (q : Run). is_in e.number q.events) r s.live own.1 (names-first r e own.0.named same)))))
      (all-both (IsRunBy last_moment) (λ r. IsIn r s.live) (λ r. IsRunBy last_moment r × IsIn r s.live) s.live
      (λ r a b. (a, b)) by.1.live_by (each-in s.live)) h.0,
  all-both (λ r. IsRunBy last_moment r × IsIn r closing) (FixedIn (s.functions ++ s.retired) s.texts)
      (FixedIn (s.functions ++ retired) texts) closing
      (λ r own k. moved r k (λ e same. or-right _ _
      (any-in (λ (q : Run). is_in e.number q.events) r closing own.1 (names-first r e own.0.named same))))
      (all-both (IsRunBy last_moment) (λ r. IsIn r closing) (λ r. IsRunBy last_moment r × IsIn r closing) closing
      (λ r a b. (a, b)) (all-filter (IsRunBy last_moment) (λ (r : Run). has_open_call s.issues r.number) s.closing
      by.1.closing_by) (each-in closing))
      (all-filter (FixedIn (s.functions ++ s.retired) s.texts) (λ (r : Run). has_open_call s.issues r.number)
      s.closing h.1),
)
  where
    closing : List Run
    closing = filter (λ (r : Run). has_open_call s.issues r.number) s.closing

    retired : List FunctionEntry
    retired = filter (is_version_named (without_closed s)) s.retired

    texts : List EventText
    texts = filter (is_named (without_closed s)) s.texts

    of_either : (f : FunctionEntry)
        → IsIn f s.functions ⊎ IsIn f (filter (is_version_named (without_closed s)) s.retired)
        → IsIn f (s.functions ++ s.retired)
    of_either f (inl current) = in-front f s.functions s.retired current
    of_either f (inr gone) = in-back f s.functions s.retired
        (in-filter (is_version_named (without_closed s)) f s.retired gone)

    moved : (r : Run) → FixedIn (s.functions ++ s.retired) s.texts r
        → ((e : EventText) → (first_of r.events == e.number) ≡ true → is_named (without_closed s) e ≡ true)
        → FixedIn (s.functions ++ filter (is_version_named (without_closed s)) s.retired)
        (filter (is_named (without_closed s)) s.texts) r
    moved r k named f there same =
        subst (λ text. (r.cells ≡ cells_of f.function text) × (r.start ≡ start_of f.function text))
        (sym (ap text_or_none (find-filter (λ (e : EventText). first_of r.events == e.number)
        (is_named (without_closed s)) s.texts named)))
        (k f (of_either f (in-either f s.functions (filter (is_version_named (without_closed s)) s.retired) there))
        same)

-- ## Steps

abbrev FixedBeside : List Item → State → Type 0
FixedBeside is s = FitBeside is s × (By last_moment s × FitAndFixed s)

fixed-steps : KeepsSteps last_moment IsInRange FixedBeside
fixed-steps = record {
  calls = dropping FixedBeside (record {
    runs = λ is. keeps-both (FitBeside is) (λ s. By last_moment s × FitAndFixed s) (keeps-calls.runs is)
        (keeps-both (By last_moment) FitAndFixed (keeps-by last_moment) keeps-fixed);
    closes = λ i s there h. let k = fit-drops.closes i s there h.0 in (k, (h.1.0, (k.0, h.1.1.1)));
    reopens = λ s h. let k = fit-drops.reopens s h.0 in (k, (h.1.0, (k.0, h.1.1.1)));
    drops = λ i is s h. (fit-drops.drops i is s h.0, h.1);
    retries = λ i is a r s live new h.
        let k = fit-drops.retries i is a r s live new h.0 in (k, (h.1.0, (k.0, h.1.1.1)));
    requeues = λ i is r s live new h.
        let k = fit-drops.requeues i is r s live new h.0 in (k, (h.1.0, (k.0, h.1.1.1)));
  });
  counts = λ s h. let k = keeps-steps.counts s h.0 in (k, (h.1.0, (k.0, h.1.1.1)));
  moves = λ t next s low e h. let k = keeps-steps.moves t next s low e h.0 in
      (k, ((by-steps last_moment).moves t next s low e h.1.0, (k.0, h.1.1.1)));
  arrives = λ t s low on before h. let k = keeps-steps.arrives t s low on before.0 h.0 in
      (k, ((by-steps last_moment).arrives t s low on before.1.0 h.1.0, (k.0, h.1.1.1)));
  issues = λ number i s next there h. let k = keeps-steps.issues number i s next there h.0 in (
    k,
    (
      (by-steps last_moment).issues number i s next there h.1.0,
      (k.0, fixed-changed i.run (called i.target) s (λ q m. m) h.1.1.1),
    ),
  );
  registers = λ at app s ranges h. let k = keeps-steps.registers at app s ranges h.0 in
      (k, ((by-steps last_moment).registers at app s tt h.1.0, (k.0, fixed-registered app s h.1.1)));
  tidies = λ s h. let k = keeps-steps.tidies s h.0 in
      (k, ((by-steps last_moment).tidies s h.1.0, (k.0, fixed-tidied s h.1.0 h.1.1.1)));
}

fixed-after : (inputs : List Input) (s : State) → AllByRecursion IsInRange inputs → FixedBeside [] s
    → FixedBeside [] (state_after s inputs)
fixed-after [] s ranges h = h
fixed-after (input ∷ inputs) s ranges h =
    fixed-after inputs (step s input).state ranges.1
    (kept-step last_moment IsInRange FixedBeside fixed-steps s input (moment-within (reading input) s h.0.0) ranges.0 h)

-- ## What follows

has-cells : (s : State) (r : Run) → FixedIn (s.functions ++ s.retired) s.texts r
    → IfSome (function_at r.version s) (HasCells s r)
has-cells s r h = by_found (function_at r.version s) refl
  where
    by_found : (o : Option FunctionEntry) → function_at r.version s ≡ o → IfSome o (HasCells s r)
    by_found None e = tt
    by_found (Some f) e =
        h f (in-found (λ (g : FunctionEntry). r.version == g.version) (s.functions ++ s.retired) f e)
        (sym (eqb-true r.version f.version
        (found-passes (λ (g : FunctionEntry). r.version == g.version) (s.functions ++ s.retired) f e)))

pub fixed-fold : (limits : Limits) (inputs : List Input) → AllByRecursion IsInRange inputs
    → IsFixed (fold limits inputs)
fixed-fold limits inputs ranges =
    let s : State = fold limits inputs in
    let h : AllFixed s =
    (fixed-after inputs (empty limits) ranges
    ((fit-empty limits, tt), (by-empty limits, (fit-empty limits, (tt, tt))))).1.1.1 in
    let Whole : Run → Type 0 = λ (r : Run). IfSome (function_at r.version s) (HasCells s r) in
    record {
      named = all-named limits inputs;
      cells = all-append Whole s.live s.closing
          (all-weaker (FixedIn (s.functions ++ s.retired) s.texts) Whole s.live (λ r k. has-cells s r k) h.0)
          (all-weaker (FixedIn (s.functions ++ s.retired) s.texts) Whole s.closing (λ r k. has-cells s r k) h.1);
    }

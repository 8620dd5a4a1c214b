-- What is fit stays so where counts rise, and where one part of a state changes for a fit one.
use Rattle.std.proofs.Common.{ℕ, ◌+◌, ◌≤◌, List, ◌++◌, arith}
use Rattle.std.specs.List.{AllByRecursion}
use Rattle.kinds.specs.Moments.{last_moment}
use Rattle.kinds.specs.Windows as windows
use Rattle.kinds.specs.declared.cell.StartEntry.{StartEntry}
use Rattle.kinds.specs.declared.seen.SeenEntry.{SeenEntry}
use Rattle.kinds.specs.declared.store.Item.{Item}
use Rattle.kinds.specs.declared.store.Rule.{Rule}
use Rattle.kinds.specs.declared.window.Window.{Window}
use Rattle.functions.specs.declared.entry.FunctionEntry.{FunctionEntry}
use Rattle.lists.proofs.Elements.{all-weaker}
use Rattle.run_model.specs.Fit.{AreCallsFit, AreConditionsFit, AreEventsFit, AreFunctionsFit, AreGiven, AreRunsFit, AreTimesFit, AreWindowsFit, HasRoom, IsCalledFit, IsFit, IsIssueFit, IsItemFit, IsRuleFit, IsRunFit, IsWaitFit, IsWindowFit}
use Rattle.run_model.specs.Laws.{IsIn}
use Rattle.run_model.specs.State.{State, Run, Issue, EventText, Sleep, Waiting, Invocation, EndedRun}

-- ## Counts that rise

pub more-given : (count more : ℕ) (ns : List ℕ) → count ≤ more → AreGiven count ns → AreGiven more ns
more-given count more ns rises h =
    all-weaker (λ n. n ≤ count) (λ n. n ≤ more) ns (λ n (low : n ≤ count). omega (arith, rises, low)) h

pub more-runs : (runs events versions runs2 events2 versions2 : ℕ) (rs : List Run)
    → runs ≤ runs2 → events ≤ events2 → versions ≤ versions2
    → AreRunsFit runs events versions rs → AreRunsFit runs2 events2 versions2 rs
more-runs runs events versions runs2 events2 versions2 rs a b c h =
    all-weaker (IsRunFit runs events versions) (IsRunFit runs2 events2 versions2) rs
    (λ r (k : IsRunFit runs events versions r). record {
      number = omega (arith, a, k.number);
      version = omega (arith, c, k.version);
      named = more-given events events2 r.events b k.named;
      moment = k.moment;
      shift = k.shift;
      start = k.start;
    }) h

pub more-called : (entries more : ℕ) (i : Item) → entries ≤ more → IsCalledFit entries i → IsCalledFit more i
more-called entries more i rises h = record { number = omega (arith, rises, h.number); start = h.start }

pub more-calls : (calls entries calls2 entries2 : ℕ) (items : List Item) (issues : List Issue)
    → calls ≤ calls2 → entries ≤ entries2
    → AreCallsFit calls entries items issues → AreCallsFit calls2 entries2 items issues
more-calls calls entries calls2 entries2 items issues a b h = record {
  queued = all-weaker (IsItemFit entries) (IsItemFit entries2) items
      (λ i (k : IsItemFit entries i). record { number = omega (arith, b, k.number); start = k.start }) h.queued;
  open_calls = all-weaker (IsIssueFit calls entries) (IsIssueFit calls2 entries2) issues
      (λ i (k : IsIssueFit calls entries i). record {
        call = omega (arith, a, k.call);
        limit = omega (arith, b, k.limit);
        item = more-called entries entries2 i.item b k.item;
      }) h.open_calls;
}

pub more-times : (entries more : ℕ) (sleeps : List Sleep) (invocations : List Invocation) → entries ≤ more
    → AreTimesFit entries sleeps invocations → AreTimesFit more sleeps invocations
more-times entries more sleeps invocations rises h = record {
  sleep_numbers = all-weaker (λ (e : Sleep). e.number ≤ entries) (λ (e : Sleep). e.number ≤ more) sleeps
      (λ e (low : e.number ≤ entries). omega (arith, rises, low)) h.sleep_numbers;
  invocation_numbers =
      all-weaker (λ (e : Invocation). e.number ≤ entries) (λ (e : Invocation). e.number ≤ more) invocations
      (λ e (low : e.number ≤ entries). omega (arith, rises, low)) h.invocation_numbers;
}

pub more-conditions : (events entries more : ℕ) (texts : List EventText) (waits : List Waiting)
    (rules : List Rule) → entries ≤ more
    → AreConditionsFit events entries texts waits rules → AreConditionsFit events more texts waits rules
more-conditions events entries more texts waits rules rises h = record {
  each_wait = all-weaker (IsWaitFit events entries texts) (IsWaitFit events more texts) waits
      (λ w (k : IsWaitFit events entries texts w).
      record { number = omega (arith, rises, k.number); first = k.first; bucket = k.bucket }) h.each_wait;
  each_rule = all-weaker (IsRuleFit events entries texts) (IsRuleFit events more texts) rules
      (λ r (k : IsRuleFit events entries texts r).
      record { number = omega (arith, rises, k.number); first = k.first; bucket = k.bucket }) h.each_rule;
}

pub more-windows : (events entries versions events2 entries2 versions2 : ℕ) (ws : List Window)
    → events ≤ events2 → entries ≤ entries2 → versions ≤ versions2
    → AllByRecursion (IsWindowFit events entries versions) ws
    → AllByRecursion (IsWindowFit events2 entries2 versions2) ws
more-windows events entries versions events2 entries2 versions2 ws a b c h =
    all-weaker (IsWindowFit events entries versions) (IsWindowFit events2 entries2 versions2) ws
    (λ w (k : IsWindowFit events entries versions w). record {
      number = omega (arith, b, k.number);
      version = omega (arith, c, k.version);
      named = more-given events events2 (windows.events_of w) a k.named;
      dated = k.dated;
    }) h

-- ## Parts of a state that change

pub fit-of : (s : State) → s.moment ≤ last_moment → AreFunctionsFit s.versions (s.functions ++ s.retired)
    → AreEventsFit s.events s.seen s.texts → AreRunsFit s.runs s.events s.versions s.live
    → AreRunsFit s.runs s.events s.versions s.closing → AreCallsFit s.calls s.entries s.items s.issues
    → AreTimesFit s.entries s.sleeps s.invocations
    → AreConditionsFit s.events s.entries s.texts s.waits s.rules
    → AreWindowsFit s.events s.entries s.versions (s.functions ++ s.retired) s.windows → IsFit s
fit-of s dated functions events live closing calls times conditions windows = record {
  dated = dated;
  functions_fit = functions;
  events_fit = events;
  live_fit = live;
  closing_fit = closing;
  calls_fit = calls;
  times_fit = times;
  conditions_fit = conditions;
  windows_fit = windows;
}

pub fit-moment : (t : ℕ) (s : State) → t ≤ last_moment → IsFit s → IsFit (record s { moment = t })
fit-moment t s low h =
    fit-of (record s { moment = t }) low h.functions_fit h.events_fit h.live_fit h.closing_fit h.calls_fit
    h.times_fit h.conditions_fit h.windows_fit

-- what no condition speaks of
pub fit-rest : (inputs : ℕ) (starts : List StartEntry) (ended : List EndedRun) (s : State)
    → IsFit s → IsFit (record s { inputs = inputs; starts = starts; ended = ended })
fit-rest inputs starts ended s h =
    fit-of (record s { inputs = inputs; starts = starts; ended = ended }) h.dated h.functions_fit h.events_fit
    h.live_fit h.closing_fit h.calls_fit h.times_fit h.conditions_fit h.windows_fit

pub fit-functions : (versions : ℕ) (fs retired : List FunctionEntry) (s : State) → s.versions ≤ versions
    → AreFunctionsFit versions (fs ++ retired)
    → ((f : FunctionEntry) → IsIn f (fs ++ retired) → AllByRecursion (HasRoom f) s.windows)
    → IsFit s → IsFit (record s { versions = versions; functions = fs; retired = retired })
fit-functions versions fs retired s rises fits room h =
    let t : State = record s { versions = versions; functions = fs; retired = retired } in
    fit-of t h.dated fits h.events_fit
    (more-runs s.runs s.events s.versions s.runs s.events versions s.live (omega arith) (omega arith) rises
    h.live_fit)
    (more-runs s.runs s.events s.versions s.runs s.events versions s.closing (omega arith) (omega arith) rises
    h.closing_fit) h.calls_fit h.times_fit h.conditions_fit
    (record {
      each = more-windows s.events s.entries s.versions s.events s.entries versions s.windows (omega arith)
          (omega arith) rises h.windows_fit.each;
      room = room;
      apart = h.windows_fit.apart;
    })

pub fit-seen : (seen : List SeenEntry) (s : State)
    → AllByRecursion (λ (e : SeenEntry). e.number ≤ s.events) seen → IsFit s → IsFit (record s { seen = seen })
fit-seen seen s low h =
    fit-of (record s { seen = seen }) h.dated h.functions_fit
    (record { seen_numbers = low; text_numbers = h.events_fit.text_numbers }) h.live_fit h.closing_fit
    h.calls_fit h.times_fit h.conditions_fit h.windows_fit

pub fit-texts : (texts : List EventText) (s : State)
    → AllByRecursion (λ (e : EventText). e.number ≤ s.events) texts
    → AreConditionsFit s.events s.entries texts s.waits s.rules → IsFit s → IsFit (record s { texts = texts })
fit-texts texts s low conditions h =
    fit-of (record s { texts = texts }) h.dated h.functions_fit
    (record { seen_numbers = h.events_fit.seen_numbers; text_numbers = low }) h.live_fit h.closing_fit
    h.calls_fit h.times_fit conditions h.windows_fit

pub fit-live : (live : List Run) (s : State) → AreRunsFit s.runs s.events s.versions live
    → IsFit s → IsFit (record s { live = live })
fit-live live s fits h =
    fit-of (record s { live = live }) h.dated h.functions_fit h.events_fit fits h.closing_fit h.calls_fit
    h.times_fit h.conditions_fit h.windows_fit

pub fit-closing : (closing : List Run) (s : State) → AreRunsFit s.runs s.events s.versions closing
    → IsFit s → IsFit (record s { closing = closing })
fit-closing closing s fits h =
    fit-of (record s { closing = closing }) h.dated h.functions_fit h.events_fit h.live_fit fits h.calls_fit
    h.times_fit h.conditions_fit h.windows_fit

pub fit-runs : (s : State) → IsFit s → IsFit (record s { runs = s.runs + 1 })
fit-runs s h =
    fit-of (record s { runs = s.runs + 1 }) h.dated h.functions_fit h.events_fit
    (more-runs s.runs s.events s.versions (s.runs + 1) s.events s.versions s.live (omega arith) (omega arith)
    (omega arith) h.live_fit)
    (more-runs s.runs s.events s.versions (s.runs + 1) s.events s.versions s.closing (omega arith)
    (omega arith) (omega arith) h.closing_fit) h.calls_fit h.times_fit h.conditions_fit h.windows_fit

pub fit-calls : (calls : ℕ) (items : List Item) (issues : List Issue) (s : State)
    → AreCallsFit calls s.entries items issues
    → IsFit s → IsFit (record s { calls = calls; items = items; issues = issues })
fit-calls calls items issues s fits h =
    fit-of (record s { calls = calls; items = items; issues = issues }) h.dated h.functions_fit h.events_fit
    h.live_fit h.closing_fit fits h.times_fit h.conditions_fit h.windows_fit

pub fit-times : (sleeps : List Sleep) (invocations : List Invocation) (s : State)
    → AreTimesFit s.entries sleeps invocations
    → IsFit s → IsFit (record s { sleeps = sleeps; invocations = invocations })
fit-times sleeps invocations s fits h =
    fit-of (record s { sleeps = sleeps; invocations = invocations }) h.dated h.functions_fit h.events_fit
    h.live_fit h.closing_fit h.calls_fit fits h.conditions_fit h.windows_fit

pub fit-conditions : (waits : List Waiting) (rules : List Rule) (s : State)
    → AreConditionsFit s.events s.entries s.texts waits rules
    → IsFit s → IsFit (record s { waits = waits; rules = rules })
fit-conditions waits rules s fits h =
    fit-of (record s { waits = waits; rules = rules }) h.dated h.functions_fit h.events_fit h.live_fit
    h.closing_fit h.calls_fit h.times_fit fits h.windows_fit

pub fit-windows : (ws : List Window) (s : State)
    → AreWindowsFit s.events s.entries s.versions (s.functions ++ s.retired) ws
    → IsFit s → IsFit (record s { windows = ws })
fit-windows ws s fits h =
    fit-of (record s { windows = ws }) h.dated h.functions_fit h.events_fit h.live_fit h.closing_fit h.calls_fit
    h.times_fit h.conditions_fit fits

pub fit-entries : (s : State) → IsFit s → IsFit (record s { entries = s.entries + 1 })
fit-entries s h =
    fit-of (record s { entries = s.entries + 1 }) h.dated h.functions_fit h.events_fit h.live_fit h.closing_fit
    (more-calls s.calls s.entries s.calls (s.entries + 1) s.items s.issues (omega arith) (omega arith)
    h.calls_fit) (more-times s.entries (s.entries + 1) s.sleeps s.invocations (omega arith) h.times_fit)
    (more-conditions s.events s.entries (s.entries + 1) s.texts s.waits s.rules (omega arith) h.conditions_fit)
    (record {
      each = more-windows s.events s.entries s.versions s.events (s.entries + 1) s.versions s.windows
          (omega arith) (omega arith) (omega arith) h.windows_fit.each;
      room = h.windows_fit.room;
      apart = h.windows_fit.apart;
    })

-- What holds of every state that the machine reaches: twenty conditions. Besides them stands what this state
-- repeats of its runs, for items, open calls, waits and rules.
use Rattle.std.specs.Prelude.{ℕ, ◌≡◌, ◌≢◌, ◌<◌, ◌≤◌, ◌+◌, ◌-◌, ◌==◌, Bool, true, false, not, ◌&&◌, ◌||◌, List, [], ◌∷◌, ◌++◌, map, filter, find, length, take, Option, Some, None, bytes_eq}
use Rattle.std.specs.List.{AllByRecursion, list_any}
use Rattle.std.specs.Ordering.{is_lt}
use Rattle.std.specs.Option.{IfSome, is_some, option_map}
use Rattle.kinds.specs.Cells.{is_cell, open_in}
use Rattle.kinds.specs.Moments.{last_moment}
use Rattle.kinds.specs.RunSteps.{is_pending, is_planned, is_recorded, most_names, names}
use Rattle.kinds.specs.Seen.{is_remembered}
use Rattle.kinds.specs.Windows as windows
use Rattle.kinds.specs.declared.cell.CellLimit.{CellLimit}
use Rattle.kinds.specs.declared.cell.IssueEntry.{IssueEntry}
use Rattle.kinds.specs.declared.cell.StartEntry.{StartEntry}
use Rattle.kinds.specs.declared.function.Function.{Function}
use Rattle.kinds.specs.declared.seen.SeenEntry.{SeenEntry}
use Rattle.kinds.specs.declared.store.Bucket.{Bucket}
use Rattle.kinds.specs.declared.store.Item.{Item}
use Rattle.kinds.specs.declared.store.Parent.{Parent}
use Rattle.kinds.specs.declared.store.Pending.{Pending}
use Rattle.kinds.specs.declared.store.Pending.TheVariants as pending
use Rattle.kinds.specs.declared.store.Rule.{Rule}
use Rattle.kinds.specs.declared.store.StepEntry.{StepEntry}
use Rattle.kinds.specs.declared.window.Window.{Window}
use Rattle.kinds.specs.declared.window.Window.TheVariants as window
use Rattle.kinds.specs.declared.window.WindowRule.{WindowRule}
use Rattle.kinds.specs.declared.window.WindowRule.TheVariants as rule
use Rattle.lists.specs.Entries.{pair_cmp}
use Rattle.functions.specs.Functions.{version_of}
use Rattle.functions.specs.declared.entry.FunctionEntry.{FunctionEntry}
use Rattle.event_keys.specs.Buckets.{bucket_of}
use Rattle.event_keys.specs.Cells.{cells_of, start_of}
use Rattle.run_model.specs.Advance.{due_of, timed}
use Rattle.run_model.specs.Ends.{first_text, is_invocation_of}
use Rattle.run_model.specs.Making.{first_of, has_discovery, is_item_of, score_of, step_target, unless}
use Rattle.run_model.specs.Recording.{is_pending_in}
use Rattle.run_model.specs.Settle.{next_issued}
use Rattle.run_model.specs.State.{State, Run, Issue, EventText, Sleep, Waiting, Invocation, EndedRun, function_at, has_open_call, is_in, is_named, is_version_named, issue_entries, live_run, text_of}

-- ## Lists

-- each item stands so to each behind it
abbrev pub ArePairwise : {X : Type 0} → (X → X → Type 0) → List X → Type 0
ArePairwise R [] = Unit {0}
ArePairwise R (x ∷ xs) = AllByRecursion (R x) xs × ArePairwise R xs

-- each number is greater than those before it, and none is over a count
abbrev pub RiseTo : ℕ → List ℕ → Type 0
RiseTo count numbers =
    ArePairwise (λ n later. n < later) numbers × AllByRecursion (λ n. n ≤ count) numbers

-- no two have the same text in a part
abbrev pub AreApart : {X : Type 0} → (X → List ℕ) → List X → Type 0
AreApart part xs = ArePairwise (λ x later. part x ≢ part later) xs

-- all but the last so many
abbrev pub before_last : {X : Type 0} → ℕ → List X → List X
before_last most xs = take (length xs - most) xs

-- ## Runs by number

-- the runs that are there: those that have not ended, and those whose calls are open still
abbrev pub all_runs : State → List Run
all_runs s = s.live ++ s.closing

abbrev pub numbers_of : List Run → List ℕ
numbers_of rs = map (λ (r : Run). r.number) rs

abbrev pub is_live : State → ℕ → Bool
is_live s run = is_some (live_run run s)

-- what holds of a run that has not ended, by its number
abbrev pub IfLive : State → ℕ → (Run → Type 0) → Type 0
IfLive s run P = IfSome (live_run run s) P

-- the events of runs and windows are there
abbrev pub HasTexts : State → List ℕ → Type 0
HasTexts s numbers = AllByRecursion (λ n. is_some (text_of n s) ≡ true) numbers

abbrev pub HasFunction : State → ℕ → Type 0
HasFunction s version = is_some (function_at version s) ≡ true

-- ## Numbers

-- debounces and then batches, each by number
abbrev pub stands_before : Window → Window → Bool
stands_before w other = is_lt (pair_cmp (windows.place_of w) (windows.place_of other))

-- those of each list rise, and are at most their counts; ended runs stand in order of ending
pub record IsNumbered (s : State) : Type 0 where
  pub functions : RiseTo s.versions (map version_of s.functions)
  pub retired : RiseTo s.versions (map version_of s.retired)
  pub seen : RiseTo s.events (map (λ (e : SeenEntry). e.number) s.seen)
  pub texts : RiseTo s.events (map (λ (e : EventText). e.number) s.texts)
  pub live : RiseTo s.runs (numbers_of s.live)
  pub closing : RiseTo s.runs (numbers_of s.closing)
  pub ended : AllByRecursion (λ (e : EndedRun). e.run ≤ s.runs) s.ended
  pub issues : RiseTo s.calls (map (λ (i : Issue). i.call) s.issues)
  pub items : RiseTo s.entries (map (λ (i : Item). i.number) s.items)
  pub sleeps : RiseTo s.entries (map (λ (e : Sleep). e.number) s.sleeps)
  pub waits : RiseTo s.entries (map (λ (e : Waiting). e.wait.number) s.waits)
  pub invocations : RiseTo s.entries (map (λ (e : Invocation). e.number) s.invocations)
  pub rules : RiseTo s.entries (map (λ (e : Rule). e.number) s.rules)
  pub windows : AllByRecursion (λ w. windows.number_of w ≤ s.entries) s.windows
  pub placed : ArePairwise (λ w later. stands_before w later ≡ true) s.windows
  pub limits : AllByRecursion (λ (i : Issue). i.limit ≤ s.entries) s.issues
  pub open_items : AllByRecursion (λ (i : Issue). i.item.number ≤ s.entries) s.issues

-- ## What is there

abbrev pub HasWindowNamed : State → Window → Type 0
HasWindowNamed s w = HasFunction s (windows.version_of w) × HasTexts s (windows.events_of w)

-- what is named is there
pub record HasNamed (s : State) : Type 0 where
  pub runs : AllByRecursion (λ (r : Run). HasFunction s r.version × HasTexts s r.events) (all_runs s)
  pub windows : AllByRecursion (HasWindowNamed s) s.windows
  pub issues : AllByRecursion (λ (i : Issue). is_in i.item.run (numbers_of (all_runs s)) ≡ true) s.issues

abbrev pub ended_numbers : State → List ℕ
ended_numbers s = map (λ (e : EndedRun). e.run) s.ended

-- what is there is named, by an open call, a run or a window, or is among the last thousand that ended
pub record KeepsNamed (s : State) : Type 0 where
  pub closing : AllByRecursion (λ (r : Run). has_open_call s.issues r.number ≡ true) s.closing
  pub retired : AllByRecursion (λ f. is_version_named s f ≡ true) s.retired
  pub texts : AllByRecursion (λ e. is_named s e ≡ true) s.texts
  pub ended : AllByRecursion (λ e. has_open_call s.issues e ≡ true) (before_last 1000 (ended_numbers s))

-- each stands in one place: a version is current or retired, a run has ended once or not at all
pub record StandsOnce (s : State) : Type 0 where
  pub versions : AllByRecursion
      (λ f. is_in (version_of f) (map version_of s.retired) ≡ false) s.functions
  pub ended : ArePairwise (λ (e later : EndedRun). e.run ≢ later.run) s.ended
  pub live : AllByRecursion (λ (r : Run). is_in r.number (ended_numbers s) ≡ false) s.live
  pub closing : AllByRecursion (λ (r : Run). is_in r.number (ended_numbers s) ≡ true) s.closing

pub record IsWhole (s : State) : Type 0 where
  pub named : HasNamed s
  pub kept : KeepsNamed s
  pub once : StandsOnce s

-- ## Names of steps

-- no name is recorded twice, and none that is recorded waits for something
pub record RecordsOnce (r : Run) : Type 0 where
  pub apart : AreApart (λ (e : StepEntry). e.hash) r.steps.recorded
  pub over : AllByRecursion (λ (e : StepEntry). is_pending e.hash r.steps ≡ false) r.steps.recorded

abbrev pub is_step : ℕ → List ℕ → ℕ → List ℕ → Bool
is_step run name other hash = (run == other) && bytes_eq name hash

-- what a name of a run waits for, by the sleeps, waits and invocations
abbrev pub awaited : State → ℕ → List ℕ → List Pending
awaited s run name =
    map (λ e. pending.Sleep) (filter (λ (e : Sleep). is_step run name e.run e.hash) s.sleeps)
    ++ map (λ e. pending.Wait) (filter (λ (e : Waiting). is_step run name e.wait.run e.hash) s.waits)
    ++ map (λ e. pending.Invocation)
    (filter (λ (e : Invocation). is_step run name e.run e.hash) s.invocations)

abbrev pub AwaitsEach : State → Run → Type 0
AwaitsEach s r = AllByRecursion (λ p. awaited s r.number p.0 ≡ p.1 ∷ []) r.steps.pending

abbrev pub IsPendingIn : State → ℕ → List ℕ → Type 0
IsPendingIn s run name = IfLive s run (λ r. is_pending name r.steps ≡ true)

-- a pending name has one sleep, wait or invocation, and each of these is of a pending name
pub record AwaitsOnce (s : State) : Type 0 where
  pub one : AllByRecursion (AwaitsEach s) s.live
  pub sleeps : AllByRecursion (λ (e : Sleep). IsPendingIn s e.run e.hash) s.sleeps
  pub waits : AllByRecursion (λ (e : Waiting). IsPendingIn s e.wait.run e.hash) s.waits
  pub invocations : AllByRecursion (λ (e : Invocation). IsPendingIn s e.run e.hash) s.invocations

-- the end of a sleep, a wait or an invocation is recorded: its run has not ended, and its step waits still
pub record Wakes (s : State) : Type 0 where
  pub sleeps : AllByRecursion (λ (e : Sleep). is_pending_in e.hash (live_run e.run s) ≡ true) s.sleeps
  pub waits : AllByRecursion
      (λ (e : Waiting). is_pending_in e.hash (live_run e.wait.run s) ≡ true) s.waits
  pub invocations :
      AllByRecursion (λ (e : Invocation). is_pending_in e.hash (live_run e.run s) ≡ true) s.invocations

-- the queued items and the open calls with a target
abbrev pub items_for : State → ℕ → List ℕ → List Item
items_for s run target = filter (is_item_of run target) (s.items ++ map (λ (i : Issue). i.item) s.issues)

-- an item finds out what comes next, or its target was planned or is recorded
abbrev pub is_aimed : Run → Item → Bool
is_aimed r i =
    bytes_eq i.target step_target || is_planned i.target r.steps || is_recorded i.target r.steps

-- a planned name has one item or one open call, and nothing else
abbrev pub IsCalledOnce : State → Run → List ℕ → Type 0
IsCalledOnce s r name =
    (length (items_for s r.number name) ≡ 1)
    × ((is_recorded name r.steps ≡ false) × (is_pending name r.steps ≡ false))

-- each planned name is called, and each name that is called was planned or recorded
pub record CallsPlanned (s : State) : Type 0 where
  pub planned : AllByRecursion (λ (r : Run). AllByRecursion (IsCalledOnce s r) r.steps.planned) s.live
  pub items : AllByRecursion (λ (i : Item). IfLive s i.run (λ r. is_aimed r i ≡ true)) s.items
  pub issues : AllByRecursion
      (λ (i : Issue). IfLive s i.item.run (λ r. is_aimed r i.item ≡ true)) s.issues

-- ## Going on

-- how many items and open calls find out what comes next
abbrev pub discoveries : State → Run → ℕ
discoveries s r = length (items_for s r.number step_target)

-- a run has at most one of these, and one where it wants it
pub record Discovers (s : State) : Type 0 where
  pub one : AllByRecursion (λ r. discoveries s r ≤ 1) (all_runs s)
  pub wanted : AllByRecursion (λ (r : Run). r.wanted ≡ true → discoveries s r ≡ 1) s.live

-- an item, an open call, or a step that waits for something
abbrev pub can_go_on : State → Run → Bool
can_go_on s r =
    list_any (λ (i : Item). r.number == i.run) s.items || has_open_call s.issues r.number
    || not (length r.steps.pending == 0)

-- nothing is overdue
abbrev pub AreTimely : State → Type 0
AreTimely s = AllByRecursion (λ e. IfSome (due_of e) (λ due. s.moment ≤ due)) (timed s)

-- the first event of a debounce came by a moment
abbrev pub IsBegun : ℕ → Window → Type 0
IsBegun moment (window.Debounce number version value event first due) = first ≤ moment
IsBegun moment (window.Batch number version value events due) = Unit {0}

-- what has happened is not after the moment
pub record IsDated (s : State) : Type 0 where
  pub moment : s.moment ≤ last_moment
  pub seen : AllByRecursion (λ (e : SeenEntry). e.moment ≤ s.moment) s.seen
  pub runs : AllByRecursion (λ (r : Run). r.moment ≤ s.moment) (all_runs s)
  pub windows : AllByRecursion (IsBegun s.moment) s.windows
  pub ended : AllByRecursion (λ (e : EndedRun). e.moment ≤ s.moment) s.ended

-- ## What is fixed when a run is made

abbrev pub HasCells : State → Run → FunctionEntry → Type 0
HasCells s r f =
    (r.cells ≡ cells_of f.function (first_text r s)) × (r.start ≡ start_of f.function (first_text r s))

-- each run and each window names an event
pub record HasEvents (s : State) : Type 0 where
  pub runs : AllByRecursion (λ (r : Run). 0 < length r.events) (all_runs s)
  pub windows : AllByRecursion (λ w. 0 < length (windows.events_of w)) s.windows

pub record IsFixed (s : State) : Type 0 where
  pub named : HasEvents s
  pub cells : AllByRecursion (λ (r : Run). IfSome (function_at r.version s) (HasCells s r)) (all_runs s)

-- ## Numbers of one count

-- those of items, queued or open, of sleeps, waits, invocations, rules, windows and limits of calls
abbrev pub entry_numbers : State → List ℕ
entry_numbers s =
    map (λ (i : Item). i.number) s.items ++ map (λ (i : Issue). i.item.number) s.issues
    ++ map (λ (e : Sleep). e.number) s.sleeps ++ map (λ (e : Waiting). e.wait.number) s.waits
    ++ map (λ (e : Invocation). e.number) s.invocations ++ map (λ (e : Rule). e.number) s.rules
    ++ map windows.number_of s.windows ++ map (λ (i : Issue). i.limit) s.issues

-- ## Runs that have not ended

-- each is of such a run
pub record AreOfLive (s : State) : Type 0 where
  pub items : AllByRecursion (λ (i : Item). is_live s i.run ≡ true) s.items
  pub sleeps : AllByRecursion (λ (e : Sleep). is_live s e.run ≡ true) s.sleeps
  pub waits : AllByRecursion (λ (e : Waiting). is_live s e.wait.run ≡ true) s.waits
  pub invocations : AllByRecursion (λ (e : Invocation). is_live s e.run ≡ true) s.invocations
  pub rules : AllByRecursion (λ (e : Rule). is_live s e.run ≡ true) s.rules

-- a run without a call so far has no step
abbrev pub IsFresh : State → Run → Type 0
IsFresh s r = r.started ≡ false → (names r.steps ≡ 0) × (has_open_call s.issues r.number ≡ false)

-- the target of a queued item is not recorded
abbrev pub IsUnrecorded : State → Item → Type 0
IsUnrecorded s i = IfLive s i.run (λ r. is_recorded i.target r.steps ≡ false)

-- ## Invocations

abbrev pub is_for : ℕ → Parent → Invocation → Bool
is_for child p i = (child == i.child) && is_invocation_of p i

-- the step of an invoked run's parent is recorded, or waits for it
abbrev pub IsAwaited : State → Run → Parent → Type 0
IsAwaited s r p =
    IfLive s p.run
    (λ parent. (is_recorded p.hash parent.steps || list_any (is_for r.number p) s.invocations) ≡ true)

abbrev pub is_parent_of : Invocation → Option Parent → Bool
is_parent_of i None = false
is_parent_of i (Some p) = is_invocation_of p i

abbrev pub is_child : State → Invocation → Bool
is_child s i = list_any (λ (r : Run). (i.child == r.number) && is_parent_of i r.parent) s.live

pub record Invokes (s : State) : Type 0 where
  pub awaited : AllByRecursion (λ (r : Run). IfSome r.parent (IsAwaited s r)) s.live
  pub children : AllByRecursion (λ i. is_child s i ≡ true) s.invocations

-- ## Ids and windows

-- a remembered id is of an event that was numbered, not after the moment, and still tells a repeated event
pub record IsSeen (s : State) (e : SeenEntry) : Type 0 where
  pub numbered : e.number ≤ s.events
  pub dated : e.moment ≤ s.moment
  pub remembered : is_remembered s.moment e ≡ true

abbrev pub StandsApart : SeenEntry → SeenEntry → Type 0
StandsApart e later = (e.number < later.number) × (e.id ≢ later.id)

-- remembered ids stand by number, and no two are equal
pub record RemembersOnce (s : State) : Type 0 where
  pub entries : AllByRecursion (IsSeen s) s.seen
  pub apart : ArePairwise StandsApart s.seen

pub record AreUnique (s : State) : Type 0 where
  pub seen : AreApart (λ (e : SeenEntry). e.id) s.seen
  pub functions : AreApart (λ (f : FunctionEntry). f.function.id) s.functions

-- the rule of a function for a window of this kind
abbrev pub rule_for : Window → Function → Option WindowRule
rule_for (window.Debounce number version value event first due) f =
    option_map (λ d. rule.Debounce d) f.debounce
rule_for (window.Batch number version value events due) f = option_map (λ b. rule.Batch b) f.batch

-- a batch has room, and a debounce is due by its timeout
abbrev pub Suits : Window → WindowRule → Type 0
Suits (window.Debounce number version value event first due) (rule.Debounce d) =
    IfSome d.timeout (λ timeout. due ≤ first + timeout)
Suits w r = windows.has_room r (Some w) ≡ true

abbrev pub HasRule : Window → Option WindowRule → Type 0
HasRule w None = ⊥
HasRule w (Some r) = Suits w r

abbrev pub is_same_window : Window → Window → Bool
is_same_window w other = windows.is_of (windows.version_of w) (windows.value_of w) other

-- no two windows are of one version and value, and each is such as its version's function says
pub record HasWindows (s : State) : Type 0 where
  pub apart : ArePairwise (λ w later. is_same_window w later ≡ false) s.windows
  pub rules : AllByRecursion
      (λ w. IfSome (function_at (windows.version_of w) s)
      (λ f. HasRule w (rule_for w f.function))) s.windows

-- ## Limits

-- of the calls so far no more have a cell of a call than its limit there
abbrev pub KeepsLimits : List IssueEntry → IssueEntry → Type 0
KeepsLimits so_far e = AllByRecursion (λ (l : CellLimit). open_in l.cell so_far ≤ l.limit) e.cells

-- this holds of each call beside those that were made before it
abbrev pub KeepLimits : List IssueEntry → List IssueEntry → Type 0
KeepLimits before [] = Unit {0}
KeepLimits before (e ∷ es) = KeepsLimits (before ++ e ∷ []) e × KeepLimits (before ++ e ∷ []) es

-- ## The twenty conditions

pub record IsSound (s : State) : Type 0 where
  pub numbered : IsNumbered s
  pub whole : IsWhole s
  pub recorded : AllByRecursion RecordsOnce s.live
  pub pending : AwaitsOnce s
  pub planned : CallsPlanned s
  pub room : AllByRecursion (λ (r : Run). names r.steps ≤ most_names) (all_runs s)
  pub discovered : Discovers s
  pub going : AllByRecursion (λ r. can_go_on s r ≡ true) s.live
  pub timely : AreTimely s
  pub dated : IsDated s
  pub fixed : IsFixed s
  pub apart : ArePairwise (λ n later. n ≢ later) (entry_numbers s)
  pub of_live : AreOfLive s
  pub fresh : AllByRecursion (IsFresh s) s.live
  pub unrecorded : AllByRecursion (IsUnrecorded s) s.items
  pub invocations : Invokes s
  pub unique : AreUnique s
  pub windows : HasWindows s
  pub limits : KeepLimits [] (issue_entries s)
  pub settled : next_issued s ≡ None

-- ## What is proved of them

-- Of each state that is reached, whatever inputs there were, this is a law here. The rest is proved in `soundness`,
-- where all twenty conditions come together: of functions in their ranges, of registrations that name no id twice, and
-- while fewer than 2^64 entries were numbered, since the eleventh and the eighteenth, the seventeenth, and the ninth
-- condition need these.
pub record IsReached (s : State) : Type 0 where
  pub numbered : IsNumbered s
  pub kept : KeepsNamed s
  pub once : StandsOnce s
  pub recorded : AllByRecursion RecordsOnce s.live
  pub pending : AwaitsOnce s
  pub wakes : Wakes s
  pub room : AllByRecursion (λ (r : Run). names r.steps ≤ most_names) (all_runs s)
  pub wanted : AllByRecursion (λ (r : Run). r.wanted ≡ true → has_discovery s r.number ≡ true) s.live
  pub going : AllByRecursion (λ r. can_go_on s r ≡ true) s.live
  pub dated : IsDated s
  pub named : HasEvents s
  pub apart : ArePairwise (λ n later. n ≢ later) (entry_numbers s)
  pub of_live : AreOfLive s
  pub invocations_held : Invokes s
  pub remembered : RemembersOnce s
  pub limits : KeepLimits [] (issue_entries s)
  pub settled : next_issued s ≡ None

-- ## What is repeated

-- an item has what its run has; a start is asked for before the run's first call
abbrev pub IsItemOf : Item → Run → Type 0
IsItemOf i r = (i.score ≡ score_of r) × ((i.cells ≡ r.cells) × (i.start ≡ unless r.started r.start))

-- an open call asks for no start any more
abbrev pub IsCallOf : Item → Run → Type 0
IsCallOf i r = (i.score ≡ score_of r) × ((i.cells ≡ r.cells) × (i.start ≡ None))

-- a condition has the number of its run's first event, and the bucket that this gives
abbrev pub IsConditionOf : State → ℕ → Option Bucket → Option (List ℕ) → Run → Type 0
IsConditionOf s first bucket cond r =
    (first ≡ first_of r.events) × (bucket ≡ bucket_of cond (first_text r s))

abbrev pub run_at : ℕ → State → Option Run
run_at number s = find (λ (r : Run). number == r.number) (all_runs s)

pub record RepeatsRuns (s : State) : Type 0 where
  pub items : AllByRecursion (λ (i : Item). IfLive s i.run (IsItemOf i)) s.items
  pub issues : AllByRecursion (λ (i : Issue). IfSome (run_at i.item.run s) (IsCallOf i.item)) s.issues
  pub waits : AllByRecursion
      (λ (w : Waiting).
      IfLive s w.wait.run (IsConditionOf s w.wait.first w.wait.bucket w.wait.cond)) s.waits
  pub rules : AllByRecursion
      (λ (e : Rule). IfLive s e.run (IsConditionOf s e.first e.bucket e.cond)) s.rules

-- an id that tells no repeated event any more, or a throttle that lets each start, isn't there
pub record KeepsTelling (s : State) : Type 0 where
  pub seen : AllByRecursion (λ e. is_remembered s.moment e ≡ true) s.seen
  pub starts : AllByRecursion (λ (e : StartEntry). s.moment < e.greatest) s.starts
  pub cells : ArePairwise (λ (e later : StartEntry). is_cell e.cell later.cell ≡ false) s.starts

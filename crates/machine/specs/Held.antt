-- What holds beside the documented state: what is noted of what a step touched, and what is counted.
use Rattle.std.specs.Prelude.{ℕ, ◌≡◌, ◌≢◌, ◌<◌, ◌≤◌, ◌-◌, ◌^◌, ◌==◌, Bool, true, false, not, ◌&&◌, ◌||◌, List, [], map, find, take, length, None}
use Rattle.std.specs.List.{AllByRecursion, list_any}
use Rattle.std.specs.List.Sorted.{IsStrictlySortedBy}
use Rattle.std.specs.Ordering.{nat_cmp}
use Rattle.kinds.specs.Moments.{last_moment}
use Rattle.kinds.specs.Windows as windows
use Rattle.kinds.specs.declared.store.Item.{Item}
use Rattle.kinds.specs.declared.window.Window.{Window}
use Rattle.lists.specs.Entries.{has}
use Rattle.functions.specs.declared.entry.FunctionEntry.{FunctionEntry}
use Rattle.runs.specs.Ended.{ended_number}
use Rattle.runs.specs.Runs.{run_number}
use Rattle.run_model.specs.Fit.{HasOwnNumbers, IsFit}
use Rattle.run_model.specs.Making.{is_item_of, step_target}
use Rattle.run_model.specs.Sound.{ArePairwise}
use Rattle.run_model.specs.State.{State, Run, Issue, EventText, EndedRun, has_open_call, is_in, kept}
use Rattle.machine.specs.Numbers.{has_number}
use Rattle.machine.specs.View.{state_of}
use Rattle.machine.specs.declared.parts.Parts.{Parts}

-- ## What finds out what comes next

-- a run wants to find it out, and no item that does is queued and no such call is open
abbrev pub is_left : List Item → List Issue → Run → Bool
is_left items issues r =
    r.wanted
    && not (list_any (is_item_of r.number step_target) items
    || list_any (λ (i : Issue). is_item_of r.number step_target i.item) issues)

-- runs stand in order of number, and those that are left are noted
pub record AreWantsNoted (live : List Run) (items : List Item) (issues : List Issue) (wanting : List ℕ)
    : Type 0 where
  pub ordered : IsStrictlySortedBy nat_cmp (map run_number live)
  pub noted : AllByRecursion
      (λ r. is_left items issues r ≡ true → has_number wanting r.number ≡ true) live

-- ## What is named

-- a run that has not ended, or a window, names the event
abbrev pub is_event_used : List Run → List Window → ℕ → Bool
is_event_used live ws event =
    list_any (λ (r : Run). is_in event r.events) live
    || list_any (λ w. is_in event (windows.events_of w)) ws

abbrev pub is_event_named : List Run → List Run → List Window → ℕ → Bool
is_event_named live closing ws event =
    is_event_used live ws event || list_any (λ (r : Run). is_in event r.events) closing

-- an event that wasn't touched is named, and counted where it is used
pub record IsEventRight (live closing : List Run) (ws : List Window) (used : List ℕ)
    (event : ℕ) : Type 0 where
  pub counted : has_number used event ≡ is_event_used live ws event
  pub named : is_event_named live closing ws event ≡ true

pub record AreEventsRight (live closing : List Run) (ws : List Window) (texts : List EventText)
    (used touched : List ℕ) : Type 0 where
  pub each : AllByRecursion (λ (e : EventText).
      has_number touched e.number ≡ false → IsEventRight live closing ws used e.number) texts

abbrev pub is_version_in_use : List Run → List Run → List Window → ℕ → Bool
is_version_in_use live closing ws version =
    list_any (λ (r : Run). version == r.version) live
    || list_any (λ (r : Run). version == r.version) closing
    || list_any (λ w. version == windows.version_of w) ws

-- a retired function that wasn't touched is named
pub record AreVersionsRight (live closing : List Run) (ws : List Window) (retired : List FunctionEntry)
    (touched : List ℕ) : Type 0 where
  pub each : AllByRecursion (λ (f : FunctionEntry).
      has_number touched f.version ≡ false → is_version_in_use live closing ws f.version ≡ true) retired

-- ## What has ended

-- a run that wasn't touched is there for its open call
abbrev pub IsClosing : List Issue → List ℕ → ℕ → Type 0
IsClosing issues touched run = has_number touched run ≡ false → has_open_call issues run ≡ true

pub record AreEndsRight (runs : ℕ) (live closing : List Run) (ended : List EndedRun)
    (issues : List Issue)
    (touched : List ℕ) : Type 0 where
  pub closing_open : AllByRecursion (λ (r : Run). IsClosing issues touched r.number) closing
  pub ended_open :
      AllByRecursion (λ (e : EndedRun). IsClosing issues touched e.run)
      (take (length ended - 1000) ended)
  pub given : AllByRecursion (λ (e : EndedRun). e.run ≤ runs) ended
  pub once : AllByRecursion (λ (r : Run). find (has ended_number r.number) ended ≡ None) live
  pub own_calls : ArePairwise (λ (i later : Issue). i.call ≢ later.call) issues

-- ## The parts

pub record IsHeld (m : Parts) : Type 0 where
  pub fit : IsFit (state_of m)
  pub wants : AreWantsNoted m.runs.live m.admission.items m.admission.issues m.wanting
  pub events : AreEventsRight m.runs.live m.runs.closing m.windows m.texts.texts m.texts.counted m.loose.events
  pub versions : AreVersionsRight m.runs.live m.runs.closing m.windows m.versions.retired m.loose.versions
  pub ends : AreEndsRight m.counts.runs m.runs.live m.runs.closing m.ended m.admission.issues m.loose.runs
  pub clock : m.admission.moment ≤ last_moment

-- the parts are those of a state now, and the moment of what may be issued is as before
pub record Becomes (s : State) (old new : Parts) : Type 0 where
  pub state : state_of new ≡ s
  pub held : IsHeld new
  pub clock : new.admission.moment ≡ old.admission.moment

-- nothing is left to look at
pub record IsAtRest (m : Parts) : Type 0 where
  pub held : IsHeld m
  pub loose : (m.loose.runs ≡ []) × (m.loose.events ≡ []) × (m.loose.versions ≡ [])
  pub now : m.admission.moment ≡ m.moment
  pub weighed : kept (state_of m) < 2 ^ 64

-- so is the machine between two inputs
pub record IsReady (m : Parts) : Type 0 where
  pub rest : IsAtRest m
  pub apart : HasOwnNumbers (state_of m)

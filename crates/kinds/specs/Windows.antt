-- Windows: events of one function version, and of one value of its rule's key, wait together for their run.
use Rattle.std.specs.Prelude.{ℕ, ◌+◌, ◌==◌, Bool, true, false, not, ◌&&◌, List, [], ◌∷◌, ◌++◌, length, filter, Option, Some, None, nat_le, nat_lt, min, if◌then◌else◌, ◌≤◌}
use Rattle.std.specs.Option.{option_map, IfSome}
use Rattle.std.specs.Str.{bytes_eq}
use Rattle.lists.specs.Entries.{insert_in, has, without}
pub use Rattle.kinds.specs.Moments.{last_moment}
use Rattle.kinds.specs.declared.function.Debounce.{Debounce}
use Rattle.kinds.specs.declared.store.Fired.{Fired}
use Rattle.kinds.specs.declared.window.Offered.{Offered}
use Rattle.kinds.specs.declared.window.Offered.TheVariants.{Waits, Full}
use Rattle.kinds.specs.declared.window.Window.{Window}
use Rattle.kinds.specs.declared.window.Window.TheVariants as window
use Rattle.kinds.specs.declared.window.WindowRule.{WindowRule}
use Rattle.kinds.specs.declared.window.WindowRule.TheVariants as rule

-- ## The parts of a window

abbrev pub number_of : Window → ℕ
number_of (window.Debounce number version value event first due) = number
number_of (window.Batch number version value events due) = number

abbrev pub version_of : Window → ℕ
version_of (window.Debounce number version value event first due) = version
version_of (window.Batch number version value events due) = version

abbrev pub value_of : Window → List ℕ
value_of (window.Debounce number version value event first due) = value
value_of (window.Batch number version value events due) = value

-- the events that the run starts with
abbrev pub events_of : Window → List ℕ
events_of (window.Debounce number version value event first due) = event ∷ []
events_of (window.Batch number version value events due) = events

abbrev pub due_of : Window → ℕ
due_of (window.Debounce number version value event first due) = due
due_of (window.Batch number version value events due) = due

-- ## Which window

abbrev pub has_number : ℕ → Window → Bool
has_number number w = has number_of number w

-- the window of a function version and a value of its rule's key
abbrev pub is_of : ℕ → List ℕ → Window → Bool
is_of version value w = (version == version_of w) && bytes_eq value (value_of w)

abbrev pub without_number : ℕ → List Window → List Window
without_number number ws = without number_of number ws

-- the windows of other versions or values
abbrev pub others : ℕ → List ℕ → List Window → List Window
others version value ws = filter (λ w. not (is_of version value w)) ws

-- ## Their order: debounces and then batches, each by number

abbrev pub kind_of : Window → ℕ
kind_of (window.Debounce number version value event first due) = 0
kind_of (window.Batch number version value events due) = 1

abbrev pub place_of : Window → ℕ × ℕ
place_of w = (kind_of w, number_of w)

-- the window in its place
abbrev pub insert_window : Window → List Window → List Window
insert_window w ws = insert_in kind_of number_of w ws

-- ## An event is offered

-- the lesser of a due and a bound, where there is one
abbrev pub capped : Option ℕ → ℕ → ℕ
capped None due = due
capped (Some most) due = min due most

-- A debounce is due a period after its last event, and no later than the timeout after its first.
abbrev pub debounce_due : Debounce → ℕ → ℕ → ℕ
debounce_due d first t = capped (option_map (λ timeout. first + timeout) d.timeout) (t + d.period)

-- the window that an event opens
abbrev pub opened : WindowRule → ℕ → List ℕ → ℕ → ℕ → ℕ → Window
opened (rule.Debounce d) version value event t number =
    window.Debounce number version value event t (debounce_due d t t)
opened (rule.Batch b) version value event t number =
    window.Batch number version value (event ∷ []) (t + b.timeout)

-- the window after one event more: it keeps its number, a debounce the moment of its first event, a batch its due
abbrev pub joined : WindowRule → ℕ → ℕ → Window → Window
joined (rule.Debounce d) event t (window.Debounce number version value last first due) =
    window.Debounce number version value event first (debounce_due d first t)
joined (rule.Debounce d) event t (window.Batch number version value events due) =
    window.Batch number version value events due
joined (rule.Batch b) event t (window.Debounce number version value last first due) =
    window.Debounce number version value last first due
joined (rule.Batch b) event t (window.Batch number version value events due) =
    window.Batch number version value (events ++ event ∷ []) due

-- An event opens a window, or joins the one that is there.
abbrev pub after_event : WindowRule → ℕ → List ℕ → ℕ → ℕ → ℕ → Option Window → Window
after_event r version value event t number None = opened r version value event t number
after_event r version value event t number (Some w) = joined r event t w

-- A batch is full with as many events as its rule has room for, a debounce never.
abbrev pub is_full : WindowRule → Window → Bool
is_full (rule.Debounce d) w = false
is_full (rule.Batch b) w = nat_le b.size (length (events_of w))

-- what the sender of the event is told
abbrev pub offered : WindowRule → Window → Offered
offered r w = if is_full r w then Full (number_of w) (events_of w) else Waits (number_of w) (due_of w)

-- the windows after the event: a full one is closed
abbrev pub standing : WindowRule → Window → List Window → List Window
standing r w ws =
    if is_full r w then others (version_of w) (value_of w) ws
    else insert_window w (others (version_of w) (value_of w) ws)

-- ## What is asked

-- an open window is of the rule's kind, and a batch has room
abbrev pub has_room : WindowRule → Option Window → Bool
has_room r None = true
has_room (rule.Debounce d) (Some (window.Debounce number version value event first due)) = true
has_room (rule.Debounce d) (Some (window.Batch number version value events due)) = false
has_room (rule.Batch b) (Some (window.Debounce number version value event first due)) = false
has_room (rule.Batch b) (Some (window.Batch number version value events due)) =
    nat_lt (length events) b.size

-- 366 days, in milliseconds
abbrev pub longest_span : ℕ
longest_span = 31622400000

-- no period and no timeout is over 366 days
abbrev pub IsRule : WindowRule → Type 0
IsRule (rule.Debounce d) =
    (d.period ≤ longest_span) × IfSome d.timeout (λ timeout. timeout ≤ longest_span)
IsRule (rule.Batch b) = b.timeout ≤ longest_span

-- the first event of a debounce came at a moment
abbrev pub IsDated : Window → Type 0
IsDated (window.Debounce number version value event first due) = first ≤ last_moment
IsDated (window.Batch number version value events due) = Unit {0}

-- ## A window is over

abbrev pub fired : Window → Fired
fired w = record { version = version_of w; events = events_of w }

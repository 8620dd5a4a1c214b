-- What stands beside the windows: their dues, and which events and function versions they name, each as pairs
-- with a window's number.
use Rattle.std.specs.Prelude.{◌≡◌, ℕ, ◌==◌, Bool, true, false, List, find, Option, Some, None, if◌then◌else◌}
use Rattle.std.specs.Option.{is_some}
use Rattle.std.specs.List.{list_any}
use Rattle.std.specs.BTreeMap.{is_at}
use Rattle.lists.specs.Entries.{pair_cmp, AreApart, AreApartBy}
use Rattle.kinds.specs.Windows.{number_of, version_of, events_of, due_of, has_number, is_full}
use Rattle.kinds.specs.declared.store.Due.{Due}
use Rattle.kinds.specs.declared.window.Window.{Window}
use Rattle.kinds.specs.declared.window.Window.TheVariants as window
use Rattle.kinds.specs.declared.window.WindowRule.{WindowRule}
use Rattle.debounce_batch.specs.Held.{key_of, key_eq}
use Rattle.timers.specs.Dues.{dues_of}
use Rattle.awaited.specs.declared.placed.Placed.{Placed}
use Rattle.awaited.specs.declared.placed.Placed.TheVariants as placed

-- ## What is named

abbrev pub is_in : ℕ → List ℕ → Bool
is_in number numbers = list_any (λ n. number == n) numbers

abbrev pub names_event : ℕ → Window → Bool
names_event event w = is_in event (events_of w)

abbrev pub names_version : ℕ → Window → Bool
names_version version w = version == version_of w

abbrev pub window_due : Window → Option ℕ
window_due w = Some (due_of w)

-- a window is of no run
abbrev pub no_run : Window → ℕ
no_run w = 0

-- ## What became of an event

abbrev pub waits_as : Bool → Placed
waits_as was_open = if was_open then placed.Joined else placed.Opened

-- it opened a window, joined one, or made one full
abbrev pub placed_as : WindowRule → Option Window → Window → Placed
placed_as r before w =
    if is_full r w then placed.Full (events_of w) (is_some before) else waits_as (is_some before)

-- a debounce goes on with its last event alone
abbrev pub replaced_in : Option Window → Option ℕ
replaced_in None = None
replaced_in (Some (window.Debounce number version value event first due)) = Some event
replaced_in (Some (window.Batch number version value events due)) = None

abbrev pub is_one : Option ℕ → ℕ → Bool
is_one None n = false
is_one (Some m) n = m == n

-- ## Pairs

abbrev pub has_pair : List (ℕ × ℕ) → ℕ → ℕ → Bool
has_pair pairs name number = list_any (is_at (pair_cmp (name, number))) pairs

abbrev pub named_in : (ℕ → Window → Bool) → ℕ → Option Window → Bool
named_in names name None = false
named_in names name (Some w) = names name w

-- The pairs are the names of the windows.
abbrev pub AreNamed : (ℕ → Window → Bool) → List Window → List (ℕ × ℕ) → Type 0
AreNamed names ws pairs =
    (name number : ℕ) → has_pair pairs name number ≡ named_in names name (find (has_number number) ws)

-- a pair of the name is there, or none is
abbrev pub IsNamed : List (ℕ × ℕ) → ℕ → Bool → Type 0
IsNamed pairs name true = (number : ℕ) × (has_pair pairs name number ≡ true)
IsNamed pairs name false = (number : ℕ) → has_pair pairs name number ≡ false

-- pairs of one number were changed
abbrev pub Renames : ℕ → (ℕ → Bool) → List (ℕ × ℕ) → List (ℕ × ℕ) → Type 0
Renames number named old new = (name other : ℕ) →
    has_pair new name other ≡ (if number == other then named name else has_pair old name other)

pub record AreKept (ws : List Window) (ds : List Due) (events versions : List (ℕ × ℕ)) : Type 0 where
  pub keys : AreApartBy key_eq key_of ws
  pub numbers : AreApart number_of ws
  pub dues : ds ≡ dues_of window_due number_of no_run ws
  pub by_event : AreNamed names_event ws events
  pub by_version : AreNamed names_version ws versions

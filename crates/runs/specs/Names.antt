-- Whether a run names an event or a function version.
use Rattle.std.specs.Prelude.{ℕ, Bool, ◌||◌, List}
use Rattle.std.specs.List.{list_any}
use Rattle.runs.specs.Runs.{Run, RunLists, has_version, names_event}

-- a run of these has the event
abbrev pub is_used : ℕ → List Run → Bool
is_used event rs = list_any (names_event event) rs

-- a run that is here has the event
abbrev pub is_named : ℕ → RunLists → Bool
is_named event l = is_used event l.live || is_used event l.closing

-- a run of these is of the function version
abbrev pub has_runs : ℕ → List Run → Bool
has_runs version rs = list_any (has_version version) rs

-- a run that is here is of the function version
abbrev pub is_version_named : ℕ → RunLists → Bool
is_version_named version l = has_runs version l.live || has_runs version l.closing

-- What an event does to the windows.
use Rattle.std.specs.Prelude.{◌≡◌, ℕ, List, find, Some}
use Rattle.std.specs.Option.{option_map}
use Rattle.kinds.specs.Windows.{version_of, value_of, place_of, is_of, others, insert_window, after_event, standing, offered}
use Rattle.kinds.specs.declared.window.Offered.{Offered}
use Rattle.kinds.specs.declared.window.Window.{Window}
use Rattle.kinds.specs.declared.window.WindowRule.{WindowRule}

-- the window of its version and value, after the event
abbrev pub window_after : WindowRule → ℕ → List ℕ → ℕ → ℕ → ℕ → List Window → Window
window_after rule version value event t number windows =
    after_event rule version value event t number (find (is_of version value) windows)

abbrev pub answer_to : WindowRule → ℕ → List ℕ → ℕ → ℕ → ℕ → List Window → Offered
answer_to rule version value event t number windows =
    offered rule (window_after rule version value event t number windows)

abbrev pub after_offer : WindowRule → ℕ → List ℕ → ℕ → ℕ → ℕ → List Window → List Window
after_offer rule version value event t number windows =
    standing rule (window_after rule version value event t number windows) windows

-- ---- a window in the place of the one of its version and value

abbrev pub StandsAt : Window → List Window → Type 0
StandsAt window windows =
    option_map place_of (find (is_of (version_of window) (value_of window)) windows)
    ≡ Some (place_of window)

abbrev pub replaced : Window → List Window → List Window
replaced window windows = insert_window window (others (version_of window) (value_of window) windows)

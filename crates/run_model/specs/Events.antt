-- What an event does, once it is accepted: it wakes waits, and starts runs or joins windows.
use Rattle.std.specs.Prelude.{ℕ, ◌+◌, ◌==◌, Bool, true, false, not, ◌&&◌, ◌||◌, List, [], ◌∷◌, ◌++◌, map, filter, find, Option, Some, None, if◌then◌else◌, bytes_eq}
use Rattle.std.specs.List.{list_any}
use Rattle.std.specs.Option.{is_some}
use Rattle.intake.specs.Events.{event_text}
use Rattle.kinds.specs.Stores.{woken}
use Rattle.kinds.specs.Windows as windows
use Rattle.kinds.specs.Windows.{after_event, is_of, is_full, standing}
use Rattle.kinds.specs.declared.event.Event.{Event}
use Rattle.kinds.specs.declared.event.EventIn.{EventIn}
use Rattle.kinds.specs.declared.function.Batch.{Batch}
use Rattle.kinds.specs.declared.function.Debounce.{Debounce}
use Rattle.kinds.specs.declared.function.Function.{Function}
use Rattle.kinds.specs.declared.function.Trigger.{Trigger}
use Rattle.kinds.specs.declared.store.Wait.{Wait}
use Rattle.kinds.specs.declared.window.Window.{Window}
use Rattle.kinds.specs.declared.window.WindowRule.{WindowRule}
use Rattle.kinds.specs.declared.window.WindowRule.TheVariants as rule
use Rattle.functions.specs.declared.entry.FunctionEntry.{FunctionEntry}
use Rattle.event_keys.specs.Expressions.{holds_over, key_value}
use Rattle.run_model.specs.Expressions.{truth_in}
use Rattle.run_model.specs.Making.{make_run}
use Rattle.run_model.specs.Recording.{Discovery, data_result, discovered, wake_step}
use Rattle.run_model.specs.State.{State, Waiting}

-- ## A number for an event

abbrev pub event_with : EventIn → State → Event
event_with event s =
    record { number = s.events + 1; name = event.name; text = event_text (s.events + 1) s.moment event }

abbrev pub add_event : Event → State → State
add_event event s = record s {
  events = event.number;
  texts = s.texts ++ (record { number = event.number; text = event.text }) ∷ [];
}

-- ## Waits

abbrev pub wait_of : Waiting → Wait
wait_of w = w.wait

abbrev pub has_wait : ℕ → Waiting → Bool
has_wait number w = number == w.wait.number

abbrev pub without_wait : ℕ → State → State
without_wait number s = record s { waits = filter (λ w. not (has_wait number w)) s.waits }

-- a wait is over with a result
abbrev pub end_wait : List ℕ → Waiting → State → State
end_wait result w s = wake_step w.wait.run w.hash result (without_wait w.wait.number s)

abbrev pub wake_found : Discovery → List ℕ → Option Waiting → State → State
wake_found discovery result None s = s
wake_found discovery result (Some w) s = discovered discovery (end_wait result w s)

abbrev pub wake : Discovery → List ℕ → ℕ → State → State
wake discovery result number s = wake_found discovery result (find (has_wait number) s.waits) s

abbrev pub wake_all : Discovery → List ℕ → List ℕ → State → State
wake_all discovery result [] s = s
wake_all discovery result (n ∷ ns) s = wake_all discovery result ns (wake discovery result n s)

-- All waits that the event meets are over, in order of number.
abbrev pub wake_by : Discovery → Event → State → State
wake_by discovery event s =
    wake_all discovery (data_result event.text) (woken (truth_in s) event (map wait_of s.waits)) s

-- ## Windows

abbrev pub window_of : ℕ → List ℕ → State → Option Window
window_of version value s = find (is_of version value) s.windows

-- A window takes the next number where it is opened and stays.
abbrev pub takes_number : WindowRule → Option Window → Window → Bool
takes_number r before w = not (is_some before || is_full r w)

abbrev pub with_window : WindowRule → Option Window → Window → State → State
with_window r before w s = record s {
  windows = standing r w s.windows;
  entries = if takes_number r before w then s.entries + 1 else s.entries;
}

-- A full window makes its run at once.
abbrev pub in_window : FunctionEntry → WindowRule → Option Window → Window → State → State
in_window f r before w s = elim (is_full r w) as (λ _. State) [
  | true ↦ make_run f (windows.events_of w) None (with_window r before w s)
  | false ↦ with_window r before w s
]

abbrev pub offer_beside : FunctionEntry → WindowRule → List ℕ → Event → Option Window → State → State
offer_beside f r value event before s =
    in_window f r before (after_event r f.version value event.number s.moment (s.entries + 1) before) s

abbrev pub offer_by : FunctionEntry → WindowRule → List ℕ → Event → State → State
offer_by f r value event s = offer_beside f r value event (window_of f.version value s) s

abbrev pub key_of : WindowRule → Option (List ℕ)
key_of (rule.Debounce d) = d.key
key_of (rule.Batch b) = b.key

-- a function's window, where it has one
abbrev pub window_rule : Option Debounce → Option Batch → Option WindowRule
window_rule (Some d) batch = Some (rule.Debounce d)
window_rule None (Some b) = Some (rule.Batch b)
window_rule None None = None

abbrev pub window_rule_of : Function → Option WindowRule
window_rule_of f = window_rule f.debounce f.batch

-- ## Triggers

abbrev pub is_triggered_by : Event → Trigger → Bool
is_triggered_by event t = bytes_eq t.event event.name && holds_over t.cond event.text

abbrev pub is_triggered : Event → FunctionEntry → Bool
is_triggered event f = list_any (is_triggered_by event) f.function.triggers

abbrev pub offer_to : FunctionEntry → Option WindowRule → Event → State → State
offer_to f None event s = make_run f (event.number ∷ []) None s
offer_to f (Some r) event s = offer_by f r (key_value (key_of r) event.text) event s

abbrev pub offer : FunctionEntry → Event → State → State
offer f event s =
    elim (is_triggered event f) as (λ _. State)
    [ true ↦ offer_to f (window_rule_of f.function) event s | false ↦ s ]

abbrev pub offer_to_all : List FunctionEntry → Event → State → State
offer_to_all [] event s = s
offer_to_all (f ∷ fs) event s = offer_to_all fs event (offer f event s)

-- ## What follows from an event

-- It wakes waits, and is offered to the current functions in order of version.
unfoldable pub follow : Discovery → Event → State → State
follow discovery event s = offer_to_all s.functions event (wake_by discovery event s)

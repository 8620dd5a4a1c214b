-- What becomes of an event that is offered to a function.
use Rattle.std.specs.Prelude.{ℕ, ◌≡◌, ◌∷◌, ◌+◌, ◌&&◌, Bool, true, false, List, [], Option, Some, None, bytes_eq}
use Rattle.std.specs.Option.{option_map}
use Rattle.event_keys.specs.Expressions.{holds_over, key_value}
use Rattle.functions.specs.declared.entry.FunctionEntry.{FunctionEntry}
use Rattle.awaited.specs.Named.{placed_as}
use Rattle.awaited.specs.declared.placed.Placed.{Placed}
use Rattle.awaited.specs.declared.placed.Placed.TheVariants as placed
use Rattle.kinds.specs.Windows.{after_event, events_of}
use Rattle.kinds.specs.declared.event.Event.{Event}
use Rattle.kinds.specs.declared.function.Trigger.{Trigger}
use Rattle.kinds.specs.declared.window.Window.{Window}
use Rattle.kinds.specs.declared.window.WindowRule.{WindowRule}
use Rattle.kinds.specs.declared.window.WindowRule.TheVariants as rule
use Rattle.run_model.specs.Events.{in_window, is_triggered, key_of, window_of, window_rule_of, with_window}
use Rattle.run_model.specs.State.{State, function_at}
use Rattle.machine.specs.Words.{make_at}
use Rattle.machine.specs.declared.offers.Offer.{Offer}
use Rattle.machine.specs.declared.offers.Offer.TheVariants as offer

abbrev pub is_trigger : List ℕ → List ℕ → Trigger → Bool
is_trigger name text t = bytes_eq t.event name && holds_over t.cond text

-- the rule's key stays with the function
abbrev pub without_key : WindowRule → WindowRule
without_key (rule.Debounce d) = rule.Debounce (record d { key = None })
without_key (rule.Batch b) = rule.Batch (record b { key = None })

abbrev pub value_by : Option WindowRule → List ℕ → List ℕ
value_by None text = []
value_by (Some r) text = key_value (key_of r) text

abbrev pub offer_by : FunctionEntry → Option WindowRule → List ℕ → Offer
offer_by f None text = offer.Run f.version
offer_by f (Some r) text = offer.Window f.version (without_key r) (key_value (key_of r) text)

abbrev pub offer_of : FunctionEntry → Event → Offer
offer_of f event = elim (is_triggered event f) as (λ _. Offer)
    [ true ↦ offer_by f (window_rule_of f.function) event.text | false ↦ offer.Nothing ]

abbrev pub IsOffer : FunctionEntry → Event → Offer → Type 0
IsOffer f event o = o ≡ offer_of f event

abbrev pub IsOfferAt : Option FunctionEntry → Event → Offer → Type 0
IsOfferAt None event o = o ≡ offer.Nothing
IsOfferAt (Some f) event o = IsOffer f event o

-- the function is there, and the rule is its own
abbrev pub IsRuleOf : Option FunctionEntry → WindowRule → Type 0
IsRuleOf None r = ⊥
IsRuleOf (Some f) r = Some r ≡ option_map without_key (window_rule_of f.function)

abbrev pub IsOfferRight : State → Offer → Type 0
IsOfferRight s offer.Nothing = Unit {0}
IsOfferRight s (offer.Run version) = Unit {0}
IsOfferRight s (offer.Window version r value) = IsRuleOf (function_at version s) r

-- an event opens or joins a window of a version, where there is the version
abbrev pub gather_at : Option FunctionEntry → WindowRule → List ℕ → ℕ → State → State
gather_at None r value event s = s
gather_at (Some f) r value event s =
    in_window f r (window_of f.version value s)
    (after_event r f.version value event s.moment (s.entries + 1) (window_of f.version value s)) s

-- the events of a window, where there is one
abbrev pub events_in : Option Window → List ℕ
events_in None = []
events_in (Some w) = events_of w

-- a window that is opened takes the next number
abbrev pub last_entry : Placed → ℕ → ℕ → ℕ
last_entry placed.Opened before number = number
last_entry placed.Joined before number = before
last_entry (placed.Full events was_open) before number = before

-- the window of a version and a value after an event
abbrev pub after_join : ℕ → WindowRule → List ℕ → ℕ → State → Window
after_join version r value event s =
    after_event r version value event s.moment (s.entries + 1) (window_of version value s)

-- the window takes the event, and stays where it isn't full
abbrev pub joined_at : ℕ → WindowRule → List ℕ → ℕ → State → State
joined_at version r value event s =
    with_window r (window_of version value s) (after_join version r value event s) s

abbrev pub placed_at : ℕ → WindowRule → List ℕ → ℕ → State → Placed
placed_at version r value event s =
    placed_as r (window_of version value s) (after_join version r value event s)

abbrev pub take_offer : Offer → ℕ → State → State
take_offer offer.Nothing event s = s
take_offer (offer.Run version) event s = make_at (function_at version s) (event ∷ []) None s
take_offer (offer.Window version r value) event s = gather_at (function_at version s) r value event s

-- Which entries of an index an event meets, and which conditions are evaluated for it.
use Rattle.std.specs.Prelude.{ℕ, Bool, ◌&&◌, List, map, filter, find, length, Option, Some, None, false}
use Rattle.std.specs.Option.{is_some, option_map}
use Rattle.std.specs.Str.{bytes_eq}
use Rattle.lists.specs.Entries.{has, in_order}
use Rattle.kinds.specs.declared.event.Event.{Event}
use Rattle.kinds.specs.Stores.{Condition, Truth, Values, is_met, is_asked}

-- whether there is an entry, and it passes
abbrev pub passes : {X : Type 0} → (X → Bool) → Option X → Bool
passes test None = false
passes test (Some e) = test e

-- the numbers of the entries that an event meets
abbrev pub met_numbers : {X : Type 0} → (X → Condition) → (X → ℕ) → Truth → Event → List X → List ℕ
met_numbers condition number truth event es =
    map number (filter (λ e. is_met truth event (condition e)) es)

-- the runs of the entries that an event meets, each once, in order
abbrev pub met_runs : {X : Type 0} → (X → Condition) → (X → ℕ) → Truth → Event → List X → List ℕ
met_runs condition run truth event es =
    in_order (map run (filter (λ e. is_met truth event (condition e)) es))

-- how many conditions may be evaluated for an event
abbrev pub asked_count : {X : Type 0} → (X → Condition) → Values → Event → List X → ℕ
asked_count condition values event es = length (filter (λ e. is_asked values event (condition e)) es)

-- a condition of the event's name
abbrev pub asks : Event → Condition → Bool
asks event c = bytes_eq c.name event.name && is_some c.cond

abbrev pub meets_at : {X : Type 0} → (X → Condition) → (X → ℕ) → Truth → Event → List X → ℕ → Bool
meets_at condition number truth event es n =
    passes (λ e. is_met truth event (condition e)) (find (has number n) es)

abbrev pub asks_at : {X : Type 0} → (X → Condition) → (X → ℕ) → Event → List X → ℕ → Bool
asks_at condition number event es n = passes (λ e. asks event (condition e)) (find (has number n) es)

-- the run of the entry that has a number
abbrev pub run_at : {X : Type 0} → (X → ℕ) → (X → ℕ) → List X → ℕ → Option ℕ
run_at run number es n = option_map run (find (has number n) es)

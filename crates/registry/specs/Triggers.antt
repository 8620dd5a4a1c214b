-- The events that start a function.
use Rattle.std.specs.Prelude.{ℕ, ◌&&◌, if◌then◌else◌, Bool, true, is_some, List, [], codes, Option, Some, None, Result, Ok, Err}
use Rattle.kinds.specs.declared.function.Trigger.{Trigger}
use Rattle.serde_json.specs.Data.{Data, Items, no_items, item}
use Rattle.registry.specs.declared.flaw.Flaw.{Flaw}
use Rattle.registry.specs.declared.flaw.Flaw.TheVariants as flaw
use Rattle.registry.specs.Expressions.{condition_in}
use Rattle.registry.specs.Members.{◌>>=◌, array_in, found_or, has_count, part, read_behind, text_in}

abbrev pub most_triggers : ℕ
most_triggers = 10

-- the event's name, of a trigger that isn't a time
abbrev pub event_of : Data → Option (List ℕ)
event_of d = if is_some (part (codes "cron") d) then None else text_in (codes "event") d

-- each has an event
abbrev pub have_events : Items → Bool
have_events no_items = true
have_events (item d ds) = is_some (event_of d) && have_events ds

-- the trigger that an item is
unfoldable pub trigger_of : Data → Result Trigger Flaw
trigger_of d = do
  event ← found_or flaw.Trigger (event_of d)
  cond ← condition_in (codes "expression") d
  Ok (record { event = event; cond = cond })

-- one to ten, all of whose events are read before the first expression
abbrev pub listed_triggers : Items → Result (List Trigger) Flaw
listed_triggers ds =
    if has_count 1 most_triggers ds && have_events ds
    then read_behind (λ _. trigger_of) [] ds
    else Err flaw.Trigger

abbrev pub triggers_of : Option Items → Result (List Trigger) Flaw
triggers_of None = Err flaw.Trigger
triggers_of (Some ds) = listed_triggers ds

-- the triggers of a function
unfoldable pub triggers_in : Data → Result (List Trigger) Flaw
triggers_in d = triggers_of (array_in (codes "triggers") d)

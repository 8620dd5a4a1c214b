-- What the events of a request do.
use Rattle.std.specs.Prelude.{ℕ, ◌+◌, List, [], ◌∷◌, ◌++◌, Option, Some, None}
use Rattle.std.specs.Option.{option_and_then}
use Rattle.kinds.specs.Seen.{find_seen, note_seen}
use Rattle.kinds.specs.Stores.{cancelled}
use Rattle.kinds.specs.declared.event.Event.{Event}
use Rattle.kinds.specs.declared.event.EventIn.{EventIn}
use Rattle.run_model.specs.Ends.{cancel_run}
use Rattle.run_model.specs.Events.{add_event, event_with, follow}
use Rattle.run_model.specs.Expressions.{truth_in}
use Rattle.run_model.specs.Recording.{at_once}
use Rattle.run_model.specs.State.{State, Run, live_run}

-- ## Repeated events

-- the number of the accepted event that this one repeats
abbrev pub repeats : EventIn → State → Option ℕ
repeats event s = option_and_then (λ id. find_seen id s.moment s.seen) event.id

-- the id of the event that is made next, where it has one, is remembered
abbrev pub remember : Option (List ℕ) → State → State
remember None s = s
remember (Some id) s =
    record s { seen = note_seen (record { id = id; number = s.events + 1; moment = s.moment }) s.seen }

-- ## Cancel rules

abbrev pub cancel_found : Option Run → State → State
cancel_found None s = s
cancel_found (Some r) s = cancel_run at_once r s

abbrev pub cancel_all : List ℕ → State → State
cancel_all [] s = s
cancel_all (n ∷ ns) s = cancel_all ns (cancel_found (live_run n s) s)

-- The runs whose rules the event meets are cancelled, in order of run.
abbrev pub cancel_by : Event → State → State
cancel_by event s = cancel_all (cancelled (truth_in s) event s.rules) s

-- ## The events of a request

-- a state in the midst of a request's events, and the numbers that the events before are answered with
pub record Answering : Type 0 where
  pub state : State
  pub numbers : List ℕ

abbrev pub accept : Event → Option (List ℕ) → State → State
accept event id s = follow at_once event (cancel_by event (add_event event (remember id s)))

-- A repeated event is answered with the number of the first, and changes nothing.
abbrev pub answer_event : EventIn → Option ℕ → Answering → Answering
answer_event event (Some number) answering =
    record answering { numbers = answering.numbers ++ number ∷ [] }
answer_event event None answering = record {
  state = accept (event_with event answering.state) event.id answering.state;
  numbers = answering.numbers ++ (answering.state.events + 1) ∷ [];
}

abbrev pub on_event : EventIn → Answering → Answering
on_event event answering = answer_event event (repeats event answering.state) answering

unfoldable pub on_events : List EventIn → Answering → Answering
on_events [] answering = answering
on_events (event ∷ events) answering = on_events events (on_event event answering)

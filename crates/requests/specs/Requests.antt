-- What a request comes to: an input, or an answer that is given at once.
use Rattle.std.specs.Prelude.{ℕ, List, [], ◌∷◌, Option, Some, None, Result, Ok, Err}
use Rattle.std.specs.Option.{option_map}
use Rattle.intake.specs.Events.{events_in_body, fault_answer}
use Rattle.intake.specs.declared.fault.IntakeFault.{IntakeFault}
use Rattle.kinds.specs.Answer.{ids_answer}
use Rattle.kinds.specs.declared.event.EventIn.{EventIn}
use Rattle.kinds.specs.declared.function.App.{App}
use Rattle.kinds.specs.declared.input.Input.TheVariants.{Events, Register}
use Rattle.registry.specs.Answers.{fault_answer as register_answer}
use Rattle.registry.specs.Apps.{read_app}
use Rattle.registry.specs.declared.fault.RegisterFault.{RegisterFault}
use Rattle.requests.specs.declared.requested.Requested.{Requested}
use Rattle.requests.specs.declared.requested.Requested.TheVariants.{Input, Answered}

-- a request without events is answered at once, with no ids
abbrev pub requested_events : ℕ → List EventIn → Requested
requested_events at [] = Answered (ids_answer [])
requested_events at (event ∷ events) = Input (Events at (event ∷ events))

-- a request whose body gives these events or is refused; want of memory has no answer
abbrev pub requested : ℕ → Result (List EventIn) IntakeFault → Option Requested
requested at (Ok events) = Some (requested_events at events)
requested at (Err fault) = option_map Answered (fault_answer fault)

-- a request of events with this clock reading and body
abbrev pub events_request : ℕ → List ℕ → Option Requested
events_request at body = requested at (events_in_body body)

-- a registration whose body gives this application or is refused
abbrev pub registered : ℕ → Result App RegisterFault → Option Requested
registered at (Ok app) = Some (Input (Register at app))
registered at (Err fault) = option_map Answered (register_answer fault)

-- a registration with this clock reading and body
abbrev pub register_request : ℕ → List ℕ → Option Requested
register_request at body = registered at (read_app body)

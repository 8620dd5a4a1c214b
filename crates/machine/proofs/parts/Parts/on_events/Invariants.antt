use Rattle.std.proofs.Common.{drop}
use Rattle.machine.proofs.HeldRequests.{IsTaking}
use Rattle.machine.proofs.parts.Parts.on_events.Given as goal

abbrev pub invariant-loop-event : goal.invariant-loop-event
invariant-loop-event g l = IsTaking l.events (drop l.event-index l.events) l.numbers l.initial.self l.self

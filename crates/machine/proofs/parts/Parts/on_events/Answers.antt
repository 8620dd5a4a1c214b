use Rattle.std.proofs.Common.{◌+◌, drop, subst, sym}
use Rattle.machine.proofs.HeldRequests.{IsTaking, taking-done, taking-numbers, taking-on}
use Rattle.machine.proofs.parts.Parts.on_events.Goals as goal

pub loop-event-preserved : goal.loop-event-preserved
loop-event-preserved g c =
    let events = c.args.events.now in
    let i = c.loop-event.event-index in
    subst (λ numbers. IsTaking events (drop (i + 1) events) numbers c.args.self.now c.on_event.new.self)
    (sym c.in_ok-push.ensures.ok)
    (taking-on events i c.event-item.result c.loop-event.numbers c.in_ok-on_event.field-0 c.args.self.now
    c.loop-event.self c.on_event.new.self c.loop-event-test.true c.event-item.is c.loop-event.invariant
    c.in_ok-on_event.ensures.number c.in_ok-on_event.ensures.state)

pub returns-clause-numbers : goal.returns-clause-numbers
returns-clause-numbers g c =
    taking-numbers c.args.events.now c.loop-event.event-index c.loop-event.numbers c.args.self.now c.loop-event.self
    c.loop-event-test.false c.loop-event.invariant

pub returns-clause-state : goal.returns-clause-state
returns-clause-state g c =
    taking-done c.args.events.now c.loop-event.event-index c.loop-event.numbers c.args.self.now c.loop-event.self
    c.loop-event-test.false c.loop-event.invariant

use Rattle.machine.proofs.HeldRequests.{accepted, added-fresh, met-given}
use Rattle.machine.proofs.parts.Parts.accept.Goals as goal

pub remember-requires-clause-fresh : goal.remember-requires-clause-fresh
remember-requires-clause-fresh g c =
    added-fresh c.args.event.now c.args.self.now c.add_event.new.self c.in_ok-number.number
    c.in_ok-number.ensures.number c.requires.held c.in_ok-number.ensures.now

pub follow-requires-clause-given : goal.follow-requires-clause-given
follow-requires-clause-given g c =
    met-given c.args.event.now c.args.self.now c.add_event.new.self c.in_ok-number.number
    c.in_ok-number.ensures.number c.requires.held c.in_ok-number.ensures.now c.remember.new.self
    c.in_ok-remember.ensures c.cancel_by.new.self c.in_ok-cancel_by.ensures

pub returns-clause-state : goal.returns-clause-state
returns-clause-state g c =
    accepted c.args.event.now c.args.self.now c.add_event.new.self c.in_ok-number.number
    c.in_ok-number.ensures.number c.requires.held c.in_ok-number.ensures.now c.remember.new.self
    c.in_ok-remember.ensures c.cancel_by.new.self c.in_ok-cancel_by.ensures c.follow.new.self c.in_ok-follow.ensures

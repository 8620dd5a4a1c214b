use Rattle.std.proofs.Common.{◌∙◌, sym}
use Rattle.machine.proofs.HeldNamed.{looked-event}
use Rattle.machine.proofs.parts.Parts.drop_next_event.Goals as goal

pub returns-clause-now : goal.returns-clause-now
returns-clause-now c =
    looked-event c.args.self.now c.look_at_event.new.self c.in-Some.event c.pop_first.result c.pop_first.new.self
    (sym c.in-Some.is ∙ c.first.ensures) c.in_ok-look_at_event.ensures.now c.in_ok-look_at_event.ensures.settled
    c.in_ok-look_at_event.ensures.loose c.pop_first.ensures c.requires.held

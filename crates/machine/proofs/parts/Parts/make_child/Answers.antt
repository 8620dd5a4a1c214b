use Rattle.std.proofs.Common.{◌∙◌, ◌++◌, ◌∷◌, [], ap}
use Rattle.machine.proofs.HeldMaking.{on-ok}
use Rattle.machine.proofs.Invoked.{becomes-child, child-given}
use Rattle.machine.proofs.parts.Parts.make_child.Goals as goal

pub make_run-requires-clause-given : goal.make_run-requires-clause-given
make_run-requires-clause-given c =
    child-given c.args.self.now c.add_event.new.self c.in_ok-event.event c.in_ok-number.number c.push.new.self
    c.in_ok-number.ensures.number
    (c.in_ok-push.ensures.ok ∙ ap (λ ns. ns ++ c.in_ok-number.number ∷ []) c.new-events.ensures)
    c.in_ok-number.ensures.now

pub returns : goal.returns
returns c =
    on-ok c.make_run.result _ _
    (λ became. becomes-child c.args.version c.args.run c.args.hash c.args.payload.now c.args.self.now
    c.add_event.new.self c.make_run.new.self c.in_ok-event.event c.in_ok-number.number c.push.new.self
    c.in_ok-event.ensures c.in_ok-number.ensures.number
    (c.in_ok-push.ensures.ok ∙ ap (λ ns. ns ++ c.in_ok-number.number ∷ []) c.new-events.ensures)
    c.in_ok-number.ensures.now became) c.make_run.ensures

use Rattle.run_model.specs.State.{without_unnamed}
use Rattle.machine.specs.Tidy.{touched_events}
use Rattle.machine.proofs.HeldTidy.{last-looked}
use Rattle.machine.proofs.parts.Parts.drop_events.Goals as goal

pub returns-clause-now : goal.returns-clause-now
returns-clause-now c =
    (last-looked touched_events without_unnamed c.args.self.now c.loop.self c.drop_next_event.new.self
    c.in_ok-drop_next_event.field-0 c.if-branch.false c.in_ok-drop_next_event.ensures.now c.loop.invariant.now).0

pub returns-clause-none : goal.returns-clause-none
returns-clause-none c =
    (last-looked touched_events without_unnamed c.args.self.now c.loop.self c.drop_next_event.new.self
    c.in_ok-drop_next_event.field-0 c.if-branch.false c.in_ok-drop_next_event.ensures.now c.loop.invariant.now).1

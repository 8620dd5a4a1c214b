use Rattle.std.proofs.Common.{◌∙◌, ap, refl, subst}
use Rattle.intake.specs.Events.{event_text}
use Rattle.machine.specs.Numbers.{IsJoined}
use Rattle.machine.proofs.HeldEvents.{held-add_event, with-text}
use Rattle.machine.proofs.parts.Parts.add_event.Goals as goal

pub returns-clause-now : goal.returns-clause-now
returns-clause-now c =
    let m = c.args.self.now in
    held-add_event m c.args.event.now c.next_event.new.self _ c.add.new.self c.insert.new.self
    c.in_ok-number.ensures.counted refl
    (subst (λ n. IsJoined n m.loose.events c.insert.new.self) c.in_ok-number.ensures.number c.in_ok-insert.ensures)
    (c.in_ok-add.ensures.ok ∙ ap (λ t. with-text m.texts c.in_ok-number.number t) c.in_ok-text.ensures
    ∙ ap (λ n. with-text m.texts n (event_text n m.moment c.args.event.now)) c.in_ok-number.ensures.number)
    c.requires.held

use Rattle.std.proofs.Common.{◌&&◌, ◌∙◌, not, ap, sym}
use Rattle.machine.specs.Replies.{is_resting}
use Rattle.machine.specs.View.{state_of}
use Rattle.machine.proofs.Replied.{idle-is}
use Rattle.machine.proofs.parts.Parts.is_idle.Goals as goal

pub returns-then-not-is_called : goal.returns-then-not-is_called
returns-then-not-is_called c =
    c.is_resting.ensures
    ∙ ap (λ b. b && is_resting c.in-Some.run'.now) (sym (ap not (sym c.is_called.ensures ∙ c.if-not-is_called.true)))
    ∙ sym (idle-is c.args.number c.in-Some.run'.now (state_of c.args.self.now) (sym c.in-Some.ensures))

pub returns-else-not-is_called : goal.returns-else-not-is_called
returns-else-not-is_called c =
    ap not c.if-not-is_called.false
    ∙ ap (λ b. b && is_resting c.in-Some.run'.now) (sym (ap not (sym c.is_called.ensures ∙ c.if-not-is_called.false)))
    ∙ sym (idle-is c.args.number c.in-Some.run'.now (state_of c.args.self.now) (sym c.in-Some.ensures))

use Rattle.std.proofs.Common.{subst}
use Rattle.machine.specs.Numbers.{IsTouched}
use Rattle.machine.proofs.Over.{no-window, window-taken}
use Rattle.machine.proofs.parts.Parts.take_window.Goals as goal

pub returns-in_default-clause-now : goal.returns-in_default-clause-now
returns-in_default-clause-now c =
    no-window c.args.self.now c.args.number c.fire.new.self c.in_default.ensures.value c.fire.ensures.left
    c.requires.held

pub returns-clause-now : goal.returns-clause-now
returns-clause-now c =
    window-taken c.args.self.now c.args.number c.in-Some.fired c.fire.new.self c.touch.new.self
    c.in-Some.ensures.value c.fire.ensures.left
    (subst (λ ns. IsTouched c.in-Some.fired.version ns c.args.self.now.loose c.touch.new.self) c.as_slice.ensures
    c.in_ok-touch.ensures) c.requires.numbers c.requires.held

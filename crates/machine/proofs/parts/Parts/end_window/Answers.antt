use Rattle.std.proofs.Common.{◌∙◌, sym}
use Rattle.machine.proofs.HeldMaking.{on-ok}
use Rattle.machine.proofs.Over.{window-given, window-none, window-some}
use Rattle.machine.proofs.parts.Parts.end_window.Goals as goal

pub make_run-requires-clause-given : goal.make_run-requires-clause-given
make_run-requires-clause-given c =
    window-given c.args.self.now c.take_window.new.self c.args.number c.in_ok-fired.ensures.now c.in-Some.fired
    (sym c.in-Some.is ∙ c.in_ok-fired.ensures.value) c.requires.held

pub returns-in_default : goal.returns-in_default
returns-in_default c =
    window-none c.args.self.now c.take_window.new.self c.args.number c.in_ok-fired.ensures.now
    (sym c.in_default.is ∙ c.in_ok-fired.ensures.value)

pub returns : goal.returns
returns c =
    on-ok c.make_run.result _ _
    (window-some c.args.self.now c.take_window.new.self c.args.number c.in_ok-fired.ensures.now c.in-Some.fired
    (sym c.in-Some.is ∙ c.in_ok-fired.ensures.value) c.make_run.new.self) c.make_run.ensures

use Rattle.std.proofs.Common.{◌∙◌, sym}
use Rattle.machine.proofs.HeldMaking.{on-ok}
use Rattle.machine.proofs.HeldTidy.{look-closed, look-open}
use Rattle.machine.proofs.parts.Parts.look_at_run.Goals as goal

pub returns-then-has_open_call-clause-now : goal.returns-then-has_open_call-clause-now
returns-then-has_open_call-clause-now c =
    look-open c.args.self.now c.args.run (sym c.has_open_call.ensures ∙ c.if-has_open_call.true) c.requires.held

pub returns-else-has_open_call-clause-now : goal.returns-else-has_open_call-clause-now
returns-else-has_open_call-clause-now c =
    on-ok c.forget_run.result _ _
    (λ became. look-closed c.args.self.now c.forget_run.new.self c.args.run
    (sym c.has_open_call.ensures ∙ c.if-has_open_call.false) became) c.forget_run.ensures.now

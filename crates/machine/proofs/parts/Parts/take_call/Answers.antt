use Rattle.std.proofs.Common.{◌∙◌, sym}
use Rattle.machine.proofs.Reopened.{held-first, held-no-first}
use Rattle.machine.proofs.parts.Parts.take_call.Goals as goal

pub returns-in_default-clause-now : goal.returns-in_default-clause-now
returns-in_default-clause-now c =
    held-no-first c.args.self.now c.take_first.new.self (sym c.in_default.is ∙ c.in_ok-issue.ensures.value)
    c.in_ok-issue.ensures.left c.requires.held

pub returns-clause-now : goal.returns-clause-now
returns-clause-now c =
    held-first c.args.self.now c.in-Some.issue c.take_first.new.self c.insert.new.self c.insert-2.new.self
    (sym c.in-Some.is ∙ c.in_ok-issue.ensures.value) c.in_ok-issue.ensures.left c.in_ok-insert.ensures
    c.in_ok-insert-2.ensures c.requires.held

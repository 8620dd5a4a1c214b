use Rattle.std.proofs.Common.{◌∙◌, sym}
use Rattle.machine.proofs.HeldReplies.{held-close, held-close-none, none-of}
use Rattle.machine.proofs.parts.Parts.close.Goals as goal

pub returns-in_default-clause-now : goal.returns-in_default-clause-now
returns-in_default-clause-now c =
    held-close-none c.args.self.now c.args.call c.close.new.self
    (sym (none-of c.in_ok-issue.field-0 c.in_default.not-Some) ∙ c.in_ok-issue.ensures.value)
    c.in_ok-issue.ensures.left c.requires.held

pub returns-clause-now : goal.returns-clause-now
returns-clause-now c =
    held-close c.args.self.now c.args.call c.in-Some.issue c.close.new.self c.insert.new.self c.insert-2.new.self
    (sym c.in-Some.is ∙ c.in_ok-issue.ensures.value) c.in_ok-issue.ensures.left c.in_ok-insert.ensures
    c.in_ok-insert-2.ensures c.requires.held

use Rattle.std.proofs.Common.{◌∙◌, sym}
use Rattle.machine.proofs.HeldNamed.{held-forget_version, held-named_version}
use Rattle.machine.proofs.parts.Parts.look_at_version.Goals as goal

pub returns-then-is_version_named-clause-now : goal.returns-then-is_version_named-clause-now
returns-then-is_version_named-clause-now c =
    held-named_version c.args.self.now c.args.version
    (sym c.is_version_named.ensures ∙ c.if-is_version_named.true) c.requires.held

pub returns-clause-now : goal.returns-clause-now
returns-clause-now c =
    held-forget_version c.args.self.now c.args.version c.forget.new.self
    (sym c.is_version_named.ensures ∙ c.if-is_version_named.false) c.forget.ensures.current
    c.forget.ensures.retired c.requires.held

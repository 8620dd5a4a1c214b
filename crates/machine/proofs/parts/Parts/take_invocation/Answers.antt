use Rattle.machine.proofs.HeldTime.{held-invocations}
use Rattle.machine.proofs.parts.Parts.take_invocation.Goals as goal

pub returns-clause-now : goal.returns-clause-now
returns-clause-now c =
    held-invocations c.args.self.now c.args.number c.remove.new.self c.remove.ensures.left c.requires.held

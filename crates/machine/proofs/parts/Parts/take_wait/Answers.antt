use Rattle.machine.proofs.HeldEvents.{held-without_wait}
use Rattle.machine.proofs.parts.Parts.take_wait.Goals as goal

pub returns-clause-now : goal.returns-clause-now
returns-clause-now c =
    held-without_wait c.args.self.now c.args.number c.remove.new.self c.remove.ensures.left c.requires.held

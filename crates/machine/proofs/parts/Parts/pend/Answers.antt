use Rattle.machine.proofs.HeldOperations.{held-pend}
use Rattle.machine.proofs.parts.Parts.pend.Goals as goal

pub returns-clause-now : goal.returns-clause-now
returns-clause-now c =
    held-pend c.args.self.now c.args.run c.args.hash.now c.args.kind c.in_ok-naming.naming c.pend.new.self
    c.in_ok-naming.ensures.live c.pend.ensures.closing c.requires.held

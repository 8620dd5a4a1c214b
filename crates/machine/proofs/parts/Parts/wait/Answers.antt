use Rattle.machine.proofs.HeldOperations.{wait-then}
use Rattle.machine.proofs.parts.Parts.wait.Goals as goal

pub returns-in_ok-add_wait-in-New-clause-now : goal.returns-in_ok-add_wait-in-New-clause-now
returns-in_ok-add_wait-in-New-clause-now c =
    wait-then c.args.self.now c.pend.new.self c.add_wait.new.self c.args.run c.args.hash c.in_ok-naming.naming c.args.name c.args.timeout c.args.cond
    c.in_ok-naming.ensures.named c.in-New.is c.in_ok-naming.ensures.now
    c.in_ok-add_wait-in-New.ensures

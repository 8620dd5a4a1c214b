use Rattle.machine.proofs.Invoked.{becomes-invoked, invoked-waits}
use Rattle.machine.proofs.parts.Parts.invoke.Goals as goal

pub invoke_current-requires-clause-pending : goal.invoke_current-requires-clause-pending
invoke_current-requires-clause-pending c =
    invoked-waits c.args.run c.args.hash c.in_ok-naming.naming c.args.self.now c.pend.new.self
    c.in_ok-naming.ensures.named c.in-New.is c.in_ok-naming.ensures.now

pub returns-in-New-clause-now : goal.returns-in-New-clause-now
returns-in-New-clause-now c =
    becomes-invoked c.args.run c.args.hash c.args.function.now c.args.payload c.args.timeout c.in_ok-naming.naming
    c.args.self.now c.pend.new.self c.invoke_current.new.self c.requires.held c.in_ok-naming.ensures.named c.in-New.is
    c.in_ok-naming.ensures.now c.in_ok-invoke_current-in-New.ensures

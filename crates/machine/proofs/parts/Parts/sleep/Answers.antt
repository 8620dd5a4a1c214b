use Rattle.machine.proofs.HeldOperations.{sleep-then}
use Rattle.machine.proofs.parts.Parts.sleep.Goals as goal

pub returns-in_ok-add_sleep-in-New-clause-now : goal.returns-in_ok-add_sleep-in-New-clause-now
returns-in_ok-add_sleep-in-New-clause-now c =
    sleep-then c.args.self.now c.pend.new.self c.add_sleep.new.self c.args.run c.args.hash c.in_ok-naming.naming c.args.time
    c.in_ok-naming.ensures.named c.in-New.is c.in_ok-naming.ensures.now
    c.in_ok-add_sleep-in-New.ensures

use Rattle.machine.proofs.HeldMaking.{on-ok}
use Rattle.machine.proofs.Over.{wait-none, wait-some}
use Rattle.machine.proofs.parts.Parts.end_wait.Goals as goal

pub returns-in_default : goal.returns-in_default
returns-in_default c =
    wait-none c.args.self.now c.take_wait.new.self c.args.number c.take_wait.ensures.now c.in_default.ensures.step

pub returns : goal.returns
returns c =
    on-ok c.discover.result _ _
    (wait-some c.args.self.now c.take_wait.new.self c.args.number c.take_wait.ensures.now c.in-Some.waiting
    c.in_ok-result.result c.wake.new.self c.discover.new.self c.in-Some.ensures.step c.in_ok-result.ensures
    c.in_ok-wake.ensures) c.discover.ensures.now

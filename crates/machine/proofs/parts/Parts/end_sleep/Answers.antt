use Rattle.machine.proofs.HeldMaking.{on-ok}
use Rattle.machine.proofs.Over.{sleep-none, sleep-some}
use Rattle.machine.proofs.parts.Parts.end_sleep.Goals as goal

pub returns-in_default : goal.returns-in_default
returns-in_default c =
    sleep-none c.args.self.now c.take_sleep.new.self c.args.number c.take_sleep.ensures.now c.in_default.ensures.value

pub returns : goal.returns
returns c =
    on-ok c.discover.result _ _
    (sleep-some c.args.self.now c.take_sleep.new.self c.args.number c.take_sleep.ensures.now c.in-Some.sleep
    c.in_ok-result.result c.wake.new.self c.discover.new.self c.in-Some.ensures.value c.in_ok-result.ensures
    c.in_ok-wake.ensures) c.discover.ensures.now

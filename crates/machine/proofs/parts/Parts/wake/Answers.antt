use Rattle.machine.proofs.HeldRecording.{held-wake}
use Rattle.machine.proofs.parts.Parts.wake.Goals as goal

pub returns-in_ok-insert : goal.returns-in_ok-insert
returns-in_ok-insert c =
    held-wake c.args.self.now c.args.run c.args.hash.now c.args.text c.insert.new.self c.remove_step.new.self
    c.wake.new.self c.in_ok-wake.field-0 c.if-branch.true c.in_ok-wake.ensures.woken c.in_ok-wake.ensures.live
    c.wake.ensures.closing c.remove_step.ensures c.in_ok-insert.ensures c.requires.held

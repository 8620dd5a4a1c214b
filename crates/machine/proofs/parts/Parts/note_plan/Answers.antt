use Rattle.machine.proofs.HeldOperations.{held-note_plan}
use Rattle.machine.proofs.parts.Parts.note_plan.Goals as goal

pub returns-clause-now : goal.returns-clause-now
returns-clause-now c =
    held-note_plan c.args.self.now c.args.run c.args.hash.now c.in_ok-naming.naming c.plan.new.self
    c.in_ok-naming.ensures.live c.plan.ensures.closing c.requires.held

use Rattle.machine.proofs.HeldTime.{held-rules}
use Rattle.machine.proofs.parts.Parts.end_rule.Goals as goal

pub returns : goal.returns
returns c = held-rules c.args.self.now c.args.number c.remove.new.self c.remove.ensures c.requires.held

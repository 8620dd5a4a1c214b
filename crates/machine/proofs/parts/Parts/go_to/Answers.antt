use Rattle.machine.proofs.HeldTime.{held-moved}
use Rattle.machine.proofs.parts.Parts.go_to.Goals as goal

pub returns : goal.returns
returns c = held-moved c.args.self.now c.args.moment c.requires.near c.requires.held

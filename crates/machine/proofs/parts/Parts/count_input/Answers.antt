use Rattle.machine.proofs.Stepped.{held-counted}
use Rattle.machine.proofs.parts.Parts.count_input.Goals as goal

pub returns : goal.returns
returns c = held-counted c.args.self.now c.requires.held

use Rattle.generator.proofs.Generating.{accepts}
use Rattle.generator.proofs.laws.histories_are_accepted.Goals as goal

pub returns : goal.returns
returns c = accepts

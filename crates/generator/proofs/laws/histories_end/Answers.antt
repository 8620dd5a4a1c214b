use Rattle.generator.proofs.Generating.{ends}
use Rattle.generator.proofs.laws.histories_end.Goals as goal

pub returns : goal.returns
returns c = ends

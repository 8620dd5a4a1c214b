use Rattle.registry.proofs.Ranges.{read-is}
use Rattle.registry.proofs.laws.read_functions_are_in_range.Goals as goal

pub returns : goal.returns
returns c = λ body app h. read-is body app h

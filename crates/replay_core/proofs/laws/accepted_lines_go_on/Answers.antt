use Rattle.replay_core.proofs.AcceptedLemmas.{accepted-prefix}
use Rattle.replay_core.proofs.laws.accepted_lines_go_on.Goals as goal

pub returns : goal.returns
returns c = λ progress lines count. accepted-prefix progress lines count

use Rattle.soundness.proofs.MadeCalls.{said-made}
use Rattle.soundness.proofs.throttles.said_calls_are_made.Goals as goal

pub returns : goal.returns
returns c = said-made

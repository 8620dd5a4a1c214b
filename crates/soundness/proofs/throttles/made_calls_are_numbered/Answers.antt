use Rattle.soundness.proofs.MadeCalls.{calls-fold, numbered-made}
use Rattle.soundness.proofs.throttles.made_calls_are_numbered.Goals as goal

pub returns-clause-numbers : goal.returns-clause-numbers
returns-clause-numbers c = numbered-made

pub returns-clause-count : goal.returns-clause-count
returns-clause-count c = calls-fold

use Rattle.run_model.proofs.WindowRules.{windows-fold}
use Rattle.run_model.proofs.fit.windows_have_rules.Goals as goal

pub returns : goal.returns
returns c = windows-fold

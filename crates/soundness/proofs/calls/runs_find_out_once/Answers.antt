use Rattle.soundness.proofs.OneDiscovery.{discovers-fold}
use Rattle.soundness.proofs.calls.runs_find_out_once.Goals as goal

pub returns : goal.returns
returns c = discovers-fold

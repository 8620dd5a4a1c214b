use Rattle.soundness.proofs.FreshRuns.{fresh-fold}
use Rattle.soundness.proofs.calls.runs_without_a_call_are_fresh.Goals as goal

pub returns : goal.returns
returns c = fresh-fold

use Rattle.std.proofs.Common.{◌≡◌, []}
use Rattle.runs.specs.Runs.{run_number}
use Rattle.runs_tests.proofs.Fill.{AreBelow}
use Rattle.runs_tests.proofs.tests.filled.Given as goal

abbrev pub invariant-loop-number : goal.invariant-loop-number
invariant-loop-number l = AreBelow run_number l.number l.runs.live × (l.runs.closing ≡ [])

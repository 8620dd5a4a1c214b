use Rattle.runs.specs.Ended.{ended_number}
use Rattle.runs_tests.proofs.Fill.{AreBelow}
use Rattle.runs_tests.proofs.tests.all_ended.Given as goal

abbrev pub invariant-loop-number : goal.invariant-loop-number
invariant-loop-number l = AreBelow ended_number l.number l.runs

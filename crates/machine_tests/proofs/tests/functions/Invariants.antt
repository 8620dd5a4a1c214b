use Rattle.std.specs.List.{AllByRecursion}
use Rattle.run_model.specs.Fit.{IsFunctionInRange}
use Rattle.machine_tests.proofs.tests.functions.Given as goal

abbrev pub invariant-loop-id : goal.invariant-loop-id
invariant-loop-id l = AllByRecursion IsFunctionInRange l.functions

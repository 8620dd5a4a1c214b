use Rattle.std.proofs.Common.{◌<◌}
use Rattle.std.specs.List.{AllByRecursion}
use Rattle.awaited.specs.Entries.{invocation_number}
use Rattle.awaited_tests.proofs.tests.invocations.Given as goal

abbrev pub invariant-loop-number : goal.invariant-loop-number
invariant-loop-number l = AllByRecursion (λ e. invocation_number e < l.number) l.invocations

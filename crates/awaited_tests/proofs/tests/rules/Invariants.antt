use Rattle.std.proofs.Common.{◌<◌}
use Rattle.std.specs.List.{AllByRecursion}
use Rattle.kinds.specs.Stores.{rule_number}
use Rattle.awaited_tests.proofs.tests.rules.Given as goal

abbrev pub invariant-loop-number : goal.invariant-loop-number
invariant-loop-number l = AllByRecursion (λ e. rule_number e < l.number) l.rules

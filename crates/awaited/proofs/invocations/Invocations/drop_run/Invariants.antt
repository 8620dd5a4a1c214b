use Rattle.std.proofs.Common.{◌≡◌, length}
use Rattle.lists.specs.Entries.{without}
use Rattle.awaited.specs.Entries.{invocation_run}
use Rattle.awaited.proofs.invocations.Invocations.drop_run.Given as goal

abbrev pub invariant-loop : goal.invariant-loop
invariant-loop l = without invocation_run l.run l.self ≡ without invocation_run l.run l.initial.self

abbrev pub decreases-loop : goal.decreases-loop
decreases-loop l = length l.self

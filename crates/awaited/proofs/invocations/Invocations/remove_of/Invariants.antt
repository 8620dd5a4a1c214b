use Rattle.std.proofs.Common.{◌≡◌, length}
use Rattle.awaited.specs.Entries.{without_invocation_of}
use Rattle.awaited.proofs.invocations.Invocations.remove_of.Given as goal

abbrev pub invariant-loop : goal.invariant-loop
invariant-loop l = without_invocation_of l.parent l.self ≡ without_invocation_of l.parent l.initial.self

abbrev pub decreases-loop : goal.decreases-loop
decreases-loop l = length l.self

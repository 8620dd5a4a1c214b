use Rattle.std.proofs.Common.{◌≡◌, length}
use Rattle.lists.specs.Entries.{without}
use Rattle.matching.proofs.index.Index.drop_run.Given as goal

abbrev pub invariant-loop : goal.invariant-loop
invariant-loop g l = without g.E.OfRun.run_of l.run l.self ≡ without g.E.OfRun.run_of l.run l.initial.self

abbrev pub decreases-loop : goal.decreases-loop
decreases-loop g l = length l.self

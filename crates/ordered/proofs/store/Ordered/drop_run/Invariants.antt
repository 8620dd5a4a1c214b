use Rattle.std.proofs.Common.{◌≡◌, length}
use Rattle.lists.specs.Entries.{without}
use Rattle.ordered.proofs.store.Ordered.drop_run.Given as goal

abbrev pub invariant-loop-entry : goal.invariant-loop-entry
invariant-loop-entry g l = without g.E.OfRun.run_of l.run l.self ≡ without g.E.OfRun.run_of l.run l.initial.self

abbrev pub decreases-loop-entry : goal.decreases-loop-entry
decreases-loop-entry g l = length l.self

use Rattle.std.proofs.Common.{length}
use Rattle.run_model.specs.State.{without_closed}
use Rattle.machine.specs.Tidy.{IsTidied}
use Rattle.machine.proofs.parts.Parts.drop_runs.Given as goal

abbrev pub invariant-loop : goal.invariant-loop
invariant-loop l = record {
  now : IsTidied without_closed l.initial.self l.self;
}

abbrev pub decreases-loop : goal.decreases-loop
decreases-loop l = length l.self.loose.runs

use Rattle.std.proofs.Common.{◌≡◌, length}
use Rattle.run_model.specs.State.{without_unnamed}
use Rattle.machine.specs.Tidy.{IsTidied}
use Rattle.machine.proofs.parts.Parts.drop_versions.Given as goal

abbrev pub invariant-loop : goal.invariant-loop
invariant-loop l = record {
  now : IsTidied without_unnamed l.initial.self l.self;
  runs : l.self.loose.runs ≡ l.initial.self.loose.runs;
  events : l.self.loose.events ≡ l.initial.self.loose.events;
}

abbrev pub decreases-loop : goal.decreases-loop
decreases-loop l = length l.self.loose.versions

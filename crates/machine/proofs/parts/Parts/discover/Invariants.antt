use Rattle.std.proofs.Common.{◌≡◌, length}
use Rattle.machine.specs.Discovered.{after_noted}
use Rattle.machine.specs.Held.{IsHeld}
use Rattle.machine.proofs.parts.Parts.discover.Given as goal

abbrev pub invariant-loop : goal.invariant-loop
invariant-loop l = record {
  same : after_noted l.self ≡ after_noted l.initial.self;
  held : IsHeld l.self;
  clock : l.self.admission.moment ≡ l.initial.self.admission.moment;
}

abbrev pub decreases-loop : goal.decreases-loop
decreases-loop l = length l.self.wanting

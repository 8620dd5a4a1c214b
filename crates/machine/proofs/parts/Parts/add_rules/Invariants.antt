use Rattle.std.proofs.Common.{◌≡◌, ◌≤◌}
use Rattle.std.specs.Vec.Iter.{into_iter_items}
use Rattle.machine.specs.Held.{IsHeld}
use Rattle.machine.specs.Making.{AreDraftsFit, add_drafts}
use Rattle.machine.specs.View.{state_of}
use Rattle.machine.proofs.parts.Parts.add_rules.Given as goal

abbrev pub invariant-loop-rule : goal.invariant-loop-rule
invariant-loop-rule l = record {
  same : add_drafts l.run l.first (into_iter_items l.rule-iterator) (state_of l.self)
      ≡ add_drafts l.run l.first l.fn.rules (state_of l.initial.self);
  held : IsHeld l.self;
  clock : l.self.admission.moment ≡ l.initial.self.admission.moment;
  given : l.first ≤ l.self.counts.events;
  fit : AreDraftsFit l.self.texts.texts l.first (into_iter_items l.rule-iterator);
}

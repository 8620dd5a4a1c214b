use Rattle.std.proofs.Common.{◌≡◌, length}
use Rattle.admission.specs.Items.{without_item}
use Rattle.admission.proofs.waiting.Waiting.remove.Given as goal

abbrev pub invariant-loop-number : goal.invariant-loop-number
invariant-loop-number l =
    (without_item l.run l.target l.self.items ≡ without_item l.run l.target l.initial.self.items) × (l.self.full ≡ l.initial.self.full) × (l.self.later ≡ l.initial.self.later)

abbrev pub decreases-loop-number : goal.decreases-loop-number
decreases-loop-number l = length l.self.items

-- Words one after the other.
use Rattle.std.proofs.Common.{◌∙◌, ap, refl}
use Rattle.run_model.specs.State.{State}
use Rattle.machine.specs.Held.{Becomes, IsHeld}
use Rattle.machine.specs.View.{state_of}
use Rattle.machine.specs.declared.parts.Parts.{Parts}

-- what a word makes of a state is what it makes of the parts, where they are that state's
pub becomes-then : (word : State → State) (s : State) (first old new : Parts) → Becomes s first old
    → Becomes (word (state_of old)) old new → Becomes (word s) first new
becomes-then word s first old new before after = record {
  state = after.state ∙ ap word before.state;
  held = after.held;
  clock = after.clock ∙ before.clock;
}

-- nothing happens
pub becomes-same : (m : Parts) → IsHeld m → Becomes (state_of m) m m
becomes-same m h = record { state = refl; held = h; clock = refl }

-- Parts of a run that stand on the heap, where it has them.
use Rattle.std.specs.Prelude.{Option, Some, None, Box, box_value}
use Rattle.kinds.specs.RunSteps.{RunSteps, no_steps}

-- a run that has none takes no room for its steps
abbrev pub steps_in : {Z : Type 0} → Option (Box RunSteps Z) → RunSteps
steps_in None = no_steps
steps_in (Some steps) = box_value steps

-- a part that few runs have
abbrev pub unboxed : {X Z : Type 0} → Option (Box X Z) → Option X
unboxed None = None
unboxed (Some part) = Some (box_value part)

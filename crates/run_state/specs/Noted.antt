-- What the calls of an active run answer.
use Rattle.std.specs.Prelude.{◌≡◌, List, ℕ, ◌++◌, Some}
use Rattle.kinds.specs.RunSteps.{RunSteps, Noting, adds, known, full, result_of}
use Rattle.kinds.specs.declared.store.StepEntry.{StepEntry}
use Rattle.run_state.specs.declared.active.Noted.{Noted}
use Rattle.run_state.specs.declared.active.Noted.TheVariants.{New, Known, Full, Memory}

abbrev pub IsNew : Noting → Type 0
IsNew noting = (next : RunSteps) × (noting ≡ adds next)

-- The answer is what the definition finds. Only a new name can find no memory, and then nothing has
-- changed.
abbrev pub Notes : Noting → RunSteps → Noted → Type 0
Notes noting old (New next) = noting ≡ adds next
Notes noting old (Known same) = (noting ≡ known) × (same ≡ old)
Notes noting old (Full same) = (noting ≡ full) × (same ≡ old)
Notes noting old (Memory same) = IsNew noting × (same ≡ old)

-- the steps after a call
abbrev pub steps_of : Noted → RunSteps
steps_of (New s) = s
steps_of (Known s) = s
steps_of (Full s) = s
steps_of (Memory s) = s

-- What is recorded goes on being recorded, in order, and more comes behind it. No result changes.
pub record Grow (old new : RunSteps) : Type 0 where
  pub more : (rest : List StepEntry) × (new.recorded ≡ old.recorded ++ rest)
  pub stay : (name text : List ℕ) → result_of name old ≡ Some text → result_of name new ≡ Some text

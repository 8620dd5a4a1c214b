-- What is left to find out.
use Rattle.std.specs.Prelude.{ℕ, ◌≡◌, ◌<◌, Bool, true, false, List, [], filter, length, Option, Some, None}
use Rattle.run_model.specs.Making.{discover_all, discover_one}
use Rattle.run_model.specs.State.{State, Run}
use Rattle.machine.specs.Held.{IsHeld}
use Rattle.machine.specs.Numbers.{has_number}
use Rattle.machine.specs.View.{state_of}
use Rattle.machine.specs.declared.parts.Parts.{Parts}

-- those of the runs that are noted
abbrev pub noted : List ℕ → List Run → List Run
noted wanting live = filter (λ (r : Run). has_number wanting r.number) live

-- the state after all that are noted got their items
abbrev pub after_noted : Parts → State
after_noted m = discover_all (noted m.wanting m.runs.live) (state_of m)

abbrev pub discover_at : Option Run → State → State
discover_at None s = s
discover_at (Some r) s = discover_one r s

-- one of them got its item
pub record IsNext (old new : Parts) : Type 0 where
  pub same : after_noted new ≡ after_noted old
  pub held : IsHeld new
  pub clock : new.admission.moment ≡ old.admission.moment
  pub fewer : length new.wanting < length old.wanting

abbrev pub IsDiscovered : Bool → Parts → Parts → Type 0
IsDiscovered true old new = IsNext old new
IsDiscovered false old new = (new ≡ old) × (old.wanting ≡ [])

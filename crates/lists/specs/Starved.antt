-- Want of memory, the one answer that no clause ties to a cause.
use Rattle.std.specs.Prelude.{◌≡◌, ◌⊎◌, Result, Ok, Err}

-- The answer is the exact one, unless memory ran out.
abbrev pub OrStarved : {A E : Type 0} → E → Result A E → Result A E → Type 0
OrStarved memory exact (Ok value) = exact ≡ Ok value
OrStarved memory exact (Err fault) = (exact ≡ Err fault) ⊎ (fault ≡ memory)

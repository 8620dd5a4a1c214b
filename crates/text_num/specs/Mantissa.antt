-- A number without the zeros at its end, which wait until a further digit shows that they count.
use Rattle.std.specs.Prelude.{◌≡◌, ◌≢◌, ◌⊎◌, ℕ, ◌*◌, ◌%◌, ◌^◌, ◌<◌, ◌≤◌, Option, Some, None}
use Rattle.text_num.specs.declared.mantissa.Mantissa.{Mantissa}

pub record IsMantissa (number : ℕ) (m : Mantissa) : Type 0 where
  pub value : number ≡ m.value * 10 ^ m.zeros
  pub below : m.value < 10 ^ 38
  pub trimmed : ((m.value ≡ 0) × (m.zeros ≡ 0)) ⊎ (m.value % 10 ≢ 0)

-- no value below 10^38 gives the number with zeros behind it
abbrev pub IsTooLong : ℕ → Type 0
IsTooLong number = (value zeros : ℕ) → number ≡ value * 10 ^ zeros → 10 ^ 38 ≤ value

-- what is left of a number after a reading that may find it too long
abbrev pub IsReading : ℕ → Option Mantissa → Type 0
IsReading number None = IsTooLong number
IsReading number (Some m) = IsMantissa number m

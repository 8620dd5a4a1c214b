-- Decimal digits, and the number that they write.
use Rattle.std.specs.Prelude.{ℕ, ◌+◌, ◌-◌, ◌*◌, ◌^◌, ◌==◌, ◌&&◌, nat_lt, nat_le, Bool, if◌then◌else◌, List, [], ◌∷◌, length, drop, slice_index, Option, Some, None, Result, Ok, Err}
use Rattle.std.specs.Char.{is_ascii_digit}
use Rattle.std.specs.List.{list_all}
use Rattle.text_num.specs.declared.fault.NumFault.{NumFault}
use Rattle.text_num.specs.declared.fault.NumFault.TheVariants.{NotANumber, OutOfRange}

-- the number that digits write: each counts ten to the number of digits behind it
abbrev pub decimal_value : List ℕ → ℕ
decimal_value [] = 0
decimal_value (d ∷ ds) = (d - 48) * 10 ^ length ds + decimal_value ds

-- digits alone
abbrev pub all_digits : List ℕ → Bool
all_digits text = list_all is_ascii_digit text

-- one digit or more, and nothing else
abbrev pub is_number : List ℕ → Bool
is_number text = nat_lt 0 (length text) && all_digits text

-- a number, where it is within a bound
abbrev pub at_most : ℕ → ℕ → Result ℕ NumFault
at_most bound n = if nat_le n bound then Ok n else Err OutOfRange

-- what a text gives as a number of 64 bits
unfoldable pub u64_of : List ℕ → Result ℕ NumFault
u64_of text = if is_number text then at_most (2 ^ 64 - 1) (decimal_value text) else Err NotANumber

-- the digits at the front of a text, and what follows them
abbrev pub digits_front : List ℕ → List ℕ
digits_front [] = []
digits_front (c ∷ cs) = if is_ascii_digit c then c ∷ digits_front cs else []

abbrev pub behind_digits : List ℕ → List ℕ
behind_digits [] = []
behind_digits (c ∷ cs) = if is_ascii_digit c then behind_digits cs else c ∷ cs

-- the digits of a fraction and what follows them: no digits where there is no point (46), and at least one behind it
unfoldable pub fraction_of : List ℕ → Option (List ℕ × List ℕ)
fraction_of text =
    if slice_index text 0 == 46
    then (if nat_lt 0 (length (digits_front (drop 1 text)))
    then Some (digits_front (drop 1 text), behind_digits (drop 1 text)) else None)
    else Some ([], text)

-- how a fraction is written
abbrev pub fraction_text : List ℕ → List ℕ
fraction_text [] = []
fraction_text (d ∷ ds) = 46 ∷ d ∷ ds

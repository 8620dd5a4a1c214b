-- Durations: one part or more, as `1h30m` or `1.5s`, each a number with at most nine decimals and a unit.
use Rattle.std.specs.Prelude.{◌≡◌, ◌≢◌, ℕ, zero, suc, ◌+◌, ◌*◌, ◌/◌, ◌^◌, ◌≤◌, ◌==◌, ◌&&◌, ◌||◌, ◌++◌, nat_lt, min, true, Bool, if◌then◌else◌, List, [], ◌∷◌, length, drop, slice_index, codes, Option, Some, None, option_map, option_and_then, Result, Err}
use Rattle.std.specs.List.{AllByRecursion}
use Rattle.text_num.specs.declared.fault.NumFault.{NumFault}
use Rattle.text_num.specs.declared.fault.NumFault.TheVariants.{NotANumber}
use Rattle.text_num.specs.declared.duration.TimeUnit.{TimeUnit}
use Rattle.text_num.specs.declared.duration.TimeUnit.TheVariants.{Week, Day, Hour, Minute, Second, Milli}
use Rattle.text_num.specs.Digits.{decimal_value, all_digits, is_number, at_most, digits_front, behind_digits, fraction_of, fraction_text}

-- ---- what a duration is

abbrev pub unit_text : TimeUnit → List ℕ
unit_text Week = codes "w"
unit_text Day = codes "d"
unit_text Hour = codes "h"
unit_text Minute = codes "m"
unit_text Second = codes "s"
unit_text Milli = codes "ms"

abbrev pub unit_millis : TimeUnit → ℕ
unit_millis Week = 604800000
unit_millis Day = 86400000
unit_millis Hour = 3600000
unit_millis Minute = 60000
unit_millis Second = 1000
unit_millis Milli = 1

-- the digits before the point, those behind it (none without one), and the unit
pub record Part : Type 0 where
  pub whole : List ℕ
  pub fraction : List ℕ
  pub unit : TimeUnit

abbrev pub part_text : Part → List ℕ
part_text p = p.whole ++ fraction_text p.fraction ++ unit_text p.unit

pub record IsPart (p : Part) : Type 0 where
  pub whole : is_number p.whole ≡ true
  pub fraction : all_digits p.fraction ≡ true
  pub short : length p.fraction ≤ 9

-- a part in milliseconds, rounded down
abbrev pub part_millis : Part → ℕ
part_millis p = decimal_value (p.whole ++ p.fraction) * unit_millis p.unit / 10 ^ length p.fraction

abbrev pub parts_text : List Part → List ℕ
parts_text [] = []
parts_text (p ∷ ps) = part_text p ++ parts_text ps

abbrev pub parts_millis : List Part → ℕ
parts_millis [] = 0
parts_millis (p ∷ ps) = part_millis p + parts_millis ps

-- a text is written by these parts
pub record IsDuration (text : List ℕ) (parts : List Part) : Type 0 where
  pub written : text ≡ parts_text parts
  pub some : parts ≢ []
  pub each : AllByRecursion IsPart parts

-- the longest duration: 366 days
abbrev pub longest : ℕ
longest = 31622400000

-- ---- the parts of a text, from its front

abbrev pub unit_of_letter : ℕ → Option TimeUnit
unit_of_letter c =
    if c == 119 then Some Week
    else if c == 100 then Some Day
    else if c == 104 then Some Hour
    else if c == 109 then Some Minute
    else if c == 115 then Some Second
    else None

-- `m` (109) before `s` (115) is no minute
abbrev pub is_milli : ℕ → List ℕ → Bool
is_milli c cs = (c == 109) && (slice_index cs 0 == 115)

-- the unit at the front of a text, and what follows it
unfoldable pub unit_of : List ℕ → Option (TimeUnit × List ℕ)
unit_of [] = None
unit_of (c ∷ cs) =
    if is_milli c cs then Some (Milli, drop 1 cs) else option_map (λ unit. (unit, cs)) (unit_of_letter c)

-- a part with its unit, where its digits have the lengths of one
abbrev pub part_with : List ℕ → List ℕ → TimeUnit × List ℕ → Option (Part × List ℕ)
part_with whole fraction unit =
    if (length whole == 0) || nat_lt 9 (length fraction) then None
    else Some (record { whole = whole; fraction = fraction; unit = unit.0 }, unit.1)

-- the part at the front of a text, and what follows it
unfoldable pub part_of : List ℕ → Option (Part × List ℕ)
part_of text =
    option_and_then
    (λ fraction. option_and_then (part_with (digits_front text) fraction.0) (unit_of fraction.1))
    (fraction_of (behind_digits text))

-- its milliseconds, as far as they matter: one past the longest duration is as good as more
abbrev pub capped_part : Part × List ℕ → ℕ × List ℕ
capped_part part = (min (part_millis part.0) (longest + 1), part.1)

-- the parts of a text, at most `most` of them
unfoldable pub parts_of : ℕ → List ℕ → Option (List Part)
parts_of most [] = Some []
parts_of zero (c ∷ cs) = None
parts_of (suc most) (c ∷ cs) =
    option_and_then (λ part. option_map (λ parts. part.0 ∷ parts) (parts_of most part.1))
    (part_of (c ∷ cs))

-- the milliseconds of parts behind those counted so far
abbrev pub millis_after : ℕ → Option (List Part) → Result ℕ NumFault
millis_after so_far None = Err NotANumber
millis_after so_far (Some parts) = at_most longest (so_far + parts_millis parts)

-- what a text gives as a duration. A part has a byte or more, so a text has no more parts than bytes
unfoldable pub duration_of : List ℕ → Result ℕ NumFault
duration_of [] = Err NotANumber
duration_of (c ∷ cs) = millis_after 0 (parts_of (length (c ∷ cs)) (c ∷ cs))

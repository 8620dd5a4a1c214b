-- Run ids: UUIDs with the fields of version 7 (RFC 9562, section 5.7). The first 48 bits are the run's moment, its
-- number stands in the last 62 bits, and the twelve bits between the version and the variant are 0.
use Rattle.std.specs.Prelude.{◌≡◌, ℕ, ◌+◌, ◌*◌, ◌/◌, ◌%◌, ◌^◌, ◌<◌, ◌==◌, ◌&&◌, if◌then◌else◌, List, Option, Some, None, option_and_then, option_map}
use Rattle.std.specs.Int.{w128, to_be_bytes, from_be_bytes}
use Rattle.uuid.specs.Text.{parsed, hyphenated_text, lower}

-- the id as a number of 128 bits
unfoldable pub run_value : ℕ → ℕ → ℕ
run_value moment number = (moment * 2 ^ 16 + 7 * 2 ^ 12) * 2 ^ 64 + (2 * 2 ^ 62 + number)

-- its text: its sixteen bytes in groups of 8, 4, 4, 4 and 12 digits
unfoldable pub run_text : ℕ → ℕ → List ℕ
run_text moment number = hyphenated_text lower (to_be_bytes w128 (run_value moment number))

-- the moment and number in the halves of an id; none where the bits between them are not those of a run
abbrev pub run_of_halves : ℕ → ℕ → Option (ℕ × ℕ)
run_of_halves high low = if (high % 2 ^ 16 == 7 * 2 ^ 12) && (low / 2 ^ 62 == 2)
    then Some (high / 2 ^ 16, low % 2 ^ 62)
    else None

-- the same of an id of 128 bits
unfoldable pub run_of_value : ℕ → Option (ℕ × ℕ)
run_of_value value = run_of_halves (value / 2 ^ 64) (value % 2 ^ 64)

-- the 128 bits of the UUID that a text reads as, in any of the forms of one
unfoldable pub uuid_value : List ℕ → Option ℕ
uuid_value text = option_map (from_be_bytes w128) (parsed text)

-- the run that a text names
unfoldable pub run_of_text : List ℕ → Option (ℕ × ℕ)
run_of_text text = option_and_then run_of_value (uuid_value text)

-- the numbers that a run's id has room for
pub record IsRun (moment number : ℕ) : Type 0 where
  pub moment_fits : moment < 2 ^ 48
  pub number_fits : number < 2 ^ 62

-- no two runs share an id
abbrev pub AreDistinct : Type 0
AreDistinct =
    (moment number other_moment other_number : ℕ) → IsRun moment number
    → IsRun other_moment other_number →
    run_text moment number ≡ run_text other_moment other_number → (moment ≡ other_moment)
    × (number ≡ other_number)

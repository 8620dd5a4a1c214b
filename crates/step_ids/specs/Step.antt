-- Step names: the SHA-1 (FIPS 180-4) of a step's id, and of its number from the second use on, in hexadecimal.
use Rattle.std.specs.Prelude.{ℕ, ◌==◌, ◌&&◌, ◌||◌, ◌++◌, nat_le, Bool, if◌then◌else◌, List, length, codes, decimal}
use Rattle.std.specs.List.{list_all}
use Rattle.sha1.specs.Sha1.{sha1}
use Rattle.hex.specs.Hex.{encode_lower}

-- what is hashed: the id, and for its second, third .. use `:1`, `:2` .. behind it
abbrev pub hashed_text : List ℕ → ℕ → List ℕ
hashed_text id use_number = if use_number == 0 then id else id ++ codes ":" ++ decimal use_number

-- the name of a step
abbrev pub step_name : List ℕ → ℕ → List ℕ
step_name id use_number = encode_lower (sha1 (hashed_text id use_number))

-- `0` to `9`, or `a` to `f`
abbrev pub is_lower_digit : ℕ → Bool
is_lower_digit c = (nat_le 48 c && nat_le c 57) || (nat_le 97 c && nat_le c 102)

-- whether a text has the form of a step's name: forty hexadecimal digits in lower case
abbrev pub is_step_name : List ℕ → Bool
is_step_name text = (length text == 40) && list_all is_lower_digit text

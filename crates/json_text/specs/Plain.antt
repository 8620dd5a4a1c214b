-- Texts that stand for themselves between the quotes of a JSON string: they have no backslash (0x5c).
use Rattle.std.specs.Prelude.{ℕ, ◌==◌, Bool, not, if◌then◌else◌, List, Option, Some, None}
use Rattle.std.specs.List.{list_all}
use Rattle.json_text.specs.Grammar.{Json, spelling}
use Rattle.json_text.specs.Text.{inside}

abbrev pub is_no_escape : ℕ → Bool
is_no_escape byte = not (byte == 0x5c)

abbrev pub is_plain : List ℕ → Bool
is_plain text = list_all is_no_escape text

-- what stands between the quotes, where it stands for itself
abbrev pub plain_inside : List ℕ → Option (List ℕ)
plain_inside w = if is_plain (inside w) then Some (inside w) else None

abbrev pub plain_text : Json → Option (List ℕ)
plain_text j = plain_inside (spelling j)

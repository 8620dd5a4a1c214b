-- Texts that are spelled without escapes.
use Rattle.std.specs.Prelude.{ℕ, ◌==◌, Bool, not, List}
use Rattle.json_text.specs.Bytes.{Each}

-- the byte isn't the one that begins an escape
abbrev pub begins_no_escape : ℕ → Bool
begins_no_escape byte = not (byte == 0x5c)

abbrev pub HasNoEscape : List ℕ → Type 0
HasNoEscape spelling = Each begins_no_escape spelling

-- A script's bytes as lines.
use Rattle.std.specs.Prelude.{ℕ, List, [], ◌∷◌, ◌++◌, ◌==◌, ◌≡◌, if◌then◌else◌, Option, Some, None, position, take}

-- the byte that ends a line
abbrev pub line_feed : ℕ
line_feed = 10

-- the lines that are ended, each with the byte that ends it, and what follows the last of them
pub record Lines : Type 0 where
  pub ended : List (List ℕ)
  pub last : List ℕ

-- a byte at the front of the first line
abbrev pub begin_line : ℕ → List (List ℕ) → List ℕ → Lines
begin_line byte [] last = record { ended = []; last = byte ∷ last }
begin_line byte (line ∷ lines) last = record { ended = (byte ∷ line) ∷ lines; last = last }

unfoldable pub lines_of : List ℕ → Lines
lines_of [] = record { ended = []; last = [] }
lines_of (byte ∷ bytes) =
    if byte == line_feed
    then record { ended = (byte ∷ []) ∷ (lines_of bytes).ended; last = (lines_of bytes).last }
    else begin_line byte (lines_of bytes).ended (lines_of bytes).last

-- what follows the last ended line is a line too, where it isn't empty
abbrev pub last_line : List ℕ → List (List ℕ)
last_line [] = []
last_line (byte ∷ bytes) = (byte ∷ bytes) ∷ []

-- all lines, each with the byte that ends it; the last may lack it
abbrev pub all_lines : Lines → List (List ℕ)
all_lines lines = lines.ended ++ last_line lines.last

-- a line without the byte that ends it
abbrev pub text_up_to : List ℕ → Option ℕ → List ℕ
text_up_to line None = line
text_up_to line (Some place) = take place line

abbrev pub text_of_line : List ℕ → List ℕ
text_of_line line = text_up_to line (position (λ byte. byte == line_feed) line)

-- one line with the byte that ends it
abbrev pub IsEnded : List ℕ → Type 0
IsEnded line = lines_of line ≡ record { ended = line ∷ []; last = [] }

-- the front of a line
abbrev pub IsUnended : List ℕ → Type 0
IsUnended line = lines_of line ≡ record { ended = []; last = line }

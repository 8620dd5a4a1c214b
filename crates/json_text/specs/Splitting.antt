-- The first character of a string, and the rest.
use Rattle.std.specs.Prelude.{◌≡◌, ℕ, ◌<◌, List, [], ◌∷◌, ◌++◌, length, Option, Some, None}
use Rattle.json_text.specs.Text.{Escape, text_from, none, unit, character_bytes, code_unit}
use Rattle.json_text.specs.declared.text.Piece.{Piece}
use Rattle.json_text.specs.declared.text.Piece.TheVariants as piece

abbrev pub piece_bytes : Piece → List ℕ
piece_bytes (piece.Byte b) = b ∷ []
piece_bytes (piece.Code c) = character_bytes c

-- the first piece of the text from this place on, and the spelling of what is left
abbrev pub SplitsFrom : Escape → List ℕ → Option (Piece × List ℕ) → Type 0
SplitsFrom place w None = text_from place w ≡ []
SplitsFrom place w (Some p) =
    (text_from place w ≡ piece_bytes p.0 ++ text_from none p.1) × (length p.1 < length w)

-- the same behind a code unit
abbrev pub SplitsAfter : ℕ → List ℕ → Option (Piece × List ℕ) → Type 0
SplitsAfter u w o = (a b c d : ℕ) → u ≡ code_unit a b c d → SplitsFrom unit (a ∷ b ∷ c ∷ d ∷ w) o

-- what is left of the text behind the piece, where the piece is at its front
abbrev pub Strips : List ℕ → Piece → Option (List ℕ) → Type 0
Strips text p None = (rest : List ℕ) → text ≡ piece_bytes p ++ rest → ⊥
Strips text p (Some rest) = text ≡ piece_bytes p ++ rest

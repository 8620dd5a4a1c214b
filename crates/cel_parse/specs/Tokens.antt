-- The code's tokens as the grammar's.
use Rattle.std.specs.Char.{is_ascii_digit}
use Rattle.std.specs.Prelude.{ℕ, ◌≡◌, ◌≤◌, ◌+◌, ◌==◌, ◌&&◌, Bool, false, slice_index, List, [], ◌∷◌, ◌++◌, length, Option, Some, None}
use Rattle.cel_parse.specs.declared.token.Token.{Token}
use Rattle.cel_parse.specs.declared.token.Token.TheVariants as code
use Rattle.cel_parse.specs.declared.token.Placed.{Placed}
use Rattle.expr.specs.Tokens as t
use Rattle.expr.specs.Tokens.{behind_spaces, placed_at}

abbrev pub token_of : Token → t.Token
token_of (code.Number z) = t.number z
token_of (code.Quoted s) = t.quoted s
token_of (code.Word w) = t.word w
token_of (code.Operator o) = t.operator o
token_of code.Exclaim = t.exclaim
token_of code.RoundOpen = t.round_open
token_of code.RoundClose = t.round_close
token_of code.SquareOpen = t.square_open
token_of code.SquareClose = t.square_close
token_of code.Dot = t.dot
token_of code.Comma = t.comma
token_of code.Question = t.question
token_of code.Colon = t.colon
token_of code.Wrong = t.wrong
token_of code.Unclosed = t.unclosed

abbrev pub placed_of : Placed → t.Placed
placed_of p = record { start = p.start; token = token_of p.token }

-- what is next in the rest of a text of this length, and what is left behind it
pub record IsNext (whole : ℕ) (bytes : List ℕ) (p : Placed) (rest : List ℕ) : Type 0 where
  pub first : (on : List ℕ → List t.Placed)
      → placed_at whole (behind_spaces bytes) on ≡ placed_of p ∷ on rest
  pub shorter : length rest + 1 ≤ length bytes

-- a digit follows a zero at the front
abbrev pub zero_before : List ℕ → Bool
zero_before [] = false
zero_before (d ∷ ds) = (d == 48) && is_ascii_digit (slice_index ds 0)

-- The code's steps in a string as the grammar's.
use Rattle.std.specs.Prelude.{ℕ, List, [], ◌∷◌, encode_utf8}
use Rattle.cel_parse.specs.declared.quoted.Within.{Within}
use Rattle.cel_parse.specs.declared.quoted.Within.TheVariants as w
use Rattle.cel_parse.specs.declared.quoted.Piece.{Piece}
use Rattle.cel_parse.specs.declared.quoted.Piece.TheVariants as p
use Rattle.cel_parse.specs.declared.quoted.Next.{Next}
use Rattle.cel_parse.specs.declared.quoted.Next.TheVariants as n
use Rattle.cel_parse.specs.declared.quoted.End.{End}
use Rattle.cel_parse.specs.declared.quoted.End.TheVariants as e
use Rattle.expr.specs.Tokens as t
use Rattle.expr.specs.Tokens.{Cut, cut}

abbrev pub within_of : Within → t.Within
within_of w.Plain = t.plain
within_of w.Escaped = t.escaped
within_of (w.Coded left code) = t.coded left code

abbrev pub bytes_of : Piece → List ℕ
bytes_of p.Nothing = []
bytes_of (p.Byte b) = b ∷ []
bytes_of (p.Character c) = encode_utf8 c

abbrev pub byte_of : Next → t.Byte
byte_of (n.Goes piece within) = t.goes (bytes_of piece) (within_of within)
byte_of n.Ends = t.ends
byte_of n.Fails = t.fails

-- the token of a string that ends so
abbrev pub token_at : End → List ℕ → t.Token
token_at e.Closed value = t.quoted value
token_at e.Wrong value = t.wrong
token_at e.Unclosed value = t.unclosed

abbrev pub end_of : End → List ℕ → List ℕ → Cut
end_of end value rest = cut (token_at end value) rest

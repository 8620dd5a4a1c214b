-- The fault of a text that is no expression: of the first token that the reader refuses and of the first rule on names and
-- counts of arguments that is broken, the one with the lesser place.
use Rattle.std.specs.Prelude.{ℕ, nat_lt, nat_le, if◌then◌else◌, List, [], ◌∷◌, length, Option, Some, None, Result, Ok, Err}
use Rattle.expr.specs.Tree.{Tree}
use Rattle.expr.specs.Tokens.{Token, unclosed, Placed, placed_tokens}
use Rattle.expr.specs.Reading.{State, want, Step, goes, refused, too_deep, step, end_in, deepest, longest}
use Rattle.cel_parse.specs.Rules.{rules_in}
use Rattle.cel_parse.specs.declared.fault.ParseFault.{ParseFault}
use Rattle.cel_parse.specs.declared.fault.ParseFault.TheVariants.{TooLong, Syntax, TooDeep}

-- a string that isn't closed is a fault at the length where a string may stand, else at its start
abbrev pub unclosed_or : ℕ → ℕ → Token → ℕ
unclosed_or whole start unclosed = whole
unclosed_or whole start _ = start

abbrev pub refused_place : ℕ → State → Placed → ℕ
refused_place whole (want fs) p = unclosed_or whole p.start p.token
refused_place whole _ p = p.start

abbrev pub walk_on : ℕ → State → Placed → Step → (State → Result Tree ParseFault)
    → Result Tree ParseFault
walk_on whole s p (goes next) on = on next
walk_on whole s p refused on = Err (Syntax (refused_place whole s p))
walk_on whole s p too_deep on = Err (TooDeep p.start)

abbrev pub walk_end : ℕ → Option Tree → Result Tree ParseFault
walk_end whole (Some t) = Ok t
walk_end whole None = Err (Syntax whole)

-- the tree of the tokens, or the first that the reader refuses
abbrev pub walk : ℕ → State → List Placed → Result Tree ParseFault
walk whole s [] = walk_end whole (end_in s)
walk whole s (p ∷ ps) = walk_on whole s p (step deepest s p.token) (λ next. walk whole next ps)

abbrev pub place_of : ParseFault → ℕ
place_of (Syntax place) = place
place_of (TooDeep place) = place
place_of _ = 0

abbrev pub settle_fault : ParseFault → Option ℕ → ParseFault
settle_fault fault (Some place) = if nat_lt place (place_of fault) then Syntax place else fault
settle_fault fault None = fault

abbrev pub settle : Result Tree ParseFault → Option ℕ → Result Tree ParseFault
settle (Ok t) rule = Ok t
settle (Err fault) rule = Err (settle_fault fault rule)

unfoldable pub parse_of : List ℕ → Result Tree ParseFault
parse_of text =
    if nat_le (length text) longest
    then settle (walk (length text) (want []) (placed_tokens text)) (rules_in (placed_tokens text))
    else Err TooLong

abbrev pub with_text : List ℕ → Result Tree ParseFault → Result (List ℕ) ParseFault
with_text text (Ok t) = Ok text
with_text text (Err fault) = Err fault

-- The expression of a text, which is its text, or the fault.
abbrev pub parse_text : List ℕ → Result (List ℕ) ParseFault
parse_text text = with_text text (parse_of text)

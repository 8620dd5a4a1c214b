-- The rules on names and on counts of arguments: another function or method than those that there are, and
-- another count than one, are a fault at the name. They look at the shape of what is open alone, and see as far as
-- the grammar goes.
use Rattle.std.specs.Prelude.{ℕ, Bool, true, false, cond, min, List, [], ◌∷◌, Option, Some, None, is_some}
use Rattle.expr.specs.declared.term.Operator.{Operator}
use Rattle.expr.specs.declared.term.Operator.TheVariants as op
use Rattle.expr.specs.Tokens as token
use Rattle.expr.specs.Tokens.{Token, Placed}
use Rattle.expr.specs.Reading.{atom_of, callee_of, method_of, is_in}
use Rattle.cel_parse.specs.declared.rules.Items.{Items}
use Rattle.cel_parse.specs.declared.rules.Items.TheVariants.{First, Later}
use Rattle.cel_parse.specs.declared.rules.Shape.{Shape}
use Rattle.cel_parse.specs.declared.rules.Shape.TheVariants as shape
use Rattle.cel_parse.specs.declared.rules.Callee.{Callee}
use Rattle.cel_parse.specs.declared.rules.Seat.{Seat}
use Rattle.cel_parse.specs.declared.rules.Seat.TheVariants as seat

-- a list from its end
abbrev pub onto : {X : Type 0} → List X → List X → List X
onto ys [] = ys
onto ys (x ∷ xs) = onto (x ∷ ys) xs

-- no expression goes on so; or the next seat, with the name that breaks a rule at this token
pub data Taken : Type 0 where
  stops : Taken
  takes : Option ℕ → List Shape → Seat → Taken

abbrev pub callee_at : ℕ → Bool → Callee
callee_at start is_known = record { place = start; known = is_known }

-- signs end before an operator and `?`, signs and second branches where an expression ends
abbrev pub without_signs : List Shape → List Shape
without_signs (shape.Sign ∷ os) = without_signs os
without_signs os = os

abbrev pub without_heads : List Shape → List Shape
without_heads (shape.Sign ∷ os) = without_heads os
without_heads (shape.Branch ∷ os) = without_heads os
without_heads os = os

-- ---- where an operand is to come

abbrev pub close_no_items : List Shape → Taken
close_no_items (shape.Square First ∷ os) = takes None os seat.Operand
close_no_items _ = stops

-- no argument is a wrong count
abbrev pub close_no_arguments : List Shape → Taken
close_no_arguments (shape.Call place First ∷ os) = takes (Some place) os seat.Operand
close_no_arguments _ = stops

abbrev pub word_wanted : ℕ → List Shape → Bool → Bool → Taken
word_wanted start os true function = takes None os (seat.Callable (callee_at start false))
word_wanted start os false function = takes None os (seat.Function (callee_at start function))

abbrev pub minus_wanted : List Shape → Operator → Taken
minus_wanted os op.Minus = takes None (shape.Sign ∷ os) seat.Want
minus_wanted os _ = stops

abbrev pub take_wanted : ℕ → List Shape → Token → Taken
take_wanted start os (token.number z) = takes None os seat.Operand
take_wanted start os (token.quoted s) = takes None os seat.Operand
take_wanted start os (token.word w) = word_wanted start os (is_some (atom_of w)) (is_some (callee_of w))
take_wanted start os (token.operator o) = minus_wanted os o
take_wanted start os token.exclaim = takes None (shape.Sign ∷ os) seat.Want
take_wanted start os token.round_open = takes None (shape.Round ∷ os) seat.Want
take_wanted start os token.square_open = takes None (shape.Square First ∷ os) seat.Want
take_wanted start os token.square_close = close_no_items os
take_wanted start os token.round_close = close_no_arguments os
take_wanted start os _ = stops

-- ---- behind a name

-- the name of another function or method than those that there are
abbrev pub begin_call : List Shape → Callee → Taken
begin_call os c = takes (cond c.known None (Some c.place)) (shape.Call c.place First ∷ os) seat.Want

abbrev pub take_call : List Shape → Callee → Token → Taken
take_call os c token.round_open = begin_call os c
take_call os c _ = stops

-- ---- behind an operand

abbrev pub close_round : List Shape → Taken
close_round (shape.Round ∷ os) = takes None os seat.Operand
close_round (shape.Call place items ∷ os) = takes None os seat.Operand
close_round _ = stops

abbrev pub close_square : List Shape → Taken
close_square (shape.Square items ∷ os) = takes None os seat.Operand
close_square (shape.Place ∷ os) = takes None os seat.Operand
close_square _ = stops

-- a second argument is a wrong count
abbrev pub next_item : List Shape → Taken
next_item (shape.Square items ∷ os) = takes None (shape.Square Later ∷ os) seat.Want
next_item (shape.Call place items ∷ os) = takes (Some place) (shape.Call place Later ∷ os) seat.Want
next_item _ = stops

abbrev pub other_branch : List Shape → Taken
other_branch (shape.Test ∷ os) = takes None (shape.Branch ∷ os) seat.Want
other_branch _ = stops

abbrev pub operate : List Shape → Taken
operate os = takes None (without_signs os) seat.Want

abbrev pub operate_if : List Shape → Bool → Taken
operate_if os true = operate os
operate_if os false = stops

abbrev pub take_behind : List Shape → Token → Taken
take_behind os (token.operator o) = operate os
take_behind os (token.word w) = operate_if os (is_in w)
take_behind os token.question = takes None (shape.Test ∷ without_signs os) seat.Want
take_behind os token.dot = takes None os seat.BehindDot
take_behind os token.square_open = takes None (shape.Place ∷ os) seat.Want
take_behind os token.colon = other_branch (without_heads os)
take_behind os token.comma = next_item (without_heads os)
take_behind os token.round_close = close_round (without_heads os)
take_behind os token.square_close = close_square (without_heads os)
take_behind os _ = stops

abbrev pub take_callable : List Shape → Callee → Token → Taken
take_callable os c token.round_open = begin_call os c
take_callable os c t = take_behind os t

abbrev pub take_name : ℕ → List Shape → Token → Taken
take_name start os (token.word w) =
    takes None os (seat.Callable (callee_at start (is_some (method_of w))))
take_name start os _ = stops

-- ---- all tokens

abbrev pub take_token : List Shape → Seat → Placed → Taken
take_token os seat.Want p = take_wanted p.start os p.token
take_token os (seat.Function c) p = take_call os c p.token
take_token os seat.Operand p = take_behind os p.token
take_token os (seat.Callable c) p = take_callable os c p.token
take_token os seat.BehindDot p = take_name p.start os p.token

abbrev pub lesser : Option ℕ → Option ℕ → Option ℕ
lesser (Some a) (Some b) = Some (min a b)
lesser (Some a) None = Some a
lesser None b = b

abbrev pub rules_on : Option ℕ → Taken → (Option ℕ → List Shape → Seat → Option ℕ) → Option ℕ
rules_on least stops on = least
rules_on least (takes place os s) on = on (lesser least place) os s

-- the least place of a name that breaks a rule, beside those before
abbrev pub rules_from : Option ℕ → List Shape → Seat → List Placed → Option ℕ
rules_from least os s [] = least
rules_from least os s (p ∷ ps) =
    rules_on least (take_token os s p) (λ place next_os next. rules_from place next_os next ps)

abbrev pub rules_in : List Placed → Option ℕ
rules_in ps = rules_from None [] seat.Want ps

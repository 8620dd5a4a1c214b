-- The tokens of a text: `in` is always a word.
use Rattle.std.proofs.Common.{◌≡◌, ℕ, suc, zero, Bool, true, false, cond, List, [], ◌∷◌, refl, map, length, Option, Some, None, Result, Ok, Err, drop, take, slice_index, ◌++◌, ◌-◌, ◌==◌, ◌||◌, ℤ}
use Rattle.text_num.specs.declared.fault.NumFault.{NumFault}
use Rattle.expr.specs.declared.term.Operator.TheVariants as op
use Rattle.std.specs.Char.{is_ascii_digit}
use Rattle.text_num.specs.Units.{units_of}
use Rattle.expr.specs.Tokens.{without_zeros, behind_number, begins_name, name_front, behind_name, Token, Cut, Within, plain, Byte, goes, ends, fails, cut, cut_behind, cut_string, cut_number, number_token, two, cut_sign, cut_at, next_byte, Placed, placed_at, placed_from, placed_tokens, behind_spaces, token_of, tokens_of, word, operator, exclaim, round_open, round_close, square_open, square_close, dot, comma, question, colon, wrong}
use Rattle.cel_parse.proofs.Sound.{is_plain, AllPlain}

record IsPlain (x : Cut) : Type 0 where
  fact : is_plain x.token ≡ true

known : (x : Cut) → is_plain x.token ≡ true → IsPlain x
known x e = record { fact = e }

plain-cond : (b : Bool) (x y : Cut) → IsPlain x → IsPlain y → IsPlain (cond b x y)
plain-cond true x y h k = h
plain-cond false x y h k = k

plain-two : (second : ℕ) (a b : Token) (cs : List ℕ) → is_plain a ≡ true → is_plain b ≡ true → IsPlain (two second a b cs)
plain-two second a b cs h k = plain-cond (slice_index cs 0 == second) (cut a (drop 1 cs)) (cut b cs) (known _ h) (known _ k)

plain-behind : (v cs : List ℕ) (b : Byte) (on : List ℕ → Within → Cut) → ((longer : List ℕ) (next : Within) → IsPlain (on longer next)) → IsPlain (cut_behind v cs b on)
plain-behind v cs (goes m w) on h = h (v ++ m) w
plain-behind v cs ends on h = known _ refl
plain-behind v cs fails on h = known _ refl

plain-string : (cs : List ℕ) (quote : ℕ) (v : List ℕ) (w : Within) → IsPlain (cut_string quote v w cs)
plain-string [] quote v w = known _ refl
plain-string (c ∷ cs) quote v w = plain-behind v cs (next_byte quote w c) (λ longer next. cut_string quote longer next cs) (λ longer next. plain-string cs quote longer next)

plain-units : (r : Result ℤ NumFault) → is_plain (number_token r) ≡ true
plain-units (Ok z) = refl
plain-units (Err f) = refl

plain-number : (bytes rest : List ℕ) → IsPlain (cut_number bytes rest)
plain-number bytes rest = known _ (plain-units (units_of (without_zeros (take (length bytes - length rest) bytes))))

sign-0 : (c : ℕ) (cs : List ℕ) → IsPlain (cut wrong cs)
sign-0 c cs = known _ refl

abbrev signs-1 : ℕ → List ℕ → Cut
signs-1 c cs = cond (c == 124) (two 124 (operator op.Or) (wrong) cs) (cut wrong cs)

sign-1 : (c : ℕ) (cs : List ℕ) → IsPlain (signs-1 c cs)
sign-1 c cs = plain-cond (c == 124) (two 124 (operator op.Or) (wrong) cs) (cut wrong cs) (plain-two 124 (operator op.Or) (wrong) cs refl refl) (sign-0 c cs)

abbrev signs-2 : ℕ → List ℕ → Cut
signs-2 c cs = cond (c == 38) (two 38 (operator op.And) (wrong) cs) (signs-1 c cs)

sign-2 : (c : ℕ) (cs : List ℕ) → IsPlain (signs-2 c cs)
sign-2 c cs = plain-cond (c == 38) (two 38 (operator op.And) (wrong) cs) (signs-1 c cs) (plain-two 38 (operator op.And) (wrong) cs refl refl) (sign-1 c cs)

abbrev signs-3 : ℕ → List ℕ → Cut
signs-3 c cs = cond (c == 61) (two 61 (operator op.Equal) (wrong) cs) (signs-2 c cs)

sign-3 : (c : ℕ) (cs : List ℕ) → IsPlain (signs-3 c cs)
sign-3 c cs = plain-cond (c == 61) (two 61 (operator op.Equal) (wrong) cs) (signs-2 c cs) (plain-two 61 (operator op.Equal) (wrong) cs refl refl) (sign-2 c cs)

abbrev signs-4 : ℕ → List ℕ → Cut
signs-4 c cs = cond (c == 33) (two 61 (operator op.NotEqual) (exclaim) cs) (signs-3 c cs)

sign-4 : (c : ℕ) (cs : List ℕ) → IsPlain (signs-4 c cs)
sign-4 c cs = plain-cond (c == 33) (two 61 (operator op.NotEqual) (exclaim) cs) (signs-3 c cs) (plain-two 61 (operator op.NotEqual) (exclaim) cs refl refl) (sign-3 c cs)

abbrev signs-5 : ℕ → List ℕ → Cut
signs-5 c cs = cond (c == 62) (two 61 (operator op.GreaterOrEqual) (operator op.Greater) cs) (signs-4 c cs)

sign-5 : (c : ℕ) (cs : List ℕ) → IsPlain (signs-5 c cs)
sign-5 c cs = plain-cond (c == 62) (two 61 (operator op.GreaterOrEqual) (operator op.Greater) cs) (signs-4 c cs) (plain-two 61 (operator op.GreaterOrEqual) (operator op.Greater) cs refl refl) (sign-4 c cs)

abbrev signs-6 : ℕ → List ℕ → Cut
signs-6 c cs = cond (c == 60) (two 61 (operator op.LessOrEqual) (operator op.Less) cs) (signs-5 c cs)

sign-6 : (c : ℕ) (cs : List ℕ) → IsPlain (signs-6 c cs)
sign-6 c cs = plain-cond (c == 60) (two 61 (operator op.LessOrEqual) (operator op.Less) cs) (signs-5 c cs) (plain-two 61 (operator op.LessOrEqual) (operator op.Less) cs refl refl) (sign-5 c cs)

abbrev signs-7 : ℕ → List ℕ → Cut
signs-7 c cs = cond (c == 37) (cut (operator op.Remainder) cs) (signs-6 c cs)

sign-7 : (c : ℕ) (cs : List ℕ) → IsPlain (signs-7 c cs)
sign-7 c cs = plain-cond (c == 37) (cut (operator op.Remainder) cs) (signs-6 c cs) (known _ refl) (sign-6 c cs)

abbrev signs-8 : ℕ → List ℕ → Cut
signs-8 c cs = cond (c == 47) (cut (operator op.Divide) cs) (signs-7 c cs)

sign-8 : (c : ℕ) (cs : List ℕ) → IsPlain (signs-8 c cs)
sign-8 c cs = plain-cond (c == 47) (cut (operator op.Divide) cs) (signs-7 c cs) (known _ refl) (sign-7 c cs)

abbrev signs-9 : ℕ → List ℕ → Cut
signs-9 c cs = cond (c == 42) (cut (operator op.Times) cs) (signs-8 c cs)

sign-9 : (c : ℕ) (cs : List ℕ) → IsPlain (signs-9 c cs)
sign-9 c cs = plain-cond (c == 42) (cut (operator op.Times) cs) (signs-8 c cs) (known _ refl) (sign-8 c cs)

abbrev signs-10 : ℕ → List ℕ → Cut
signs-10 c cs = cond (c == 45) (cut (operator op.Minus) cs) (signs-9 c cs)

sign-10 : (c : ℕ) (cs : List ℕ) → IsPlain (signs-10 c cs)
sign-10 c cs = plain-cond (c == 45) (cut (operator op.Minus) cs) (signs-9 c cs) (known _ refl) (sign-9 c cs)

abbrev signs-11 : ℕ → List ℕ → Cut
signs-11 c cs = cond (c == 43) (cut (operator op.Plus) cs) (signs-10 c cs)

sign-11 : (c : ℕ) (cs : List ℕ) → IsPlain (signs-11 c cs)
sign-11 c cs = plain-cond (c == 43) (cut (operator op.Plus) cs) (signs-10 c cs) (known _ refl) (sign-10 c cs)

abbrev signs-12 : ℕ → List ℕ → Cut
signs-12 c cs = cond (c == 58) (cut (colon) cs) (signs-11 c cs)

sign-12 : (c : ℕ) (cs : List ℕ) → IsPlain (signs-12 c cs)
sign-12 c cs = plain-cond (c == 58) (cut (colon) cs) (signs-11 c cs) (known _ refl) (sign-11 c cs)

abbrev signs-13 : ℕ → List ℕ → Cut
signs-13 c cs = cond (c == 63) (cut (question) cs) (signs-12 c cs)

sign-13 : (c : ℕ) (cs : List ℕ) → IsPlain (signs-13 c cs)
sign-13 c cs = plain-cond (c == 63) (cut (question) cs) (signs-12 c cs) (known _ refl) (sign-12 c cs)

abbrev signs-14 : ℕ → List ℕ → Cut
signs-14 c cs = cond (c == 44) (cut (comma) cs) (signs-13 c cs)

sign-14 : (c : ℕ) (cs : List ℕ) → IsPlain (signs-14 c cs)
sign-14 c cs = plain-cond (c == 44) (cut (comma) cs) (signs-13 c cs) (known _ refl) (sign-13 c cs)

abbrev signs-15 : ℕ → List ℕ → Cut
signs-15 c cs = cond (c == 46) (cut (dot) cs) (signs-14 c cs)

sign-15 : (c : ℕ) (cs : List ℕ) → IsPlain (signs-15 c cs)
sign-15 c cs = plain-cond (c == 46) (cut (dot) cs) (signs-14 c cs) (known _ refl) (sign-14 c cs)

abbrev signs-16 : ℕ → List ℕ → Cut
signs-16 c cs = cond (c == 93) (cut (square_close) cs) (signs-15 c cs)

sign-16 : (c : ℕ) (cs : List ℕ) → IsPlain (signs-16 c cs)
sign-16 c cs = plain-cond (c == 93) (cut (square_close) cs) (signs-15 c cs) (known _ refl) (sign-15 c cs)

abbrev signs-17 : ℕ → List ℕ → Cut
signs-17 c cs = cond (c == 91) (cut (square_open) cs) (signs-16 c cs)

sign-17 : (c : ℕ) (cs : List ℕ) → IsPlain (signs-17 c cs)
sign-17 c cs = plain-cond (c == 91) (cut (square_open) cs) (signs-16 c cs) (known _ refl) (sign-16 c cs)

abbrev signs-18 : ℕ → List ℕ → Cut
signs-18 c cs = cond (c == 41) (cut (round_close) cs) (signs-17 c cs)

sign-18 : (c : ℕ) (cs : List ℕ) → IsPlain (signs-18 c cs)
sign-18 c cs = plain-cond (c == 41) (cut (round_close) cs) (signs-17 c cs) (known _ refl) (sign-17 c cs)

abbrev signs-19 : ℕ → List ℕ → Cut
signs-19 c cs = cond (c == 40) (cut (round_open) cs) (signs-18 c cs)

sign-19 : (c : ℕ) (cs : List ℕ) → IsPlain (signs-19 c cs)
sign-19 c cs = plain-cond (c == 40) (cut (round_open) cs) (signs-18 c cs) (known _ refl) (sign-18 c cs)

plain-cut : (c : ℕ) (cs : List ℕ) → IsPlain (cut_at c cs)
plain-cut c cs = plain-cond (is_ascii_digit c) (cut_number (c ∷ cs) (behind_number (c ∷ cs))) _ (plain-number (c ∷ cs) (behind_number (c ∷ cs)))
    (plain-cond (begins_name c) (cut (word (name_front (c ∷ cs))) (behind_name (c ∷ cs))) _ (known _ refl)
    (plain-cond (c == 34 || c == 39) (cut_string c [] plain cs) (cut_sign c cs) (plain-string cs c [] plain) (sign-19 c cs)))

plain-at : (whole : ℕ) (bytes : List ℕ) (on : List ℕ → List Placed) → ((rest : List ℕ) → AllPlain (map token_of (on rest))) → AllPlain (map token_of (placed_at whole bytes on))
plain-at whole [] on h = tt
plain-at whole (c ∷ cs) on h = ((plain-cut c cs).fact, h (cut_at c cs).rest)

plain-from : (whole most : ℕ) (bytes : List ℕ) → AllPlain (map token_of (placed_from whole most bytes))
plain-from whole zero bytes = tt
plain-from whole (suc most) bytes = plain-at whole (behind_spaces bytes) (placed_from whole most) (plain-from whole most)

pub all-plain : (text : List ℕ) → AllPlain (tokens_of text)
unfolding tokens_of placed_tokens
all-plain text = plain-from (length text) (length text) text

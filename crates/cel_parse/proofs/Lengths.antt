-- A token takes a byte at least.
use Rattle.std.proofs.Common.{◌≡◌, ℕ, suc, zero, ◌+◌, ◌-◌, ◌≤◌, Bool, true, false, cond, List, [], ◌∷◌, ◌++◌, refl, sym, ◌∙◌, ap, subst, arith, length, take, drop, slice_index, slice_get, ◌==◌, ◌||◌, ◌⊎◌, inl, inr, Option, Some, None, nat_lt}
use Rattle.std.specs.Char.{is_ascii_digit}
use Rattle.text_num.specs.Digits.{digits_front, behind_digits, fraction_of}
use Rattle.text_num.specs.Units.{units_of}
use Rattle.expr.specs.declared.term.Operator.TheVariants as op
use Rattle.expr.specs.Tokens.{Token, Cut, Within, plain, Byte, goes, ends, fails, cut, cut_behind, cut_string, cut_number, two, cut_sign, cut_at, next_byte, behind_fraction, behind_number, begins_name, goes_on_name, name_front, behind_name, is_space, behind_spaces, number_token, without_zeros, placed_at, word, operator, exclaim, round_open, round_close, square_open, square_close, dot, comma, question, colon, wrong}
use Rattle.expr.specs.Tokens as t
use Rattle.cel_parse.specs.declared.token.Token.{Token as CodeToken}
use Rattle.cel_parse.specs.declared.token.Placed.{Placed}
use Rattle.cel_parse.specs.Tokens.{token_of, placed_of, IsNext}

bool_cases : (b : Bool) → (b ≡ true) ⊎ (b ≡ false)
bool_cases true = inl refl
bool_cases false = inr refl

short-drop : (bs : List ℕ) → length (drop 1 bs) ≤ length bs
short-drop [] = omega arith
short-drop (c ∷ cs) = omega arith

short-digits : (bs : List ℕ) → length (behind_digits bs) ≤ length bs
short-digits [] = omega arith
short-digits (c ∷ cs) = let more = short-digits cs in elim (bool_cases (is_ascii_digit c)) [ inl is ↦ rw is (omega arith) | inr isn't ↦ rw isn't (omega arith) ]

short-name : (bs : List ℕ) → length (behind_name bs) ≤ length bs
short-name [] = omega arith
short-name (c ∷ cs) = let more = short-name cs in elim (bool_cases (goes_on_name c)) [ inl is ↦ rw is (omega arith) | inr isn't ↦ rw isn't (omega arith) ]

pub short-spaces : (bs : List ℕ) → length (behind_spaces bs) ≤ length bs
short-spaces [] = omega arith
short-spaces (c ∷ cs) = let more = short-spaces cs in elim (bool_cases (is_space c)) [ inl is ↦ rw is (omega arith) | inr isn't ↦ rw isn't (omega arith) ]

fraction-cond : (a b : Bool) (f text : List ℕ) → length (behind_fraction (cond a (cond b (Some (f, behind_digits (drop 1 text))) None) (Some ([], text))) text) ≤ length text
fraction-cond true true f text = let d = short-drop text in let g = short-digits (drop 1 text) in omega (arith, d, g)
fraction-cond true false f text = omega arith
fraction-cond false b f text = omega arith

short-fraction : (after : List ℕ) → length (behind_fraction (fraction_of after) after) ≤ length after
unfolding fraction_of
short-fraction after = fraction-cond (slice_index after 0 == 46) (nat_lt 0 (length (digits_front (drop 1 after)))) (digits_front (drop 1 after)) after

digits-one : (c : ℕ) (cs : List ℕ) → is_ascii_digit c ≡ true → behind_digits (c ∷ cs) ≡ behind_digits cs
digits-one c cs e = ap (λ (b : Bool). cond b (behind_digits cs) (c ∷ cs)) e

short-number : (c : ℕ) (cs : List ℕ) → is_ascii_digit c ≡ true → length (behind_number (c ∷ cs)) ≤ length cs
short-number c cs e = let same = digits-one c cs e in let d = short-digits cs in let f = short-fraction (behind_digits cs) in
    subst (λ (v : List ℕ). length (behind_fraction (fraction_of v) v) ≤ length cs) (sym same) (omega (arith, d, f))

goes-on : (a b : Bool) → a ≡ true → (a || b) ≡ true
goes-on true b e = refl
goes-on false b e = absurd (cc)

name-one : (c : ℕ) (cs : List ℕ) → begins_name c ≡ true → length (behind_name (c ∷ cs)) ≤ length cs
name-one c cs e = let d = short-name cs in subst (λ (b : Bool). length (cond b (behind_name cs) (c ∷ cs)) ≤ length cs) (sym (goes-on (begins_name c) (is_ascii_digit c) e)) d

record IsShort (n : ℕ) (x : Cut) : Type 0 where
  fact : length x.rest ≤ n

short : (n : ℕ) (x : Cut) → length x.rest ≤ n → IsShort n x
short n x h = record { fact = h }

short-cond : (n : ℕ) (b : Bool) (x y : Cut) → (b ≡ true → IsShort n x) → IsShort n y → IsShort n (cond b x y)
short-cond n true x y h k = h refl
short-cond n false x y h k = k

short-two : (second : ℕ) (a b : Token) (cs : List ℕ) → IsShort (length cs) (two second a b cs)
short-two second a b cs = short-cond (length cs) (slice_index cs 0 == second) (cut a (drop 1 cs)) (cut b cs) (λ e. short _ _ (short-drop cs)) (short _ _ (omega arith))

short-behind : (n : ℕ) (v cs : List ℕ) (b : Byte) (on : List ℕ → Within → Cut) → length cs ≤ n → ((longer : List ℕ) (next : Within) → IsShort n (on longer next)) → IsShort n (cut_behind v cs b on)
short-behind n v cs (goes m w) on l h = h (v ++ m) w
short-behind n v cs ends on l h = short _ _ l
short-behind n v cs fails on l h = short _ _ (omega arith)

short-string : (n : ℕ) (cs : List ℕ) (quote : ℕ) (v : List ℕ) (w : Within) → length cs ≤ n → IsShort n (cut_string quote v w cs)
short-string n [] quote v w l = short _ _ (omega arith)
short-string n (c ∷ cs) quote v w l = short-behind n v cs (next_byte quote w c) (λ longer next. cut_string quote longer next cs) (omega (arith, l)) (λ longer next. short-string n cs quote longer next (omega (arith, l)))

sign-0 : (c : ℕ) (cs : List ℕ) → IsShort (length cs) (cut wrong cs)
sign-0 c cs = short _ _ (omega arith)

abbrev signs-1 : ℕ → List ℕ → Cut
signs-1 c cs = cond (c == 124) (two 124 (operator op.Or) (wrong) cs) (cut wrong cs)

sign-1 : (c : ℕ) (cs : List ℕ) → IsShort (length cs) (signs-1 c cs)
sign-1 c cs = short-cond (length cs) (c == 124) (two 124 (operator op.Or) (wrong) cs) (cut wrong cs) (λ e. short-two 124 (operator op.Or) (wrong) cs) (sign-0 c cs)

abbrev signs-2 : ℕ → List ℕ → Cut
signs-2 c cs = cond (c == 38) (two 38 (operator op.And) (wrong) cs) (signs-1 c cs)

sign-2 : (c : ℕ) (cs : List ℕ) → IsShort (length cs) (signs-2 c cs)
sign-2 c cs = short-cond (length cs) (c == 38) (two 38 (operator op.And) (wrong) cs) (signs-1 c cs) (λ e. short-two 38 (operator op.And) (wrong) cs) (sign-1 c cs)

abbrev signs-3 : ℕ → List ℕ → Cut
signs-3 c cs = cond (c == 61) (two 61 (operator op.Equal) (wrong) cs) (signs-2 c cs)

sign-3 : (c : ℕ) (cs : List ℕ) → IsShort (length cs) (signs-3 c cs)
sign-3 c cs = short-cond (length cs) (c == 61) (two 61 (operator op.Equal) (wrong) cs) (signs-2 c cs) (λ e. short-two 61 (operator op.Equal) (wrong) cs) (sign-2 c cs)

abbrev signs-4 : ℕ → List ℕ → Cut
signs-4 c cs = cond (c == 33) (two 61 (operator op.NotEqual) (exclaim) cs) (signs-3 c cs)

sign-4 : (c : ℕ) (cs : List ℕ) → IsShort (length cs) (signs-4 c cs)
sign-4 c cs = short-cond (length cs) (c == 33) (two 61 (operator op.NotEqual) (exclaim) cs) (signs-3 c cs) (λ e. short-two 61 (operator op.NotEqual) (exclaim) cs) (sign-3 c cs)

abbrev signs-5 : ℕ → List ℕ → Cut
signs-5 c cs = cond (c == 62) (two 61 (operator op.GreaterOrEqual) (operator op.Greater) cs) (signs-4 c cs)

sign-5 : (c : ℕ) (cs : List ℕ) → IsShort (length cs) (signs-5 c cs)
sign-5 c cs = short-cond (length cs) (c == 62) (two 61 (operator op.GreaterOrEqual) (operator op.Greater) cs) (signs-4 c cs) (λ e. short-two 61 (operator op.GreaterOrEqual) (operator op.Greater) cs) (sign-4 c cs)

abbrev signs-6 : ℕ → List ℕ → Cut
signs-6 c cs = cond (c == 60) (two 61 (operator op.LessOrEqual) (operator op.Less) cs) (signs-5 c cs)

sign-6 : (c : ℕ) (cs : List ℕ) → IsShort (length cs) (signs-6 c cs)
sign-6 c cs = short-cond (length cs) (c == 60) (two 61 (operator op.LessOrEqual) (operator op.Less) cs) (signs-5 c cs) (λ e. short-two 61 (operator op.LessOrEqual) (operator op.Less) cs) (sign-5 c cs)

abbrev signs-7 : ℕ → List ℕ → Cut
signs-7 c cs = cond (c == 37) (cut (operator op.Remainder) cs) (signs-6 c cs)

sign-7 : (c : ℕ) (cs : List ℕ) → IsShort (length cs) (signs-7 c cs)
sign-7 c cs = short-cond (length cs) (c == 37) (cut (operator op.Remainder) cs) (signs-6 c cs) (λ e. short _ _ (omega arith)) (sign-6 c cs)

abbrev signs-8 : ℕ → List ℕ → Cut
signs-8 c cs = cond (c == 47) (cut (operator op.Divide) cs) (signs-7 c cs)

sign-8 : (c : ℕ) (cs : List ℕ) → IsShort (length cs) (signs-8 c cs)
sign-8 c cs = short-cond (length cs) (c == 47) (cut (operator op.Divide) cs) (signs-7 c cs) (λ e. short _ _ (omega arith)) (sign-7 c cs)

abbrev signs-9 : ℕ → List ℕ → Cut
signs-9 c cs = cond (c == 42) (cut (operator op.Times) cs) (signs-8 c cs)

sign-9 : (c : ℕ) (cs : List ℕ) → IsShort (length cs) (signs-9 c cs)
sign-9 c cs = short-cond (length cs) (c == 42) (cut (operator op.Times) cs) (signs-8 c cs) (λ e. short _ _ (omega arith)) (sign-8 c cs)

abbrev signs-10 : ℕ → List ℕ → Cut
signs-10 c cs = cond (c == 45) (cut (operator op.Minus) cs) (signs-9 c cs)

sign-10 : (c : ℕ) (cs : List ℕ) → IsShort (length cs) (signs-10 c cs)
sign-10 c cs = short-cond (length cs) (c == 45) (cut (operator op.Minus) cs) (signs-9 c cs) (λ e. short _ _ (omega arith)) (sign-9 c cs)

abbrev signs-11 : ℕ → List ℕ → Cut
signs-11 c cs = cond (c == 43) (cut (operator op.Plus) cs) (signs-10 c cs)

sign-11 : (c : ℕ) (cs : List ℕ) → IsShort (length cs) (signs-11 c cs)
sign-11 c cs = short-cond (length cs) (c == 43) (cut (operator op.Plus) cs) (signs-10 c cs) (λ e. short _ _ (omega arith)) (sign-10 c cs)

abbrev signs-12 : ℕ → List ℕ → Cut
signs-12 c cs = cond (c == 58) (cut (colon) cs) (signs-11 c cs)

sign-12 : (c : ℕ) (cs : List ℕ) → IsShort (length cs) (signs-12 c cs)
sign-12 c cs = short-cond (length cs) (c == 58) (cut (colon) cs) (signs-11 c cs) (λ e. short _ _ (omega arith)) (sign-11 c cs)

abbrev signs-13 : ℕ → List ℕ → Cut
signs-13 c cs = cond (c == 63) (cut (question) cs) (signs-12 c cs)

sign-13 : (c : ℕ) (cs : List ℕ) → IsShort (length cs) (signs-13 c cs)
sign-13 c cs = short-cond (length cs) (c == 63) (cut (question) cs) (signs-12 c cs) (λ e. short _ _ (omega arith)) (sign-12 c cs)

abbrev signs-14 : ℕ → List ℕ → Cut
signs-14 c cs = cond (c == 44) (cut (comma) cs) (signs-13 c cs)

sign-14 : (c : ℕ) (cs : List ℕ) → IsShort (length cs) (signs-14 c cs)
sign-14 c cs = short-cond (length cs) (c == 44) (cut (comma) cs) (signs-13 c cs) (λ e. short _ _ (omega arith)) (sign-13 c cs)

abbrev signs-15 : ℕ → List ℕ → Cut
signs-15 c cs = cond (c == 46) (cut (dot) cs) (signs-14 c cs)

sign-15 : (c : ℕ) (cs : List ℕ) → IsShort (length cs) (signs-15 c cs)
sign-15 c cs = short-cond (length cs) (c == 46) (cut (dot) cs) (signs-14 c cs) (λ e. short _ _ (omega arith)) (sign-14 c cs)

abbrev signs-16 : ℕ → List ℕ → Cut
signs-16 c cs = cond (c == 93) (cut (square_close) cs) (signs-15 c cs)

sign-16 : (c : ℕ) (cs : List ℕ) → IsShort (length cs) (signs-16 c cs)
sign-16 c cs = short-cond (length cs) (c == 93) (cut (square_close) cs) (signs-15 c cs) (λ e. short _ _ (omega arith)) (sign-15 c cs)

abbrev signs-17 : ℕ → List ℕ → Cut
signs-17 c cs = cond (c == 91) (cut (square_open) cs) (signs-16 c cs)

sign-17 : (c : ℕ) (cs : List ℕ) → IsShort (length cs) (signs-17 c cs)
sign-17 c cs = short-cond (length cs) (c == 91) (cut (square_open) cs) (signs-16 c cs) (λ e. short _ _ (omega arith)) (sign-16 c cs)

abbrev signs-18 : ℕ → List ℕ → Cut
signs-18 c cs = cond (c == 41) (cut (round_close) cs) (signs-17 c cs)

sign-18 : (c : ℕ) (cs : List ℕ) → IsShort (length cs) (signs-18 c cs)
sign-18 c cs = short-cond (length cs) (c == 41) (cut (round_close) cs) (signs-17 c cs) (λ e. short _ _ (omega arith)) (sign-17 c cs)

abbrev signs-19 : ℕ → List ℕ → Cut
signs-19 c cs = cond (c == 40) (cut (round_open) cs) (signs-18 c cs)

sign-19 : (c : ℕ) (cs : List ℕ) → IsShort (length cs) (signs-19 c cs)
sign-19 c cs = short-cond (length cs) (c == 40) (cut (round_open) cs) (signs-18 c cs) (λ e. short _ _ (omega arith)) (sign-18 c cs)

short-cut : (c : ℕ) (cs : List ℕ) → IsShort (length cs) (cut_at c cs)
short-cut c cs = short-cond (length cs) (is_ascii_digit c) (cut_number (c ∷ cs) (behind_number (c ∷ cs))) _ (λ e. short _ _ (short-number c cs e))
    (short-cond (length cs) (begins_name c) (cut (word (name_front (c ∷ cs))) (behind_name (c ∷ cs))) _ (λ e. short _ _ (name-one c cs e))
    (short-cond (length cs) (c == 34 || c == 39) (cut_string c [] plain cs) (cut_sign c cs) (λ e. short-string (length cs) cs c [] plain (omega arith)) (sign-19 c cs)))

next-at : (whole : ℕ) (old bytes : List ℕ) (first start : ℕ) (token : CodeToken) (rest : List ℕ) → bytes ≡ behind_spaces old → slice_get bytes 0 ≡ Some first → start ≡ whole - length bytes
    → ((cs : List ℕ) → bytes ≡ first ∷ cs → cut_at first cs ≡ cut (token_of token) rest) → (on : List ℕ → List t.Placed) → placed_at whole bytes on ≡ record { start = start; token = token_of token } ∷ on rest
next-at whole old [] first start token rest e k s h on = absurd (cc)
next-at whole old (c ∷ cs) first start token rest e k s h on = let same : c ≡ first = cc in let got = ap (λ (x : ℕ). cut_at x cs) same ∙ h cs (ap (λ (x : ℕ). x ∷ cs) same) in
    ap (λ (x : Cut). record { start = whole - length (c ∷ cs); token = x.token } ∷ on x.rest) got ∙ ap (λ (n : ℕ). record { start = n; token = token_of token } ∷ on rest) (sym s)

next-short : (bytes : List ℕ) (first : ℕ) (token : CodeToken) (rest : List ℕ) → slice_get bytes 0 ≡ Some first
    → ((cs : List ℕ) → bytes ≡ first ∷ cs → cut_at first cs ≡ cut (token_of token) rest) → length rest + 1 ≤ length bytes
next-short [] first token rest k h = absurd (cc)
next-short (c ∷ cs) first token rest k h = let same : c ≡ first = cc in let got = h cs (ap (λ (x : ℕ). x ∷ cs) same) in
    let le : length rest ≤ length cs = subst (λ (x : Cut). length x.rest ≤ length cs) got (short-cut first cs).fact in omega (arith, le)

pub is-next : (whole : ℕ) (old bytes : List ℕ) (first start : ℕ) (token : CodeToken) (rest : List ℕ) → bytes ≡ behind_spaces old → slice_get bytes 0 ≡ Some first → start ≡ whole - length bytes
    → ((cs : List ℕ) → bytes ≡ first ∷ cs → cut_at first cs ≡ cut (token_of token) rest) → IsNext whole old (record { start = start; token = token }) rest
is-next whole old bytes first start token rest e k s h = record {
  first = λ on. ap (λ (v : List ℕ). placed_at whole v on) (sym e) ∙ next-at whole old bytes first start token rest e k s h on;
  shorter = let a = next-short bytes first token rest k h in let b = short-spaces old in let g : length bytes ≡ length (behind_spaces old) = ap length e in omega (arith, a, b, g);
}

-- Bytes written one after another over the front of a list.
use Rattle.std.proofs.Common.{◌≡◌, ℕ, zero, suc, ◌+◌, ◌-◌, ◌/◌, ◌%◌, ◌^◌, ◌<◌, ◌≤◌, false, eqb, List, [], ◌∷◌, ◌++◌, length, get_or, take, drop, set, sym, refl, ap, ◌∙◌, arith, append_assoc, length-append}
use Rattle.std.proofs.lemmas.List.{take_at, drop_at, set_at, drop-drop, drop_more, take_more_set, drop-set-lt, length-take-le, take-append-drop, append-nil}
use Rattle.std.proofs.lemmas.Nat.{div_below}
use Rattle.std.proofs.lemmas.Bool.Decides.{nat_tests}
use Rattle.text_num.specs.Digits.{fraction_text}
use Rattle.text_num.specs.Units.{fraction_digits}
use Rattle.text_num.proofs.DigitLemmas.{ten_pow}
use Rattle.text_num.proofs.MultipleLemmas.{tens}

-- a list with this text in the place of its front
abbrev pub written : List ℕ → List ℕ → List ℕ
written text old = text ++ drop (length text) old

pub write_one : (front old : List ℕ) (n b : ℕ) → n ≡ length front → n < length old
    → set (written front old) n b ≡ written (front ++ b ∷ []) old
write_one front old n b at room =
    let more : drop (length front) old ≡ get_or old n 0 ∷ drop (n + 1) old = ap (λ k. drop k old) (sym at) ∙ drop_more old n 0 room in
    let len : length (front ++ b ∷ []) ≡ n + 1 = omega (arith, length-append front (b ∷ [])) in
    ap (λ l. set (front ++ l) n b) more ∙ set_at front (get_or old n 0) (drop (n + 1) old) b n (sym at)
    ∙ sym (append_assoc front (b ∷ []) (drop (n + 1) old)) ∙ ap (λ k. (front ++ b ∷ []) ++ drop k old) (sym len)

-- a text written behind another
pub write_text : (front text old new : List ℕ)
    → new ≡ take (length front) (written front old) ++ text ++ drop (length front + length text) (written front old)
    → new ≡ written (front ++ text) old
write_text front text old new e =
    let before : take (length front) (written front old) ≡ front = take_at front (drop (length front) old) (length front) refl in
    let behind : drop (length front + length text) (written front old) ≡ drop (length (front ++ text)) old =
    sym (drop-drop (length text) (length front) (written front old)) ∙ ap (drop (length text)) (drop_at front (drop (length front) old) (length front) refl)
    ∙ drop-drop (length text) (length front) old ∙ ap (λ k. drop k old) (sym (length-append front text)) in
    e ∙ ap (λ l. l ++ text ++ drop (length front + length text) (written front old)) before ∙ ap (λ l. (front ++ text) ++ l) behind

-- a byte more of a text that is being written
pub write_more : (front done out old : List ℕ) (at b : ℕ) → out ≡ written (front ++ done) old → at ≡ length front + length done → at < length old
    → set out at b ≡ written (front ++ (done ++ b ∷ [])) old
write_more front done out old at b e place room =
    ap (λ l. set l at b) e ∙ write_one (front ++ done) old at b (place ∙ sym (length-append front done)) room
    ∙ ap (λ l. written l old) (append_assoc front done (b ∷ []))

-- all of a fraction, with its point
pub fraction_written : (old digits out : List ℕ) (at : ℕ) → at < length old
    → out ≡ written (take (at + 1) (set old at 46) ++ digits) (set old at 46)
    → out ≡ take at old ++ (46 ∷ digits) ++ drop (at + length (46 ∷ digits)) old
fraction_written old digits out at room e =
    let point = take_more_set old at 46 room in
    let before : take (at + 1) (set old at 46) ++ digits ≡ take at old ++ (46 ∷ digits) = ap (λ l. l ++ digits) point ∙ append_assoc (take at old) (46 ∷ []) digits in
    let len : length (take at old ++ (46 ∷ digits)) ≡ at + length (46 ∷ digits) = length-append (take at old) (46 ∷ digits) ∙ ap (λ n. n + length (46 ∷ digits)) (length-take-le at old (omega arith)) in
    e ∙ ap (λ l. written l (set old at 46)) before ∙ ap (λ n. take at old ++ (46 ∷ digits) ++ drop n (set old at 46)) len
    ∙ ap (λ l. take at old ++ (46 ∷ digits) ++ l) (drop-set-lt (at + length (46 ∷ digits)) old at 46 (omega arith))

-- ---- the digits of a fraction

pub no_digits : (places : ℕ) → fraction_digits places 0 ≡ []
unfolding fraction_digits
no_digits zero = refl
no_digits (suc places) = refl

pub next_digit : (places rest : ℕ) → 0 < rest
    → fraction_digits (suc places) rest ≡ (48 + rest / 10 ^ places) ∷ fraction_digits places (rest % 10 ^ places)
unfolding fraction_digits
next_digit places rest some = let isn't : eqb rest 0 ≡ false = grind (arith, nat_tests) in rw isn't refl

-- while something is left there is a place, and its digit comes next
pub digit_here : (places rest : ℕ) → 0 < rest → rest < 10 ^ places → (1 ≤ places) × (rest / 10 ^ (places - 1) < 10)
    × (fraction_digits places rest ≡ (48 + rest / 10 ^ (places - 1)) ∷ fraction_digits (places - 1) (rest % 10 ^ (places - 1)))
digit_here zero rest some small = let one : 10 ^ 0 ≡ 1 = refl in absurd (omega arith)
digit_here (suc places) rest some small =
    let less : suc places - 1 ≡ places = omega arith in
    rw less (omega arith, div_below rest (10 ^ places) 10 (tens places) (omega (arith, ten_pow places)), next_digit places rest some)

pub point_before : (rest : ℕ) → 0 < rest → fraction_text (fraction_digits 18 rest) ≡ 46 ∷ fraction_digits 18 rest
point_before rest some = rw (next_digit 17 rest some) refl

pub nothing_written : (old : List ℕ) (at : ℕ) → old ≡ take at old ++ fraction_text (fraction_digits 18 0) ++ drop (at + length (fraction_text (fraction_digits 18 0))) old
nothing_written old at =
    rw (no_digits 18) (sym (take-append-drop at old) ∙ ap (λ l. l ++ drop at old) (sym (append-nil (take at old))) ∙ ap (λ n. take at old ++ [] ++ drop n old) (omega arith))

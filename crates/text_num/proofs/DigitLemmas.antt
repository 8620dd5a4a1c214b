-- Digits: their value along a list, and the split of a text behind the digits at its front.
use Rattle.std.proofs.Common.{◌≡◌, ℕ, zero, suc, ◌+◌, ◌-◌, ◌*◌, ◌^◌, ◌<◌, ◌≤◌, Bool, true, false, not, cond, ◌&&◌, List, [], ◌∷◌, ◌++◌, length, get_or, take, drop, sym, refl, ap, ◌∙◌, arith, length-append, le-leb, inl, inr, ◌⊎◌, Ok, Err, leb}
use Rattle.std.proofs.Math.Nat.{pow-suc}
use Rattle.std.proofs.lemmas.Nat.{pow-add, mul-le}
use Rattle.std.proofs.lemmas.List.{take_more, take_at, drop_at}
use Rattle.std.proofs.lemmas.Bool.Decides.{nat_tests}
use Rattle.std.specs.Char.{is_ascii_digit}
use Rattle.std.specs.List.{position_or_len}
use Rattle.text_num.specs.Digits.{decimal_value, all_digits, digits_front, behind_digits, at_most}
use Rattle.text_num.specs.declared.fault.NumFault.TheVariants.{OutOfRange}

pub both_true : (a b : Bool) → (a && b) ≡ true → (a ≡ true) × (b ≡ true)
both_true true b e = (refl, e)
both_true false b e = cc

pub bool_cases : (b : Bool) → (b ≡ true) ⊎ (b ≡ false)
bool_cases true = inl refl
bool_cases false = inr refl

one_more : (n : ℕ) → 1 + n ≡ suc n
one_more n = omega arith

pub ten_pow : (n : ℕ) → 10 ^ suc n ≡ 10 ^ n * 10
ten_pow n = pow-suc 10 n

-- ---- bounds

pub within : (bound n : ℕ) → n ≤ bound → at_most bound n ≡ Ok n
within bound n h = rw (le-leb n bound h) refl

pub above : (bound n : ℕ) → bound < n → at_most bound n ≡ Err OutOfRange
above bound n h = let more : leb n bound ≡ false = grind (arith, nat_tests) in rw more refl

-- ---- values

pub value_append : (xs ys : List ℕ) → decimal_value (xs ++ ys) ≡ decimal_value xs * 10 ^ length ys + decimal_value ys
value_append [] ys = omega arith
value_append (d ∷ xs) ys =
    let places : 10 ^ length (xs ++ ys) ≡ 10 ^ length xs * 10 ^ length ys = ap (λ n. 10 ^ n) (length-append xs ys) ∙ pow-add 10 (length xs) (length ys) in
    let ih = value_append xs ys in
    rw (places, ih) (omega arith)

pub value_one : (d : ℕ) → decimal_value (d ∷ []) ≡ d - 48
value_one d = let one : 10 ^ 0 ≡ 1 = refl in omega arith

pub value_push : (xs : List ℕ) (d : ℕ) → decimal_value (xs ++ d ∷ []) ≡ decimal_value xs * 10 + (d - 48)
value_push xs d = value_append xs (d ∷ []) ∙ ap (λ v. decimal_value xs * 10 + v) (value_one d)

pub value_more : (ds : List ℕ) (i : ℕ) → i < length ds
    → decimal_value (take (i + 1) ds) ≡ decimal_value (take i ds) * 10 + (get_or ds i 0 - 48)
value_more ds i h = ap decimal_value (take_more ds i 0 h) ∙ value_push (take i ds) (get_or ds i 0)

-- a digit is 48 to 57
pub digit_bounds : (c : ℕ) → is_ascii_digit c ≡ true → (48 ≤ c) × (c ≤ 57)
digit_bounds c e = grind (arith, nat_tests)

pub digit_at : (ds : List ℕ) (i : ℕ) → all_digits ds ≡ true → i < length ds → (48 ≤ get_or ds i 0) × (get_or ds i 0 ≤ 57)
digit_at [] i e h = absurd (omega arith)
digit_at (d ∷ ds) zero e h = digit_bounds d (both_true _ _ e).0
digit_at (d ∷ ds) (suc i) e h = digit_at ds i (both_true _ _ e).1 (omega arith)

pub value_lt : (ds : List ℕ) → all_digits ds ≡ true → decimal_value ds < 10 ^ length ds
value_lt [] e = let one : 10 ^ 0 ≡ 1 = refl in omega arith
value_lt (d ∷ ds) e =
    let parts = both_true _ _ e in
    let bounds = digit_bounds d parts.0 in
    let ih = value_lt ds parts.1 in
    let step = ten_pow (length ds) in
    let nine : (d - 48) * 10 ^ length ds ≤ 9 * 10 ^ length ds = mul-le (d - 48) (10 ^ length ds) 9 (10 ^ length ds) (omega arith) (omega arith) in
    omega arith

-- ---- splits

pub front_digits : (text : List ℕ) → all_digits (digits_front text) ≡ true
front_digits [] = refl
front_digits (c ∷ cs) =
    let more = front_digits cs in
    elim (bool_cases (is_ascii_digit c)) [ inl is ↦ rw is (rw is more) | inr isn't ↦ rw isn't refl ]

pub front_behind : (text : List ℕ) → digits_front text ++ behind_digits text ≡ text
front_behind [] = refl
front_behind (c ∷ cs) =
    let more = front_behind cs in
    elim (is_ascii_digit c) as (λ b. cond b (c ∷ digits_front cs) [] ++ cond b (behind_digits cs) (c ∷ cs) ≡ c ∷ cs)
    [ true ↦ ap (λ l. c ∷ l) more | false ↦ refl ]

-- the place of the first byte that is no digit
abbrev pub front_len : List ℕ → ℕ
front_len text = position_or_len (λ c. not (is_ascii_digit c)) text

pub front_len-le : (text : List ℕ) → front_len text ≤ length text
front_len-le [] = omega arith
front_len-le (c ∷ cs) =
    let more = front_len-le cs in
    elim (bool_cases (is_ascii_digit c)) [ inl is ↦ rw is (omega arith) | inr isn't ↦ rw isn't (omega arith) ]

pub front_len_is : (text : List ℕ) → front_len text ≡ length (digits_front text)
front_len_is [] = refl
front_len_is (c ∷ cs) =
    let more = front_len_is cs in
    elim (bool_cases (is_ascii_digit c))
    [ inl is ↦ rw is (rw one_more (ap (λ n. suc n) more)) | inr isn't ↦ rw isn't refl ]

pub length-front : (text : List ℕ) → length (digits_front text) ≤ length text
length-front text = omega (arith, front_len_is text, front_len-le text)

pub take_front : (text : List ℕ) → take (length (digits_front text)) text ≡ digits_front text
take_front text = ap (take (length (digits_front text))) (sym (front_behind text)) ∙ take_at (digits_front text) (behind_digits text) (length (digits_front text)) refl

pub drop_front : (text : List ℕ) → drop (length (digits_front text)) text ≡ behind_digits text
drop_front text = ap (drop (length (digits_front text))) (sym (front_behind text)) ∙ drop_at (digits_front text) (behind_digits text) (length (digits_front text)) refl

-- digits before a byte that is none
pub front_append : (ds rest : List ℕ) → all_digits ds ≡ true → is_ascii_digit (get_or rest 0 0) ≡ false
    → (digits_front (ds ++ rest) ≡ ds) × (behind_digits (ds ++ rest) ≡ rest)
front_append [] [] e h = (refl, refl)
front_append [] (c ∷ cs) e h = rw h (refl, refl)
front_append (d ∷ ds) rest e h =
    let parts = both_true (is_ascii_digit d) (all_digits ds) e in
    let ih = front_append ds rest parts.1 h in
    rw parts.0 (ap (λ l. d ∷ l) ih.0, ih.1)

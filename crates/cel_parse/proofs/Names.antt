-- The split of bytes behind the name at their front.
use Rattle.std.proofs.Common.{◌≡◌, ℕ, suc, ◌+◌, ◌≤◌, ◌<◌, Bool, true, false, not, cond, List, [], ◌∷◌, ◌++◌, length, take, drop, sym, refl, ap, ◌∙◌, arith, inl, inr, ◌⊎◌, leb, ltb, Some, None, unwrap_or}
use Rattle.std.proofs.lemmas.List.{take_at, drop_at}
use Rattle.std.proofs.lemmas.Bool.Decides.{nat_tests}
use Rattle.std.specs.List.{position_or_len}
use Rattle.expr.specs.Tokens.{goes_on_name, name_front, behind_name}

bool_cases : (b : Bool) → (b ≡ true) ⊎ (b ≡ false)
bool_cases true = inl refl
bool_cases false = inr refl

one_more : (n : ℕ) → 1 + n ≡ suc n
one_more n = omega arith

front_behind : (text : List ℕ) → name_front text ++ behind_name text ≡ text
front_behind [] = refl
front_behind (c ∷ cs) =
    let more = front_behind cs in
    elim (goes_on_name c) as (λ b. cond b (c ∷ name_front cs) [] ++ cond b (behind_name cs) (c ∷ cs) ≡ c ∷ cs)
    [ true ↦ ap (λ l. c ∷ l) more | false ↦ refl ]

abbrev pub front_len : List ℕ → ℕ
front_len text = position_or_len (λ c. not (goes_on_name c)) text

pub front_len-le : (text : List ℕ) → front_len text ≤ length text
front_len-le [] = omega arith
front_len-le (c ∷ cs) =
    let more = front_len-le cs in
    elim (bool_cases (goes_on_name c)) [ inl is ↦ rw is (omega arith) | inr isn't ↦ rw isn't (omega arith) ]

pub front_len_is : (text : List ℕ) → front_len text ≡ length (name_front text)
front_len_is [] = refl
front_len_is (c ∷ cs) =
    let more = front_len_is cs in
    elim (bool_cases (goes_on_name c))
    [ inl is ↦ rw is (rw one_more (ap (λ n. suc n) more)) | inr isn't ↦ rw isn't refl ]

pub length-front : (text : List ℕ) → length (name_front text) ≤ length text
length-front text = omega (arith, front_len_is text, front_len-le text)

pub take_front : (text : List ℕ) → take (length (name_front text)) text ≡ name_front text
take_front text = ap (take (length (name_front text))) (sym (front_behind text)) ∙ take_at (name_front text) (behind_name text) (length (name_front text)) refl

pub drop_front : (text : List ℕ) → drop (length (name_front text)) text ≡ behind_name text
drop_front text = ap (drop (length (name_front text))) (sym (front_behind text)) ∙ drop_at (name_front text) (behind_name text) (length (name_front text)) refl

-- the place that is found, or the length, is where the name ends
pub count_is : (text : List ℕ) → unwrap_or (cond (ltb (front_len text) (length text)) (Some (front_len text)) None) (length text) ≡ length (name_front text)
count_is text = let bound = front_len-le text in let same : unwrap_or (cond (ltb (front_len text) (length text)) (Some (front_len text)) None) (length text) ≡ front_len text = grind (arith, nat_tests) in same ∙ front_len_is text

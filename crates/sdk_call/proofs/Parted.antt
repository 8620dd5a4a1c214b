-- Texts parted by commas, one more at a time.
use Rattle.std.proofs.Common.{◌≡◌, ℕ, ◌+◌, ◌<◌, ◌==◌, List, [], ◌∷◌, ◌++◌, length, map, refl, ap, ◌∙◌, sym, append_assoc, arith, take, get_or, if◌then◌else◌, suc, zero}
use Rattle.std.proofs.lemmas.List.{map_more}
use Rattle.std.specs.List.{join_with_byte}
use Rattle.sdk_call.specs.Body.{parted}

abbrev pub before : List (List ℕ) → List ℕ
before [] = []
before (x ∷ xs) = 44 ∷ []

parted-last : (xs : List (List ℕ)) (x : List ℕ) → parted (xs ++ x ∷ []) ≡ (parted xs ++ before xs) ++ x
parted-last [] x = refl
parted-last (a ∷ []) x = sym (append_assoc a (44 ∷ []) x)
parted-last (a ∷ b ∷ xs) x = ap (λ text. a ++ (44 ∷ text)) (parted-last (b ∷ xs) x) ∙ simp append_assoc

before-texts : {X : Type 0} (f : X → List ℕ) (i : ℕ) (xs : List X) → i < length xs → before (map f (take i xs)) ≡ (if i == 0 then [] else 44 ∷ [])
before-texts f zero xs h = refl
before-texts f (suc i) [] h = grind arith
before-texts f (suc i) (x ∷ xs) h = grind arith

pub parted-more : {X : Type 0} (f : X → List ℕ) (xs : List X) (i : ℕ) (d : X) → i < length xs
    → parted (map f (take (i + 1) xs)) ≡ (parted (map f (take i xs)) ++ (if i == 0 then [] else 44 ∷ [])) ++ f (get_or xs i d)
parted-more f xs i d h =
    ap parted (map_more f xs i d h)
    ∙ parted-last (map f (take i xs)) (f (get_or xs i d))
    ∙ ap (λ text. (parted (map f (take i xs)) ++ text) ++ f (get_or xs i d)) (before-texts f i xs h)

-- what is joined grows behind a front that stays
pub behind : (front body joined separator piece new more : List ℕ) → new ≡ (body ++ separator) ++ piece → body ≡ front ++ joined → more ≡ (joined ++ separator) ++ piece → new ≡ front ++ more
behind front body joined separator piece new more e b m =
    e ∙ ap (λ text. (text ++ separator) ++ piece) b ∙ (simp append_assoc) ∙ sym (ap (λ text. front ++ text) m)

-- seven texts behind a front
pub seven : (o a b c d e f g new : List ℕ) → new ≡ ((((((o ++ a) ++ b) ++ c) ++ d) ++ e) ++ f) ++ g → new ≡ o ++ ((((((a ++ b) ++ c) ++ d) ++ e) ++ f) ++ g)
seven o a b c d e f g new h = h ∙ (simp append_assoc)

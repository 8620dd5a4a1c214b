-- The ids of an answer, one more at a time.
use Rattle.std.proofs.Common.{◌≡◌, ℕ, ◌+◌, ◌<◌, ◌==◌, List, [], ◌∷◌, ◌++◌, length, map, refl, ap, ◌∙◌, sym, append_assoc, arith, take, get_or, if◌then◌else◌, suc, zero}
use Rattle.std.proofs.lemmas.List.{map_more}
use Rattle.std.specs.List.{join_with_byte}
use Rattle.kinds.specs.Answer.{quoted_id}

-- before each piece but the first stands the byte
abbrev pub before : ℕ → List (List ℕ) → List ℕ
before byte [] = []
before byte (x ∷ xs) = byte ∷ []

pub join-last : (byte : ℕ) (xs : List (List ℕ)) (x : List ℕ) → join_with_byte byte (xs ++ x ∷ []) ≡ (join_with_byte byte xs ++ before byte xs) ++ x
join-last byte [] x = refl
join-last byte (a ∷ []) x = sym (append_assoc a (byte ∷ []) x)
join-last byte (a ∷ b ∷ xs) x = ap (λ text. a ++ (byte ∷ text)) (join-last byte (b ∷ xs) x) ∙ simp append_assoc

pub before-ids : (i : ℕ) (ns : List ℕ) → i < length ns → before 44 (map quoted_id (take i ns)) ≡ (if i == 0 then [] else 44 ∷ [])
before-ids zero ns h = refl
before-ids (suc i) [] h = grind arith
before-ids (suc i) (n ∷ ns) h = grind arith

-- the ids up to one more
pub ids-more : (ns : List ℕ) (i : ℕ) → i < length ns → join_with_byte 44 (map quoted_id (take (i + 1) ns)) ≡ (join_with_byte 44 (map quoted_id (take i ns)) ++ (if i == 0 then [] else 44 ∷ [])) ++ quoted_id (get_or ns i 0)
ids-more ns i h =
    ap (join_with_byte 44) (map_more quoted_id ns i 0 h)
    ∙ join-last 44 (map quoted_id (take i ns)) (quoted_id (get_or ns i 0))
    ∙ ap (λ text. (join_with_byte 44 (map quoted_id (take i ns)) ++ text) ++ quoted_id (get_or ns i 0)) (before-ids i ns h)

-- what is joined grows behind a front that stays
pub behind : (front body joined separator piece new more : List ℕ) → new ≡ (body ++ separator) ++ piece → body ≡ front ++ joined → more ≡ (joined ++ separator) ++ piece → new ≡ front ++ more
behind front body joined separator piece new more e b m =
    e ∙ ap (λ text. (text ++ separator) ++ piece) b ∙ (simp append_assoc) ∙ sym (ap (λ text. front ++ text) m)

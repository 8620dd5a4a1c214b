-- What is written of a text, a byte at a time, and a text compared piece by piece.
use Rattle.std.proofs.Common.{◌≡◌, ℕ, ◌+◌, ◌<◌, Bool, ◌&&◌, List, [], ◌∷◌, ◌++◌, refl, sym, ◌∙◌, ap, append_assoc, append-nil, length, take, drop, get_or, Result, Ok, Err}
use Rattle.std.proofs.lemmas.Bool.{eq-eqb}
use Rattle.std.proofs.lemmas.List.{take_more, take-append-drop}
use Rattle.std.specs.Prelude.{bytes_eq, OnErr}
use Rattle.json_text.specs.Text.{escaped, escaped_byte, quoted, IsBegun}

pub escaped-append : (xs ys : List ℕ) → escaped (xs ++ ys) ≡ escaped xs ++ escaped ys
escaped-append [] ys = refl
escaped-append (x ∷ xs) ys = ap (λ (z : List ℕ). escaped_byte x ++ z) (escaped-append xs ys) ∙ sym (append_assoc (escaped_byte x) (escaped xs) (escaped ys))

pub escaped-more : (xs : List ℕ) (i : ℕ) (old : List ℕ) → i < length xs → (old ++ 0x22 ∷ escaped (take i xs)) ++ escaped_byte (get_or xs i 0) ≡ old ++ 0x22 ∷ escaped (take (i + 1) xs)
escaped-more xs i old l =
    append_assoc old (0x22 ∷ escaped (take i xs)) (escaped_byte (get_or xs i 0))
    ∙ ap (λ (z : List ℕ). old ++ 0x22 ∷ z)
    (ap (λ (z : List ℕ). escaped (take i xs) ++ z) (sym (append-nil (escaped_byte (get_or xs i 0))))
    ∙ sym (escaped-append (take i xs) (get_or xs i 0 ∷ [])) ∙ ap escaped (sym (take_more xs i 0 l)))

regroup : (old a b : List ℕ) → old ++ (0x22 ∷ (a ++ b) ++ 0x22 ∷ []) ≡ (old ++ 0x22 ∷ a) ++ (b ++ 0x22 ∷ [])
regroup old a b = ap (λ (z : List ℕ). old ++ 0x22 ∷ z) (append_assoc a b (0x22 ∷ [])) ∙ sym (append_assoc old (0x22 ∷ a) (b ++ 0x22 ∷ []))

pub begun-here : (xs : List ℕ) (i : ℕ) (old out : List ℕ) → out ≡ old ++ 0x22 ∷ escaped (take i xs) → IsBegun old (quoted xs) out
begun-here xs i old out e = (
  escaped (drop i xs) ++ 0x22 ∷ [],
  ap (λ (z : List ℕ). old ++ quoted z) (sym (take-append-drop i xs))
      ∙ ap (λ (z : List ℕ). old ++ (0x22 ∷ z ++ 0x22 ∷ [])) (escaped-append (take i xs) (drop i xs))
      ∙ regroup old (escaped (take i xs)) (escaped (drop i xs))
      ∙ ap (λ (z : List ℕ). z ++ (escaped (drop i xs) ++ 0x22 ∷ [])) (sym e),
)

pub on-err : {A B : Type 0} (r : Result A B) (P : Type 0) → P → OnErr r P
on-err (Ok x) P h = tt
on-err (Err x) P h = h

pub same-front : (p a b : List ℕ) → bytes_eq (p ++ a) (p ++ b) ≡ bytes_eq a b
same-front [] a b = refl
same-front (x ∷ xs) a b = ap (λ (v : Bool). v && bytes_eq (xs ++ a) (xs ++ b)) (eq-eqb x x refl) ∙ same-front xs a b

-- Bytes in the place of others.
use Rattle.std.proofs.Common.{◌≡◌, ◌<◌, ◌≤◌, ◌+◌, ◌-◌, ◌∙◌, ◌⊎◌, ℕ, List, ◌++◌, length, take, drop, get_or, max, inl, inr, refl, sym, ap, ap₂, subst, arith}
use Rattle.std.proofs.Math.Seq.{take-append_seam, drop-append_seam, drop-append-add}
use Rattle.std.proofs.lemmas.List.{take-append-drop, drop-drop, length-take, length-take-le, length-drop, length-append, get_or-take, get_or-drop, get_or-append_right, get_or_append_left}
use Rattle.rig.specs.Disk.{overwritten}

pub length-overwritten : (at : ℕ) (bytes old : List ℕ) → at ≤ length old → length (overwritten at bytes old) ≡ max (length old) (at + length bytes)
length-overwritten at bytes old inside = simp (length-append, length-take, length-drop) (omega arith)

front_overwritten : (at : ℕ) (old rest : List ℕ) → at ≤ length old → take at (take at old ++ rest) ≡ take at old
front_overwritten at old rest inside =
    subst (λ (n : ℕ). take n (take at old ++ rest) ≡ take at old) (length-take-le at old inside) (take-append_seam (take at old) rest)

back_overwritten : (at : ℕ) (bytes old rest : List ℕ) → at ≤ length old → drop (at + length bytes) (take at old ++ (bytes ++ rest)) ≡ rest
back_overwritten at bytes old rest inside =
    subst (λ (n : ℕ). drop (n + length bytes) (take at old ++ (bytes ++ rest)) ≡ drop (length bytes) (bytes ++ rest)) (length-take-le at old inside)
    (drop-append-add (take at old) (bytes ++ rest) (length bytes))
    ∙ drop-append_seam bytes rest

-- what was there, put back
pub put_back : (at : ℕ) (bytes old : List ℕ) → at ≤ length old → take at (overwritten at bytes old) ++ (take (length bytes) (drop at old) ++ drop (at + length bytes) (overwritten at bytes old)) ≡ old
put_back at bytes old inside =
    let rest = drop (at + length bytes) old in
    let join : List ℕ → List ℕ → List ℕ = λ xs ys. xs ++ (take (length bytes) (drop at old) ++ ys) in
    ap₂ join (front_overwritten at old (bytes ++ rest) inside) (back_overwritten at bytes old rest inside)
    ∙ (ap (λ (ys : List ℕ). take at old ++ (take (length bytes) (drop at old) ++ ys)) (sym (drop-drop (length bytes) at old))
    ∙ (ap (λ (ys : List ℕ). take at old ++ ys) (take-append-drop (length bytes) (drop at old))
    ∙ take-append-drop at old))

-- elsewhere all stays
pub get_or-overwritten : (at count : ℕ) (bytes old : List ℕ) (place : ℕ) → at ≤ length old → length bytes ≤ count → (place < at) ⊎ (at + count ≤ place) → get_or (overwritten at bytes old) place 0 ≡ get_or old place 0
get_or-overwritten at count bytes old place inside fits (inl before) =
    let in_front : place < length (take at old) = simp length-take (omega arith) in
    get_or_append_left (take at old) (bytes ++ drop (at + length bytes) old) 0 place in_front ∙ get_or-take at old place 0 before
get_or-overwritten at count bytes old place inside fits (inr after) =
    let rest = drop (at + length bytes) old in
    let there : (at + length bytes) + ((place - at) - length bytes) ≡ place = omega arith in
    get_or-append_right (take at old) (bytes ++ rest) at place 0 (length-take-le at old inside) (omega arith)
    ∙ (get_or-append_right bytes rest (length bytes) (place - at) 0 refl (omega arith)
    ∙ (get_or-drop (at + length bytes) old ((place - at) - length bytes) 0
    ∙ ap (λ (n : ℕ). get_or old n 0) there))

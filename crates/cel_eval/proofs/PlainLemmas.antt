-- A string without a backslash stands for the bytes between its marks.
use Rattle.std.proofs.Common.{◌≡◌, ℕ, Bool, true, false, ◌||◌, List, [], ◌∷◌, refl, ap, nat_eq}
use Rattle.std.specs.List.{list_any}
use Rattle.json_text.specs.Text.{text_from, none}

either_false : (a b : Bool) → a || b ≡ false → (a ≡ false) × (b ≡ false)
either_false true b h = (h, elim b as (λ v. true || v ≡ false → v ≡ false) [ true ↦ λ k. k | false ↦ λ k. refl ] h)
either_false false b h = (refl, h)

pub plain : (bs : List ℕ) → list_any (λ b. nat_eq b 92) bs ≡ false → text_from none bs ≡ bs
unfolding text_from
plain [] h = refl
plain (b ∷ bs) h =
    let p = either_false (nat_eq b 92) (list_any (λ (x : ℕ). nat_eq x 92) bs) h in
    rw p.0 (ap (λ (x : List ℕ). b ∷ x) (plain bs p.1))

-- Whether a text stands somewhere in another, from its front.
use Rattle.std.proofs.Common.{◌≡◌, ℕ, true, false, List, [], ◌∷◌, refl, nat_eq}
use Rattle.std.specs.List.{starts_with}
use Rattle.cel_eval.specs.Operations.{stands_in}

pub begins : (s t : List ℕ) → starts_with nat_eq s t ≡ true → stands_in s t ≡ true
begins [] t h = h
begins (b ∷ bs) t h = rw h refl

pub goes_on : (b : ℕ) (bs t : List ℕ) → starts_with nat_eq (b ∷ bs) t ≡ false → stands_in (b ∷ bs) t ≡ stands_in bs t
goes_on b bs t h = rw h refl

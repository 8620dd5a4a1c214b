-- What is found in two lists, one behind the other.
use Rattle.std.proofs.Common.{◌≡◌, Bool, true, false, cond, List, [], ◌∷◌, ◌++◌, find, Option, Some, None, refl, ◌∙◌}
use Rattle.std.proofs.lemmas.Bool.{cond-false}
use Rattle.lists.proofs.Keyed.{cond_none}

front-by : {X : Type 0} (b : Bool) (y x : X) (one both : Option X) → (one ≡ Some x → both ≡ Some x)
    → cond b (Some y) one ≡ Some x → cond b (Some y) both ≡ Some x
front-by true y x one both rest h = h
front-by false y x one both rest h = rest h

pub found-front : {X : Type 0} (p : X → Bool) (x : X) (xs ys : List X) → find p xs ≡ Some x
    → find p (xs ++ ys) ≡ Some x
found-front p x [] ys h = cc
found-front p x (y ∷ xs) ys h =
    front-by (p y) y x (find p xs) (find p (xs ++ ys)) (λ there. found-front p x xs ys there) h

pub found-back : {X : Type 0} (p : X → Bool) (xs ys : List X) → find p xs ≡ None → find p (xs ++ ys) ≡ find p ys
found-back p [] ys h = refl
found-back p (y ∷ xs) ys h =
    let parts = cond_none (p y) y (find p xs) h in
    cond-false (p y) (Some y) (find p (xs ++ ys)) parts.0 ∙ found-back p xs ys parts.1

-- A step's name stands for itself between the quotes of a string: none of its digits is a backslash.
use Rattle.std.proofs.Common.{◌≡◌, refl, ap, ◌∙◌, sym, ℕ, ◌==◌, ◌&&◌, Bool, true, false, cond}
use Rattle.std.proofs.Common.{List, [], ◌∷◌, length, Some, None}
use Rattle.std.proofs.lemmas.Bool.{eqb-true}
use Rattle.std.specs.List.{list_all}
use Rattle.json_text.specs.Text.{backslash, inside, none, text_from, unescaped}
use Rattle.step_ids.specs.Step.{is_lower_digit, is_step_name}
use Rattle.sdk_reply.specs.Operations.{as_hash}

and-left : (a b : Bool) → (a && b) ≡ true → a ≡ true
and-left true b h = refl
and-left false b h = h

and-right : (a b : Bool) → (a && b) ≡ true → b ≡ true
and-right true b h = h
and-right false b h = absurd (cc)

no-backslash : (b : ℕ) (is : Bool) → (b == 0x5c) ≡ is → is_lower_digit b ≡ true → is ≡ false
no-backslash b false e digit = refl
no-backslash b true e digit =
    let other : is_lower_digit 0x5c ≡ true = ap is_lower_digit (sym (eqb-true b 0x5c e)) ∙ digit in
    absurd (cc)

digits : (w : List ℕ) → list_all is_lower_digit w ≡ true → text_from none w ≡ w
unfolding text_from
digits [] h = refl
digits (b ∷ bs) h =
    ap (λ (is : Bool). cond is (text_from backslash bs) (b ∷ text_from none bs))
    (no-backslash b (b == 0x5c) refl (and-left (is_lower_digit b) (list_all is_lower_digit bs) h))
    ∙ ap (λ (t : List ℕ). b ∷ t) (digits bs (and-right (is_lower_digit b) (list_all is_lower_digit bs) h))

pub name-inside : (w text : List ℕ) → text ≡ inside w → is_step_name text ≡ true → Some text ≡ as_hash (unescaped w)
name-inside w text e named =
    let name : is_step_name (inside w) ≡ true = ap is_step_name (sym e) ∙ named in
    let all = and-right (length (inside w) == 40) (list_all is_lower_digit (inside w)) name in
    ap (λ (t : List ℕ). Some t) e
    ∙ sym (ap (λ (is : Bool). cond is (Some (inside w)) None) name)
    ∙ ap as_hash (sym (digits (inside w) all))

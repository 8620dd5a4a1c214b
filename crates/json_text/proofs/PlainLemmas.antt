-- A text without escapes stands for itself.
use Rattle.std.proofs.Common.{◌≡◌, refl, ap, ◌∙◌, sym, ℕ, ◌==◌, Bool, true, false, cond, List, [], ◌∷◌}
use Rattle.std.specs.Prelude.{not}
use Rattle.json_text.proofs.Booleans.{and_left, and_right}
use Rattle.json_text.specs.Text.{backslash, inside, none, text_from, unescaped}
use Rattle.json_text.specs.Plain.{is_no_escape, is_plain}

no-escape : (b : Bool) → not b ≡ true → b ≡ false
no-escape true h = absurd (cc)
no-escape false h = refl

plain-text : (w : List ℕ) → is_plain w ≡ true → text_from none w ≡ w
unfolding text_from
plain-text [] h = refl
plain-text (b ∷ bs) h =
    ap (λ (t : Bool). cond t (text_from backslash bs) (b ∷ text_from none bs))
    (no-escape (b == 0x5c) (and_left (is_no_escape b) (is_plain bs) h))
    ∙ ap (λ (t : List ℕ). b ∷ t) (plain-text bs (and_right (is_no_escape b) (is_plain bs) h))

pub plain-spelling : (w : List ℕ) → is_plain (inside w) ≡ true → inside w ≡ unescaped w
plain-spelling w h = sym (plain-text (inside w) h)

use Rattle.std.proofs.Common.{◌≡◌, ℕ, List, ◌∷◌, Some, None, true, false, length, drop, ap, sym, refl, ◌∙◌, option_map}
use Rattle.std.proofs.lemmas.List.{take_rest, nil_from_length}
use Rattle.text_num.specs.declared.duration.TimeUnit.{TimeUnit}
use Rattle.text_num.specs.declared.duration.TimeUnit.TheVariants.{Milli}
use Rattle.text_num.specs.Duration.{unit_of, unit_of_letter, is_milli}
use Rattle.text_num.proofs.duration.split_unit.Goals as goal

no_unit : (text : List ℕ) → length text ≡ 0 → None ≡ unit_of text
unfolding unit_of
no_unit text none = rw (nil_from_length text none) refl

milli : (text rest : List ℕ) (c : ℕ) → text ≡ c ∷ rest → is_milli c rest ≡ true → Some (Milli, drop 1 rest) ≡ unit_of text
unfolding unit_of
milli text rest c is yes-milli = rw (is, yes-milli) refl

letter : (text rest : List ℕ) (c : ℕ) → text ≡ c ∷ rest → is_milli c rest ≡ false → option_map (λ (unit : TimeUnit). (unit, rest)) (unit_of_letter c) ≡ unit_of text
unfolding unit_of
letter text rest c is no-milli = rw (is, no-milli) refl

pub returns-in_err-letter : goal.returns-in_err-letter
returns-in_err-letter c = rw c.from_residual.ensures (no_unit c.args.text.now c.in_err-letter.ensures.cases)

pub returns-then-is_milli : goal.returns-then-is_milli
returns-then-is_milli c =
    let same = take_rest c.in_ok-letter.rest.now 1 in
    rw same (milli c.args.text.now c.in_ok-letter.rest.now c.in_ok-letter.letter.now c.in_ok-letter.ensures.cases.0 (sym c.if-is_milli.ensures))

pub returns-in_err-of_letter : goal.returns-in_err-of_letter
returns-in_err-of_letter c =
    rw c.from_residual-in_err-of_letter.ensures (ap (option_map (λ (unit : TimeUnit). (unit, c.in_ok-letter.rest.now))) c.in_err-of_letter.ensures
    ∙ letter c.args.text.now c.in_ok-letter.rest.now c.in_ok-letter.letter.now c.in_ok-letter.ensures.cases.0 (sym c.if-is_milli.ensures))

pub returns : goal.returns
returns c =
    ap (option_map (λ (unit : TimeUnit). (unit, c.in_ok-letter.rest.now))) c.in_ok-of_letter.ensures
    ∙ letter c.args.text.now c.in_ok-letter.rest.now c.in_ok-letter.letter.now c.in_ok-letter.ensures.cases.0 (sym c.if-is_milli.ensures)

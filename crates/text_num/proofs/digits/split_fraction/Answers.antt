use Rattle.std.proofs.Common.{◌≡◌, ℕ, List, [], Some, None, true, false, eqb, ltb, slice_index, length, drop, ap, sym, refl, ◌∙◌, arith}
use Rattle.std.proofs.lemmas.Bool.Decides.{nat_tests}
use Rattle.std.proofs.lemmas.List.{take_rest}
use Rattle.text_num.specs.Digits.{fraction_of, digits_front, behind_digits}
use Rattle.text_num.proofs.digits.split_fraction.Goals as goal

no_point : (text : List ℕ) → eqb (slice_index text 0) 46 ≡ false → Some ([], text) ≡ fraction_of text
unfolding fraction_of
no_point text e = rw e refl

no_digits : (text digits : List ℕ) → eqb (slice_index text 0) 46 ≡ true → digits ≡ digits_front (drop 1 text)
    → eqb (length digits) 0 ≡ true → None ≡ fraction_of text
unfolding fraction_of
no_digits text digits point is none =
    let same = ap length is in
    let empty : ltb 0 (length (digits_front (drop 1 text))) ≡ false = grind (arith, nat_tests) in
    rw (point, empty) refl

digits_found : (text digits rest : List ℕ) → eqb (slice_index text 0) 46 ≡ true → digits ≡ digits_front (drop 1 text)
    → rest ≡ behind_digits (drop 1 text) → eqb (length digits) 0 ≡ false → Some (digits, rest) ≡ fraction_of text
unfolding fraction_of
digits_found text digits rest point is behind some =
    let same = ap length is in
    let more : ltb 0 (length (digits_front (drop 1 text))) ≡ true = grind (arith, nat_tests) in
    rw (point, more, is, behind) refl

pub returns-then-not-begins_with : goal.returns-then-not-begins_with
returns-then-not-begins_with c = no_point c.args.text.now (sym c.begins_with.ensures ∙ c.if-not-begins_with.true)

pub returns-then-is_empty : goal.returns-then-is_empty
returns-then-is_empty c =
    no_digits c.args.text.now c.split_digits.result.0.now (sym c.begins_with.ensures ∙ c.if-not-begins_with.false)
    (c.split_digits.ensures.digits ∙ ap digits_front (take_rest c.args.text.now 1)) (sym c.is_empty.ensures ∙ c.if-is_empty.true)

pub returns : goal.returns
returns c =
    digits_found c.args.text.now c.split_digits.result.0.now c.split_digits.result.1.now (sym c.begins_with.ensures ∙ c.if-not-begins_with.false)
    (c.split_digits.ensures.digits ∙ ap digits_front (take_rest c.args.text.now 1))
    (c.split_digits.ensures.rest ∙ ap behind_digits (take_rest c.args.text.now 1))
    (sym c.is_empty.ensures ∙ c.if-is_empty.false)

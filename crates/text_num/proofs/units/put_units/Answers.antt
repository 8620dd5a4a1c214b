use Rattle.std.proofs.Common.{◌≡◌, ◌≤◌, ◌<◌, ◌+◌, ◌/◌, ◌%◌, ◌^◌, ◌++◌, Bool, true, false, length, decimal, unsigned_abs, ℤ, sym, refl, ap, ◌∙◌, to_z, of_z, arith, length-append}
use Rattle.std.specs.Int.{is_negative, w128}
use Rattle.std.proofs.lemmas.Fmt.{length-decimal-le_wide}
use Rattle.std.proofs.lemmas.Int.{to_z-of_z, fits_signed_from_abs}
use Rattle.text_num.specs.Digits.{fraction_text}
use Rattle.text_num.specs.JsonNumber.{sign_text}
use Rattle.text_num.specs.Units.{units_text, fraction_digits}
use Rattle.text_num.proofs.WritingLemmas.{written, write_text}
use Rattle.text_num.proofs.ShortestText.{reads_back, shortest}
use Rattle.text_num.proofs.units.put_units.Goals as goal

-- the number is within its type
kept : (units : ℤ) → unsigned_abs units < 10 ^ 38 → to_z w128 (of_z w128 units) ≡ units
kept units small = to_z-of_z w128 units (fits_signed_from_abs w128 units (omega arith))

sign_len : (negative : Bool) → length (sign_text negative) ≤ 1
sign_len true = omega arith
sign_len false = omega arith

pub put_fraction-requires-clause-room : goal.put_fraction-requires-clause-room
put_fraction-requires-clause-room c =
    let whole = length-decimal-le_wide 20 (unsigned_abs c.args.units / 10 ^ 18) (omega arith) (omega arith) (omega arith) in
    let sign = sign_len (is_negative c.args.units) in
    let same = kept c.args.units c.requires in
    let signed = ap (λ z. length (sign_text (is_negative z))) same in
    let size = ap (λ z. length (decimal (unsigned_abs z / 10 ^ 18))) same in
    let magnitude = ap (λ n. length (decimal (n / 10 ^ 18))) c.unsigned_abs-magnitude.ensures.value in
    omega arith

pub returns-clause-text : goal.returns-clause-text
unfolding units_text
returns-clause-text c =
    let same = kept c.args.units c.requires in
    let sign = ap (λ z. sign_text (is_negative z)) same in
    let magnitude : c.unsigned_abs-magnitude.result ≡ unsigned_abs c.args.units = c.unsigned_abs-magnitude.ensures.value ∙ ap unsigned_abs same in
    let first : c.put_sign-at.new.out ≡ written (sign_text (is_negative c.args.units)) c.args.out.now =
    c.put_sign-at.ensures.text ∙ ap (λ l. written l c.args.out.now) sign in
    let at : c.put_sign-at.result ≡ length (sign_text (is_negative c.args.units)) = c.put_sign-at.ensures.end ∙ ap length sign in
    let whole = write_text (sign_text (is_negative c.args.units)) (decimal (unsigned_abs c.args.units / 10 ^ 18)) c.args.out.now c.put_whole-at.new.out
    (rw (first, at, magnitude) at c.put_whole-at.ensures.text) in
    let long = length-append (sign_text (is_negative c.args.units)) (decimal (unsigned_abs c.args.units / 10 ^ 18)) in
    let end : c.put_whole-at.result ≡ length (sign_text (is_negative c.args.units) ++ decimal (unsigned_abs c.args.units / 10 ^ 18)) =
    c.put_whole-at.ensures.end ∙ rw (at, magnitude) (sym long) in
    write_text (sign_text (is_negative c.args.units) ++ decimal (unsigned_abs c.args.units / 10 ^ 18)) (fraction_text (fraction_digits 18 (unsigned_abs c.args.units % 10 ^ 18)))
    c.args.out.now c.put_fraction.new.out (rw (whole, end, magnitude) at c.put_fraction.ensures.text)

pub returns-clause-len : goal.returns-clause-len
unfolding units_text
returns-clause-len c =
    let same = kept c.args.units c.requires in
    let magnitude : c.unsigned_abs-magnitude.result ≡ unsigned_abs c.args.units = c.unsigned_abs-magnitude.ensures.value ∙ ap unsigned_abs same in
    let sign = sign_text (is_negative c.args.units) in
    let whole = decimal (unsigned_abs c.args.units / 10 ^ 18) in
    let fraction = fraction_text (fraction_digits 18 (unsigned_abs c.args.units % 10 ^ 18)) in
    let at : c.put_sign-at.result ≡ length sign = c.put_sign-at.ensures.end ∙ ap (λ z. length (sign_text (is_negative z))) same in
    let end : c.put_whole-at.result ≡ length sign + length whole = c.put_whole-at.ensures.end ∙ rw (at, magnitude) refl in
    let all : c.put_fraction.result ≡ length sign + length whole + length fraction = c.put_fraction.ensures.end ∙ rw (end, magnitude) refl in
    let front = length-append sign whole in
    let long = length-append (sign ++ whole) fraction in
    omega arith

pub returns-clause-read_back : goal.returns-clause-read_back
returns-clause-read_back c = reads_back c.args.units c.requires

pub returns-clause-shortest : goal.returns-clause-shortest
returns-clause-shortest c = λ text number is unmarked worth. shortest text number c.args.units is unmarked c.requires worth

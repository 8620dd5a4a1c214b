use Rattle.std.proofs.Common.{◌≡◌, ◌≤◌, ◌<◌, ℕ, ◌^◌, ◌-◌, List, true, false, Ok, Err, refl, sym, ◌∙◌, arith}
use Rattle.text_num.specs.declared.fault.NumFault.TheVariants.{NotANumber, OutOfRange}
use Rattle.text_num.specs.Digits.{u64_of, is_number, decimal_value}
use Rattle.text_num.proofs.DigitLemmas.{within, above}
use Rattle.text_num.proofs.digits.read_u64.Goals as goal

none : (text : List ℕ) → is_number text ≡ false → Err NotANumber ≡ u64_of text
unfolding u64_of
none text e = rw e refl

outside : (text : List ℕ) → is_number text ≡ true → 2 ^ 64 - 1 < decimal_value text → Err OutOfRange ≡ u64_of text
unfolding u64_of
outside text e h = rw e (sym (above (2 ^ 64 - 1) (decimal_value text) h))

inside : (text : List ℕ) → is_number text ≡ true → decimal_value text ≤ 2 ^ 64 - 1 → Ok (decimal_value text) ≡ u64_of text
unfolding u64_of
inside text e h = rw e (sym (within (2 ^ 64 - 1) (decimal_value text) h))

pub returns-then-not-is_number : goal.returns-then-not-is_number
returns-then-not-is_number c = none c.args.text.now (sym c.is_number.ensures ∙ c.if-not-is_number.true)

pub returns-then-number-from : goal.returns-then-number-from
returns-then-number-from c = outside c.args.text.now (sym c.is_number.ensures ∙ c.if-not-is_number.false) (omega arith)

pub returns : goal.returns
returns c =
    let same : c.number_up_to-number.result ≡ decimal_value c.args.text.now = omega arith in
    rw same (inside c.args.text.now (sym c.is_number.ensures ∙ c.if-not-is_number.false) (omega arith))

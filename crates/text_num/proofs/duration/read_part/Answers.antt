use Rattle.std.proofs.Common.{option_map, ap, sym, refl, ◌∙◌}
use Rattle.text_num.specs.Digits.{digits_front}
use Rattle.text_num.specs.Duration.{capped_part}
use Rattle.text_num.proofs.DigitLemmas.{front_digits}
use Rattle.text_num.proofs.FractionLemmas.{fraction_is}
use Rattle.text_num.proofs.PartLemmas.{no_fraction, no_unit, with_unit, no_whole, long_fraction, whole_part}
use Rattle.text_num.proofs.duration.read_part.Goals as goal

pub returns-in_err-fraction : goal.returns-in_err-fraction
returns-in_err-fraction c =
    rw c.from_residual.ensures (ap (option_map capped_part) (no_fraction c.args.text.now c.split_digits.result.1.now c.split_digits.ensures.rest c.in_err-fraction.ensures))

pub returns-in_err-unit : goal.returns-in_err-unit
returns-in_err-unit c =
    rw c.from_residual-in_err-unit.ensures (ap (option_map capped_part)
    (no_unit c.args.text.now c.split_digits.result.1.now c.in_ok-fraction.fraction.now c.in_ok-fraction.rest.now c.split_digits.ensures.rest c.in_ok-fraction.ensures c.in_err-unit.ensures))

pub returns-then-is_empty : goal.returns-then-is_empty
returns-then-is_empty c =
    let read = with_unit c.args.text.now c.split_digits.result.1.now c.in_ok-fraction.fraction.now c.in_ok-fraction.rest.now c.in_ok-unit.rest.now c.in_ok-unit.unit c.split_digits.ensures.rest c.in_ok-fraction.ensures c.in_ok-unit.ensures in
    ap (option_map capped_part) (read ∙ no_whole (digits_front c.args.text.now) c.in_ok-fraction.fraction.now (c.in_ok-unit.unit, c.in_ok-unit.rest.now) (rw (← c.split_digits.ensures.digits) (sym c.if-is_empty.ensures)))

pub returns-then-fraction-gt9 : goal.returns-then-fraction-gt9
returns-then-fraction-gt9 c =
    let read = with_unit c.args.text.now c.split_digits.result.1.now c.in_ok-fraction.fraction.now c.in_ok-fraction.rest.now c.in_ok-unit.rest.now c.in_ok-unit.unit c.split_digits.ensures.rest c.in_ok-fraction.ensures c.in_ok-unit.ensures in
    ap (option_map capped_part) (read ∙ long_fraction _ _ _ c.if-fraction-gt9.true)

pub part_millis-requires-clause-whole : goal.part_millis-requires-clause-whole
part_millis-requires-clause-whole c = rw c.split_digits.ensures.digits (front_digits c.args.text.now)

pub part_millis-requires-clause-fraction : goal.part_millis-requires-clause-fraction
part_millis-requires-clause-fraction c = (fraction_is c.split_digits.result.1.now c.in_ok-fraction.fraction.now c.in_ok-fraction.rest.now (sym c.in_ok-fraction.ensures)).0

pub returns : goal.returns
returns c =
    let read = with_unit c.args.text.now c.split_digits.result.1.now c.in_ok-fraction.fraction.now c.in_ok-fraction.rest.now c.in_ok-unit.rest.now c.in_ok-unit.unit c.split_digits.ensures.rest c.in_ok-fraction.ensures c.in_ok-unit.ensures in
    ap (option_map capped_part) (read ∙ whole_part (digits_front c.args.text.now) c.in_ok-fraction.fraction.now (c.in_ok-unit.unit, c.in_ok-unit.rest.now) (rw (← c.split_digits.ensures.digits) (sym c.if-is_empty.ensures)) c.if-fraction-gt9.false)
    ∙ rw (c.part_millis.ensures, c.split_digits.ensures.digits) refl

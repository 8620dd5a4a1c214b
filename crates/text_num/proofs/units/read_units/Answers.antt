use Rattle.std.proofs.Common.{◌≡◌, ◌<◌, ◌^◌, unsigned_abs, arith, Some, None, Ok, ap, ◌∙◌}
use Rattle.std.specs.Int.{w128}
use Rattle.std.proofs.lemmas.Int.{to_z-of_z, fits_signed_from_abs}
use Rattle.text_num.specs.Seen.{number_seen}
use Rattle.text_num.specs.Units.{signed_multiple}
use Rattle.text_num.proofs.MultipleLemmas.{multiple_small}
use Rattle.text_num.proofs.UnitsLemmas.{units_known, units_at, number_at, signed_abs}
use Rattle.text_num.proofs.units.read_units.Goals as goal

pub returns-in_default-clause-value : goal.returns-in_default-clause-value
returns-in_default-clause-value c = units_known c.args.text.now None c.in_default.ensures.value

pub returns-in_default-clause-units : goal.returns-in_default-clause-units
returns-in_default-clause-units c = units_at c.args.text.now _ (returns-in_default-clause-value c)

pub signed-requires : goal.signed-requires
signed-requires c = multiple_small _ _ _ c.in-Some-magnitude.magnitude c.in-Some-magnitude.ensures

pub returns-in-Some-magnitude-clause-bound : goal.returns-in-Some-magnitude-clause-bound
returns-in-Some-magnitude-clause-bound c =
    let small = multiple_small _ _ _ c.in-Some-magnitude.magnitude c.in-Some-magnitude.ensures in
    let size : unsigned_abs c.signed.result ≡ c.in-Some-magnitude.magnitude =
    ap unsigned_abs c.signed.ensures ∙ signed_abs c.in-Some.number.negative c.in-Some-magnitude.magnitude in
    let fits : unsigned_abs c.signed.result < 2 ^ 127 = omega arith in
    let same = to_z-of_z w128 c.signed.result (fits_signed_from_abs w128 c.signed.result fits) in
    let abs = ap unsigned_abs same in
    omega arith

pub returns-in-Some-magnitude-clause-value : goal.returns-in-Some-magnitude-clause-value
returns-in-Some-magnitude-clause-value c =
    let small = multiple_small _ _ _ c.in-Some-magnitude.magnitude c.in-Some-magnitude.ensures in
    let size : unsigned_abs c.signed.result ≡ c.in-Some-magnitude.magnitude =
    ap unsigned_abs c.signed.ensures ∙ signed_abs c.in-Some.number.negative c.in-Some-magnitude.magnitude in
    let fits : unsigned_abs c.signed.result < 2 ^ 127 = omega arith in
    let same = to_z-of_z w128 c.signed.result (fits_signed_from_abs w128 c.signed.result fits) in
    ap Ok (same ∙ c.signed.ensures) ∙ ap (signed_multiple c.in-Some.number.negative) c.in-Some-magnitude.ensures
    ∙ units_known c.args.text.now (Some (number_seen c.in-Some.number)) c.in-Some.ensures.value

pub returns-in-Some-magnitude-clause-units : goal.returns-in-Some-magnitude-clause-units
returns-in-Some-magnitude-clause-units c = units_at c.args.text.now _ (returns-in-Some-magnitude-clause-value c)

pub returns-in-Some-magnitude-clause-number : goal.returns-in-Some-magnitude-clause-number
returns-in-Some-magnitude-clause-number c = number_at c.args.text.now _ (returns-in-Some-magnitude-clause-value c)

pub returns-in-None-clause-value : goal.returns-in-None-clause-value
returns-in-None-clause-value c =
    ap (signed_multiple c.in-Some.number.negative) c.in-None.ensures
    ∙ units_known c.args.text.now (Some (number_seen c.in-Some.number)) c.in-Some.ensures.value

pub returns-in-None-clause-units : goal.returns-in-None-clause-units
returns-in-None-clause-units c = units_at c.args.text.now _ (returns-in-None-clause-value c)

pub returns-in-None-clause-number : goal.returns-in-None-clause-number
returns-in-None-clause-number c = number_at c.args.text.now _ (returns-in-None-clause-value c)

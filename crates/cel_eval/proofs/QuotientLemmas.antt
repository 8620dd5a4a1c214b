-- A quotient is no greater than what is divided.
use Rattle.std.proofs.Common.{◌≡◌, ℕ, zero, suc, ◌/◌, ◌*◌, ◌^◌, ◌<◌, ◌≤◌, refl, sym, ◌∙◌, ℤ, pos, negsuc, neg_ℤ, unsigned_abs, int_div, FitsSigned, arith}
use Rattle.std.specs.Int.{w128, cast_signed, cast_unsigned}
use Rattle.std.proofs.lemmas.Int.{fits_signed_from_abs, quot_is}

abs_neg : (n : ℕ) → unsigned_abs (neg_ℤ (pos n)) ≡ n
abs_neg zero = refl
abs_neg (suc n) = refl

pub abs_quotient : (a d : ℤ) → unsigned_abs (int_div a d) ≡ unsigned_abs a / unsigned_abs d
abs_quotient (pos a) (pos d) = refl
abs_quotient (pos a) (negsuc d) = abs_neg (a / suc d)
abs_quotient (negsuc a) (pos d) = abs_neg (suc a / d)
abs_quotient (negsuc a) (negsuc d) = refl

no_greater : (n d : ℕ) → n / d ≤ n
no_greater n d = grind arith

pub quotient_fits : (a d : ℤ) → unsigned_abs a < 10 ^ 38 → FitsSigned w128 (int_div a d)
quotient_fits a d h = fits_signed_from_abs w128 (int_div a d) (omega (arith, abs_quotient a d, no_greater (unsigned_abs a) (unsigned_abs d)))

pub quotient_is : (a d : ℤ) → unsigned_abs a < 10 ^ 38 → unsigned_abs d < 10 ^ 38 → cast_signed w128 (cast_unsigned w128 (int_div (cast_signed w128 (cast_unsigned w128 a)) (cast_signed w128 (cast_unsigned w128 d)))) ≡ int_div a d
quotient_is a d h k =
    quot_is w128 a d (fits_signed_from_abs w128 a (omega arith)) (fits_signed_from_abs w128 d (omega arith)) (quotient_fits a d h)

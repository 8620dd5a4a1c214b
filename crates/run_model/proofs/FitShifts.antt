-- The shift of a run is at most 600, either way.
use Rattle.std.proofs.Common.{ℕ, zero, suc, ℤ, pos, negsuc, ◌+◌, ◌≤◌, List, min, Option, Some, None, Ok, Err, arith}
use Rattle.std.specs.Prelude.{neg_ℤ, unsigned_abs}
use Rattle.cel_eval.specs.declared.value.Value.TheVariants as value
use Rattle.event_keys.specs.Expressions.{Worth, clamped, most_shift, priority_shift, shift_of, whole, worth_over}

-- the lesser of a number and the most
lesser-within : (n : ℕ) → min n most_shift ≤ most_shift
lesser-within n = grind arith

turned-within : (n : ℕ) → n ≤ most_shift → unsigned_abs (neg_ℤ (pos n)) ≤ most_shift
turned-within zero h = h
turned-within (suc n) h = h

clamped-within : (z : ℤ) → unsigned_abs (clamped z) ≤ most_shift
clamped-within (pos n) = lesser-within n
clamped-within (negsuc n) = turned-within (min (n + 1) most_shift) (lesser-within (n + 1))

of-worth : (w : Worth) → unsigned_abs (shift_of w) ≤ most_shift
of-worth (Ok (value.Number units)) = clamped-within (whole units)
of-worth (Ok value.Null) = omega arith
of-worth (Ok (value.Bool b)) = omega arith
of-worth (Ok (value.Text t)) = omega arith
of-worth (Ok value.List) = omega arith
of-worth (Ok value.Object) = omega arith
of-worth (Err e) = omega arith

pub shift-within : (priority : Option (List ℕ)) (event : List ℕ)
    → unsigned_abs (priority_shift priority event) ≤ most_shift
shift-within None event = omega arith
shift-within (Some expr) event = of-worth (worth_over expr event)

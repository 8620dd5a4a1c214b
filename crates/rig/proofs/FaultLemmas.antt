-- Counts that rise.
use Rattle.std.proofs.Common.{ℕ, arith}
use Rattle.rig.specs.Faults.{HasRisen, one_more}

pub rises : (count : ℕ) → HasRisen count (one_more count)
rises count = omega arith

use Rattle.std.proofs.Common.{◌≡◌, ◌≤◌, ◌+◌, ℕ, length}
use Rattle.text_num.specs.Duration.{parts_of, millis_after, duration_of, longest}
use Rattle.text_num.proofs.duration.read_duration.Given as goal

abbrev pub invariant-loop-rest : goal.invariant-loop-rest
invariant-loop-rest l =
    (l.total ≤ longest + 1)
    × ((most : ℕ) × (length l.rest ≤ most) × (millis_after l.total (parts_of most l.rest) ≡ duration_of l.initial.rest))

abbrev pub decreases-loop-rest : goal.decreases-loop-rest
decreases-loop-rest l = length l.rest

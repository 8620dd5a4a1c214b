use Rattle.std.proofs.Common.{◌≡◌, [], length}
use Rattle.matching.proofs.near.near.Given as goal
use Rattle.matching.proofs.Scan.{IsScanning, left_from}

abbrev pub invariant-loop-field : goal.invariant-loop-field
invariant-loop-field g l = IsScanning (g.M.PathMatcher.value_of l.matcher) l.event l.places.keys l.found.keys l.start.0.0 × (l.start ≡ ((l.start.0.0, []), 0))

abbrev pub decreases-loop-field : goal.decreases-loop-field
decreases-loop-field g l = length (left_from l.start.0.0 l.places.keys)

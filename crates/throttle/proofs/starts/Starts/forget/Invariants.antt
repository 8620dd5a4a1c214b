use Rattle.std.proofs.Common.{◌≡◌, length}
use Rattle.kinds.specs.Cells.{later_starts}
use Rattle.throttle.proofs.starts.Starts.forget.Given as goal

abbrev pub invariant-loop : goal.invariant-loop
invariant-loop l = later_starts l.moment l.self ≡ later_starts l.moment l.initial.self

abbrev pub decreases-loop : goal.decreases-loop
decreases-loop l = length l.self

use Rattle.std.proofs.Common.{◌≡◌, length}
use Rattle.kinds.specs.Seen.{remembered}
use Rattle.intake.proofs.seen.Seen.forget.Given as goal

abbrev pub invariant-loop : goal.invariant-loop
invariant-loop l = remembered l.moment l.self ≡ remembered l.moment l.initial.self

abbrev pub decreases-loop : goal.decreases-loop
decreases-loop l = length l.self

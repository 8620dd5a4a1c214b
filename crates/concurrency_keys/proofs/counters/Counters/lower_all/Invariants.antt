use Rattle.std.proofs.Common.{◌≡◌, take, length}
use Rattle.concurrency_keys.specs.Counts.{IsLoweredAll}
use Rattle.concurrency_keys.proofs.counters.Counters.lower_all.Given as goal

abbrev pub invariant-loop-k : goal.invariant-loop-k
invariant-loop-k l = IsLoweredAll (take l.k l.limits) l.initial.self l.self × (l.k-end ≡ length l.limits)

use Rattle.std.proofs.Common.{◌≡◌, take, length}
use Rattle.concurrency_keys.specs.Counts.{IsRaisedAll}
use Rattle.concurrency_keys.proofs.counters.Counters.raise_all.Given as goal

abbrev pub invariant-loop-k : goal.invariant-loop-k
invariant-loop-k l = IsRaisedAll (take l.k l.limits) l.initial.self l.self × (l.k-end ≡ length l.limits)

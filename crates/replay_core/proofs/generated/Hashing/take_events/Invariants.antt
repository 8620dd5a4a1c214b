use Rattle.std.proofs.Common.{◌≡◌, Ok}
use Rattle.generator.specs.Inputs.{drawn}
use Rattle.replay_core.specs.Generator.{on_events}
use Rattle.replay_core.specs.Hashing.{Hashes}
use Rattle.replay_core.proofs.generated.Hashing.take_events.Given as goal

-- so many events were taken, and as many numbers drawn
abbrev pub invariant-loop-before : goal.invariant-loop-before
invariant-loop-before l =
    Hashes (on_events l.fn.n l.before l.fn.self.progress) l.fn.self (Ok l.hashing) × (l.drawn ≡ drawn l.fn.n l.before)

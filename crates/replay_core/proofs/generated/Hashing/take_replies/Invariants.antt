use Rattle.std.proofs.Common.{Ok}
use Rattle.replay_core.specs.Generator.{on_replies}
use Rattle.replay_core.specs.Hashing.{Hashes}
use Rattle.replay_core.proofs.generated.Hashing.take_replies.Given as goal

-- so many replies were taken
abbrev pub invariant-loop-reply : goal.invariant-loop-reply
invariant-loop-reply l = Hashes (on_replies l.fn.n l._reply l.fn.self.progress) l.fn.self (Ok l.hashing)

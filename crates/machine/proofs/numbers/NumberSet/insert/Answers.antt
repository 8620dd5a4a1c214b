use Rattle.std.proofs.Common.{subst}
use Rattle.machine.specs.Numbers.{IsJoined}
use Rattle.machine.proofs.Joined.{joined-by}
use Rattle.machine.proofs.numbers.NumberSet.insert.Goals as goal

pub returns : goal.returns
returns c =
    subst (λ ns. IsJoined c.args.number ns c.insert.new.self.keys) c.self.view_is
    (joined-by c.args.number c.self.inside.numbers.keys c.insert.new.self.keys c.in_ok-insert.ensures.updates.0)

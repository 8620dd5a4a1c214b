use Rattle.std.proofs.Common.{subst, sym}
use Rattle.machine.specs.Held.{IsReady}
use Rattle.machine.proofs.Empty.{ready-empty}
use Rattle.machine.proofs.machine.Machine.empty.Goals as goal

pub invariant_of-result : goal.invariant_of-result
invariant_of-result c =
    subst IsReady (sym c.in_ok-parts.ensures.ok)
    (ready-empty c.empty.result c.args.limits c.empty.ensures.state c.empty.ensures.clock c.empty.ensures.loose)

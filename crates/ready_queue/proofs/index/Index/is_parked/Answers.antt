use Rattle.std.proofs.Common.{sym, subst}
use Rattle.ready_queue.specs.Places.{Indexed, IsParkedAt}
use Rattle.ready_queue.proofs.index.Index.is_parked.Goals as goal

pub returns-clause-parked : goal.returns-clause-parked
returns-clause-parked c =
    subst (λ (i : Indexed). IsParkedAt c.args.group i) c.self.view_is (record { none = sym c.in_default.ensures; score = c.in-Some-head._least.0; number = c.in-Some-head._least.1; key = c.in-Some-head.ensures.0 })

use Rattle.std.proofs.Common.{refl}
use Rattle.runs.specs.Changes.{with_pending}
use Rattle.runs.proofs.Kept.{disjoint_noted}
use Rattle.runs.proofs.runs.Runs.pend.Goals as goal

pub invariant_of-self : goal.invariant_of-self
invariant_of-self c = disjoint_noted c.args.number (with_pending c.args.hash.now c.args.kind) (λ r. refl) c.self.inside.live c.pend.new.self c.self.inside.closing c.self.invariant c.pend.result c.pend.ensures.now c.pend.ensures.err

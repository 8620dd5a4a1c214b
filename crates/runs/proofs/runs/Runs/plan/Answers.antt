use Rattle.std.proofs.Common.{refl}
use Rattle.runs.specs.Changes.{with_plan}
use Rattle.runs.proofs.Kept.{disjoint_noted}
use Rattle.runs.proofs.runs.Runs.plan.Goals as goal

pub invariant_of-self : goal.invariant_of-self
invariant_of-self c = disjoint_noted c.args.number (with_plan c.args.hash.now) (λ r. refl) c.self.inside.live c.plan.new.self c.self.inside.closing c.self.invariant c.plan.result c.plan.ensures.now c.plan.ensures.err

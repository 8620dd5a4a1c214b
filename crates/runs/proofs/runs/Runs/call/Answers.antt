use Rattle.std.proofs.Common.{refl}
use Rattle.runs.specs.Changes.{called}
use Rattle.runs.proofs.Listed.{disjoint_changed}
use Rattle.runs.proofs.runs.Runs.call.Goals as goal

pub invariant_of-self : goal.invariant_of-self
invariant_of-self c = disjoint_changed c.args.number (called c.args.target.now) (λ r. refl) c.self.inside.live c.call.new.self c.self.inside.closing c.call.ensures c.self.invariant

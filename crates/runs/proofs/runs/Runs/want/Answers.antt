use Rattle.std.proofs.Common.{refl}
use Rattle.runs.specs.Changes.{want}
use Rattle.runs.proofs.Listed.{disjoint_changed}
use Rattle.runs.proofs.runs.Runs.want.Goals as goal

pub invariant_of-self : goal.invariant_of-self
invariant_of-self c = disjoint_changed c.args.number want (λ r. refl) c.self.inside.live c.want.new.self c.self.inside.closing c.want.ensures c.self.invariant

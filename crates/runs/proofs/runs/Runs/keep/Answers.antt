use Rattle.std.proofs.Common.{refl}
use Rattle.runs.specs.Changes.{record_in}
use Rattle.runs.proofs.Kept.{disjoint_noted}
use Rattle.runs.proofs.runs.Runs.keep.Goals as goal

pub invariant_of-self : goal.invariant_of-self
invariant_of-self c = disjoint_noted c.args.number (record_in c.args.hash.now c.args.text) (λ r. refl) c.self.inside.live c.keep.new.self c.self.inside.closing c.self.invariant c.keep.result c.keep.ensures.now c.keep.ensures.err

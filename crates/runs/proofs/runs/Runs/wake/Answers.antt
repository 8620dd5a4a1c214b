use Rattle.std.proofs.Common.{refl}
use Rattle.runs.specs.Changes.{record_in}
use Rattle.runs.proofs.Kept.{disjoint_woken}
use Rattle.runs.proofs.runs.Runs.wake.Goals as goal

pub invariant_of-self : goal.invariant_of-self
invariant_of-self c = disjoint_woken c.args.number (record_in c.args.hash.now c.args.text) (λ r. refl) c.self.inside.live c.wake.new.self c.self.inside.closing c.self.invariant c.wake.result c.wake.ensures.now c.wake.ensures.err

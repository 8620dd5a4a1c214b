use Rattle.std.proofs.Common.{refl, subst}
use Rattle.std.proofs.lemmas.List.{take_all}
use Rattle.concurrency_keys.specs.Counts.{IsLoweredAll}
use Rattle.concurrency_keys.proofs.CountLemmas.{lowered_none, lowered_on}
use Rattle.concurrency_keys.proofs.counters.Counters.lower_all.Goals as goal

pub loop-k-init : goal.loop-k-init
loop-k-init c = (lowered_none c.args.self.now, refl)

pub loop-k-preserved : goal.loop-k-preserved
loop-k-preserved c = (lowered_on c.loop-k.k c.args.limits.now c.args.self.now c.loop-k.self c.lower_at.new.self c.loop-k.invariant.0 c.lower_at.ensures, refl)

pub returns : goal.returns
returns c = subst (λ xs. IsLoweredAll xs c.args.self.now c.loop-k.self) (take_all c.loop-k.k c.args.limits.now c.loop-k-test.false) c.loop-k.invariant.0

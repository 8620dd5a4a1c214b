use Rattle.std.proofs.Common.{refl, subst}
use Rattle.std.proofs.lemmas.List.{take_all}
use Rattle.concurrency_keys.specs.Counts.{IsRaisedAll}
use Rattle.concurrency_keys.proofs.CountLemmas.{raised_none, raised_on}
use Rattle.concurrency_keys.proofs.counters.Counters.raise_all.Goals as goal

pub loop-k-init : goal.loop-k-init
loop-k-init c = (raised_none c.args.self.now, refl)

pub loop-k-preserved : goal.loop-k-preserved
loop-k-preserved c = (raised_on c.loop-k.k c.args.limits.now c.args.self.now c.loop-k.self c.raise_at.new.self c.loop-k.invariant.0 c.in-Ok.ensures.ok, refl)

pub returns-clause-ok : goal.returns-clause-ok
returns-clause-ok c = subst (λ xs. IsRaisedAll xs c.args.self.now c.loop-k.self) (take_all c.loop-k.k c.args.limits.now c.loop-k-test.false) c.loop-k.invariant.0

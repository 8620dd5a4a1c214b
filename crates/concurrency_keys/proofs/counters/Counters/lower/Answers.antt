use Rattle.std.proofs.Common.{◌-◌, None, Some, ◌∙◌, sym, ap, subst, arith}
use Rattle.concurrency_keys.specs.Counts.{count_of, IsLowered}
use Rattle.concurrency_keys.proofs.CountLemmas.{lowered}
use Rattle.concurrency_keys.proofs.counters.Counters.lower.Goals as goal

pub returns-then-count-gt1 : goal.returns-then-count-gt1
returns-then-count-gt1 c = lowered c.args.cell.now (Some (c.count-count.result - 1)) c.args.self.now c.set.new.self (ap (λ n. n - 1) c.count-count.ensures) c.set.ensures

pub returns-else-count-gt1 : goal.returns-else-count-gt1
returns-else-count-gt1 c =
    let count = c.count-count.ensures ∙ sym (ap (count_of c.args.cell.now) c.self.view_is) in
    subst (λ o. IsLowered c.args.cell.now o c.remove.new.self.entries) c.self.view_is
    (lowered c.args.cell.now None c.self.inside.counts.entries c.remove.new.self.entries (omega (arith, count)) c.remove.ensures.updates.0)

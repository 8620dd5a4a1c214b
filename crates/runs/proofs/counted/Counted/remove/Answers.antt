use Rattle.std.proofs.Common.{◌-◌, None, Some, ◌∙◌, sym, ap, subst, arith}
use Rattle.runs.specs.Counts.{count_of, IsLowered}
use Rattle.runs.proofs.Counting.{lowered}
use Rattle.runs.proofs.counted.Counted.remove.Goals as goal

pub returns-then-count-gt1 : goal.returns-then-count-gt1
returns-then-count-gt1 c = lowered c.args.part (Some (c.count-count.result - 1)) c.args.self.now c.set.new.self (ap (λ n. n - 1) c.count-count.ensures) c.set.ensures

pub returns-else-count-gt1 : goal.returns-else-count-gt1
returns-else-count-gt1 c =
    let count = c.count-count.ensures ∙ sym (ap (count_of c.args.part) c.self.view_is) in
    subst (λ o. IsLowered c.args.part o c.remove.new.self.entries) c.self.view_is
    (lowered c.args.part None c.self.inside.counts.entries c.remove.new.self.entries (omega (arith, count)) c.remove.ensures.updates.0)

use Rattle.std.proofs.Common.{◌+◌, Some, ◌∙◌, sym, ap, subst}
use Rattle.runs.specs.Counts.{count_of, IsRaised}
use Rattle.runs.proofs.Counting.{raised, some_more, none_zero}
use Rattle.runs.proofs.Listed.{sum_by}
use Rattle.runs.proofs.counted.Counted.add.Goals as goal

pub returns : goal.returns
returns c =
    let count = c.count.ensures ∙ sym (ap (count_of c.args.part) c.self.view_is) in
    let more = sum_by c.checked_add.result c.in_ok-count.count _ _ c.checked_add.ensures c.in_ok-count.ensures.ok_part in
    subst (λ o. IsRaised c.args.part o c.insert.new.self.entries) c.self.view_is
    (raised c.args.part c.in_ok-count.count c.self.inside.counts.entries c.insert.new.self.entries (more ∙ ap (λ n. n + 1) count) c.in_ok-insert.ensures.updates.0)

pub invariant_of-self-2 : goal.invariant_of-self-2
invariant_of-self-2 c =
    let more = sum_by c.checked_add.result c.in_ok-count.count _ _ c.checked_add.ensures c.in_ok-count.ensures.ok_part in
    none_zero c.args.part (Some c.in_ok-count.count) c.self.inside.counts.entries c.insert.new.self.entries (some_more _ _ more)
    c.in_ok-insert.ensures.updates.0 c.self.invariant

use Rattle.std.proofs.Common.{◌+◌, Some, ◌∙◌, sym, ap, subst}
use Rattle.kinds.proofs.CellLemmas.{cell_same}
use Rattle.concurrency_keys.specs.Counts.{count_of, IsRaised}
use Rattle.concurrency_keys.proofs.CountLemmas.{raised, more_by, some_more, none_zero}
use Rattle.concurrency_keys.proofs.counters.Counters.raise.Goals as goal

pub returns-clause-ok : goal.returns-clause-ok
returns-clause-ok c =
    let count = c.count.ensures ∙ sym (ap (count_of c.args.cell.now) c.self.view_is) in
    let more = more_by c.checked_add.result c.in_ok-count.count _ _ c.checked_add.ensures c.in_ok-count.ensures.ok_part in
    subst (λ o. IsRaised c.args.cell.now o c.insert.new.self.entries) c.self.view_is
    (raised c.args.cell.now c.in_ok-key.key c.in_ok-count.count c.self.inside.counts.entries c.insert.new.self.entries
    (cell_same c.args.cell.now c.in_ok-key.key c.in_ok-key.ensures.cases) (more ∙ ap (λ n. n + 1) count) c.in_ok-insert.ensures.updates.0)

pub invariant_of-self-2 : goal.invariant_of-self-2
invariant_of-self-2 c =
    let more = more_by c.checked_add.result c.in_ok-count.count _ _ c.checked_add.ensures c.in_ok-count.ensures.ok_part in
    none_zero c.in_ok-key.key (Some c.in_ok-count.count) c.self.inside.counts.entries c.insert.new.self.entries (some_more _ _ more)
    c.in_ok-insert.ensures.updates.0 c.self.invariant

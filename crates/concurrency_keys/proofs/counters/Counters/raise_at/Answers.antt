use Rattle.std.proofs.Common.{◌∙◌, sym, get_or}
use Rattle.std.proofs.lemmas.List.{take_more}
use Rattle.concurrency_keys.proofs.CountLemmas.{raised_again, raised_at}
use Rattle.concurrency_keys.proofs.counters.Counters.raise_at.Goals as goal

pub returns-then-has_cell-clause-ok : goal.returns-then-has_cell-clause-ok
returns-then-has_cell-clause-ok c =
    raised_again c.args.k c.args.limits.now (get_or c.args.limits.now c.args.k c.index-limits-k.result) c.args.self.now
    (take_more c.args.limits.now c.args.k c.index-limits-k.result c.requires)
    (sym c.if-has_cell.true ∙ c.has_cell.ensures)

pub returns-clause-ok : goal.returns-clause-ok
returns-clause-ok c =
    raised_at c.args.k c.args.limits.now (get_or c.args.limits.now c.args.k c.index-limits-k.result) c.args.self.now c.raise.new.self
    (take_more c.args.limits.now c.args.k c.index-limits-k.result c.requires)
    (sym c.if-has_cell.false ∙ c.has_cell.ensures) c.in_ok-raise.ensures.ok

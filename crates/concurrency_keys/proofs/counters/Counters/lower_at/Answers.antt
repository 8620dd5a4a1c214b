use Rattle.std.proofs.Common.{◌∙◌, sym, get_or}
use Rattle.std.proofs.lemmas.List.{take_more}
use Rattle.concurrency_keys.proofs.CountLemmas.{lowered_again, lowered_at}
use Rattle.concurrency_keys.proofs.counters.Counters.lower_at.Goals as goal

pub returns-then-has_cell : goal.returns-then-has_cell
returns-then-has_cell c =
    lowered_again c.args.k c.args.limits.now (get_or c.args.limits.now c.args.k c.index-limits-k.result) c.args.self.now
    (take_more c.args.limits.now c.args.k c.index-limits-k.result c.requires)
    (sym c.if-has_cell.true ∙ c.has_cell.ensures)

pub returns : goal.returns
returns c =
    lowered_at c.args.k c.args.limits.now (get_or c.args.limits.now c.args.k c.index-limits-k.result) c.args.self.now c.lower.new.self
    (take_more c.args.limits.now c.args.k c.index-limits-k.result c.requires)
    (sym c.if-has_cell.false ∙ c.has_cell.ensures) c.lower.ensures

use Rattle.std.proofs.Common.{◌∙◌, ap, nat_le}
use Rattle.kinds.specs.Cells.{open_in}
use Rattle.concurrency_keys.proofs.keys.ConcurrencyKeys.full.Goals as goal

pub returns : goal.returns
returns c =
    ap (nat_le c.args.limit.now.limit) (c.count.ensures ∙ c.self.invariant.counted c.args.limit.now.cell ∙ ap (open_in c.args.limit.now.cell) c.self.view_is)

use Rattle.std.proofs.Common.{subst}
use Rattle.kinds.proofs.CellLemmas.{cell_same}
use Rattle.kinds.specs.declared.cell.Cell.{Cell}
use Rattle.throttle.specs.Places.{Settles}
use Rattle.throttle.proofs.places.settle.Goals as goal

pub returns-clause-ok : goal.returns-clause-ok
returns-clause-ok c =
    subst (λ (d : Cell). Settles d c.args.place c.in_ok-left.left c.args.places.now.entries c.insert.new.self.entries)
    (cell_same c.args.cell.now c.in_ok-key.key c.in_ok-key.ensures.cases) (record {
      had = c.in_ok-left.ensures.old;
      entries = c.in_ok-left.ensures.entries;
      placed = c.in_ok-left.ensures.updates.0;
      ordered = c.insert.ensures.ordered;
    })

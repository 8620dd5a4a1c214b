use Rattle.std.proofs.Common.{Some, subst}
use Rattle.kinds.proofs.CellLemmas.{cell_same}
use Rattle.kinds.specs.declared.cell.Cell.{Cell}
use Rattle.throttle.specs.Places.{entry_of, Changes}
use Rattle.throttle.proofs.places.stand.Goals as goal

pub returns-clause-ok : goal.returns-clause-ok
returns-clause-ok c =
    subst (λ (d : Cell). Changes c.args.place (Some (entry_of (d, c.args.place))) c.args.entries.now.entries c.insert.new.self.entries)
    (cell_same c.args.cell.now c.in_ok-clone.field-0 c.in_ok-clone.ensures.cases) c.in_ok-insert.ensures.updates.0

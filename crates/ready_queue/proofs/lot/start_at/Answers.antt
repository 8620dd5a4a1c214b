use Rattle.std.proofs.Common.{◌≡◌, Some, List, cond, subst}
use Rattle.std.specs.BTreeMap.{is_at}
use Rattle.std.specs.Map.{lookup}
use Rattle.kinds.specs.Cells.{cell_cmp}
use Rattle.kinds.specs.declared.cell.Cell.{Cell}
use Rattle.ready_queue.proofs.ParkLemmas.{gains_new, cells_tied, cell_itself}
use Rattle.ready_queue.proofs.lot.start_at.Goals as goal

pub returns-clause-ok : goal.returns-clause-ok
returns-clause-ok c =
    gains_new cell_cmp cells_tied cell_itself c.args.cell.now _ _ c.args.group c.in_ok-groups.groups c.requires c.in_ok-groups.ensures
    (subst (λ (k : Cell). (q : Cell) → lookup (is_at (cell_cmp q)) c.insert.new.self.entries ≡ cond (is_at (cell_cmp k) q) (Some c.in_ok-groups.groups) (lookup (is_at (cell_cmp q)) c.args.full.now.entries)) c.in_ok-key.ensures c.in_ok-insert.ensures.updates.0)

use Rattle.std.proofs.Common.{◌≡◌, drop, map, Ok}
use Rattle.expr.specs.Trees.{tree_of, trees_of}
use Rattle.cel_eval.specs.Operands.{data_of}
use Rattle.cel_eval.specs.Table.{all_worth, all_more}
use Rattle.cel_eval.proofs.worth.+worth.Given as goal

abbrev pub invariant-list-loop-item : goal.invariant-list-loop-item
invariant-list-loop-item l =
    all_worth (trees_of l.item-items) l.scope ≡ all_more (Ok (data_of l.values.items)) (map tree_of (drop l.item-index l.item-items)) l.scope

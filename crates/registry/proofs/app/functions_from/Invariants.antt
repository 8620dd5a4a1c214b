use Rattle.std.proofs.Common.{◌≡◌, [], drop}
use Rattle.serde_json.specs.View.{items_view}
use Rattle.registry.specs.Functions.{function_of}
use Rattle.registry.specs.Members.{read_behind}
use Rattle.registry.proofs.app.functions_from.Given as goal

abbrev pub invariant-loop-item : goal.invariant-loop-item
invariant-loop-item l =
    read_behind function_of l.functions (items_view (drop l.item-index l.items))
    ≡ read_behind function_of [] (items_view l.items)

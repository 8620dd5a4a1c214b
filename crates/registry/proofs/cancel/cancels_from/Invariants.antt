use Rattle.std.proofs.Common.{◌≡◌, [], drop}
use Rattle.serde_json.specs.View.{items_view}
use Rattle.registry.specs.Flows.{cancel_of}
use Rattle.registry.specs.Members.{read_behind}
use Rattle.registry.proofs.cancel.cancels_from.Given as goal

abbrev pub invariant-loop-item : goal.invariant-loop-item
invariant-loop-item l =
    read_behind (λ _. cancel_of) l.cancels (items_view (drop l.item-index l.items))
    ≡ read_behind (λ _. cancel_of) [] (items_view l.items)

use Rattle.std.proofs.Common.{◌≡◌, [], drop}
use Rattle.serde_json.specs.View.{items_view}
use Rattle.registry.specs.Triggers.{trigger_of}
use Rattle.registry.specs.Members.{read_behind}
use Rattle.registry.proofs.trigger.triggers_from.Given as goal

abbrev pub invariant-loop-item : goal.invariant-loop-item
invariant-loop-item l =
    read_behind (λ _. trigger_of) l.triggers (items_view (drop l.item-index l.items))
    ≡ read_behind (λ _. trigger_of) [] (items_view l.items)

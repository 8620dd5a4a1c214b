use Rattle.std.proofs.Common.{◌≡◌, drop}
use Rattle.serde_json.specs.View.{items_view}
use Rattle.registry.specs.Triggers.{have_events}
use Rattle.registry.proofs.trigger.have_events.Given as goal

abbrev pub invariant-loop-item : goal.invariant-loop-item
invariant-loop-item l = have_events (items_view (drop l.item-index l.items)) ≡ have_events (items_view l.items)

use Rattle.std.proofs.Common.{◌≡◌, false, take}
use Rattle.std.specs.List.{list_any}
use Rattle.machine.specs.Offers.{is_trigger}
use Rattle.machine.proofs.offers.is_triggered.Given as goal

abbrev pub invariant-loop-trigger : goal.invariant-loop-trigger
invariant-loop-trigger l = list_any (is_trigger l.name l.text) (take l.trigger-index l.trigger-items) ≡ false

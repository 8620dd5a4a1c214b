use Rattle.std.proofs.Common.{◌≡◌, take}
use Rattle.lists.specs.Entries.{add_numbers}
use Rattle.machine.proofs.views.add_all.Given as goal

abbrev pub invariant-loop-number : goal.invariant-loop-number
invariant-loop-number l = l.set.keys ≡ add_numbers (take l.number-index l.numbers) l.initial.set.keys

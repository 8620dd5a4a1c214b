use Rattle.std.proofs.Common.{◌≡◌}
use Rattle.std.specs.Vec.Iter.{into_iter_items}
use Rattle.run_model.specs.Machine.{insert_all}
use Rattle.machine.specs.Versions.{AreFresh}
use Rattle.machine.proofs.versions.Versions.retire.Given as goal

abbrev pub invariant-loop-entry : goal.invariant-loop-entry
invariant-loop-entry l =
    (l.self.current ≡ l.initial.self.current)
    × (insert_all (into_iter_items l.entry-iterator) l.self.retired ≡ insert_all l.fn.replaced l.initial.self.retired)
    × AreFresh (into_iter_items l.entry-iterator) l.self

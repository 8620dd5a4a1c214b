use Rattle.std.proofs.Common.{◌∙◌, ap}
use Rattle.std.specs.List.{find}
use Rattle.kinds.specs.Windows.{has_number, number_of, is_of, version_of, value_of, insert_window}
use Rattle.debounce_batch.proofs.Kept.{came, added, undone}
use Rattle.debounce_batch.proofs.windows.Windows.add.Goals as goal

pub invariant_of-self-in-Ok : goal.invariant_of-self-in-Ok
invariant_of-self-in-Ok c =
    (added c.self.inside.windows.entries c.insert.new.self.entries c.self.inside.places.entries c.self.invariant c.args.window c.in_ok-held.held c.place_of-place.result c.place_of-place.ensures c.in_ok-held.ensures c.requires.dated c.in_ok-insert.ensures.entries c.in_ok-insert.ensures.ordered
    (ap (find (has_number (number_of c.args.window))) c.self.view_is ∙ c.requires.fresh) c.args.key c.insert-2.new.self.entries c.requires.key
    (ap (find (is_of (version_of c.args.window) (value_of c.args.window))) c.self.view_is ∙ c.requires.alone) c.in-Ok.ensures.updates.0).1

pub invariant_of-self-in-Err : goal.invariant_of-self-in-Err
invariant_of-self-in-Err c =
    (undone c.self.inside.windows.entries c.insert.new.self.entries c.self.inside.places.entries c.self.invariant c.args.window c.in_ok-held.held c.place_of-place.result c.place_of-place.ensures c.in_ok-held.ensures c.requires.dated c.in_ok-insert.ensures.entries c.in_ok-insert.ensures.ordered
    (ap (find (has_number (number_of c.args.window))) c.self.view_is ∙ c.requires.fresh) c.remove.new.self.entries c.insert-2.new.self.entries c.remove.ensures.entries c.remove.ensures.ordered c.in-Err.ensures.err).1

pub returns-in-Err-clause-err : goal.returns-in-Err-clause-err
returns-in-Err-clause-err c =
    (undone c.self.inside.windows.entries c.insert.new.self.entries c.self.inside.places.entries c.self.invariant c.args.window c.in_ok-held.held c.place_of-place.result c.place_of-place.ensures c.in_ok-held.ensures c.requires.dated c.in_ok-insert.ensures.entries c.in_ok-insert.ensures.ordered
    (ap (find (has_number (number_of c.args.window))) c.self.view_is ∙ c.requires.fresh) c.remove.new.self.entries c.insert-2.new.self.entries c.remove.ensures.entries c.remove.ensures.ordered c.in-Err.ensures.err).0 ∙ c.self.view_is

pub returns-clause-ok : goal.returns-clause-ok
returns-clause-ok c =
    (came c.self.inside.windows.entries c.insert.new.self.entries c.self.inside.places.entries c.self.invariant c.args.window c.in_ok-held.held c.place_of-place.result c.place_of-place.ensures c.in_ok-held.ensures c.requires.dated c.in_ok-insert.ensures.entries c.in_ok-insert.ensures.ordered
    (ap (find (has_number (number_of c.args.window))) c.self.view_is ∙ c.requires.fresh)).0 ∙ ap (insert_window c.args.window) c.self.view_is

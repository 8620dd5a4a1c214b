use Rattle.std.proofs.Common.{sym, ◌∙◌, ap}
use Rattle.lists.proofs.Keyed.{filter_none}
use Rattle.ordered.proofs.Placed.{no_place}
use Rattle.kinds.specs.Windows.{is_of, others, place_of}
use Rattle.debounce_batch.specs.Held.{key_of}
use Rattle.debounce_batch.proofs.Open.{key_tells}
use Rattle.debounce_batch.proofs.Kept.{look, closed}
use Rattle.debounce_batch.proofs.windows.Windows.close.Goals as goal

pub returns-in_err-place : goal.returns-in_err-place
returns-in_err-place c =
    sym (filter_none (is_of c.args.key.now.0 c.args.key.now.1) _ (no_place key_tells key_of place_of c.args.key.now _ (look c.self.inside.places.entries) c.self.invariant.open_by.placed c.in_err-place.ensures.value))
    ∙ ap (others c.args.key.now.0 c.args.key.now.1) c.self.view_is

pub invariant_of-self-2 : goal.invariant_of-self-2
invariant_of-self-2 c = (closed c.self.inside.windows.entries c.remove-2.new.self.entries c.self.inside.places.entries c.remove.new.self.entries c.self.invariant c.args.key.now c.in_ok-place.place c.in_ok-place.ensures.value c.remove-2.ensures.entries c.remove-2.ensures.ordered c.in_ok-place.ensures.updates.0).1

pub returns : goal.returns
returns c = (closed c.self.inside.windows.entries c.remove-2.new.self.entries c.self.inside.places.entries c.remove.new.self.entries c.self.invariant c.args.key.now c.in_ok-place.place c.in_ok-place.ensures.value c.remove-2.ensures.entries c.remove-2.ensures.ordered c.in_ok-place.ensures.updates.0).0 ∙ ap (others c.args.key.now.0 c.args.key.now.1) c.self.view_is

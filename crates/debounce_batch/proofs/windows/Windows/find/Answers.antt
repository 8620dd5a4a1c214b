use Rattle.std.proofs.Common.{sym, ◌∙◌, ap, Some}
use Rattle.std.specs.BTreeMap.{is_at}
use Rattle.std.specs.List.{find}
use Rattle.std.specs.Map.{lookup, values_of}
use Rattle.std.specs.Option.{option_copied}
use Rattle.ordered.proofs.Placed.{no_place}
use Rattle.ordered.proofs.Sorted.{sorted_found}
use Rattle.kinds.specs.Windows.{is_of, kind_of, number_of, place_of}
use Rattle.debounce_batch.specs.Held.{key_cmp, key_of}
use Rattle.debounce_batch.proofs.Open.{key_tells, found_at}
use Rattle.debounce_batch.proofs.windows.Windows.find.Goals as goal

pub returns-in_err-place-clause-value : goal.returns-in_err-place-clause-value
returns-in_err-place-clause-value c =
    ap option_copied c.from_residual.ensures
    ∙ sym (no_place key_tells key_of place_of c.args.key.now _ (λ k. lookup (is_at (key_cmp k)) c.self.inside.places.entries) c.self.invariant.open_by.placed c.in_err-place.ensures.value)
    ∙ ap (find (is_of c.args.key.now.0 c.args.key.now.1)) c.self.view_is

pub returns-in_err-held-clause-value : goal.returns-in_err-held-clause-value
returns-in_err-held-clause-value c =
    ap option_copied c.from_residual-in_err-held.ensures
    ∙ c.in_err-held.ensures.value
    ∙ sorted_found kind_of number_of c.self.inside.windows.entries c.in_ok-place.place.now.0 c.in_ok-place.place.now.1 c.self.invariant.sorted
    ∙ (found_at _ (λ k. lookup (is_at (key_cmp k)) c.self.inside.places.entries) c.self.invariant.open_by c.args.key.now c.in_ok-place.place.now c.in_ok-place.ensures.value).0
    ∙ ap (find (is_of c.args.key.now.0 c.args.key.now.1)) c.self.view_is

pub returns-clause-value : goal.returns-clause-value
returns-clause-value c =
    ap Some c.window.ensures
    ∙ c.in_ok-held.ensures.value
    ∙ sorted_found kind_of number_of c.self.inside.windows.entries c.in_ok-place.place.now.0 c.in_ok-place.place.now.1 c.self.invariant.sorted
    ∙ (found_at _ (λ k. lookup (is_at (key_cmp k)) c.self.inside.places.entries) c.self.invariant.open_by c.args.key.now c.in_ok-place.place.now c.in_ok-place.ensures.value).0
    ∙ ap (find (is_of c.args.key.now.0 c.args.key.now.1)) c.self.view_is

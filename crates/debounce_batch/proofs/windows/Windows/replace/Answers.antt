use Rattle.std.proofs.Common.{◌∙◌, ap}
use Rattle.std.specs.List.{find}
use Rattle.std.specs.Option.{option_map}
use Rattle.kinds.specs.Windows.{is_of, place_of, version_of, value_of, insert_window, others}
use Rattle.debounce_batch.proofs.Kept.{replaced}
use Rattle.debounce_batch.proofs.windows.Windows.replace.Goals as goal

pub invariant_of-self-2 : goal.invariant_of-self-2
invariant_of-self-2 c =
    (replaced c.self.inside.windows.entries c.insert.new.self.entries c.self.inside.places.entries c.self.invariant c.args.window c.in_ok-held.held c.place_of-place.result c.place_of-place.ensures c.in_ok-held.ensures c.requires.dated c.in_ok-insert.ensures.entries c.in_ok-insert.ensures.ordered
    (ap (λ ws. option_map place_of (find (is_of (version_of c.args.window) (value_of c.args.window)) ws)) c.self.view_is ∙ c.requires.place)).1

pub returns-clause-ok : goal.returns-clause-ok
returns-clause-ok c =
    (replaced c.self.inside.windows.entries c.insert.new.self.entries c.self.inside.places.entries c.self.invariant c.args.window c.in_ok-held.held c.place_of-place.result c.place_of-place.ensures c.in_ok-held.ensures c.requires.dated c.in_ok-insert.ensures.entries c.in_ok-insert.ensures.ordered
    (ap (λ ws. option_map place_of (find (is_of (version_of c.args.window) (value_of c.args.window)) ws)) c.self.view_is ∙ c.requires.place)).0
    ∙ ap (λ ws. insert_window c.args.window (others (version_of c.args.window) (value_of c.args.window) ws)) c.self.view_is

use Rattle.std.proofs.Common.{◌||◌, ◌∙◌, sym, ap}
use Rattle.std.specs.List.{list_any}
use Rattle.std.specs.BTreeMap.{is_at}
use Rattle.ordered.specs.Indexes.{group_cmp}
use Rattle.matching.specs.Places.{place_cmp, has_number}
use Rattle.matching.proofs.Scan.{looked, overlooked, nothing_more, on_ok}
use Rattle.matching.proofs.near.look.Goals as goal

pub returns-in_default : goal.returns-in_default
returns-in_default g c n = nothing_more _ _ (overlooked (g.M.PathMatcher.value_of c.args.matcher.now) c.args.event.now c.args.field.now n (sym c.in_ok-value.ensures ∙ c.in_default.is) c.args.places.now.keys)

pub returns : goal.returns
returns g c =
    on_ok c.gather.result _ _ (λ h n. h n ∙ ap (λ b. has_number c.args.found.now.keys n || b)
    (ap (λ f. list_any (is_at (group_cmp place_cmp ((f, c.in-Some.value), n))) c.args.places.now.keys) c.in_ok-copy.ensures
    ∙ looked (g.M.PathMatcher.value_of c.args.matcher.now) c.args.event.now c.args.field.now c.in-Some.value n c.requires.named (sym c.in_ok-value.ensures ∙ c.in-Some.is) c.args.places.now.keys))
    c.gather.ensures

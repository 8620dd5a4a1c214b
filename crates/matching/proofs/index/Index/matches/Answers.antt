use Rattle.std.proofs.Common.{◌≡◌, ◌≤◌, ◌+◌, ◌∙◌, subst}
use Rattle.lists.specs.Entries.{AreApart, IsInOrder}
use Rattle.ordered.specs.Indexes.{IsListed}
use Rattle.matching.specs.Places.{place_of, place_cmp}
use Rattle.matching.specs.Met.{met_numbers}
use Rattle.matching.proofs.Meets.{if_ok, meets_near, asks_near}
use Rattle.matching.proofs.index.Index.matches.Goals as goal

pub returns-clause-met : goal.returns-clause-met
returns-clause-met g c =
    if_ok c.pick.result _ (λ ns. ns ≡ met_numbers g.E.Conditional.condition_of g.E.Ranked.number_of (g.M.Matcher.is_true c.args.matcher.now) c.args.event.now c.args.self.now)
    (λ ns h. h ∙ meets_near g.E.Conditional.condition_of g.E.Ranked.rank_of g.E.Ranked.number_of (g.M.Matcher.is_true c.args.matcher.now) (g.M.PathMatcher.value_of c.args.matcher.now) c.args.event.now
    c.args.self.now c.self.inside.places.keys c.in_ok-near.near.keys g.met.E.Conditional.by_number
    (subst (IsInOrder g.E.Ranked.rank_of g.E.Ranked.number_of) c.self.view_is c.order.ensures.ordered)
    (subst (AreApart g.E.Ranked.number_of) c.self.view_is c.order.ensures.apart)
    (subst (λ es. IsListed place_cmp (λ e. place_of (g.E.Conditional.condition_of e)) g.E.Ranked.number_of es c.self.inside.places.keys) c.self.view_is c.self.invariant)
    c.pick.ensures.ordered c.in_ok-near.ensures c.requires.right)
    c.pick.ensures.met

pub returns-clause-asked : goal.returns-clause-asked
returns-clause-asked g c =
    subst (λ n. c.pick.new.steps ≤ c.args.steps.now + n)
    (asks_near g.E.Conditional.condition_of g.E.Ranked.rank_of g.E.Ranked.number_of (g.M.Matcher.is_true c.args.matcher.now) (g.M.PathMatcher.value_of c.args.matcher.now) c.args.event.now
    c.args.self.now c.self.inside.places.keys c.in_ok-near.near.keys g.met.E.Conditional.by_number
    (subst (IsInOrder g.E.Ranked.rank_of g.E.Ranked.number_of) c.self.view_is c.order.ensures.ordered)
    (subst (AreApart g.E.Ranked.number_of) c.self.view_is c.order.ensures.apart)
    (subst (λ es. IsListed place_cmp (λ e. place_of (g.E.Conditional.condition_of e)) g.E.Ranked.number_of es c.self.inside.places.keys) c.self.view_is c.self.invariant)
    c.pick.ensures.ordered c.in_ok-near.ensures)
    c.pick.ensures.asked

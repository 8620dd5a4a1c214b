use Rattle.std.proofs.Common.{◌∙◌, subst}
use Rattle.matching.proofs.gather.gather.Goals as goal
use Rattle.matching.proofs.Groups.{IsGathering, gathering_starts, gathering_on, gathering_stops, told_true, told_false}
use Rattle.ordered.proofs.Listed.{at_flip}

pub loop-pair-init : goal.loop-pair-init
loop-pair-init g c = gathering_starts g.met.K.Ord.total c.args.start.now c.args.found.now.keys c.args.pairs.now.keys _ c.requires.first c.range-pair-items.ensures.ordered (c.into_iter-pair-iterator.ensures.into_iter_gives ∙ c.range-pair-items.ensures.between tt)

pub loop-pair-preserved : goal.loop-pair-preserved
loop-pair-preserved g c =
    gathering_on g.met.K.Ord.total c.args.start.now.0 _ _ _ _ _ c.in-Some.pair.now
    (subst (λ r. IsGathering g.K.Ord.cmp c.args.start.now.0 c.args.found.now.keys c.loop-pair.found.keys c.args.pairs.now.keys r) c.in-Some.ensures.steps c.loop-pair.invariant)
    (at_flip g.met.K.Ord.total c.args.start.now.0 c.in-Some.pair.now.0 ∙ told_false _ _ (g.met.K.Ord.matches_eq c.in-Some.pair.now.0 c.args.start.now.0) c.if-ne.ensures)
    (c.in_ok-insert.ensures.updates.0)

pub returns-then-ne : goal.returns-then-ne
returns-then-ne g c =
    gathering_stops g.met.K.Ord.total c.args.start.now.0 _ _ _ _ c.in-Some.pair.now
    (subst (λ r. IsGathering g.K.Ord.cmp c.args.start.now.0 c.args.found.now.keys c.loop-pair.found.keys c.args.pairs.now.keys r) c.in-Some.ensures.steps c.loop-pair.invariant)
    (at_flip g.met.K.Ord.total c.args.start.now.0 c.in-Some.pair.now.0 ∙ told_true _ _ (g.met.K.Ord.matches_eq c.in-Some.pair.now.0 c.args.start.now.0) c.if-ne.ensures)

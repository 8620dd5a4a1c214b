use Rattle.std.proofs.Common.{sym, ◌∙◌, subst}
use Rattle.runs.proofs.Mentioned.{IsGathering, gathering_starts, gathering_on, gathering_stops, gathering_done, same_test, other_test}
use Rattle.runs.proofs.mentions.gather.Goals as goal

pub loop-pair-init : goal.loop-pair-init
loop-pair-init c =
    subst (λ ns. IsGathering c.args.part ns c.args.pairs.now.keys c.into_iter-pair-iterator.result) (sym c.new-numbers.ensures)
    (gathering_starts c.args.part c.args.pairs.now.keys c.into_iter-pair-iterator.result c.range-pair-items.ensures.ordered (c.into_iter-pair-iterator.ensures.into_iter_gives ∙ c.range-pair-items.ensures.between tt))

pub loop-pair-preserved : goal.loop-pair-preserved
loop-pair-preserved c =
    subst (λ ns. IsGathering c.args.part ns c.args.pairs.now.keys c.next.new.self) (sym c.in_ok-push.ensures.ok)
    (gathering_on c.args.part c.loop-pair.numbers c.args.pairs.now.keys c.next.new.self c.in-Some.pair.now
    (subst (λ r. IsGathering c.args.part c.loop-pair.numbers c.args.pairs.now.keys r) c.in-Some.ensures.steps c.loop-pair.invariant)
    (same_test c.in-Some.pair.now.0 c.args.part c.if-thing-part.false))

pub returns-then-thing-part-clause-all : goal.returns-then-thing-part-clause-all
returns-then-thing-part-clause-all c =
    gathering_stops c.args.part c.loop-pair.numbers c.args.pairs.now.keys c.next.new.self c.in-Some.pair.now
    (subst (λ r. IsGathering c.args.part c.loop-pair.numbers c.args.pairs.now.keys r) c.in-Some.ensures.steps c.loop-pair.invariant)
    (other_test c.in-Some.pair.now.0 c.args.part c.if-thing-part.true)

pub returns-clause-all : goal.returns-clause-all
returns-clause-all c =
    gathering_done c.args.part c.loop-pair.numbers c.args.pairs.now.keys
    (subst (IsGathering c.args.part c.loop-pair.numbers c.args.pairs.now.keys) c.in-None.ensures.steps.0 c.loop-pair.invariant)

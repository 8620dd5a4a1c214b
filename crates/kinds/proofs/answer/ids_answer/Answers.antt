use Rattle.std.proofs.Common.{codes}
use Rattle.kinds.proofs.AnswerLemmas.{ids-more, behind}
use Rattle.kinds.proofs.answer.ids_answer.Goals as goal

pub loop-index-preserved : goal.loop-index-preserved
loop-index-preserved c = behind (codes "{\"ids\":[") _ _ _ _ _ _ c.in_ok-push_id.ensures c.loop-index.invariant (ids-more c.args.numbers.now c.loop-index.index c.loop-index-test.true)

use Rattle.kinds.proofs.AnswerLemmas.{behind}
use Rattle.replay_core.proofs.PrintLemmas.{ids-more}
use Rattle.replay_core.proofs.printing.push_ids.Goals as goal

pub loop-index-preserved : goal.loop-index-preserved
loop-index-preserved c = behind c.args.text.now _ _ _ _ _ _ c.in_ok-push_id.ensures c.loop-index.invariant (ids-more c.args.events.now c.loop-index.index c.loop-index-test.true)

use Rattle.replay_core.proofs.GeneratedLine.{known-line}
use Rattle.replay_core.proofs.laws.generated_lines_are_known.Goals as goal

pub returns : goal.returns
returns c = λ n few.
    known-line n (c.histories_are_accepted.ensures n few) c.replies_follow.ensures.more (c.histories_end.ensures n few)

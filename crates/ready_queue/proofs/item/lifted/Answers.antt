use Rattle.std.proofs.Common.{SFits, w64, rules}
use Rattle.ready_queue.proofs.LeastLemmas.{is_score}
use Rattle.ready_queue.proofs.item.lifted.Goals as goal

pub returns-clause-sound : goal.returns-clause-sound
returns-clause-sound c = let fits : SFits w64 c.args.item.now.score = search rules in is_score c.args.item.now.score fits

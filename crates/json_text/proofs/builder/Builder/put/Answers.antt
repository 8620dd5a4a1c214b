-- The new entry stands behind those that stand.
use Rattle.std.proofs.Common.{arith}
use Rattle.json_text.proofs.Laying.{put-laid}
use Rattle.json_text.proofs.builder.Builder.put.Goals as goal

pub returns : goal.returns
returns c = λ w t js fs j l h. rw (c.in_ok-push.ensures.items, c.in_ok-entry.ensures) (put-laid w _ _ _ _ t js fs _ _ _ _ j c.in_ok-self.ensures (omega arith) l h)

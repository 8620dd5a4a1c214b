use Rattle.std.proofs.Common.{◌≡◌, ◌++◌, take}
use Rattle.replay_core.specs.Replay.{ids_text}
use Rattle.replay_core.proofs.printing.push_ids.Given as goal

-- the text has the ids so far
abbrev pub invariant-loop-index : goal.invariant-loop-index
invariant-loop-index l = l.text ≡ l.fn.text ++ ids_text (take l.index l.events)

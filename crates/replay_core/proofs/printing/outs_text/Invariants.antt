use Rattle.std.proofs.Common.{◌≡◌, flat_map, take}
use Rattle.replay_core.specs.Replay.{printed}
use Rattle.replay_core.proofs.printing.outs_text.Given as goal

abbrev pub invariant-loop-out : goal.invariant-loop-out
invariant-loop-out l = l.text ≡ flat_map (printed l.form) (take l.out-index l.outs)

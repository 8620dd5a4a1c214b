-- What is skipped so far changes nothing.
use Rattle.std.proofs.Common.{◌≡◌, length}
use Rattle.json_text.specs.Starts.{skipped}
use Rattle.json_text.proofs.start.skipped.Given as goal

abbrev pub invariant-loop-rest : goal.invariant-loop-rest
invariant-loop-rest l = skipped l.rest ≡ skipped l.bytes

abbrev pub decreases-loop-rest : goal.decreases-loop-rest
decreases-loop-rest l = length l.rest

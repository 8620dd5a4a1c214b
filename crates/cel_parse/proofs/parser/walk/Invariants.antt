use Rattle.std.proofs.Common.{◌≡◌, length}
use Rattle.cel_parse.specs.Frames.{open_in, state_of}
use Rattle.cel_parse.proofs.Walks.{WalksOn}
use Rattle.cel_parse.proofs.parser.walk.Given as goal

abbrev pub invariant-loop-place : goal.invariant-loop-place
invariant-loop-place l = (l.cutter.whole ≡ length l.text) × WalksOn l.cutter.whole l.text (state_of (open_in l.stack) l.place) l.cutter.rest.now

abbrev pub decreases-loop-place : goal.decreases-loop-place
decreases-loop-place l = length l.cutter.rest.now

use Rattle.std.proofs.Common.{◌≡◌, ◌≤◌, take}
use Rattle.expr.specs.Reading.{opens}
use Rattle.cel_parse.specs.Frames.{frames_of}
use Rattle.cel_parse.proofs.frame.Stack.depth.Given as goal

abbrev pub invariant-loop-frame : goal.invariant-loop-frame
invariant-loop-frame l = (l.depth ≡ opens (frames_of (take l.frame-index l.frame-items))) × (l.depth ≤ l.frame-index)

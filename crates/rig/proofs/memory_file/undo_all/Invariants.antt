use Rattle.std.proofs.Common.{◌≡◌, length}
use Rattle.rig.specs.MemoryFile.{undone}
use Rattle.rig.proofs.memory_file.undo_all.Given as goal

-- what is left to undo leads to the same bytes
abbrev pub invariant-loop-change : goal.invariant-loop-change
invariant-loop-change l = undone l.left l.file.items ≡ undone l.fn.changes l.fn.file.items

abbrev pub decreases-loop-change : goal.decreases-loop-change
decreases-loop-change l = length l.left

use Rattle.std.proofs.Common.{◌≡◌, drop}
use Rattle.rig.specs.MemoryFile.{halved}
use Rattle.rig.proofs.memory_file.put_halves.Given as goal

-- the halves that are left lead to the same bytes
abbrev pub invariant-loop-change : goal.invariant-loop-change
invariant-loop-change l = halved (drop l.change-index l.changes) l.file.items ≡ halved l.changes l.fn.file.items

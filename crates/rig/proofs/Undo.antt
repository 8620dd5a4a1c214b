-- The changes of a file in memory, undone and put in halves.
use Rattle.std.proofs.Common.{◌≡◌, ℕ, List, [], ◌∷◌, ◌++◌, refl, ap}
use Rattle.rig.specs.MemoryFile.{undo, undone}
use Rattle.rig.specs.declared.memory_file.Change.{Change}

-- the newest change is undone first
pub undone_last : (older : List Change) (change : Change) (file : List ℕ) → undone (older ++ change ∷ []) file ≡ undone older (undo change file)
undone_last [] change file = refl
undone_last (first ∷ older) change file = ap (undo first) (undone_last older change file)

-- A file in memory: its bytes, and the changes since its last sync.
use Rattle.std.specs.Prelude.{ℕ, ◌≤◌, ◌+◌, ◌-◌, ◌/◌, List, [], ◌∷◌, ◌++◌, length, take, drop, replicate, min, max}
use Rattle.std.specs.List.{AllByRecursion}
use Rattle.rig.specs.Disk.{File, IsSound, overwritten}
use Rattle.rig.specs.declared.memory_file.Change.{Change}
use Rattle.rig.specs.declared.memory_file.Change.TheVariants.{Wrote, Cut}
use Rattle.rig.specs.declared.memory_file.Image.{Image}
use Rattle.rig.specs.declared.memory_file.Image.TheVariants.{Kept, Whole, Half}

pub record MemoryFile : Type 0 where
  pub bytes : List ℕ
  pub changes : List Change  -- the oldest first
  pub least : ℕ  -- the least length since the last sync
  pub most : ℕ  -- and the greatest

-- the bytes before this change, which is the newest
abbrev pub undo : Change → List ℕ → List ℕ
undo (Wrote at count bytes before) file = take at file ++ (before ++ drop (at + length bytes) file)
undo (Cut removed) file = file ++ removed

-- the bytes before all of these changes
abbrev pub undone : List Change → List ℕ → List ℕ
undone [] file = file
undone (change ∷ newer) file = undo change (undone newer file)

-- where was written
abbrev pub ranges_of : List Change → List (ℕ × ℕ)
ranges_of [] = []
ranges_of (Wrote at count bytes before ∷ newer) = (at, count) ∷ ranges_of newer
ranges_of (Cut removed ∷ newer) = ranges_of newer

-- as a file of the disk
abbrev pub file_in : MemoryFile → File
file_in file = record {
  reads = file.bytes;
  kept = undone file.changes file.bytes;
  written = ranges_of file.changes;
  least = file.least;
  most = file.most;
}

-- a file that is on the disk
abbrev pub settled_file : List ℕ → MemoryFile
settled_file bytes = record { bytes = bytes; changes = []; least = length bytes; most = length bytes }

-- after these bytes were put at an offset, as part of a write of so many
abbrev pub wrote : ℕ → ℕ → List ℕ → MemoryFile → MemoryFile
wrote at count bytes file = record {
  bytes = overwritten at bytes file.bytes;
  changes = file.changes ++ Wrote at count bytes (take (length bytes) (drop at file.bytes)) ∷ [];
  least = file.least;
  most = max file.most (at + count);
}

-- after a cut
abbrev pub was_cut : ℕ → MemoryFile → MemoryFile
was_cut len file = record {
  bytes = take len file.bytes;
  changes = file.changes ++ Cut (drop len file.bytes) ∷ [];
  least = min file.least len;
  most = file.most;
}

-- bytes at an offset that may lie past the end: between the end and the offset come zeros
abbrev pub put_at : ℕ → List ℕ → List ℕ → List ℕ
put_at at [] file = file
put_at at (byte ∷ bytes) file = overwritten at (byte ∷ bytes) (file ++ replicate (at - length file) 0)

-- with the first half of each write, rounded down, and no cut
abbrev pub halved : List Change → List ℕ → List ℕ
halved [] file = file
halved (Wrote at count bytes before ∷ newer) file =
    halved newer (put_at at (take (length bytes / 2) bytes) file)
halved (Cut removed ∷ newer) file = halved newer file

-- what a crash leaves of the file
abbrev pub image_of : Image → MemoryFile → List ℕ
image_of Kept file = undone file.changes file.bytes
image_of Whole file = file.bytes
image_of Half file = halved file.changes (undone file.changes file.bytes)

-- each write lies below the greatest length
abbrev pub IsBelow : ℕ → Change → Type 0
IsBelow most (Wrote at count bytes before) = (at + count ≤ most) × (length bytes ≤ count)
IsBelow most (Cut removed) = Unit {0}

-- what holds of each file of a rig in memory
pub record IsKept (file : MemoryFile) : Type 0 where
  pub sound : IsSound (file_in file)
  pub below : AllByRecursion (IsBelow file.most) file.changes

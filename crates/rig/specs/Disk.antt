-- The disk: two files, what a read of each gives, and what a crash may leave of it.
use Rattle.std.specs.Prelude.{ℕ, ◌≡◌, ◌<◌, ◌≤◌, ◌+◌, ◌⊎◌, List, [], ◌∷◌, ◌++◌, length, take, drop, slice_index, min, max, Result, OnOk, OnErr}
use Rattle.std.specs.List.{AllByRecursion}
use Rattle.rig.specs.declared.side.Side.{Side}
use Rattle.rig.specs.declared.side.Side.TheVariants.{A, B}

pub record File : Type 0 where
  pub reads : List ℕ  -- what a read gives
  pub kept : List ℕ  -- what it was at its last sync
  pub written : List (ℕ × ℕ)  -- the writes since then, each as its offset and its length
  pub least : ℕ  -- the least length since then
  pub most : ℕ  -- the greatest

-- no write since the last sync reached this place
abbrev pub IsUntouched : List (ℕ × ℕ) → ℕ → Type 0
IsUntouched written place = AllByRecursion (λ (w : ℕ × ℕ). (place < w.0) ⊎ (w.0 + w.1 ≤ place)) written

-- A crash may leave these bytes: a length that lies between, and what was kept wherever nothing was
-- written or cut. All other places may hold any bytes.
pub record IsImage (file : File) (image : List ℕ) : Type 0 where
  pub no_shorter : file.least ≤ length image
  pub no_longer : length image ≤ file.most
  pub stays : (place : ℕ) → place < file.least → IsUntouched file.written place
      → slice_index image place ≡ slice_index file.kept place

-- What a read gives and what was kept are images, and no image is longer than 2^63 - 1 bytes.
pub record IsSound (file : File) : Type 0 where
  pub reads : IsImage file file.reads
  pub kept : IsImage file file.kept
  pub fits : file.most < 9223372036854775808

-- all of it is on the disk: a crash leaves what a read gives
abbrev pub settled : List ℕ → File
settled bytes = record {
  reads = bytes;
  kept = bytes;
  written = [];
  least = length bytes;
  most = length bytes;
}

-- these bytes at this offset, in the place of what was there
abbrev pub overwritten : ℕ → List ℕ → List ℕ → List ℕ
overwritten at bytes old = take at old ++ (bytes ++ drop (at + length bytes) old)

-- a write of so many bytes at this offset has begun
abbrev pub write_begun : ℕ → ℕ → File → File
write_begun at count file = record file {
  written = file.written ++ (at, count) ∷ [];
  most = max file.most (at + count);
}

-- and it is done
abbrev pub write_done : ℕ → List ℕ → File → File
write_done at bytes file =
    record (write_begun at (length bytes) file) { reads = overwritten at bytes file.reads }

-- a cut to this length has begun
abbrev pub cut_begun : ℕ → File → File
cut_begun len file = record file { least = min file.least len }

abbrev pub cut_done : ℕ → File → File
cut_done len file = record (cut_begun len file) { reads = take len file.reads }

abbrev pub sync_done : File → File
sync_done file = settled file.reads

-- A call failed: the file is as it was, or the call had begun, and a read gives some image of that.
abbrev pub BreaksOff : File → File → File → Type 0
BreaksOff begun old new =
    (new ≡ old) ⊎ ((image : List ℕ) × IsImage begun image × (new ≡ record begun { reads = image }))

-- These bytes were written at this offset. Of a steady rig a write that failed did nothing.
pub record IsWritten {E : Type 0} (steady : Type 0) (at : ℕ) (bytes : List ℕ)
    (result : Result (Unit {0}) E) (old new : File) : Type 0 where
  pub done : OnOk result (new ≡ write_done at bytes old)
  pub failed : OnErr result (BreaksOff (write_begun at (length bytes) old) old new)
  pub idle : OnErr result (steady → new ≡ old)

-- the file was cut to this length
pub record IsCut {E : Type 0} (steady : Type 0) (len : ℕ)
    (result : Result (Unit {0}) E) (old new : File) : Type 0 where
  pub done : OnOk result (new ≡ cut_done len old)
  pub failed : OnErr result (BreaksOff (cut_begun len old) old new)
  pub idle : OnErr result (steady → new ≡ old)

-- all of the file was brought to the disk
pub record IsSynced {E : Type 0} (steady : Type 0)
    (result : Result (Unit {0}) E) (old new : File) : Type 0 where
  pub done : OnOk result (new ≡ sync_done old)
  pub failed : OnErr result (BreaksOff old old new)
  pub idle : OnErr result (steady → new ≡ old)

pub record Disk : Type 0 where
  pub a : File
  pub b : File

abbrev pub file_of : Side → Disk → File
file_of A disk = disk.a
file_of B disk = disk.b

-- the disk with another file in the place of this one
abbrev pub with_file : Side → File → Disk → Disk
with_file A file disk = record disk { a = file }
with_file B file disk = record disk { b = file }

pub record IsSoundDisk (disk : Disk) : Type 0 where
  pub a : IsSound disk.a
  pub b : IsSound disk.b

-- a crash may leave these two files
pub record IsDiskImage (disk : Disk) (image_a image_b : List ℕ) : Type 0 where
  pub a : IsImage disk.a image_a
  pub b : IsImage disk.b image_b

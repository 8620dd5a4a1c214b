-- What a crash leaves, worked out by hand: a file that begins as `abcdef` without the calls since its last
-- sync, with all of them, and with the first half of each write, rounded down, and no cut.
use Rattle.std.proofs.Common.{◌≡◌, List, ℕ, codes, length, refl}
use Rattle.rig.specs.MemoryFile.{MemoryFile, settled_file, wrote, was_cut, image_of}
use Rattle.rig.specs.declared.memory_file.Image.TheVariants.{Kept, Whole, Half}

record Leaves (file : MemoryFile) (kept whole half : List ℕ) : Type 0 where
  kept_is : image_of Kept file ≡ kept
  whole_is : image_of Whole file ≡ whole
  half_is : image_of Half file ≡ half

abbrev abcdef : MemoryFile
abcdef = settled_file (codes "abcdef")

abbrev put : ℕ → List ℕ → MemoryFile → MemoryFile
put at bytes file = wrote at (length bytes) bytes file

nothing : Leaves abcdef (codes "abcdef") (codes "abcdef") (codes "abcdef")
nothing = record { kept_is = refl; whole_is = refl; half_is = refl }

inside : Leaves (put 2 (codes "XYZ") abcdef) (codes "abcdef") (codes "abXYZf") (codes "abXdef")
inside = record { kept_is = refl; whole_is = refl; half_is = refl }

behind : Leaves (put 6 (codes "GHIJ") abcdef) (codes "abcdef") (codes "abcdefGHIJ") (codes "abcdefGH")
behind = record { kept_is = refl; whole_is = refl; half_is = refl }

across : Leaves (put 4 (codes "WXYZ") abcdef) (codes "abcdef") (codes "abcdWXYZ") (codes "abcdWX")
across = record { kept_is = refl; whole_is = refl; half_is = refl }

cut_first : Leaves (put 2 (codes "XYZ") (was_cut 2 abcdef)) (codes "abcdef") (codes "abXYZ") (codes "abXdef")
cut_first = record { kept_is = refl; whole_is = refl; half_is = refl }

-- half of a write of one byte is none, so a zero stands before the half of the next
gap : Leaves (put 7 (codes "HI") (put 6 (codes "G") abcdef)) (codes "abcdef") (codes "abcdefGHI") (codes "abcdef\0H")
gap = record { kept_is = refl; whole_is = refl; half_is = refl }

cut_last : Leaves (was_cut 3 (put 2 (codes "XY") (put 1 (codes "BC") abcdef))) (codes "abcdef") (codes "aBX") (codes "aBXdef")
cut_last = record { kept_is = refl; whole_is = refl; half_is = refl }

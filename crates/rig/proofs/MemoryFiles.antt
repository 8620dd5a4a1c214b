-- The calls on a file in memory are those on a file of the disk, and keep what holds of each.
use Rattle.std.proofs.Common.{◌≡◌, ◌<◌, ◌≤◌, ◌+◌, ◌-◌, ◌/◌, ◌∙◌, ◌⊎◌, ℕ, List, [], ◌∷◌, ◌++◌, length, take, drop, get_or, replicate, min, max, Result, Ok, Err, OnOk, OnErr, refl, sym, ap, ap₂, subst, arith}
use Rattle.std.specs.List.{AllByRecursion}
use Rattle.std.proofs.lemmas.List.{take-append-drop, length-take, length-append, length-replicate, get_or-take, get_or_append_left}
use Rattle.rig.specs.Disk.{File, IsUntouched, IsImage, IsSound, settled, overwritten, write_begun, cut_done}
use Rattle.rig.specs.MemoryFile.{MemoryFile, undone, ranges_of, file_in, wrote, was_cut, put_at, halved, image_of, IsBelow, IsKept}
use Rattle.lists.specs.declared.memory.Memory.{Memory}
use Rattle.rig.specs.declared.memory_file.Change.{Change}
use Rattle.rig.specs.declared.memory_file.Change.TheVariants.{Wrote, Cut}
use Rattle.rig.specs.declared.memory_file.Image.{Image}
use Rattle.rig.specs.declared.memory_file.Image.TheVariants.{Kept, Whole, Half}
use Rattle.rig.proofs.Images.{image_in_write, image_in_cut}
use Rattle.rig.proofs.Overwritten.{length-overwritten, get_or-overwritten, put_back}
use Rattle.rig.proofs.Undo.{undone_last}

ranges_last_write : (older : List Change) (at count : ℕ) (bytes before : List ℕ) → ranges_of (older ++ Wrote at count bytes before ∷ []) ≡ ranges_of older ++ (at, count) ∷ []
ranges_last_write [] at count bytes before = refl
ranges_last_write (Wrote a n b c ∷ older) at count bytes before = ap (λ (rs : List (ℕ × ℕ)). (a, n) ∷ rs) (ranges_last_write older at count bytes before)
ranges_last_write (Cut removed ∷ older) at count bytes before = ranges_last_write older at count bytes before

ranges_last_cut : (older : List Change) (removed : List ℕ) → ranges_of (older ++ Cut removed ∷ []) ≡ ranges_of older
ranges_last_cut [] removed = refl
ranges_last_cut (Wrote a n b c ∷ older) removed = ap (λ (rs : List (ℕ × ℕ)). (a, n) ∷ rs) (ranges_last_cut older removed)
ranges_last_cut (Cut other ∷ older) removed = ranges_last_cut older removed

-- a file that a write has begun, and what a read then gives
abbrev pub begun_reads : ℕ → ℕ → List ℕ → File → File
begun_reads at count bytes file = record (write_begun at count file) { reads = overwritten at bytes file.reads }

pub file_in-wrote : (at count : ℕ) (bytes : List ℕ) (file : MemoryFile) → at ≤ length file.bytes → file_in (wrote at count bytes file) ≡ begun_reads at count bytes (file_in file)
file_in-wrote at count bytes file inside =
    let before = take (length bytes) (drop at file.bytes) in
    let made : List ℕ → List (ℕ × ℕ) → File = λ kept written. record {
      reads = overwritten at bytes file.bytes;
      kept = kept;
      written = written;
      least = file.least;
      most = max file.most (at + count);
    } in
    ap₂ made
    (undone_last file.changes (Wrote at count bytes before) (overwritten at bytes file.bytes) ∙ ap (undone file.changes) (put_back at bytes file.bytes inside))
    (ranges_last_write file.changes at count bytes before)

pub file_in-was_cut : (len : ℕ) (file : MemoryFile) → file_in (was_cut len file) ≡ cut_done len (file_in file)
file_in-was_cut len file =
    let made : List ℕ → List (ℕ × ℕ) → File = λ kept written. record {
      reads = take len file.bytes;
      kept = kept;
      written = written;
      least = min file.least len;
      most = file.most;
    } in
    ap₂ made
    (undone_last file.changes (Cut (drop len file.bytes)) (take len file.bytes) ∙ ap (undone file.changes) (take-append-drop len file.bytes))
    (ranges_last_cut file.changes (drop len file.bytes))

-- the last of the writes left this place alone
last_untouched : (written : List (ℕ × ℕ)) (at count place : ℕ) → IsUntouched (written ++ (at, count) ∷ []) place → (place < at) ⊎ (at + count ≤ place)
last_untouched [] at count place h = h.0
last_untouched (w ∷ written) at count place h = last_untouched written at count place h.1

-- a write that has begun leaves a file sound, whatever part of it a read gives
pub sound-begun_reads : (at count : ℕ) (bytes : List ℕ) (file : File) → IsSound file → at ≤ length file.reads → length bytes ≤ count → at + count < 9223372036854775808 → IsSound (begun_reads at count bytes file)
sound-begun_reads at count bytes file sound inside fits short =
    let len = length-overwritten at bytes file.reads inside in
    let kept = image_in_write at count file file.kept sound.kept in
    let reads = image_in_write at count file file.reads sound.reads in
    record {
      reads = record {
        no_shorter = omega (arith, sound.reads.no_shorter);
        no_longer = omega (arith, sound.reads.no_longer);
        stays = λ place below untouched.
            get_or-overwritten at count bytes file.reads place inside fits (last_untouched file.written at count place untouched)
            ∙ reads.stays place below untouched;
      };
      kept = record { no_shorter = kept.no_shorter; no_longer = kept.no_longer; stays = kept.stays };
      fits = omega (arith, sound.fits);
    }

pub sound-cut_done : (len : ℕ) (file : File) → IsSound file → len ≤ length file.reads → IsSound (cut_done len file)
sound-cut_done len file sound inside =
    let kept = image_in_cut len file file.kept sound.kept in
    let reads = image_in_cut len file file.reads sound.reads in
    let new_len : length (take len file.reads) ≡ len = simp length-take (omega arith) in
    record {
      reads = record {
        no_shorter = omega arith;
        no_longer = omega (arith, sound.reads.no_longer);
        stays = λ place below untouched.
            get_or-take len file.reads place 0 (omega arith) ∙ reads.stays place below untouched;
      };
      kept = record { no_shorter = kept.no_shorter; no_longer = kept.no_longer; stays = kept.stays };
      fits = sound.fits;
    }

pub sound-settled : (bytes : List ℕ) → length bytes < 9223372036854775808 → IsSound (settled bytes)
sound-settled bytes fits =
    let same : IsImage (settled bytes) bytes = record { no_shorter = omega arith; no_longer = omega arith; stays = λ place below untouched. refl } in
    record { reads = same; kept = same; fits = fits }

-- each write stays below a greatest length that rises, and so does one more
below_more : (most more : ℕ) (changes : List Change) (change : Change) → most ≤ more → AllByRecursion (IsBelow most) changes → IsBelow more change → AllByRecursion (IsBelow more) (changes ++ change ∷ [])
below_more most more [] change rises h last = (last, tt)
below_more most more (Wrote at count bytes before ∷ changes) change rises h last =
    let first = h.0.0 in ((omega arith, h.0.1), below_more most more changes change rises h.1 last)
below_more most more (Cut removed ∷ changes) change rises h last = (tt, below_more most more changes change rises h.1 last)

pub kept-wrote : (at count : ℕ) (bytes : List ℕ) (file : MemoryFile) → IsKept file → at ≤ length file.bytes → length bytes ≤ count → at + count < 9223372036854775808 → IsKept (wrote at count bytes file)
kept-wrote at count bytes file kept inside fits short = record {
  sound = subst IsSound (sym (file_in-wrote at count bytes file inside)) (sound-begun_reads at count bytes (file_in file) kept.sound inside fits short);
  below = below_more file.most (max file.most (at + count)) file.changes (Wrote at count bytes (take (length bytes) (drop at file.bytes))) (omega arith) kept.below (omega arith, fits);
}

pub kept-was_cut : (len : ℕ) (file : MemoryFile) → IsKept file → len ≤ length file.bytes → IsKept (was_cut len file)
kept-was_cut len file kept inside = record {
  sound = subst IsSound (sym (file_in-was_cut len file)) (sound-cut_done len (file_in file) kept.sound inside);
  below = below_more file.most file.most file.changes (Cut (drop len file.bytes)) (omega arith) kept.below tt;
}

-- bytes at an offset, elsewhere all stays
length-put_at : (at : ℕ) (bytes file : List ℕ) → (length file ≤ length (put_at at bytes file)) × (length (put_at at bytes file) ≤ max (length file) (at + length bytes))
length-put_at at [] file = (omega arith, omega arith)
length-put_at at (byte ∷ bytes) file =
    let padded = file ++ replicate (at - length file) 0 in
    let room : length padded ≡ max (length file) at = simp (length-append, length-replicate) (omega arith) in
    let len = length-overwritten at (byte ∷ bytes) padded (omega arith) in
    (omega arith, omega arith)

get_or-put_at : (at count : ℕ) (bytes file : List ℕ) (place : ℕ) → place < length file → length bytes ≤ count → (place < at) ⊎ (at + count ≤ place) → get_or (put_at at bytes file) place 0 ≡ get_or file place 0
get_or-put_at at count [] file place inside fits outside = refl
get_or-put_at at count (byte ∷ bytes) file place inside fits outside =
    let padded = file ++ replicate (at - length file) 0 in
    let room : length padded ≡ max (length file) at = simp (length-append, length-replicate) (omega arith) in
    get_or-overwritten at count (byte ∷ bytes) padded place (omega arith) fits outside
    ∙ get_or_append_left file (replicate (at - length file) 0) 0 place inside

half_fits : (bytes : List ℕ) (count : ℕ) → length bytes ≤ count → length (take (length bytes / 2) bytes) ≤ count
half_fits bytes count fits = simp length-take (omega arith)

length-halved : (changes : List Change) (most : ℕ) (file : List ℕ) → AllByRecursion (IsBelow most) changes → length file ≤ most → (length file ≤ length (halved changes file)) × (length (halved changes file) ≤ most)
length-halved [] most file below fits = (omega arith, fits)
length-halved (Wrote at count bytes before ∷ changes) most file below fits =
    let half = take (length bytes / 2) bytes in
    let one = length-put_at at half file in
    let short = half_fits bytes count below.0.1 in
    let top = below.0.0 in
    let more = length-halved changes most (put_at at half file) below.1 (omega arith) in
    (omega arith, more.1)
length-halved (Cut removed ∷ changes) most file below fits = length-halved changes most file below.1 fits

get_or-halved : (changes : List Change) (most : ℕ) (file : List ℕ) (place : ℕ) → AllByRecursion (IsBelow most) changes → place < length file → IsUntouched (ranges_of changes) place → get_or (halved changes file) place 0 ≡ get_or file place 0
get_or-halved [] most file place below inside untouched = refl
get_or-halved (Wrote at count bytes before ∷ changes) most file place below inside untouched =
    let half = take (length bytes / 2) bytes in
    let one = length-put_at at half file in
    get_or-halved changes most (put_at at half file) place below.1 (omega arith) untouched.1
    ∙ get_or-put_at at count half file place inside (half_fits bytes count below.0.1) untouched.0
get_or-halved (Cut removed ∷ changes) most file place below inside untouched = get_or-halved changes most file place below.1 inside untouched

-- What a crash leaves of a file in memory is what the disk's model allows.
pub image_of-allowed : (image : Image) (file : MemoryFile) → IsKept file → IsImage (file_in file) (image_of image file)
image_of-allowed Kept file kept = kept.sound.kept
image_of-allowed Whole file kept = kept.sound.reads
image_of-allowed Half file kept =
    let old = undone file.changes file.bytes in
    let len = length-halved file.changes file.most old kept.below kept.sound.kept.no_longer in
    record {
      no_shorter = omega (arith, kept.sound.kept.no_shorter);
      no_longer = len.1;
      stays = λ place below untouched.
          get_or-halved file.changes file.most old place kept.below (omega (arith, kept.sound.kept.no_shorter)) untouched;
    }

-- a write, done or not
pub kept-after_write : (at count : ℕ) (bytes : List ℕ) (old new : MemoryFile) (result : Result (Unit {0}) Memory) → at ≤ length old.bytes → length bytes ≤ count → at + count < 9223372036854775808 → OnOk result (new ≡ wrote at count bytes old) → OnErr result (new ≡ old) → IsKept old → IsKept new
kept-after_write at count bytes old new (Ok _) inside fits short ok err kept = subst IsKept (sym ok) (kept-wrote at count bytes old kept inside fits short)
kept-after_write at count bytes old new (Err _) inside fits short ok err kept = subst IsKept (sym err) kept

-- a cut, done or not
pub kept-after_cut : (len : ℕ) (old new : MemoryFile) (result : Result (Unit {0}) Memory) → len ≤ length old.bytes → OnOk result (new ≡ was_cut len old) → OnErr result (new ≡ old) → IsKept old → IsKept new
kept-after_cut len old new (Ok _) inside ok err kept = subst IsKept (sym ok) (kept-was_cut len old kept inside)
kept-after_cut len old new (Err _) inside ok err kept = subst IsKept (sym err) kept

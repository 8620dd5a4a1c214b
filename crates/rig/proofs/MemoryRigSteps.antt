-- What a call of the rig in memory adds to what it tells.
use Rattle.std.proofs.Common.{◌≡◌, ◌<◌, ◌≤◌, ◌+◌, ◌-◌, ◌/◌, ◌&&◌, ◌∷◌, ◌∙◌, ℕ, zero, suc, List, Bool, true, false, Option, Some, None, length, take, drop, min, nat_le, nat_lt, Result, Err, IfOk, OnOk, inl, inr, refl, sym, ap, subst, arith}
use Rattle.std.proofs.lemmas.Bool.Decides.{nat_tests}
use Rattle.std.proofs.lemmas.List.{length-take}
use Rattle.rig.specs.Disk.{File, IsSound, IsSoundDisk, IsWritten, IsCut, IsSynced, overwritten, write_begun, cut_begun, cut_done}
use Rattle.rig.specs.MemoryFile.{MemoryFile, file_in, wrote}
use Rattle.rig.specs.MemoryRig.{MemoryRig, Does, IsSteady, rig_tells, moment_of, disk_of, memory_file, with_memory_file, look_fault, after_look, change_fault, after_change, after_reading}
use Rattle.rig.specs.MemoryRig.{answer_of, counted, starved, asked_for, read_count, read_fault, has_place, if_placed, write_fault, part_written, after_write, cut_fault, part_cut, after_cut, part_synced, after_sync}
use Rattle.rig.specs.MemoryRig.{Attaches, Measures, Reads, Writes, Cuts, Syncs}
use Rattle.rig.specs.Told.{Moment, IsStep, GoesOn, StillTells, NotesReading, OnFile, AsksAttach, IsSize, IsRead, WritesFile, CutsFile, SyncsFile, reads_of}
use Rattle.rig.specs.declared.faults.FailForm.{FailForm}
use Rattle.rig.specs.declared.faults.FailForm.TheVariants.{Nothing, Half, All}
use Rattle.rig.specs.declared.rig.DiskFailed.{DiskFailed}
use Rattle.rig.specs.declared.side.Side.{Side}
use Rattle.rig.specs.declared.side.Side.TheVariants.{A, B}
use Rattle.rig.proofs.Images.{same_images}
use Rattle.rig.proofs.MemoryFiles.{file_in-wrote, file_in-was_cut, sound-begun_reads, sound-cut_done, sound-settled}

-- one call, which leaves the disk sound and has changed the present so
pub rig_goes_on : (old new : MemoryRig) (change : Moment → Moment → Type 0) → (new.telling ≡ true → old.telling ≡ true) → (IsSoundDisk (disk_of new) → IsSoundDisk (disk_of old)) → (new.telling ≡ true → change (moment_of old) (moment_of new)) → GoesOn rig_tells old new (IsStep change)
rig_goes_on old new change told_before sound_before changed = record {
  each = λ h at_old told at_new. (
    record { now = moment_of new; past = h.now ∷ h.past },
    (at_new.0, refl, at_new.2),
    record { past = refl; changed = subst (λ (m : Moment). change m (moment_of new)) (sym at_old.1) (changed at_new.0) },
  );
  back = λ told at_new. (record { now = moment_of old; past = told.past }, (told_before at_new.0, refl, sound_before at_new.2));
}

pub rig_still_tells : (old new : MemoryRig) → (old.telling ≡ true → new.telling ≡ true) → (IsSoundDisk (disk_of old) → IsSoundDisk (disk_of new)) → StillTells rig_tells old new
rig_still_tells old new telling sound h at_old = (record { now = moment_of new; past = h.past }, (telling at_old.0, refl, sound at_old.2))

-- a call that changes nothing that is told
pub rig_stays : (rig : MemoryRig) (change : Moment → Moment → Type 0) → change (moment_of rig) (moment_of rig) → GoesOn rig_tells rig rig (IsStep change)
rig_stays rig change h = rig_goes_on rig rig change (λ told. told) (λ sound. sound) (λ _. h)

-- the clock was read
pub rig_reads_clock : (has_room : Bool) (reading : ℕ) (rig : MemoryRig) → GoesOn rig_tells rig (after_reading has_room reading rig) (IsStep (NotesReading reading))
rig_reads_clock true reading rig = rig_goes_on rig (after_reading true reading rig) (NotesReading reading) (λ told. told) (λ sound. sound) (λ _. refl)
rig_reads_clock false reading rig = rig_goes_on rig (after_reading false reading rig) (NotesReading reading) (λ told. absurd (false_is_not_true told)) (λ sound. sound) (λ told. absurd (false_is_not_true told)) where
  false_is_not_true : false ≡ true → ⊥
  false_is_not_true e = cc

-- what a call that changes the present so adds to what is told
pub does_told : (old new : MemoryRig) (change : Moment → Moment → Type 0) → Does change old new → GoesOn rig_tells old new (IsStep change)
does_told old new change h = rig_goes_on old new change (λ told. sym h.telling ∙ told) h.before (λ _. h.changed)

pub does_tells : (old new : MemoryRig) (change : Moment → Moment → Type 0) → Does change old new → StillTells rig_tells old new
does_tells old new change h = rig_still_tells old new (λ told. h.telling ∙ told) h.after

-- ---- what each call does, as a change of the present

-- a fault that is counted changes nothing that is told
does_counted : (fault : Option FailForm) (change : Moment → Moment → Type 0) (old left new : MemoryRig) → new ≡ counted fault left → Does change old left → Does change old new
does_counted fault change old left new is h = subst (Does change old) (sym is) (by_fault fault)
  where
    by_fault : (f : Option FailForm) → Does change old (counted f left)
    by_fault None = h
    by_fault (Some form) = record {
      telling = h.telling;
      steady = λ steady. let k = h.steady steady in record { failing = k.failing; stop = k.stop; stopped = k.stopped };
      before = h.before;
      after = h.after;
      changed = h.changed;
    }

-- nor does one of a rig that was out of memory
does_starved : (change : Moment → Moment → Type 0) (old left new : MemoryRig) → new ≡ starved left → Does change old left → Does change old new
does_starved change old left new is h = subst (Does change old) (sym is) (record {
  telling = h.telling;
  steady = λ steady. let k = h.steady steady in record { failing = k.failing; stop = k.stop; stopped = k.stopped };
  before = h.before;
  after = h.after;
  changed = h.changed;
})

-- a look at the disk
does_look : (change : Moment → Moment → Type 0) (rig : MemoryRig) → change (moment_of rig) (moment_of rig) → Does change rig (after_look rig)
does_look change rig h = record {
  telling = refl;
  steady = λ steady. record { failing = steady.failing; stop = steady.stop; stopped = steady.stopped };
  before = λ sound. sound;
  after = λ sound. sound;
  changed = h;
}

pub attach_does : (dir : List ℕ) (result : Result (Unit {0}) DiskFailed) (old new : MemoryRig) → Attaches dir result old new → Does (AsksAttach dir old.counts new.counts) old new
attach_does dir result old new (inl ends) = does_counted (look_fault old) (AsksAttach dir old.counts new.counts) old (asked_for dir (after_look old)) new ends.leaves (record {
  telling = refl;
  steady = λ steady. record { failing = steady.failing; stop = steady.stop; stopped = steady.stopped };
  before = λ sound. sound;
  after = λ sound. sound;
  changed = inl refl;
})
attach_does dir result old new (inr starves) =
    does_starved (AsksAttach dir old.counts new.counts) old (after_look old) new starves.1
    (does_look (AsksAttach dir old.counts new.counts) old (inr (refl, ap (λ (r : MemoryRig). r.counts) starves.1)))

-- what a read of it gives is what the rig has there
reads_of-rig : (side : Side) (rig : MemoryRig) → (memory_file side rig).bytes ≡ reads_of side (moment_of rig)
reads_of-rig A rig = refl
reads_of-rig B rig = refl

sound_file : (side : Side) (rig : MemoryRig) → IsSoundDisk (disk_of rig) → IsSound (file_in (memory_file side rig))
sound_file A rig sound = sound.a
sound_file B rig sound = sound.b

-- no file of a sound disk is longer than 2^63 - 1 bytes
pub file_fits : (side : Side) (rig : MemoryRig) → IsSoundDisk (disk_of rig) → length (memory_file side rig).bytes < 9223372036854775808
file_fits side rig sound = let is = sound_file side rig sound in omega (arith, is.reads.no_longer, is.fits)

if_answered : {T : Type 0} (P : T → Type 0) (fault : Option FailForm) (value : T) (result : Result T DiskFailed) → result ≡ answer_of fault value → (fault ≡ None → P value) → IfOk result P
if_answered P fault value result is h = subst (λ r. IfOk r P) (sym is) (by_fault fault h)
  where
    by_fault : (f : Option FailForm) → (f ≡ None → P value) → IfOk (answer_of f value) P
    by_fault None k = k refl
    by_fault (Some form) k = tt

pub size_does : (side : Side) (result : Result ℕ DiskFailed) (old new : MemoryRig) → Measures side result old new → Does (IsSize side result) old new
size_does side result old new ends =
    let size = if_answered (λ len. len ≡ length (reads_of side (moment_of old))) (look_fault old) (length (memory_file side old).bytes) result ends.answers (λ _. ap length (reads_of-rig side old)) in
    does_counted (look_fault old) (IsSize side result) old (after_look old) new ends.leaves
    (does_look (IsSize side result) old (record { rest = refl; size = size }))

pub size_fits : (side : Side) (result : Result ℕ DiskFailed) (old new : MemoryRig) → IsSoundDisk (disk_of old) → Measures side result old new → IfOk result (λ len. len < 9223372036854775808)
size_fits side result old new sound ends = if_answered (λ len. len < 9223372036854775808) (look_fault old) (length (memory_file side old).bytes) result ends.answers (λ _. file_fits side old sound)

pub read_does : (side : Side) (at room : ℕ) (buffer : List ℕ) (result : Result ℕ DiskFailed) (old new : MemoryRig) → Reads side at room buffer result old new → Does (IsRead side at buffer result) old new
read_does side at room buffer result old new reads =
    let count = read_count side at room old in
    let whole = reads_of-rig side old in
    let within = if_answered (λ n. at + n ≤ length (reads_of side (moment_of old))) (read_fault count old) count result reads.ends.answers
    (λ works. subst (λ (bytes : List ℕ). at + count ≤ length bytes) whole (some_fits (length (memory_file side old).bytes) works)) in
    let front = subst (λ (bytes : List ℕ). IfOk result (λ n. take n buffer ≡ take n (drop at bytes))) whole reads.front in
    does_counted (read_fault count old) (IsRead side at buffer result) old (after_look old) new reads.ends.leaves
    (does_look (IsRead side at buffer result) old (record { rest = refl; within = within; front = front }))
  where
    some_from : (count : ℕ) → read_fault count old ≡ None → 0 < count
    some_from zero works = absurd (let no : Some Nothing ≡ None = works in cc)
    some_from (suc n) works = omega arith

    some_fits : (len : ℕ) → read_fault (min (len - at) room) old ≡ None → at + min (len - at) room ≤ len
    some_fits len works = let some = some_from (min (len - at) room) works in omega (arith, some)

-- ---- writes, cuts and syncs

steady_change : (rig : MemoryRig) → IsSteady rig → IsSteady (after_change rig)
steady_change rig is = record {
  failing = is.failing;
  stop = rw is.stop refl;
  stopped = rw (is.stop, is.stopped) refl;
}

-- no call of a steady rig is set to fail
steady_sets_none : (rig : MemoryRig) → IsSteady rig → change_fault rig ≡ None
steady_sets_none rig is = rw (is.stop, is.stopped, is.failing) refl

-- the call made this of its file
file_does : (side : Side) (change : File → File → Type 0) (part : MemoryFile → MemoryFile) (rig : MemoryRig) → IsSoundDisk (disk_of rig) → IsSound (file_in (part (memory_file side rig))) → change (file_in (memory_file side rig)) (file_in (part (memory_file side rig)))
    → Does (OnFile side change) rig (with_memory_file side (part (memory_file side (after_change rig))) (after_change rig))
file_does A change part rig sound made h = record {
  telling = refl;
  steady = λ is. let k = steady_change rig is in record { failing = k.failing; stop = k.stop; stopped = k.stopped };
  before = λ _. sound;
  after = λ _. record { a = made; b = sound.b };
  changed = record { rest = refl; file = h };
}
file_does B change part rig sound made h = record {
  telling = refl;
  steady = λ is. let k = steady_change rig is in record { failing = k.failing; stop = k.stop; stopped = k.stopped };
  before = λ _. sound;
  after = λ _. record { a = sound.a; b = made };
  changed = record { rest = refl; file = h };
}

-- a call that found no memory left the files as they were
idle_does : (side : Side) (change : File → File → Type 0) (rig : MemoryRig) → IsSoundDisk (disk_of rig) → change (file_in (memory_file side rig)) (file_in (memory_file side rig)) → Does (OnFile side change) rig (after_change rig)
idle_does A change rig sound h = record {
  telling = refl;
  steady = steady_change rig;
  before = λ _. sound;
  after = λ _. sound;
  changed = record { rest = refl; file = h };
}
idle_does B change rig sound h = record {
  telling = refl;
  steady = steady_change rig;
  before = λ _. sound;
  after = λ _. sound;
  changed = record { rest = refl; file = h };
}

-- A call that isn't placed does nothing.
placed_from : (place : Bool) (fault got : Option FailForm) → if_placed place fault ≡ got → (got ≡ Some Nothing → ⊥) → place ≡ true
placed_from true fault got is works = refl
placed_from false fault got is works = absurd (works (sym is))

set_from : (place : Bool) (fault : Option FailForm) → fault ≡ None → (form : FailForm) → if_placed place fault ≡ Some form → form ≡ Nothing
set_from true fault none form is = absurd (let no : None ≡ Some form = sym none ∙ is in cc)
set_from false fault none form is = let same : Some form ≡ Some Nothing = sym is in cc

le_from : (a b : ℕ) → nat_le a b ≡ true → a ≤ b
le_from a b h = grind (arith, nat_tests)

-- what a place for a write says
place_from : (at count : ℕ) (file : MemoryFile) → has_place at count file ≡ true → (at ≤ length file.bytes) × (at + count < 9223372036854775808)
place_from at count file h = both (nat_le at (length file.bytes)) (nat_lt (at + count) 9223372036854775808) refl refl h
  where
    both : (p q : Bool) → nat_le at (length file.bytes) ≡ p → nat_lt (at + count) 9223372036854775808 ≡ q → (p && q) ≡ true → (at ≤ length file.bytes) × (at + count < 9223372036854775808)
    both true true p q h = (grind (arith, nat_tests, p), grind (arith, nat_tests, q))
    both true false p q h = absurd (let no : false ≡ true = h in cc)
    both false q p q' h = absurd (let no : false ≡ true = h in cc)

-- a write that failed after a part of it
breaks_write : {E : Type 0} {steady : Type 0} (at : ℕ) (bytes part : List ℕ) (error : E) (file : MemoryFile) → (steady → ⊥) → IsSound (file_in file) → at ≤ length file.bytes → length part ≤ length bytes → at + length bytes < 9223372036854775808 → IsWritten {E = E} steady at bytes (Err error) (file_in file) (file_in (wrote at (length bytes) part file))
breaks_write at bytes part error file never sound inside fits short =
    let reads = sound-begun_reads at (length bytes) part (file_in file) sound inside fits short in
    let begun = write_begun at (length bytes) (file_in file) in
    let image = overwritten at part file.bytes in
    record { done = tt; failed = inr (image, same_images begun image image reads.reads, file_in-wrote at (length bytes) part file inside); idle = λ is. absurd (never is) }

-- what a write makes of its file, however it fails
record IsPart (steady : Type 0) (at : ℕ) (bytes : List ℕ) (fault : Option FailForm) (file : MemoryFile) : Type 0 where
  sound : IsSound (file_in (part_written fault at bytes file))
  written : IsWritten steady at bytes (answer_of fault tt) (file_in file) (file_in (part_written fault at bytes file))

part_of_write : (steady : Type 0) (at : ℕ) (bytes : List ℕ) (fault : Option FailForm) (file : MemoryFile) → ((fault ≡ Some Nothing → ⊥) → has_place at (length bytes) file ≡ true) → (steady → (form : FailForm) → fault ≡ Some form → form ≡ Nothing) → IsSound (file_in file) → IsPart steady at bytes fault file
part_of_write steady at bytes None file placed idle sound =
    let place = place_from at (length bytes) file (placed (λ e. let no : None ≡ Some Nothing = e in cc)) in
    record {
      sound = subst IsSound (sym (file_in-wrote at (length bytes) bytes file place.0)) (sound-begun_reads at (length bytes) bytes (file_in file) sound place.0 (omega arith) place.1);
      written = record { done = file_in-wrote at (length bytes) bytes file place.0; failed = tt; idle = tt };
    }
part_of_write steady at bytes (Some Nothing) file placed idle sound = record {
  sound = sound;
  written = record { done = tt; failed = inl refl; idle = λ _. refl };
}
part_of_write steady at bytes (Some Half) file placed idle sound =
    let place = place_from at (length bytes) file (placed (λ e. let no : Some Half ≡ Some Nothing = e in cc)) in
    let half = take (length bytes / 2) bytes in
    let fits : length half ≤ length bytes = simp length-take (omega arith) in
    record {
      sound = subst IsSound (sym (file_in-wrote at (length bytes) half file place.0)) (sound-begun_reads at (length bytes) half (file_in file) sound place.0 fits place.1);
      written = breaks_write at bytes half (record {}) file (λ is. let no : Half ≡ Nothing = idle is Half refl in cc) sound place.0 fits place.1;
    }
part_of_write steady at bytes (Some All) file placed idle sound =
    let place = place_from at (length bytes) file (placed (λ e. let no : Some All ≡ Some Nothing = e in cc)) in
    record {
      sound = subst IsSound (sym (file_in-wrote at (length bytes) bytes file place.0)) (sound-begun_reads at (length bytes) bytes (file_in file) sound place.0 (omega arith) place.1);
      written = breaks_write at bytes bytes (record {}) file (λ is. let no : All ≡ Nothing = idle is All refl in cc) sound place.0 (omega arith) place.1;
    }

pub write_does : (side : Side) (at : ℕ) (bytes : List ℕ) (result : Result (Unit {0}) DiskFailed) (old new : MemoryRig) → IsSoundDisk (disk_of old) → Writes side at bytes result old new → Does (WritesFile side (IsSteady old) at bytes result) old new
write_does side at bytes result old new sound (inl ends) =
    let fault = write_fault side at (length bytes) old in
    let file = memory_file side old in
    let part = part_of_write (IsSteady old) at bytes fault file
    (λ works. placed_from (has_place at (length bytes) file) (change_fault old) fault refl works)
    (λ is form set. set_from (has_place at (length bytes) file) (change_fault old) (steady_sets_none old is) form set)
    (sound_file side old sound) in
    subst (λ r. Does (WritesFile side (IsSteady old) at bytes r) old new) (sym ends.answers)
    (does_counted fault (WritesFile side (IsSteady old) at bytes (answer_of fault tt)) old (after_write side fault at bytes (after_change old)) new ends.leaves
    (file_does side (IsWritten (IsSteady old) at bytes (answer_of fault tt)) (part_written fault at bytes) old sound part.sound part.written))
write_does side at bytes result old new sound (inr starves) =
    let none : Result (Unit {0}) DiskFailed = Err record {} in
    subst (λ r. Does (WritesFile side (IsSteady old) at bytes r) old new) (sym starves.0)
    (does_starved (WritesFile side (IsSteady old) at bytes none) old (after_change old) new starves.1
    (idle_does side (IsWritten (IsSteady old) at bytes none) old sound (record { done = tt; failed = inl refl; idle = λ _. refl })))

record IsPartCut (steady : Type 0) (len : ℕ) (fault : Option FailForm) (file : MemoryFile) : Type 0 where
  sound : IsSound (file_in (part_cut fault len file))
  was : IsCut steady len (answer_of fault tt) (file_in file) (file_in (part_cut fault len file))

part_of_cut : (steady : Type 0) (len : ℕ) (fault : Option FailForm) (file : MemoryFile) → ((fault ≡ Some Nothing → ⊥) → nat_le len (length file.bytes) ≡ true) → (steady → (form : FailForm) → fault ≡ Some form → form ≡ Nothing) → IsSound (file_in file) → IsPartCut steady len fault file
part_of_cut steady len None file placed idle sound =
    let inside = le_from len (length file.bytes) (placed (λ e. let no : None ≡ Some Nothing = e in cc)) in
    record {
      sound = subst IsSound (sym (file_in-was_cut len file)) (sound-cut_done len (file_in file) sound inside);
      was = record { done = file_in-was_cut len file; failed = tt; idle = tt };
    }
part_of_cut steady len (Some Nothing) file placed idle sound = record { sound = sound; was = record { done = tt; failed = inl refl; idle = λ _. refl } }
part_of_cut steady len (Some Half) file placed idle sound = record { sound = sound; was = record { done = tt; failed = inl refl; idle = λ _. refl } }
part_of_cut steady len (Some All) file placed idle sound =
    let inside = le_from len (length file.bytes) (placed (λ e. let no : Some All ≡ Some Nothing = e in cc)) in
    let cut = sound-cut_done len (file_in file) sound inside in
    let image = (cut_done len (file_in file)).reads in
    record {
      sound = subst IsSound (sym (file_in-was_cut len file)) cut;
      was = record {
        done = tt;
        failed = inr (image, same_images (cut_begun len (file_in file)) image image cut.reads, file_in-was_cut len file);
        idle = λ is. absurd (let no : All ≡ Nothing = idle is All refl in cc);
      };
    }

pub cut_does : (side : Side) (len : ℕ) (result : Result (Unit {0}) DiskFailed) (old new : MemoryRig) → IsSoundDisk (disk_of old) → Cuts side len result old new → Does (CutsFile side (IsSteady old) len result) old new
cut_does side len result old new sound (inl ends) =
    let fault = cut_fault side len old in
    let file = memory_file side old in
    let part = part_of_cut (IsSteady old) len fault file
    (λ works. placed_from (nat_le len (length file.bytes)) (change_fault old) fault refl works)
    (λ is form set. set_from (nat_le len (length file.bytes)) (change_fault old) (steady_sets_none old is) form set)
    (sound_file side old sound) in
    subst (λ r. Does (CutsFile side (IsSteady old) len r) old new) (sym ends.answers)
    (does_counted fault (CutsFile side (IsSteady old) len (answer_of fault tt)) old (after_cut side fault len (after_change old)) new ends.leaves
    (file_does side (IsCut (IsSteady old) len (answer_of fault tt)) (part_cut fault len) old sound part.sound part.was))
cut_does side len result old new sound (inr starves) =
    let none : Result (Unit {0}) DiskFailed = Err record {} in
    subst (λ r. Does (CutsFile side (IsSteady old) len r) old new) (sym starves.0)
    (does_starved (CutsFile side (IsSteady old) len none) old (after_change old) new starves.1
    (idle_does side (IsCut (IsSteady old) len none) old sound (record { done = tt; failed = inl refl; idle = λ _. refl })))

pub cut_fits : (side : Side) (len : ℕ) (result : Result (Unit {0}) DiskFailed) (old new : MemoryRig) → IsSoundDisk (disk_of old) → Cuts side len result old new → OnOk result (len < 9223372036854775808)
cut_fits side len result old new sound (inl ends) =
    if_answered (λ _. len < 9223372036854775808) (cut_fault side len old) tt result ends.answers
    (λ works. below (le_from len (length (memory_file side old).bytes) (placed_from (nat_le len (length (memory_file side old).bytes)) (change_fault old) None works (λ e. let no : None ≡ Some Nothing = e in cc))))
  where
    below : len ≤ length (memory_file side old).bytes → len < 9223372036854775808
    below inside = let fits = file_fits side old sound in omega arith
cut_fits side len result old new sound (inr starves) = subst (λ r. OnOk r (len < 9223372036854775808)) (sym starves.0) tt

record IsPartSynced (steady : Type 0) (fault : Option FailForm) (file : MemoryFile) : Type 0 where
  sound : IsSound (file_in (part_synced fault file))
  synced : IsSynced steady (answer_of fault tt) (file_in file) (file_in (part_synced fault file))

part_of_sync : (steady : Type 0) (fault : Option FailForm) (file : MemoryFile) → IsSound (file_in file) → IsPartSynced steady fault file
part_of_sync steady None file sound = record {
  sound = sound-settled file.bytes (omega (arith, sound.reads.no_longer, sound.fits));
  synced = record { done = refl; failed = tt; idle = tt };
}
part_of_sync steady (Some form) file sound = record { sound = sound; synced = record { done = tt; failed = inl refl; idle = λ _. refl } }

pub sync_does : (side : Side) (result : Result (Unit {0}) DiskFailed) (old new : MemoryRig) → IsSoundDisk (disk_of old) → Syncs side result old new → Does (SyncsFile side (IsSteady old) result) old new
sync_does side result old new sound ends =
    let fault = change_fault old in
    let part = part_of_sync (IsSteady old) fault (memory_file side old) (sound_file side old sound) in
    subst (λ r. Does (SyncsFile side (IsSteady old) r) old new) (sym ends.answers)
    (does_counted fault (SyncsFile side (IsSteady old) (answer_of fault tt)) old (after_sync side fault (after_change old)) new ends.leaves
    (file_does side (IsSynced (IsSteady old) (answer_of fault tt)) (part_synced fault) old sound part.sound part.synced))

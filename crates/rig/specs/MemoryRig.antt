-- A rig in memory: what it tells, and how it is set to behave.
use Rattle.std.specs.Prelude.{ℕ, ◌≡◌, ◌+◌, ◌-◌, ◌/◌, ◌==◌, ◌&&◌, ◌||◌, ◌⊎◌, length, take, Bool, true, false, List, [], ◌∷◌, ◌++◌, drop, find, min, Option, Some, None, Result, Ok, Err, IfOk, if◌then◌else◌, nat_lt, nat_le}
use Rattle.std.specs.Option.{option_map}
use Rattle.rig.specs.Disk.{Disk, IsSoundDisk, IsDiskImage}
use Rattle.rig.specs.Faults.{Counts, one_more, after_disk_fault, after_starving}
use Rattle.rig.specs.MemoryFile.{MemoryFile, file_in, settled_file, wrote, was_cut, image_of}
use Rattle.rig.specs.Told.{Moment, History, OneCall}
use Rattle.rig.specs.declared.entries.AskedEntry.{AskedEntry}
use Rattle.rig.specs.declared.entries.AskedEntry.TheVariants.{Attach}
use Rattle.rig.specs.declared.faults.FailForm.{FailForm}
use Rattle.rig.specs.declared.faults.FailForm.TheVariants.{Nothing, Half, All}
use Rattle.rig.specs.declared.faults.FailedCall.{FailedCall}
use Rattle.rig.specs.declared.memory_file.Image.{Image}
use Rattle.rig.specs.declared.rig.DiskFailed.{DiskFailed}
use Rattle.rig.specs.declared.side.Side.{Side}
use Rattle.rig.specs.declared.side.Side.TheVariants.{A, B}

pub record MemoryRig : Type 0 where
  pub a : MemoryFile
  pub b : MemoryFile
  pub moments : List ℕ  -- the readings that its clock gave
  pub asked : List AskedEntry
  pub telling : Bool  -- it tells all of this, and not its counts alone
  pub room : ℕ  -- how many more readings it can record
  pub readings : List ℕ  -- what the clock will give
  pub last : ℕ  -- what it gives after these
  pub calls : ℕ  -- the calls on the disk so far
  pub failing : List FailedCall  -- those that are set to fail
  pub stop : Option ℕ  -- which write, cut or sync from now on is stopped, counted from 1
  pub stopped : Bool  -- it was stopped, and each call on the disk fails
  pub counts : Counts

-- a rig with these two files, both on the disk, that has room to record so many readings
abbrev pub fresh_rig : List ℕ → List ℕ → ℕ → MemoryRig
fresh_rig a b room = record {
  a = settled_file a;
  b = settled_file b;
  moments = [];
  asked = [];
  telling = true;
  room = room;
  readings = [];
  last = 0;
  calls = 0;
  failing = [];
  stop = None;
  stopped = false;
  counts = record { disk_faults = 0; net_faults = 0; starved = 0 };
}

abbrev pub disk_of : MemoryRig → Disk
disk_of rig = record { a = file_in rig.a; b = file_in rig.b }

-- the present moment
abbrev pub moment_of : MemoryRig → Moment
moment_of rig =
    record { disk = disk_of rig; heard = []; moments = rig.moments; said = []; asked = rig.asked }

-- what it tells: the present as it is, and any past
abbrev pub rig_tells : MemoryRig → History → Type 0
rig_tells rig history = (rig.telling ≡ true) × (history.now ≡ moment_of rig) × IsSoundDisk (disk_of rig)

-- what one call, which changes the present so, adds to what it tells
abbrev pub RigCall : (Moment → Moment → Type 0) → MemoryRig → MemoryRig → Type 0
RigCall change old new = OneCall rig_tells old new change

abbrev pub memory_file : Side → MemoryRig → MemoryFile
memory_file A rig = rig.a
memory_file B rig = rig.b

abbrev pub with_memory_file : Side → MemoryFile → MemoryRig → MemoryRig
with_memory_file A file rig = record rig { a = file }
with_memory_file B file rig = record rig { b = file }

-- one more call is set to fail
abbrev pub with_failing : FailedCall → MemoryRig → MemoryRig
with_failing failed rig = record rig { failing = rig.failing ++ failed ∷ [] }

-- after these bytes were put into a file, as part of a write of so many
abbrev pub wrote_on : Side → ℕ → ℕ → List ℕ → MemoryRig → MemoryRig
wrote_on side at count bytes rig =
    with_memory_file side (wrote at count bytes (memory_file side rig)) rig

-- after a file was cut, and after it was brought to the disk
abbrev pub cut_on : Side → ℕ → MemoryRig → MemoryRig
cut_on side len rig = with_memory_file side (was_cut len (memory_file side rig)) rig

abbrev pub settled_on : Side → MemoryRig → MemoryRig
settled_on side rig = with_memory_file side (settled_file (memory_file side rig).bytes) rig

-- what the clock gives next
abbrev pub next_reading : List ℕ → ℕ → ℕ
next_reading [] last = last
next_reading (reading ∷ readings) last = reading

-- the rig after its clock was read: it records the reading where it has room, and else tells no more
abbrev pub after_reading : Bool → ℕ → MemoryRig → MemoryRig
after_reading true reading rig = record rig {
  moments = rig.moments ++ reading ∷ [];
  room = rig.room - 1;
  readings = drop 1 rig.readings;
  last = reading;
}
after_reading false reading rig =
    record rig { telling = false; readings = drop 1 rig.readings; last = reading }

abbrev pub after_now : MemoryRig → MemoryRig
after_now rig = after_reading (nat_lt 0 rig.room) (next_reading rig.readings rig.last) rig

-- how the next call on the disk is set to fail
abbrev pub set_fault : MemoryRig → Option FailForm
set_fault rig =
    option_map (λ (f : FailedCall). f.form)
    (find (λ (f : FailedCall). f.call == one_more rig.calls) rig.failing)

-- how the next call on the disk fails, where it is one that changes nothing there: behind a crash each does
abbrev pub look_fault : MemoryRig → Option FailForm
look_fault rig = if rig.stopped then Some Nothing else set_fault rig

abbrev pub after_look : MemoryRig → MemoryRig
after_look rig = record rig { calls = one_more rig.calls }

-- this write, cut or sync is the one that is stopped
abbrev pub stops_now : Option ℕ → Bool
stops_now None = false
stops_now (Some left) = nat_le left 1

abbrev pub next_stop : Option ℕ → Option ℕ
next_stop None = None
next_stop (Some left) = if nat_le left 1 then None else Some (left - 1)

-- How the next call on the disk fails, where it is a write, a cut or a sync. One that is stopped is
-- done, and nobody hears of it.
abbrev pub change_fault : MemoryRig → Option FailForm
change_fault rig = if stops_now rig.stop then Some All else look_fault rig

abbrev pub after_change : MemoryRig → MemoryRig
after_change rig = record rig {
  calls = one_more rig.calls;
  stop = next_stop rig.stop;
  stopped = rig.stopped || stops_now rig.stop;
}

-- No call on the disk is set to fail, and the rig neither was stopped nor is set to be.
pub record IsSteady (rig : MemoryRig) : Type 0 where
  pub failing : rig.failing ≡ []
  pub stop : rig.stop ≡ None
  pub stopped : rig.stopped ≡ false

-- what a call of the disk answers, and what it makes of the counts, where it fails so or not at all
abbrev pub answer_of : {T : Type 0} → Option FailForm → T → Result T DiskFailed
answer_of None value = Ok value
answer_of (Some form) value = Err record {}

abbrev pub counted : Option FailForm → MemoryRig → MemoryRig
counted None rig = rig
counted (Some form) rig = record rig { counts = after_disk_fault rig.counts }

-- a call that finds no memory
abbrev pub starved : MemoryRig → MemoryRig
starved rig = record rig { counts = after_starving rig.counts }

-- A call failed in this form, or not at all, and has made the rig so.
pub record Ends {T : Type 0} (fault : Option FailForm) (value : T) (left : MemoryRig)
    (result : Result T DiskFailed) (new : MemoryRig) : Type 0 where
  pub answers : result ≡ answer_of fault value
  pub leaves : new ≡ counted fault left

-- the same, or it found no memory and has done nothing but count that
abbrev pub EndsOrStarves : Option FailForm → MemoryRig → MemoryRig → Result (Unit {0}) DiskFailed
    → MemoryRig → Type 0
EndsOrStarves fault left idle result new =
    Ends fault tt left result new ⊎ ((result ≡ Err record {}) × (new ≡ starved idle))

-- ---- what each call does

abbrev pub asked_for : List ℕ → MemoryRig → MemoryRig
asked_for dir rig = record rig { asked = rig.asked ++ Attach dir ∷ [] }

abbrev pub Attaches : List ℕ → Result (Unit {0}) DiskFailed → MemoryRig → MemoryRig → Type 0
Attaches dir result old new =
    EndsOrStarves (look_fault old) (asked_for dir (after_look old)) (after_look old) result new

abbrev pub Measures : Side → Result ℕ DiskFailed → MemoryRig → MemoryRig → Type 0
Measures side result old new =
    Ends (look_fault old) (length (memory_file side old).bytes) (after_look old) result new

-- how many bytes a read from this offset into so much room gives
abbrev pub read_count : Side → ℕ → ℕ → MemoryRig → ℕ
read_count side at room rig = min (length (memory_file side rig).bytes - at) room

-- how a read of so many bytes fails: one of none does
abbrev pub read_fault : ℕ → MemoryRig → Option FailForm
read_fault count rig = if count == 0 then Some Nothing else look_fault rig

-- It gives what there is and fits.
pub record Reads (side : Side) (at room : ℕ) (buffer : List ℕ)
    (result : Result ℕ DiskFailed) (old new : MemoryRig) : Type 0 where
  pub ends : let count = read_count side at room old
      in Ends (read_fault count old) count (after_look old) result new
  pub front : IfOk result
      (λ count. take count buffer ≡ take count (drop at (memory_file side old).bytes))

-- a call that has no place does nothing and fails
abbrev pub if_placed : Bool → Option FailForm → Option FailForm
if_placed place fault = if place then fault else Some Nothing

-- so many bytes can be written there
abbrev pub has_place : ℕ → ℕ → MemoryFile → Bool
has_place at count file = nat_le at (length file.bytes) && nat_lt (at + count) 9223372036854775808

-- a write that fails so does something, and so it has its place
abbrev pub IsPlaced : Option FailForm → ℕ → ℕ → MemoryFile → Type 0
IsPlaced fault at count file = (fault ≡ Some Nothing → ⊥) → has_place at count file ≡ true

-- how a write of so many bytes fails
abbrev pub write_fault : Side → ℕ → ℕ → MemoryRig → Option FailForm
write_fault side at count rig = if_placed (has_place at count (memory_file side rig)) (change_fault rig)

-- what a write that fails so, or not at all, makes of its file
abbrev pub part_written : Option FailForm → ℕ → List ℕ → MemoryFile → MemoryFile
part_written None at bytes file = wrote at (length bytes) bytes file
part_written (Some Nothing) at bytes file = file
part_written (Some Half) at bytes file = wrote at (length bytes) (take (length bytes / 2) bytes) file
part_written (Some All) at bytes file = wrote at (length bytes) bytes file

abbrev pub after_write : Side → Option FailForm → ℕ → List ℕ → MemoryRig → MemoryRig
after_write side fault at bytes rig =
    with_memory_file side (part_written fault at bytes (memory_file side rig)) rig

abbrev pub Writes : Side → ℕ → List ℕ → Result (Unit {0}) DiskFailed → MemoryRig → MemoryRig → Type 0
Writes side at bytes result old new =
    let fault = write_fault side at (length bytes) old in
    EndsOrStarves fault (after_write side fault at bytes (after_change old))
    (after_change old) result new

-- how a cut to this length fails: where the file is shorter it has no place
abbrev pub cut_fault : Side → ℕ → MemoryRig → Option FailForm
cut_fault side len rig = if_placed (nat_le len (length (memory_file side rig).bytes)) (change_fault rig)

abbrev pub part_cut : Option FailForm → ℕ → MemoryFile → MemoryFile
part_cut None len file = was_cut len file
part_cut (Some Nothing) len file = file
part_cut (Some Half) len file = file
part_cut (Some All) len file = was_cut len file

abbrev pub after_cut : Side → Option FailForm → ℕ → MemoryRig → MemoryRig
after_cut side fault len rig = with_memory_file side (part_cut fault len (memory_file side rig)) rig

abbrev pub Cuts : Side → ℕ → Result (Unit {0}) DiskFailed → MemoryRig → MemoryRig → Type 0
Cuts side len result old new =
    let fault = cut_fault side len old in
    EndsOrStarves fault (after_cut side fault len (after_change old)) (after_change old) result new

-- one that fails has brought nothing to the disk
abbrev pub part_synced : Option FailForm → MemoryFile → MemoryFile
part_synced None file = settled_file file.bytes
part_synced (Some form) file = file

abbrev pub after_sync : Side → Option FailForm → MemoryRig → MemoryRig
after_sync side fault rig = with_memory_file side (part_synced fault (memory_file side rig)) rig

abbrev pub Syncs : Side → Result (Unit {0}) DiskFailed → MemoryRig → MemoryRig → Type 0
Syncs side result old new =
    Ends (change_fault old) tt (after_sync side (change_fault old) (after_change old)) result new

-- One call, which changed the present so, and ended neither the telling nor the steadiness, nor what
-- holds of the disk.
pub record Does (change : Moment → Moment → Type 0) (old new : MemoryRig) : Type 0 where
  pub telling : new.telling ≡ old.telling
  pub steady : IsSteady old → IsSteady new
  pub before : IsSoundDisk (disk_of new) → IsSoundDisk (disk_of old)
  pub after : IsSoundDisk (disk_of old) → IsSoundDisk (disk_of new)
  pub changed : change (moment_of old) (moment_of new)

-- the rig that begins anew with what a crash leaves
abbrev pub restarted : Image → ℕ → MemoryRig → MemoryRig
restarted image room rig = fresh_rig (image_of image rig.a) (image_of image rig.b) room

-- what that is, is allowed by the disk's model
abbrev pub LeavesImage : Image → MemoryRig → Type 0
LeavesImage image rig = IsDiskImage (disk_of rig) (image_of image rig.a) (image_of image rig.b)

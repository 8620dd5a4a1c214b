-- What opening and appending do to file A, and what a crash within them may leave.
use Rattle.std.specs.Prelude.{ℕ, ◌≡◌, ◌≤◌, ◌+◌, ◌⊎◌, List, [], ◌∷◌, ◌++◌, length, take, drop, Result, Ok, Err, OnOk, OnErr}
use Rattle.rig.specs.Faults.{Counts, HasDiskFailed}
use Rattle.rig.specs.Disk.{IsImage, settled, file_of, with_file}
use Rattle.rig.specs.Told.{Moment, History, Since, reads_of}
use Rattle.rig.specs.declared.side.Side.TheVariants.{A}
use Rattle.journal_core.specs.Records.{contents, payloads_of, spelled, StandsFor}
use Rattle.journal_core.specs.declared.journal.JournalFault.{JournalFault}
use Rattle.journal_core.specs.declared.journal.JournalFault.TheVariants as fault

-- File A is whole records, all of it on the disk, and has so many bytes.
pub record IsReady (end : ℕ) (now : Moment) : Type 0 where
  pub kept : file_of A now.disk ≡ settled (reads_of A now)
  pub whole : (contents (reads_of A now)).rest ≡ []
  pub size : end ≡ length (reads_of A now)

-- nothing but file A has changed
abbrev pub IsElsewhereSame : Moment → Moment → Type 0
IsElsewhereSame old moment = moment ≡ record old { disk = with_file A (file_of A moment.disk) old.disk }

-- A crash while the payload is added to these bytes leaves them, and behind them a torn rest: at most as
-- many bytes as the payload's record has, whatever they are. So the image stands for what the bytes do,
-- and behind it for what the torn rest is taken for: it may be read as a payload that nobody appended.
pub record IsTorn (payload bytes image : List ℕ) : Type 0 where
  pub front : take (length bytes) image ≡ bytes
  pub most : length image ≤ length bytes + length (spelled payload)
  pub stands : payloads_of image ≡ payloads_of bytes ++ payloads_of (drop (length bytes) image)

-- a moment of an append that began at the old one
pub record IsWithinAppend (payload : List ℕ) (old moment : Moment) : Type 0 where
  pub elsewhere : IsElsewhereSame old moment
  pub images : (image : List ℕ) → IsImage (file_of A moment.disk) image
      → IsTorn payload (reads_of A old) image

-- The file reads as before, or has the payload's record behind that, and is whole records in both
-- cases.
abbrev pub IsBeforeOrAfter : List ℕ → List ℕ → List ℕ → Type 0
IsBeforeOrAfter payload old new =
    ((new ≡ old) × StandsFor (payloads_of old) new)
    ⊎ ((new ≡ old ++ spelled payload) × StandsFor (payloads_of old ++ payload ∷ []) new)

-- The payload was added. A call that failed leaves a moment of the append, and of a steady rig nothing
-- of the payload's record or all of it.
pub record IsAppended {T E : Type 0} (steady : Type 0) (payload : List ℕ)
    (result : Result T E) (old new : History) : Type 0 where
  pub steps : Since (IsWithinAppend payload old.now) old new
  pub left : IsWithinAppend payload old.now new.now
  pub kept : OnOk result (file_of A new.now.disk ≡ settled (reads_of A old.now ++ spelled payload))
  pub stands : OnOk result
      (payloads_of (reads_of A new.now) ≡ payloads_of (reads_of A old.now) ++ payload ∷ [])
  pub whole : OnErr result (steady → IsBeforeOrAfter payload (reads_of A old.now) (reads_of A new.now))

-- a moment of an opening
pub record IsWithinOpening (old moment : Moment) : Type 0 where
  pub elsewhere : IsElsewhereSame old moment
  pub images : (image : List ℕ) → IsImage (file_of A moment.disk) image
      → IsImage (file_of A old.disk) image

-- The empty file is on the disk. A call that failed leaves a moment of the opening, and of a steady rig
-- the file as it was.
pub record IsOpened {T E : Type 0} (steady : Type 0)
    (result : Result T E) (old new : History) : Type 0 where
  pub steps : Since (IsWithinOpening old.now) old new
  pub left : IsWithinOpening old.now new.now
  pub kept : OnOk result (file_of A new.now.disk ≡ settled [])
  pub idle : OnErr result (steady → file_of A new.now.disk ≡ file_of A old.now.disk)

-- An opening counts a fault of the disk exactly where it answers that, and nothing else.
abbrev pub CountsOpening : {T : Type 0} → Result T JournalFault → Counts → Counts → Type 0
CountsOpening (Ok _) old new = new ≡ old
CountsOpening (Err fault.Disk) old new = HasDiskFailed old new
CountsOpening (Err fault.Memory) old new = new ≡ old

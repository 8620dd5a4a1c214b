-- What a rig tells: a history of moments, one for each call. A moment has the disk and all that was
-- heard, read of the clock, said and asked up to it.
use Rattle.std.specs.Prelude.{ℕ, ◌≡◌, ◌≤◌, ◌+◌, ◌⊎◌, List, [], ◌∷◌, ◌++◌, length, take, drop, Result, IfOk}
use Rattle.std.specs.List.{AllByRecursion}
use Rattle.rig.specs.Disk.{Disk, File, IsWritten, IsCut, IsSynced, file_of, with_file}
use Rattle.rig.specs.Faults.{Counts, after_starving}
use Rattle.rig.specs.declared.entries.HeardEntry.{HeardEntry}
use Rattle.rig.specs.declared.entries.SaidEntry.{SaidEntry}
use Rattle.rig.specs.declared.entries.AskedEntry.{AskedEntry}
use Rattle.rig.specs.declared.entries.AskedEntry.TheVariants.{Attach}
use Rattle.rig.specs.declared.side.Side.{Side}

pub record Moment : Type 0 where
  pub disk : Disk
  pub heard : List HeardEntry
  pub moments : List ℕ  -- the readings of the clock, in milliseconds since 1970
  pub said : List SaidEntry
  pub asked : List AskedEntry

pub record History : Type 0 where
  pub now : Moment
  pub past : List Moment  -- the moments before, one for each call, the newest first

-- all moments, the newest first
abbrev pub moments_of : History → List Moment
moments_of history = history.now ∷ history.past

-- One call: the moment before it is past, and it changed the moment so.
pub record IsStep (change : Moment → Moment → Type 0) (old new : History) : Type 0 where
  pub past : new.past ≡ old.now ∷ old.past
  pub changed : change old.now new.now

-- a call that changes nothing that is told
abbrev pub Stays : Moment → Moment → Type 0
Stays old new = new ≡ old

-- the clock was read
abbrev pub NotesReading : ℕ → Moment → Moment → Type 0
NotesReading reading old new = new ≡ record old { moments = old.moments ++ reading ∷ [] }

-- the rig was asked this: the entry was added, or the rig was out of memory and counted that
abbrev pub Asks : AskedEntry → Counts → Counts → Moment → Moment → Type 0
Asks entry counts_old counts_new old new =
    (new ≡ record old { asked = old.asked ++ entry ∷ [] })
    ⊎ ((new ≡ old) × (counts_new ≡ after_starving counts_old))

-- it was asked for the files of a directory
abbrev pub AsksAttach : List ℕ → Counts → Counts → Moment → Moment → Type 0
AsksAttach dir counts_old counts_new = Asks (Attach dir) counts_old counts_new

-- all stays but this one file, which changed so
pub record OnFile (side : Side) (change : File → File → Type 0) (old new : Moment) : Type 0 where
  pub rest : new ≡ record old { disk = with_file side (file_of side new.disk) old.disk }
  pub file : change (file_of side old.disk) (file_of side new.disk)

-- a write, a cut and a sync of one file
abbrev pub WritesFile : {E : Type 0} → Side → Type 0 → ℕ → List ℕ → Result (Unit {0}) E → Moment → Moment
    → Type 0
WritesFile side steady at bytes result = OnFile side (IsWritten steady at bytes result)

abbrev pub CutsFile : {E : Type 0} → Side → Type 0 → ℕ → Result (Unit {0}) E → Moment → Moment → Type 0
CutsFile side steady len result = OnFile side (IsCut steady len result)

abbrev pub SyncsFile : {E : Type 0} → Side → Type 0 → Result (Unit {0}) E → Moment → Moment → Type 0
SyncsFile side steady result = OnFile side (IsSynced steady result)

-- what a read of the file gives, where it is told
abbrev pub reads_of : Side → Moment → List ℕ
reads_of side moment = (file_of side moment.disk).reads

-- all stays, and the answer is the file's length
pub record IsSize {E : Type 0} (side : Side) (result : Result ℕ E) (old new : Moment) : Type 0 where
  pub rest : new ≡ old
  pub size : IfOk result (λ len. len ≡ length (reads_of side old))

-- all stays, and the next bytes of the file from this offset on are at the front of the buffer
pub record IsRead {E : Type 0} (side : Side) (at : ℕ) (buffer : List ℕ)
    (result : Result ℕ E) (old new : Moment) : Type 0 where
  pub rest : new ≡ old
  pub within : IfOk result (λ count. at + count ≤ length (reads_of side old))
  pub front : IfOk result (λ count. take count buffer ≡ take count (drop at (reads_of side old)))

-- Of a rig that still tells: from each history that it told there is a later one that it tells, and
-- the step leads there. What it tells now it began to tell before.
pub record GoesOn {R : Type 0} (tells : R → History → Type 0) (old new : R)
    (step : History → History → Type 0) : Type 0 where
  pub each : (history : History) → tells old history → (told : History) → tells new told
      → (later : History) × tells new later × step history later
  pub back : (told : History) → tells new told → (history : History) × tells old history

-- what one call, which changes the present so, adds to what is told
abbrev pub OneCall : {R : Type 0} → (R → History → Type 0) → R → R → (Moment → Moment → Type 0) → Type 0
OneCall tells old new change = GoesOn tells old new (IsStep change)

-- a rig that tells goes on telling
abbrev pub StillTells : {R : Type 0} → (R → History → Type 0) → R → R → Type 0
StillTells tells old new = (history : History) → tells old history → (later : History) × tells new later

-- what holds of the present moment, where it is told
abbrev pub WhereTold : {R : Type 0} → (R → History → Type 0) → R → (Moment → Type 0) → Type 0
WhereTold tells rig P = (history : History) → tells rig history → P history.now

-- all that it tells has one present moment
abbrev pub HasOneNow : {R : Type 0} → (R → History → Type 0) → R → Type 0
HasOneNow tells rig = (h k : History) → tells rig h → tells rig k → h.now ≡ k.now

-- P holds of each moment that came after the old history, up to the new one.
pub record Since (P : Moment → Type 0) (old new : History) : Type 0 where
  pub added : List Moment
  pub goes_on : moments_of new ≡ added ++ moments_of old
  pub each : AllByRecursion P added

-- One step and then another, with the history that was told between them.
pub record Then {R : Type 0} (tells : R → History → Type 0) (between : R)
    (first second : History → History → Type 0) (old new : History) : Type 0 where
  pub middle : History
  pub told : tells between middle
  pub went : first old middle
  pub goes : second middle new

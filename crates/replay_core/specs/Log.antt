-- What file A of a rig in memory holds of a script's run, against the accepted lines.
use Rattle.std.specs.Prelude.{ℕ, ◌≡◌, ◌⊎◌, true, List, [], ◌++◌, take, Some, Result, Ok, Err}
use Rattle.journal_core.specs.Appends.{IsReady}
use Rattle.journal_core.specs.Records.{StandsFor, contents}
use Rattle.rig.specs.Disk.{IsSoundDisk, settled}
use Rattle.rig.specs.Flow.{Flow, Incoming}
use Rattle.rig.specs.MemoryFile.{file_in, settled_file}
use Rattle.rig.specs.MemoryRig.{MemoryRig, IsSteady, disk_of, moment_of}
use Rattle.rig.specs.Written.{Outgoing, FailsWriting}
use Rattle.replay_core.specs.Accepted.{accepted_lines}
use Rattle.replay_core.specs.Pieces.{all_lines, lines_of}
use Rattle.replay_core.specs.Replay.{finish, on_lines, start, text_of}
use Rattle.replay_core.specs.Script.{GathersPrefix}
use Rattle.replay_core.specs.declared.end.LineFault.{LineFault}
use Rattle.replay_core.specs.declared.end.LineFault.TheVariants as fault
use Rattle.replay_core.specs.declared.end.ReplayEnd.{ReplayEnd}
use Rattle.replay_core.specs.declared.form.Form.{Form}
use Rattle.replay_core.specs.declared.end.ReplayEnd.TheVariants.{Done, Script, ReadFault, WriteFault, NumbersSpent, Memory}

-- A rig that tells, with two empty files that are on the disk, and no call set to fail.
pub record IsBlank (rig : MemoryRig) : Type 0 where
  pub a : rig.a ≡ settled_file []
  pub b : rig.b ≡ settled_file []
  pub telling : rig.telling ≡ true
  pub steady : IsSteady rig

-- A line can be appended to file A, which has so many bytes.
pub record IsLogging (size : ℕ) (rig : MemoryRig) : Type 0 where
  pub telling : rig.telling ≡ true
  pub steady : IsSteady rig
  pub sound : IsSoundDisk (disk_of rig)
  pub ready : IsReady size (moment_of rig)

-- all that file A has is on the disk: a crash leaves just that
abbrev pub IsOnDisk : MemoryRig → Type 0
IsOnDisk rig = file_in rig.a ≡ settled rig.a.bytes

-- what file A stands for
abbrev pub payloads_in : MemoryRig → List (List ℕ)
payloads_in rig = (contents rig.a.bytes).payloads

-- these payloads were added, and more can be
pub record Logs (before added : List (List ℕ)) (size : ℕ) (rig : MemoryRig) : Type 0 where
  pub logging : IsLogging size rig
  pub payloads : payloads_in rig ≡ before ++ added

-- ## One line

-- what stood before, or that and what was to be added
abbrev pub StandsForEither : List (List ℕ) → List (List ℕ) → List ℕ → Type 0
StandsForEither before added file = StandsFor before file ⊎ StandsFor (before ++ added) file

-- A line at which the run broke off adds nothing, or memory was missing.
abbrev pub StopsLog : List (List ℕ) → MemoryRig → MemoryRig → LineFault → Type 0
StopsLog added old new (fault.Outside line) = (added ≡ []) × (new ≡ old)
StopsLog added old new fault.Spent = (added ≡ []) × (new ≡ old)
StopsLog added old new fault.Memory = StandsForEither (payloads_in old) added new.a.bytes

-- ## The last line

-- The accepted lines of what was left are added. Where memory was missing, nothing was said, or the last
-- line was run.
abbrev pub FinishesLog : List (List ℕ) → MemoryRig → MemoryRig → List ℕ → List ℕ
    → Result (Unit {0}) LineFault → Type 0
FinishesLog added old new before said (Ok done) =
    StandsFor (payloads_in old ++ added) new.a.bytes × IsOnDisk new
FinishesLog added old new before said (Err (fault.Outside line)) = (added ≡ []) × (new ≡ old)
FinishesLog added old new before said (Err fault.Spent) = (added ≡ []) × (new ≡ old)
FinishesLog added old new before said (Err fault.Memory) =
    ((said ≡ before) × StandsFor (payloads_in old) new.a.bytes)
    ⊎ StandsFor (payloads_in old ++ added) new.a.bytes

-- ## A script

-- Broken off: file A has the accepted ones of so many lines, and no more than their text was printed.
pub record IsCutOff (form : Form) (IsBegun : List ℕ → Type 0) (lines : List (List ℕ))
    (file : List ℕ) : Type 0 where
  pub count : ℕ
  pub stands : StandsFor (accepted_lines (start form) (take count lines)) file
  pub printed : IsBegun (text_of (on_lines (start form) (take count lines)))

-- Broken off within these lines, or in the end line behind them.
abbrev pub IsCutShort : Form → (List ℕ → Type 0) → List (List ℕ) → List ℕ → Type 0
IsCutShort form IsBegun lines file =
    IsCutOff form IsBegun lines file
    ⊎ (StandsFor (accepted_lines (start form) lines) file
    × IsBegun (finish (on_lines (start form) lines)).text)

-- What file A has when a run of these lines ends: all that were accepted, or, where the run was broken off,
-- those of the first lines, and then no more than the text of these was printed. A test says that a prefix
-- of a text is printed.
abbrev pub Holds : Form → (List ℕ → Type 0) → List (List ℕ) → List ℕ → ReplayEnd → Type 0
Holds form IsBegun lines file Done = StandsFor (accepted_lines (start form) lines) file
Holds form IsBegun lines file (Script line) = StandsFor (accepted_lines (start form) lines) file
Holds form IsBegun lines file NumbersSpent = StandsFor (accepted_lines (start form) lines) file
Holds form IsBegun lines file ReadFault = IsCutOff form IsBegun lines file
Holds form IsBegun lines file WriteFault = IsCutShort form IsBegun lines file
Holds form IsBegun lines file Memory = IsCutShort form IsBegun lines file

-- the same of a script's bytes
abbrev pub HoldsOf : Form → (List ℕ → Type 0) → List ℕ → List ℕ → ReplayEnd → Type 0
HoldsOf form IsBegun script file end = Holds form IsBegun (all_lines (lines_of script)) file end

-- no more than a prefix of a text was printed, but for what has gathered
abbrev pub GathersSome : Outgoing → Outgoing → List ℕ → List ℕ → Type 0
GathersSome old new said text =
    GathersPrefix old new said text ⊎ (FailsWriting text old new × (said ≡ []))

-- what file A holds of a run that ended so, but for writing what has gathered
pub record HasLogged (form : Form) (in0 : Incoming) (out0 out1 : Outgoing) (said : List ℕ)
    (old new : MemoryRig) (end : ReplayEnd) : Type 0 where
  pub holds : (flow : Flow) → in0.flow ≡ Some flow
      → HoldsOf form (GathersSome out0 out1 said) flow.left new.a.bytes end
  pub synced : IsOnDisk new ⊎ (end ≡ Memory)
  pub starved : (new.counts.starved ≡ old.counts.starved) ⊎ (end ≡ Memory)

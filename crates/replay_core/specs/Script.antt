-- What the run of a script did, against what the definitions say.
use Rattle.std.specs.Prelude.{ℕ, ◌≡◌, ◌⊎◌, List, [], ◌++◌, Option, Some}
use Rattle.rig.specs.Faults.{one_more}
use Rattle.rig.specs.Flow.{Flow, Incoming}
use Rattle.rig.specs.Written.{Outgoing, after_write, FailsWriting, WritesPrefix}
use Rattle.replay_core.specs.Pieces.{lines_of}
use Rattle.replay_core.specs.Reading.{IsRead}
use Rattle.replay_core.specs.Replay.{Goes, Outside, Spent, Finished, Progress, on_lines, start, transcript}
use Rattle.replay_core.specs.declared.end.ReplayEnd.{ReplayEnd}
use Rattle.replay_core.specs.declared.form.Form.{Form}
use Rattle.replay_core.specs.declared.end.ReplayEnd.TheVariants.{Done, Script, ReadFault, WriteFault, NumbersSpent, Memory}

-- ## Counts of faults, by how a run ends

abbrev pub read_faults : ReplayEnd → ℕ → ℕ
read_faults Done count = count
read_faults (Script line) count = count
read_faults ReadFault count = one_more count
read_faults WriteFault count = count
read_faults NumbersSpent count = count
read_faults Memory count = count

abbrev pub write_faults : ReplayEnd → ℕ → ℕ
write_faults Done count = count
write_faults (Script line) count = count
write_faults ReadFault count = count
write_faults WriteFault count = one_more count
write_faults NumbersSpent count = count
write_faults Memory count = count

-- A run that finds no memory may end so although its last write fails.
abbrev pub CountsWrites : ReplayEnd → ℕ → ℕ → Type 0
CountsWrites end old new = (new ≡ write_faults end old) ⊎ ((end ≡ Memory) × (new ≡ one_more old))

-- ## What was printed

-- a prefix of a text was written, and behind it a write failed or none did
abbrev pub PutsPrefix : Outgoing → Outgoing → List ℕ → Type 0
PutsPrefix old new text = WritesPrefix text old new ⊎ FailsWriting text old new

-- a text was printed, but for what has gathered and isn't written yet
abbrev pub Gathers : Outgoing → Outgoing → List ℕ → List ℕ → Type 0
Gathers old new said text = (front : List ℕ) × (new ≡ after_write front old) × (text ≡ front ++ said)

-- the same of a prefix of the text
abbrev pub GathersPrefix : Outgoing → Outgoing → List ℕ → List ℕ → Type 0
GathersPrefix old new said text =
    (before : List ℕ) × (more : List ℕ) × Gathers old new said before × (text ≡ before ++ more)

-- some of what had gathered was written, and this is left
abbrev pub Writes : Outgoing → Outgoing → List ℕ → List ℕ → Type 0
Writes old new said left = (part : List ℕ) × (new ≡ after_write part old) × (said ≡ part ++ left)

-- ## How a run ended

-- At a fault of the source each line that was ended before it is in the grammar, and all its lines are printed.
pub record IsBroken (form : Form) (IsPrinted : List ℕ → Type 0) (flow : Flow)
    (new_flow : Option Flow) : Type 0 where
  pub bytes : List ℕ
  pub read : IsRead flow bytes new_flow
  pub progress : Progress
  pub text : List ℕ
  pub ended : on_lines (start form) (lines_of bytes).ended ≡ Goes progress text
  pub printed : IsPrinted text

-- What was read of a script and printed, by how its run ended, where it is said of a text what it is that
-- the whole of it, a prefix of it, and a prefix at a fault of the sink is printed.
abbrev pub EndsAs : Form → (List ℕ → Type 0) → (List ℕ → Type 0) → (List ℕ → Type 0) → Flow → Option Flow
    → ReplayEnd → Type 0
EndsAs form IsPrinted IsBegun IsFailed flow new_flow Done =
    ((transcript form flow.left).ending ≡ Finished)
    × IsRead flow flow.left new_flow
    × IsPrinted (transcript form flow.left).text
EndsAs form IsPrinted IsBegun IsFailed flow new_flow (Script line) =
    ((transcript form flow.left).ending ≡ Outside line) × IsPrinted (transcript form flow.left).text
EndsAs form IsPrinted IsBegun IsFailed flow new_flow NumbersSpent =
    ((transcript form flow.left).ending ≡ Spent) × IsPrinted (transcript form flow.left).text
EndsAs form IsPrinted IsBegun IsFailed flow new_flow ReadFault = IsBroken form IsPrinted flow new_flow
EndsAs form IsPrinted IsBegun IsFailed flow new_flow WriteFault =
    IsFailed (transcript form flow.left).text
EndsAs form IsPrinted IsBegun IsFailed flow new_flow Memory = IsBegun (transcript form flow.left).text

-- where nothing gathers
abbrev pub Replays : Form → Outgoing → Outgoing → Flow → Option Flow → ReplayEnd → Type 0
Replays form old new flow new_flow end =
    EndsAs form (λ text. new ≡ after_write text old) (PutsPrefix old new)
    (λ text. FailsWriting text old new) flow new_flow end

-- where this has gathered
abbrev pub Gathered : Form → Outgoing → Outgoing → List ℕ → Flow → Option Flow → ReplayEnd → Type 0
Gathered form old new said flow new_flow end =
    EndsAs form (Gathers old new said) (GathersPrefix old new said)
    (λ text. FailsWriting text old new) flow new_flow end

-- nothing has gathered where a call of the source or the sink failed
abbrev pub IsSilentAt : ReplayEnd → List ℕ → Type 0
IsSilentAt Done said = Unit {0}
IsSilentAt (Script line) said = Unit {0}
IsSilentAt ReadFault said = said ≡ []
IsSilentAt WriteFault said = said ≡ []
IsSilentAt NumbersSpent said = Unit {0}
IsSilentAt Memory said = Unit {0}

-- a run that ended so, but for writing what has gathered
pub record HasRun (form : Form) (in0 in1 : Incoming) (out0 out1 : Outgoing) (said : List ℕ)
    (end : ReplayEnd) : Type 0 where
  pub replays : (flow : Flow) → in0.flow ≡ Some flow → Gathered form out0 out1 said flow in1.flow end
  pub reads : in1.faults ≡ read_faults end in0.faults
  pub writes : out1.faults ≡ write_faults end out0.faults
  pub silent : IsSilentAt end said

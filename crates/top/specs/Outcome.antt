-- What a run of a program has written when it ends.
use Rattle.std.specs.Prelude.{ℕ, ◌≡◌, ◌⊎◌, List, Option}
use Rattle.replay_core.specs.Generator.{Generates}
use Rattle.replay_core.specs.Script.{Replays}
use Rattle.replay_core.specs.declared.end.ReplayEnd.{ReplayEnd}
use Rattle.replay_core.specs.declared.end.ReplayEnd.TheVariants as end
use Rattle.replay_core.specs.declared.form.Form.{Form}
use Rattle.rig.specs.Faults.{one_more}
use Rattle.rig.specs.Flow.{Flow}
use Rattle.rig.specs.Written.{Outgoing, FailsWriting, after_write}
use Rattle.top.specs.LastLine.{last_line, usage_line}
use Rattle.top.specs.declared.status.Status.{Status}
use Rattle.top.specs.declared.status.Status.TheVariants.{Done, Usage, Memory, Script, ReadFault, WriteFault, NumbersSpent}

-- A text was written, or a prefix of it where the sink failed.
abbrev pub Says : List ℕ → Outgoing → Outgoing → Type 0
Says text old new = (new ≡ after_write text old) ⊎ FailsWriting text old new

-- the exit status of the process
abbrev pub number_of : Status → ℕ
number_of Done = 0
number_of Usage = 2
number_of Memory = 4
number_of (Script line) = 6
number_of ReadFault = 7
number_of WriteFault = 8
number_of NumbersSpent = 11

-- the status that a script's end is
abbrev pub status_of : ReplayEnd → Status
status_of end.Done = Done
status_of (end.Script line) = Script line
status_of end.ReadFault = ReadFault
status_of end.WriteFault = WriteFault
status_of end.NumbersSpent = NumbersSpent
status_of end.Memory = Memory

-- A script's lines were written, as far as it ran, and then the last line.
pub record IsReplay (form : Form) (flow : Flow) (new_flow : Option Flow) (old new : Outgoing)
    (answer : Status) : Type 0 where
  pub end : ReplayEnd
  pub status : answer ≡ status_of end
  pub mid : Outgoing
  pub lines : Replays form old mid flow new_flow end
  pub last : Says (last_line end) mid new

-- The line of generated inputs was written, as far as they ran, and then the last line.
pub record IsGenerated (count : ℕ) (old new : Outgoing) (answer : Status) : Type 0 where
  pub end : ReplayEnd
  pub status : answer ≡ status_of end
  pub mid : Outgoing
  pub line : Generates count old mid end
  pub last : Says (last_line end) mid new

-- The words aren't the program's, and the usage line was written, or memory ran out before that was seen.
abbrev pub IsRefused : Status → Outgoing → Outgoing → Type 0
IsRefused Usage old new = Says usage_line old new
IsRefused Memory old new = Says (last_line end.Memory) old new
IsRefused _ old new = ⊥

-- ## Counts of faults, by the status

-- A read that failed ends the run.
abbrev pub read_faults : Status → ℕ → ℕ
read_faults Done count = count
read_faults Usage count = count
read_faults Memory count = count
read_faults (Script line) count = count
read_faults ReadFault count = one_more count
read_faults WriteFault count = count
read_faults NumbersSpent count = count

-- one write failed, or none did
abbrev pub CountsOne : ℕ → ℕ → Type 0
CountsOne old new = (new ≡ old) ⊎ (new ≡ one_more old)

-- A write that failed ends the run, and the last line may fail behind it; with a last line of its own a
-- run keeps its status whether that fails or not.
abbrev pub CountsWrites : Status → ℕ → ℕ → Type 0
CountsWrites Done old new = new ≡ old
CountsWrites Usage old new = CountsOne old new
CountsWrites Memory old new = CountsOne old new ⊎ (new ≡ one_more (one_more old))
CountsWrites (Script line) old new = CountsOne old new
CountsWrites ReadFault old new = CountsOne old new
CountsWrites WriteFault old new = new ≡ one_more old
CountsWrites NumbersSpent old new = CountsOne old new

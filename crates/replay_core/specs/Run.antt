-- What the run of a line did, against what the definitions say.
use Rattle.std.specs.Prelude.{ℕ, ◌≡◌, List, [], ◌++◌, Result, Ok, Err}
use Rattle.replay_core.specs.Replay.{Ending, Outcome, Goes, Stops, Outside, Spent, Finished, Transcript}
use Rattle.replay_core.specs.declared.end.LineFault.{LineFault}
use Rattle.replay_core.specs.declared.end.LineFault.TheVariants as fault
use Rattle.replay_core.specs.declared.logged.Logged.{Logged}
use Rattle.replay_core.specs.declared.progress.Ran.{Ran}

-- ## One line

-- a line with this outcome was run
abbrev pub RunsAs : Outcome → Result Ran LineFault → Type 0
RunsAs outcome (Ok ran) = outcome ≡ Goes ran.progress ran.text
RunsAs outcome (Err (fault.Outside line)) = outcome ≡ Stops (Outside line) []
RunsAs outcome (Err fault.Spent) = outcome ≡ Stops Spent []
RunsAs outcome (Err fault.Memory) = Unit {0}

-- the same, with what was said before it and after it; where it broke off it said nothing
abbrev pub Says : Outcome → List ℕ → List ℕ → Result Logged LineFault → Type 0
Says outcome old new (Ok next) =
    (text : List ℕ) × (outcome ≡ Goes next.progress text) × (new ≡ old ++ text)
Says outcome old new (Err (fault.Outside line)) = (outcome ≡ Stops (Outside line) []) × (new ≡ old)
Says outcome old new (Err fault.Spent) = (outcome ≡ Stops Spent []) × (new ≡ old)
Says outcome old new (Err fault.Memory) = new ≡ old

-- ## The last line

abbrev pub transcript_of : List ℕ → Ending → Transcript
transcript_of text ending = record { text = text; ending = ending }

-- what was said are the first bytes of this text
abbrev pub SaysPrefix : List ℕ → List ℕ → List ℕ → Type 0
SaysPrefix text old new = (said : List ℕ) × (more : List ℕ) × (text ≡ said ++ more) × (new ≡ old ++ said)

-- a run with this outcome was ended by the end line, or broke off
abbrev pub Finishes : Transcript → List ℕ → List ℕ → Result (Unit {0}) LineFault → Type 0
Finishes whole old new (Ok done) = (whole.ending ≡ Finished) × (new ≡ old ++ whole.text)
Finishes whole old new (Err (fault.Outside line)) =
    (whole ≡ transcript_of [] (Outside line)) × (new ≡ old)
Finishes whole old new (Err fault.Spent) = (whole ≡ transcript_of [] Spent) × (new ≡ old)
Finishes whole old new (Err fault.Memory) = SaysPrefix whole.text old new

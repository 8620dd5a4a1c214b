-- Where the run of generated inputs stands.
use Rattle.std.specs.Prelude.{ℕ, ◌≡◌, List, ◌++◌, Option, Some, Result, Ok, Err, ⊤}
use Rattle.kinds.specs.declared.refusal.Refusal.{Refusal}
use Rattle.kinds.specs.declared.refusal.Refusal.TheVariants.{UnknownCall, UnknownRun}
use Rattle.sha1.specs.Sha1.{Holds}
use Rattle.replay_core.specs.Replay.{Outcome, Goes, Stops, Transcript, Finished, Spent}
use Rattle.replay_core.specs.declared.generated.InputFault.{InputFault}
use Rattle.replay_core.specs.declared.generated.InputFault.TheVariants as fault
use Rattle.replay_core.specs.declared.generated.Hashing.{Hashing}

-- an input that names what isn't there would be refused so
abbrev pub IsOfKnown : Option Refusal → Type 0
IsOfKnown (Some (UnknownCall call)) = ⊥
IsOfKnown (Some (UnknownRun run)) = ⊥
IsOfKnown _ = ⊤

-- inputs with this outcome were taken, and what they print was hashed behind what was before
abbrev pub Hashes : Outcome → Hashing → Result Hashing InputFault → Type 0
Hashes outcome old (Ok new) =
    (text : List ℕ) × (outcome ≡ Goes new.progress text)
    × ((before : List ℕ) → Holds old.hasher before → Holds new.hasher (before ++ text))
Hashes outcome old (Err fault.Spent) = (text : List ℕ) × (outcome ≡ Stops Spent text)
Hashes outcome old (Err fault.Memory) = ⊤

-- a line was made of a run that went through, or it broke off
abbrev pub SumsUp : Transcript → Result (List ℕ) InputFault → Type 0
SumsUp whole (Ok line) = (whole.ending ≡ Finished) × (whole.text ≡ line)
SumsUp whole (Err fault.Spent) = whole.ending ≡ Spent
SumsUp whole (Err fault.Memory) = ⊤

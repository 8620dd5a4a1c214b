-- What the generator's inputs print, and the line that tells of them.
use Rattle.std.specs.Prelude.{ℕ, zero, suc, ◌≡◌, ◌*◌, List, [], ◌++◌, Option, Some, None, codes, decimal}
use Rattle.generator.specs.Inputs.{drawn, event_input, registration, user_of}
use Rattle.generator.specs.Session.{next_reply}
use Rattle.hex.specs.Hex.{encode_lower}
use Rattle.kinds.specs.declared.input.Input.{Input}
use Rattle.rig.specs.Written.{Outgoing, FailsWriting, after_write}
use Rattle.run_model.specs.State.{State, live}
use Rattle.sha1.specs.Sha1.{sha1}
use Rattle.replay_core.specs.Replay.{Outcome, Goes, Stops, Progress, Transcript, Finished, Spent, and_then, on_input, start}
use Rattle.replay_core.specs.declared.end.ReplayEnd.{ReplayEnd}
use Rattle.replay_core.specs.declared.end.ReplayEnd.TheVariants.{Done, Script, ReadFault, WriteFault, NumbersSpent, Memory}
use Rattle.replay_core.specs.declared.form.Form.TheVariants.{Full}

-- ## The inputs in order

abbrev pub on_any : Progress → Option Input → Outcome
on_any progress None = Goes progress []
on_any progress (Some input) = on_input progress input

-- the reply to the first open call, where one is open, with the number of the last event
abbrev pub on_reply : ℕ → Progress → Outcome
on_reply i progress = on_any progress (next_reply (10 * i) i progress.state)

-- the i-th event, and a reply
abbrev pub on_event : ℕ → ℕ → Progress → Outcome
on_event n i progress = and_then (on_input progress (event_input (user_of (drawn n i)) i)) (on_reply i)

-- so many events of a generator that begins with n
unfoldable pub on_events : ℕ → ℕ → Progress → Outcome
on_events n zero progress = Goes progress []
on_events n (suc i) progress = and_then (on_events n i progress) (on_event n (suc i))

-- so many replies, as long as a call is open
unfoldable pub on_replies : ℕ → ℕ → Progress → Outcome
on_replies i zero progress = Goes progress []
on_replies i (suc count) progress = and_then (on_replies i count progress) (on_reply i)

-- so many events, and then the replies that are left: two end a run
abbrev pub on_rest : ℕ → Progress → Outcome
on_rest n progress = and_then (on_events n n progress) (on_replies n (2 * n))

abbrev pub on_all : ℕ → Progress → Outcome
on_all n progress = and_then (on_input progress registration) (on_rest n)

-- all inputs from a blank start, printed in full
abbrev pub on_generated : ℕ → Outcome
on_generated n = on_all n (start Full)

-- ## The line

abbrev pub counts_text : ℕ → State → List ℕ
counts_text n s =
    codes "gen " ++ decimal n
    ++ codes " inputs=" ++ decimal s.inputs
    ++ codes " calls=" ++ decimal s.calls
    ++ codes " runs=" ++ decimal s.runs
    ++ codes " live=" ++ decimal (live s)

abbrev pub generator_line : ℕ → State → List ℕ → List ℕ
generator_line n s text = counts_text n s ++ codes " sha1=" ++ encode_lower (sha1 text) ++ codes "\n"

-- in the place of what is printed, the line that tells of it
abbrev pub summed_up : ℕ → Outcome → Transcript
summed_up n (Goes progress text) =
    record { text = generator_line n progress.state text; ending = Finished }
summed_up n (Stops ending text) = record { text = []; ending = ending }

abbrev pub summary : ℕ → Transcript
summary n = summed_up n (on_generated n)

-- What was written, by how the run ended: the line at the end and nothing before. No input is outside a grammar, and
-- nothing is read.
abbrev pub Generates : ℕ → Outgoing → Outgoing → ReplayEnd → Type 0
Generates n old new Done = ((summary n).ending ≡ Finished) × (new ≡ after_write (summary n).text old)
Generates n old new WriteFault = ((summary n).ending ≡ Finished) × FailsWriting (summary n).text old new
Generates n old new NumbersSpent = ((summary n).ending ≡ Spent) × (new ≡ old)
Generates n old new Memory = new ≡ old
Generates n old new (Script line) = ⊥
Generates n old new ReadFault = ⊥

-- What goes at the end of a step, one number of what was touched after the other.
use Rattle.std.specs.Prelude.{ℕ, ◌≡◌, ◌<◌, ◌==◌, Bool, true, false, not, List, [], filter, length, IfSome}
use Rattle.functions.specs.declared.entry.FunctionEntry.{FunctionEntry}
use Rattle.lists.specs.Entries.{has, without}
use Rattle.event_texts.specs.Texts.{event_number, text_at}
use Rattle.runs.specs.Ended.{is_another, last_or}
use Rattle.runs.specs.Runs.{run_number}
use Rattle.run_model.specs.State.{State, has_open_call}
use Rattle.machine.specs.Held.{IsEventRight, IsHeld, is_event_named, is_version_in_use}
use Rattle.machine.specs.View.{state_of}
use Rattle.machine.specs.declared.loose.Loose.{Loose}
use Rattle.machine.specs.declared.parts.Parts.{Parts}

-- ## Words

abbrev pub forget_run : ℕ → State → State
forget_run run s = record s {
  closing = without run_number run s.closing;
  ended = last_or (is_another run) 1000 s.ended;
}

-- an ended run stays for its open call
abbrev pub forget_unless : Bool → ℕ → State → State
forget_unless true run s = s
forget_unless false run s = forget_run run s

abbrev pub look_at_run : ℕ → State → State
look_at_run run s = forget_unless (has_open_call s.issues run) run s

abbrev pub without_text : ℕ → State → State
without_text event s = record s { texts = filter (λ e. not (has event_number event e)) s.texts }

abbrev pub text_unless : Bool → ℕ → State → State
text_unless true event s = s
text_unless false event s = without_text event s

abbrev pub look_at_event : ℕ → State → State
look_at_event event s = text_unless (is_event_named s.live s.closing s.windows event) event s

abbrev pub without_version : ℕ → State → State
without_version version s =
    record s { retired = filter (λ (f : FunctionEntry). not (version == f.version)) s.retired }

abbrev pub version_unless : Bool → ℕ → State → State
version_unless true version s = s
version_unless false version s = without_version version s

abbrev pub look_at_version : ℕ → State → State
look_at_version version s =
    version_unless (is_version_in_use s.live s.closing s.windows version) version s

-- ## What is left to look at

abbrev pub touched_runs : Loose → List ℕ
touched_runs l = l.runs

abbrev pub touched_events : Loose → List ℕ
touched_events l = l.events

abbrev pub touched_versions : Loose → List ℕ
touched_versions l = l.versions

-- some of what goes is gone: the word gives what it gave
pub record IsTidied (word : State → State) (old new : Parts) : Type 0 where
  pub same : word (state_of new) ≡ word (state_of old)
  pub held : IsHeld new
  pub clock : new.admission.moment ≡ old.admission.moment

-- one of these numbers was looked at, or there was none
abbrev pub IsLooked : (Loose → List ℕ) → (State → State) → Bool → Parts → Parts → Type 0
IsLooked part word true old new =
    IsTidied word old new × (length (part new.loose) < length (part old.loose))
IsLooked part word false old new = (new ≡ old) × (part old.loose ≡ [])

-- where the event is there, it is named, and counted where it is used
abbrev pub IsEventSettled : ℕ → Parts → Type 0
IsEventSettled event m = IfSome (text_at event m.texts.texts)
    (λ _. IsEventRight m.runs.live m.runs.closing m.windows m.texts.counted event)

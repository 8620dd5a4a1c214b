-- What the journal of a script's run has to hold: the accepted lines.
use Rattle.std.specs.Prelude.{ℕ, List, [], ◌∷◌, ◌++◌, Bool, false, Option, Some, if◌then◌else◌}
use Rattle.std.specs.Option.{is_none}
use Rattle.run_model.specs.Machine.{refusal}
use Rattle.run_model.specs.State.{State}
use Rattle.replay_core.specs.Pieces.{text_of_line}
use Rattle.replay_core.specs.Replay.{Outcome, Goes, Stops, Progress, line_read, on_line, passes_limits}
use Rattle.replay_core.specs.declared.line.Line.{Line}
use Rattle.replay_core.specs.declared.line.Line.TheVariants as line
use Rattle.requests.specs.declared.requested.Requested.TheVariants as requested

-- an input is accepted where it isn't refused
abbrev pub is_accepted : State → Option Line → Bool
is_accepted state (Some (line.Asks (requested.Input input))) = is_none (refusal state input)
is_accepted state _ = false

-- an accepted line, without the byte that ends it
abbrev pub line_where : Bool → List ℕ → List (List ℕ)
line_where accepted line = if accepted then text_of_line line ∷ [] else []

-- what a line adds; one that passes a limit is outside the grammar
unfoldable pub accepted_line : Progress → List ℕ → List (List ℕ)
accepted_line progress line =
    if passes_limits progress.room line then []
    else line_where (is_accepted progress.state (line_read line)) line

-- a run that goes on adds this next, and one that has ended no more
abbrev pub added_next : Outcome → (Progress → List (List ℕ)) → List (List ℕ)
added_next (Goes progress text) next = next progress
added_next (Stops ending text) next = []

-- the accepted lines of a run, in order
unfoldable pub accepted_lines : Progress → List (List ℕ) → List (List ℕ)
accepted_lines progress [] = []
accepted_lines progress (line ∷ lines) =
    accepted_line progress line ++ added_next (on_line progress line) (λ next. accepted_lines next lines)

-- The texts of lines.
use Rattle.std.proofs.Common.{◌≡◌, ℕ, ◌<◌, ◌≤◌, List, [], ◌∷◌, ◌==◌, Option, Some, None, length, arith}
use Rattle.std.specs.List.{position}
use Rattle.std.proofs.lemmas.List.{length-take}
use Rattle.kinds.specs.declared.input.Input.{Input}
use Rattle.replay_core.specs.Line.{read_line}
use Rattle.replay_core.specs.Pieces.{line_feed, text_of_line, text_up_to}
use Rattle.replay_core.specs.declared.line.Line.TheVariants as line
use Rattle.requests.specs.declared.requested.Requested.TheVariants as requested

-- an input's line isn't empty
pub input-some : (text : List ℕ) (input : Input) → read_line text ≡ Some (line.Asks (requested.Input input)) → 0 < length text
unfolding read_line
input-some [] input is = cc
input-some (byte ∷ bytes) input is = omega arith

up-to-within : (text : List ℕ) (place : Option ℕ) → length (text_up_to text place) ≤ length text
up-to-within text None = omega arith
up-to-within text (Some place) = simp length-take (omega arith)

-- a line's text is no longer than the line
pub text_within : (text : List ℕ) → length (text_of_line text) ≤ length text
text_within text = up-to-within text (position (λ byte. byte == line_feed) text)

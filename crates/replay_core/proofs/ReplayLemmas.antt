-- What lines say, part after part.
use Rattle.std.proofs.Common.{◌≡◌, ℕ, zero, suc, ◌+◌, ◌≤◌, ◌==◌, true, List, [], ◌∷◌, ◌++◌, length, length-append, MatchBool, Bool, false, refl, ap, ◌∙◌, sym, append_assoc, append-nil, arith, get_or, Option, Some, None}
use Rattle.std.specs.List.{position}
use Rattle.std.proofs.lemmas.List.{length-take}
use Rattle.std.proofs.lemmas.List.Quantifiers.{position-Some}
use mathlib.Core.Path.{fun_ext}
use Rattle.replay_core.specs.Accepted.{accepted_line, accepted_lines}
use Rattle.replay_core.specs.Pieces.{IsEnded, IsUnended, all_lines, line_feed, lines_of, text_of_line, text_up_to}
use Rattle.replay_core.specs.Replay.{Ending, Finished, Outcome, Goes, Stops, Outside, Progress, Transcript, after_text, and_then, end_line, finish, line_limit, on_line, on_lines, passes_limits, text_of}
use Rattle.replay_core.specs.Run.{transcript_of}
use Rattle.replay_core.proofs.LineLemmas.{text_within}
use Rattle.replay_core.proofs.PiecesLemmas.{IsOpen, ended-lines, first-line, unended-open}

pub after-nil : (outcome : Outcome) → after_text [] outcome ≡ outcome
after-nil (Goes progress text) = refl
after-nil (Stops ending text) = refl

pub after-after : (a b : List ℕ) (outcome : Outcome) → after_text a (after_text b outcome) ≡ after_text (a ++ b) outcome
after-after a b (Goes progress text) = ap (Goes progress) (sym (append_assoc a b text))
after-after a b (Stops ending text) = ap (Stops ending) (sym (append_assoc a b text))

pub text-after : (a : List ℕ) (outcome : Outcome) → text_of (after_text a outcome) ≡ a ++ text_of outcome
text-after a (Goes progress text) = refl
text-after a (Stops ending text) = refl

and_then-after : (a : List ℕ) (outcome : Outcome) (next : Progress → Outcome) → and_then (after_text a outcome) next ≡ after_text a (and_then outcome next)
and_then-after a (Goes progress text) next = sym (after-after a text (next progress))
and_then-after a (Stops ending text) next = refl

and_then-and_then : (outcome : Outcome) (f g : Progress → Outcome) → and_then (and_then outcome f) g ≡ and_then outcome (λ s. and_then (f s) g)
and_then-and_then (Goes progress text) f g = and_then-after text (f progress) g
and_then-and_then (Stops ending text) f g = refl

pub on_lines-append : (progress : Progress) (xs ys : List (List ℕ)) → on_lines progress (xs ++ ys) ≡ and_then (on_lines progress xs) (λ s. on_lines s ys)
unfolding on_lines
on_lines-append progress [] ys = sym (after-nil (on_lines progress ys))
on_lines-append progress (x ∷ xs) ys =
    ap (and_then (on_line progress x)) (fun_ext (λ s. on_lines-append s xs ys)) ∙ sym (and_then-and_then (on_line progress x) (λ s. on_lines s xs) (λ s. on_lines s ys))

-- lines that went on, and then more
pub on_lines-goes : (progress next : Progress) (text : List ℕ) (xs ys : List (List ℕ)) → on_lines progress xs ≡ Goes next text → on_lines progress (xs ++ ys) ≡ after_text text (on_lines next ys)
on_lines-goes progress next text xs ys e = on_lines-append progress xs ys ∙ ap (λ outcome. and_then outcome (λ s. on_lines s ys)) e

-- one line
pub on_lines-one : (progress : Progress) (line : List ℕ) → on_lines progress (line ∷ []) ≡ on_line progress line
unfolding on_lines
on_lines-one progress line = and_then-alone (on_line progress line)
  where
    and_then-alone : (outcome : Outcome) → and_then outcome (λ s. Goes s []) ≡ outcome
    and_then-alone (Goes s text) = ap (Goes s) (append-nil text)
    and_then-alone (Stops ending text) = refl

-- ## Transcripts

-- this was printed before
abbrev pub later : List ℕ → Transcript → Transcript
later front whole = transcript_of (front ++ whole.text) whole.ending

pub finish-after : (front : List ℕ) (outcome : Outcome) → finish (after_text front outcome) ≡ later front (finish outcome)
finish-after front (Goes progress text) = ap (λ (t : List ℕ). transcript_of t Finished) (append_assoc front text (end_line progress.state))
finish-after front (Stops ending text) = refl

-- ## Lines at which a run stops

pub stops-line : (progress : Progress) (line : List ℕ) (lines : List (List ℕ)) (ending : Ending) → on_line progress line ≡ Stops ending [] → on_lines progress (line ∷ lines) ≡ Stops ending []
unfolding on_lines
stops-line progress line lines ending is = ap (λ (outcome : Outcome). and_then outcome (λ s. on_lines s lines)) is

pub adds-none : (progress : Progress) (line : List ℕ) (lines : List (List ℕ)) (ending : Ending) → on_line progress line ≡ Stops ending [] → accepted_line progress line ≡ [] → accepted_lines progress (line ∷ lines) ≡ []
unfolding accepted_lines
adds-none progress line lines ending is none = rw (is, none) refl

-- a line that passes a limit
over-line : (progress : Progress) (line : List ℕ) → passes_limits progress.room line ≡ true → (on_line progress line ≡ Stops (Outside (progress.lines + 1)) []) × (accepted_line progress line ≡ [])
unfolding on_line accepted_line
over-line progress line over = (rw over refl, rw over refl)

-- a run of these lines stops at the limit, and adds nothing
abbrev pub StopsOver : Progress → List (List ℕ) → Type 0
StopsOver progress lines = (on_lines progress lines ≡ Stops (Outside (progress.lines + 1)) []) × (accepted_lines progress lines ≡ [])

over-first : (progress : Progress) (line : List ℕ) (lines : List (List ℕ)) → passes_limits progress.room line ≡ true → StopsOver progress (line ∷ lines)
over-first progress line lines over =
    let stops = over-line progress line over in
    (stops-line progress line lines _ stops.0, adds-none progress line lines _ stops.0 stops.1)

-- the byte that ends a line stands behind one that is open
not-before : (i : ℕ) (line more : List ℕ) → IsOpen line → (get_or (line ++ more) i 0 == line_feed) ≡ true → length line ≤ i
not-before i [] more is ends = omega arith
not-before zero (byte ∷ bytes) more is ends = cc
not-before (suc i) (byte ∷ bytes) more is ends = let behind = not-before i bytes more is.1 ends in omega (arith, behind)

-- what follows an open line makes its text no shorter
open-text : (line more : List ℕ) → IsOpen line → length line ≤ length (text_of_line (line ++ more))
open-text line more is = by-place (position (λ byte. byte == line_feed) (line ++ more)) refl
  where
    by-place : (place : Option ℕ) → position (λ byte. byte == line_feed) (line ++ more) ≡ place → length line ≤ length (text_up_to (line ++ more) place)
    by-place None e = omega (arith, length-append line more)
    by-place (Some i) e =
        let found = position-Some (λ byte. byte == line_feed) (line ++ more) i 0 e in
        let behind = not-before i line more is found.1 in
        let within = found.0 in
        simp length-take (omega (arith, behind, within))

empty-within : (room : ℕ) → passes_limits room [] ≡ true → ⊥
empty-within room over = grind (arith, over)

either-passes : (room : ℕ) (line whole : List ℕ) → length line ≤ length whole → length line ≤ length (text_of_line whole) → length (text_of_line line) ≤ length line → passes_limits room line ≡ true → passes_limits room whole ≡ true
either-passes room line whole longer texts within over = grind (arith, longer, texts, within, over)

over-open : (progress : Progress) (line more : List ℕ) → IsOpen line → passes_limits progress.room line ≡ true → StopsOver progress (all_lines (lines_of (line ++ more)))
over-open progress [] more is over = absurd (empty-within progress.room over)
over-open progress (byte ∷ bytes) more is over =
    let first = first-line byte bytes more is in
    let longer : length (byte ∷ (bytes ++ first.0)) ≡ length (byte ∷ bytes) + length first.0 = length-append (byte ∷ bytes) first.0 in
    rw first.2 (over-first progress (byte ∷ (bytes ++ first.0)) first.1
    (either-passes progress.room (byte ∷ bytes) (byte ∷ (bytes ++ first.0)) (omega (arith, longer))
    (open-text (byte ∷ bytes) first.0 is) (text_within (byte ∷ bytes)) over))

-- whatever follows what was taken of the line
pub over-limit : (progress : Progress) (ended : Bool) (line more : List ℕ) (P Q : Type 0) → MatchBool ended (IsEnded line × P) (IsUnended line × Q) → passes_limits progress.room line ≡ true → StopsOver progress (all_lines (lines_of (line ++ more)))
over-limit progress true line more P Q is over = rw (ended-lines line more is.0) (over-first progress line (all_lines (lines_of more)) over)
over-limit progress false line more P Q is over = over-open progress line more (unended-open line is.0) over

-- ## Lines within the limits

pub within-room : (room : ℕ) (line : List ℕ) → passes_limits room line ≡ false → length line ≤ room
within-room room line within = grind (arith, within)

pub within-line : (room : ℕ) (line : List ℕ) → passes_limits room line ≡ false → length (text_of_line line) ≤ line_limit
within-line room line within = grind (arith, within)

-- a test of a line as it was taken
pub limits-at : (room taken : ℕ) (line text : List ℕ) (test value : Bool) → test ≡ passes_limits taken text → taken ≡ room → text ≡ line → test ≡ value → passes_limits room line ≡ value
limits-at room taken line text test value is r l e = rw (sym r, sym l) (sym is ∙ e)
